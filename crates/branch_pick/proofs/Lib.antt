pub mod Shares
pub mod Candidates
