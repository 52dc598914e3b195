pub mod Sigma
pub mod Shares
pub mod Candidate
pub mod Search
pub mod Corners
