pub mod Choice
pub mod Candidates
