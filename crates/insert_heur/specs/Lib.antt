pub mod Places
pub mod Walk
pub mod Candidates
pub mod Insertion
pub mod Improvement
