pub mod Differences
pub mod Accepted
pub mod Tables
