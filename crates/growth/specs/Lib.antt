pub mod Branches
pub mod Reading
pub mod Growth
