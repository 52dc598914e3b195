pub mod Dominance
pub mod Reading
pub mod Branches
pub mod Stuck
pub mod Meaning
pub mod Replays
