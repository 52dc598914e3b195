pub mod Repeats
pub mod CriticalSet
pub mod Elementary
pub mod Growing
pub mod BestWalks
