pub mod UsedTours
pub mod Rules
pub mod Narrowing
pub mod Weights
pub mod Solved
pub mod Trees
pub mod Resumed
