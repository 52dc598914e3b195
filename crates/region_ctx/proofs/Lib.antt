pub mod Ranges
pub mod LinkSets
pub mod Regions
pub mod Cycles
pub mod Lateness
pub mod Narrower
