pub mod Held
pub mod NextCall
pub mod Sums
pub mod SharedCall
