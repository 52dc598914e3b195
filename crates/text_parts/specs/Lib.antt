pub mod Stops
pub mod Reads
pub mod Reading
pub mod Texts
pub mod Gives
pub mod Place
pub mod Laws
