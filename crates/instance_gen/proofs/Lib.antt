pub mod Draws
pub mod Numerals
pub mod Fields
pub mod Texts
pub mod Reading
pub mod Profiles
