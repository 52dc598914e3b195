pub mod NumberSet
pub mod NumberSetLaws
pub mod Words
pub mod ArcTable
