pub mod Lists
pub mod Tables
pub mod Limits
pub mod Values
pub mod Balance
pub mod Best
pub mod Spans
