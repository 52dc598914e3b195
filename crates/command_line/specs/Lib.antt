pub mod Limits
pub mod Values
pub mod Arguments
pub mod Lines
pub mod Requests
pub mod Told
pub mod Refusals
