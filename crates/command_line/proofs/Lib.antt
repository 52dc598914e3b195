pub mod Rules
pub mod Numbers
pub mod PlainLines
pub mod Finds
pub mod Causes
