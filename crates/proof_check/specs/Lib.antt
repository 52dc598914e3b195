pub mod Leaves
pub mod Waiting
pub mod Nested
pub mod Judged
pub mod Verdict
