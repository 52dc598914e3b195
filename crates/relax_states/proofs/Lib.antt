pub mod Sets
pub mod Repeated
