pub mod Rising
pub mod Places
pub mod Kept
pub mod Valued
