pub mod Limits
pub mod Makings
