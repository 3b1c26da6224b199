pub mod Counting
pub mod Places
pub mod Steps
