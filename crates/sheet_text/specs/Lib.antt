pub mod Parts
pub mod Forms
pub mod Cuts
pub mod Steps
