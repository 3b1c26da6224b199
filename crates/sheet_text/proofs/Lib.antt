pub mod Runs
pub mod Cuts
pub mod Steps
pub mod Forms
