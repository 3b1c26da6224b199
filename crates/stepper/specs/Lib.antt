pub mod Bare
pub mod Calls
pub mod Checks
pub mod Jobs
pub mod Lists
pub mod Refusals
pub mod State
pub mod Steps
