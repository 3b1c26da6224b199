pub mod Standings
pub mod Records
pub mod Steps
pub mod Bar
pub mod LateWake
