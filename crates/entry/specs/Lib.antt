pub mod Kinds
pub mod Legs
pub mod Stations
