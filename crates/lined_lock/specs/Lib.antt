pub mod Lines
pub mod Lock
pub mod Totals
