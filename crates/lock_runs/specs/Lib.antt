pub mod Acts
pub mod Drive
pub mod Mix
pub mod Plain
pub mod Queue
pub mod Scripts
pub mod Ticket
pub mod Traces
