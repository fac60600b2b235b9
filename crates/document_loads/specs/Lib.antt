pub mod Slots
pub mod Loads
