pub mod Putting
pub mod Written
pub mod Arriving
pub mod Framing
