pub mod Dictionaries
pub mod Lookup
pub mod Members
pub mod Steps
pub mod OneItemMore
pub mod Written
pub mod Computing
pub mod Examples
