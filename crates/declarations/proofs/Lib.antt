pub mod Meanings
pub mod Laws
pub mod Written
pub mod Few
