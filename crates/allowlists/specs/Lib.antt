pub mod Allowlists
pub mod Widening
pub mod Answers
pub mod Computing
pub mod Rows
