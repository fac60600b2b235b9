pub mod Session
pub mod Answers
pub mod Computing
pub mod Examples
