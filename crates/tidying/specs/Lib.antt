pub mod Tidied
pub mod Writing
pub mod Answers
pub mod Steps
pub mod Computing
pub mod Examples
