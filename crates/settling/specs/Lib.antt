pub mod Writing
pub mod Promises
pub mod Steps
pub mod Computing
pub mod Examples
