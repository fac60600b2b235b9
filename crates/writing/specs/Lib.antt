pub mod Writing
pub mod Computing
pub mod Examples
