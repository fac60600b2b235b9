pub mod Features
pub mod Discarding
pub mod Packing
pub mod Answers
pub mod Computing
pub mod Examples
