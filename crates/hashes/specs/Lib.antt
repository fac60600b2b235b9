pub mod Hashes
pub mod Computing
pub mod Examples
