pub mod Texts
pub mod Promises
pub mod Computing
pub mod Examples
