pub mod Declarations
pub mod Computing
pub mod Examples
