pub mod Attributes
pub mod Sandboxes
pub mod Policies
pub mod Answers
pub mod Widening
pub mod Computing
pub mod Examples
