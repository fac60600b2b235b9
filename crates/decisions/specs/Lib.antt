pub mod Decisions
pub mod Masks
pub mod Policies
pub mod Widening
pub mod Answers
pub mod Computing
pub mod Examples
