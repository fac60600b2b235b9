pub mod Runs
pub mod Removals
pub mod Keeping
pub mod Existence
pub mod Claims
