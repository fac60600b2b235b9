pub mod Items
pub mod Found
pub mod Computing
pub mod Examples
