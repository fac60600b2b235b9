pub mod Cutting
pub mod Listing
pub mod Finding
pub mod Placing
pub mod Laws
pub mod Added
pub mod AddedExamples
