pub mod Writes
pub mod Listing
pub mod Sizes
pub mod Documents
pub mod Members
pub mod Lengths
pub mod Laws
