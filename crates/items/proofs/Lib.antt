pub mod Ranges
pub mod Suffixes
pub mod Bytes
pub mod ReadBack
pub mod Laws
pub mod Absent
