pub mod Clash
pub mod Bytes
pub mod Texts
pub mod Reading
pub mod Looping
pub mod Suffixes
pub mod Decimals
mod Library
pub mod DecimalReading
pub mod Compares
