pub mod Bytes
pub mod Literals
pub mod Texts
pub mod Reading
pub mod Decimals
pub mod Places
pub mod Computing
