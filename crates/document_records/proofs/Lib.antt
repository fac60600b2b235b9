pub mod Laws
pub mod Reading
pub mod Deciding
pub mod Inheriting
