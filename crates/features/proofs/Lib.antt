pub mod Rules
pub mod Laws
pub mod Discarding
pub mod Packing
pub mod Names
pub mod Numbers
