-- The laws of settled headers, for the crates above, which open no definition of this crate. Assumes nothing.
pub use Rattle.settling.proofs.Documents.{settled_says}
pub use Rattle.settling.proofs.Lengths.{settled-most}
