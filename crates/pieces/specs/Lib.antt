pub mod Pieces
pub mod Words
pub mod Answers
pub mod OneWordMore
pub mod Computing
