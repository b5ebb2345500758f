pub mod Groups
pub mod Pieces
