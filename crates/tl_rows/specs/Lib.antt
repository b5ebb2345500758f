pub mod Answers
pub mod Fields
pub mod Packed
pub mod Rows
