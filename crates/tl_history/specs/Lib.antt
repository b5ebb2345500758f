pub mod Answers
pub mod Building
pub mod Committing
pub mod Lists
pub mod Plain
pub mod Replaying
pub mod Standing
pub mod Writing
