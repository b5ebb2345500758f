pub mod Marks
pub mod Valid
pub mod Runs
pub mod Choices
