pub mod Selecting
pub mod Words
