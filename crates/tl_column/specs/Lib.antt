pub mod Dictionary
pub mod Masks
pub mod Runs
