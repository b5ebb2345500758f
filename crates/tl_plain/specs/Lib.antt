pub mod Choosing
pub mod Counted
pub mod Grouping
pub mod Keyed
pub mod Pairing
