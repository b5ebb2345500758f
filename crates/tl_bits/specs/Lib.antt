pub mod Bags
pub mod Sets
