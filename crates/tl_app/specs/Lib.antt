pub mod Opening
pub mod Scans
pub mod Parts
pub mod Groups
