pub mod Ending
pub mod Listing
pub mod Reading
pub mod Rows
pub mod Taking
pub mod Writing
