pub mod Columns
pub mod Extremes
pub mod Kept
pub mod Groups
pub mod Scans
pub mod Runs
pub mod Seams
pub mod Tallies
