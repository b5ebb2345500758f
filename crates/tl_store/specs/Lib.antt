pub mod Columns
pub mod Kept
pub mod Log
pub mod Reading
pub mod Ready
