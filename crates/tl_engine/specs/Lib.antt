pub mod Calls
pub mod Counting
pub mod Heads
pub mod Naming
pub mod Plain
pub mod Saying
pub mod Tending
