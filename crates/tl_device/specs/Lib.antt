pub mod Known
pub mod Plain
pub mod Calls
pub mod Disk
pub mod Kept
pub mod Replay
pub mod Crash
