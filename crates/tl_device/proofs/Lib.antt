pub mod Known
pub mod Undo
pub mod CrashImages
pub mod Filling
mod Examples
