pub mod Plain
pub mod Promises
pub mod Tending
pub mod Statements
pub mod Phases
pub mod Transcript
