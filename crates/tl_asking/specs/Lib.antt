pub mod Answers
pub mod Asking
pub mod Names
pub mod Progress
