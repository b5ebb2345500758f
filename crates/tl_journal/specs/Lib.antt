pub mod Answers
pub mod Gates
pub mod Image
pub mod Moments
pub mod Opening
pub mod Plain
pub mod Records
pub mod Stands
