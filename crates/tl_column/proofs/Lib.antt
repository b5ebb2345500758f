pub mod Ordered
pub mod RunFacts
pub mod Coding
pub mod Known
pub mod WordLemmas
