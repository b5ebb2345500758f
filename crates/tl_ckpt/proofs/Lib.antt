pub mod Members
pub mod Merging
pub mod RunLemmas
pub mod PieceLemmas
pub mod Sorted
pub mod MarkLemmas
pub mod ChoiceLemmas
