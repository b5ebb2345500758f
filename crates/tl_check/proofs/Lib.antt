pub mod CreateLemmas
pub mod FirstLemmas
pub mod RangeLemmas
pub mod Worked
pub mod TypedLemmas
