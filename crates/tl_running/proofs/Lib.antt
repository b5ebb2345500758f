pub mod SumLemmas
pub mod OrderLemmas
pub mod HeapLemmas
pub mod PileLemmas
pub mod StandingLemmas
pub mod TellLemmas
pub mod TouchLemmas
pub mod LastingLemmas
