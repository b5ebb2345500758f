pub mod VisibleLemmas
