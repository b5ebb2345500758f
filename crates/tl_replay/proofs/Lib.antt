pub mod FitLemmas
pub mod ReadLemmas
pub mod OpenLemmas
