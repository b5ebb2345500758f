pub mod WordLemmas
pub mod SelectLemmas
