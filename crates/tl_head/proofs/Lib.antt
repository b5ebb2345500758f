pub mod PrefixLemmas
pub mod StepLemmas
pub mod ViewLemmas
