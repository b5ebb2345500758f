pub mod AnswerLemmas
pub mod WidthLemmas
pub mod PhaseLemmas
pub mod EndLemmas
pub mod Examples
