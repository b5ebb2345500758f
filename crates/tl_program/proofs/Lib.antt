pub mod CommandLemmas
pub mod CutLemmas
pub mod HeadlineLemmas
pub mod TopLemmas
mod WordLemmas
