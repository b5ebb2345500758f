pub mod LegalLemmas
pub mod LawLemmas
pub mod KeptLemmas
pub mod PrefixLemmas
mod Examples
