pub mod CountLemmas
pub mod TendLemmas
pub mod AttachLemmas
pub mod MatchLemmas
pub mod SayLemmas
pub mod CallLemmas
mod CallExamples
