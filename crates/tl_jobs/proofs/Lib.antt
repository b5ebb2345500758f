pub mod OnePlay
pub mod ReadingLemmas
pub mod ForgetLemmas
pub mod SyncedLemmas
