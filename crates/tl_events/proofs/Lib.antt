pub mod Examples
pub mod SearchLemmas
pub mod TickedLemmas
pub mod FollowLemmas
