pub mod FoundTables
pub mod Lists
pub mod EntryLemmas
pub mod CheckpointLemmas
pub mod RunLemmas
pub mod SeamLemmas
pub mod BodyLemmas
pub mod WellFormedLemmas
pub mod TimeLemmas
pub mod EventLemmas
pub mod WalkLemmas
pub mod ValidEventOrder
pub mod MarkLemmas
pub mod TextLemmas
mod KeywordLemmas
mod KindLemmas
mod Examples
pub mod EventCounts
