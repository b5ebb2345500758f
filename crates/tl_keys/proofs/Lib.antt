pub mod KeyLemmas
pub mod SmallLemmas
pub mod TextLemmas
pub mod NumberedLemmas
