pub mod BagLemmas
pub mod CountLemmas
pub mod SetLemmas
