pub mod ForkLemmas
pub mod DivideLemmas
pub mod CountLemmas
