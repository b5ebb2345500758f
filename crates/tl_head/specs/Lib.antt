pub mod Moves
pub mod Passes
pub mod Rule
pub mod Values
pub mod Views
