pub mod Chains
pub mod Pieces
pub mod Sides
pub mod Sweep
pub mod There
pub mod ValidEntries
pub mod ValidSides
