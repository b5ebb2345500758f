pub mod Bounds
pub mod Shown
pub mod Joining
pub mod JoinBounds
pub mod JoinsFor
pub mod Pieces
pub mod Moments
pub mod Kinds
