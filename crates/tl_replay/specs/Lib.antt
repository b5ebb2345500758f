pub mod Applying
pub mod Fitting
pub mod Opening
