pub mod Keys
pub mod Placed
pub mod Small
pub mod Numbered
