pub mod Closing
pub mod Coming
pub mod Jobs
pub mod Outside
pub mod Status
pub mod Stops
pub mod Writing
