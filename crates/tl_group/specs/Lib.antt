pub mod Bodies
pub mod Plain
pub mod Keeping
pub mod Standing
pub mod Attaching
