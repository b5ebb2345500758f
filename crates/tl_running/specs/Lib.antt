pub mod Heaps
pub mod Lasting
pub mod Standing
pub mod Telling
pub mod Touching
