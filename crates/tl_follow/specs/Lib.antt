pub mod Packets
pub mod Following
pub mod Calls
pub mod Leading
pub mod Inputs
pub mod Places
pub mod Readers
pub mod Shipping
