pub mod InHand
pub mod Phases
pub mod PlainLines
pub mod Reader
pub mod Script
pub mod Taking
