pub mod Counted
pub mod LaneMasks
pub mod LaneSteps
pub mod MaskBits
pub mod PickedLemmas
pub mod SumLemmas
pub mod Zipped
