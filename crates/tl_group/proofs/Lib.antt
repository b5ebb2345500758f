pub mod BodyLemmas
pub mod PaceLemmas
pub mod RoomLemmas
pub mod WaitLemmas
