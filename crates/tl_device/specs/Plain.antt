-- What contracts see of the forms in memory.
use Rattle.std.specs.Prelude.{ℕ, List}
use Rattle.tl_device.specs.declared.call.Call.{Call}

-- the numbers of the calls that fail, how many calls were made, and how many of them failed
pub record Calls : Type 0 where
  pub failing : List ℕ
  pub made : ℕ
  pub faults : ℕ

-- the bytes left, the most that one read gives, and the calls
pub record MemorySource : Type 0 where
  pub left : List ℕ
  pub most : ℕ
  pub calls : Calls

-- the bytes written, and the room that is left
pub record SureSink : Type 0 where
  pub bytes : List ℕ
  pub spare : ℕ

-- the bytes written, the room that is left, and the calls
pub record MemorySink : Type 0 where
  pub bytes : List ℕ
  pub spare : ℕ
  pub calls : Calls

-- the bytes, the calls that may have changed what a crash leaves (the newest first), the bytes that
-- these took away, and the room that is left for bytes and for calls
pub record Kept : Type 0 where
  pub bytes : List ℕ
  pub done : List Call
  pub log : List ℕ
  pub spare : ℕ
  pub spare_calls : ℕ

-- what is kept, and the calls
pub record MemoryDisk : Type 0 where
  pub kept : Kept
  pub calls : Calls
