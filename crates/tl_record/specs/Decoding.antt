-- What bytes are to the records of commits.
use Rattle.std.specs.Prelude.{◌≡◌, ◌≢◌, ℕ, ◌+◌, List, [], ◌++◌, length, Result, Ok, Err}
use Rattle.tl_types.specs.declared.commits.Commit.{Commit}
use Rattle.tl_record.specs.declared.faults.Fault.{Fault}
use Rattle.tl_record.specs.declared.faults.Fault.TheVariants as reading
use Rattle.tl_record.specs.declared.faults.RecordFault.{RecordFault}
use Rattle.tl_record.specs.declared.faults.RecordFault.TheVariants as fault
use Rattle.tl_record.specs.declared.decoding.Decoded.{Decoded}
use Rattle.tl_record.specs.Spelling.{spelling, IsCommit}

-- the bytes begin with the record of a commit, and these follow it
abbrev pub BeginsWith : List ℕ → Commit → List ℕ → Type 0
BeginsWith bytes c rest = IsCommit c × (bytes ≡ spelling c ++ rest)

-- the bytes begin a record, and end before it does
abbrev pub IsCutRecord : List ℕ → Type 0
IsCutRecord bytes =
    (c : Commit) × (more : List ℕ) × IsCommit c × (more ≢ []) × (bytes ++ more ≡ spelling c)

-- no record begins with the bytes, and they begin with none
abbrev pub IsNoRecord : List ℕ → Type 0
IsNoRecord bytes =
    (c : Commit) (more rest : List ℕ) → IsCommit c → bytes ++ more ≢ spelling c ++ rest

-- the fault names this offset
abbrev pub IsAt : ℕ → RecordFault → Type 0
IsAt at (fault.Short place) = place ≡ at
IsAt at (fault.Bad place) = place ≡ at
IsAt at fault.NoMemory = Unit {0}

-- the answer is this commit, unless memory ran out
abbrev pub FindsUnlessMemory : Commit → Result Decoded RecordFault → Type 0
FindsUnlessMemory c (Ok d) = d.commit ≡ c
FindsUnlessMemory c (Err e) = e ≡ fault.NoMemory

-- the answer is this fault, unless memory ran out
abbrev pub FailsUnlessMemory : RecordFault → Result Decoded RecordFault → Type 0
FailsUnlessMemory f (Ok d) = ⊥
FailsUnlessMemory f (Err e) = e ≢ fault.NoMemory → e ≡ f

-- the answer is what a reader makes of the bytes from an offset on, up to their end
abbrev pub IsDecoded : ℕ → ℕ → Result Decoded RecordFault → Result (Commit × List ℕ) Fault → Type 0
IsDecoded at end (Ok d) read =
    (rest : List ℕ) × (read ≡ Ok (d.commit, rest)) × (d.end + length rest ≡ end)
IsDecoded at end (Err (fault.Short place)) read = (place ≡ at) × (read ≡ Err reading.Short)
IsDecoded at end (Err (fault.Bad place)) read = (place ≡ at) × (read ≡ Err reading.Bad)
IsDecoded at end (Err fault.NoMemory) read = Unit {0}
