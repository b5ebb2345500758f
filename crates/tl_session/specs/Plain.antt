-- What contracts see of a session, and of what the sessions of all phases share.
use Rattle.std.specs.Prelude.{ℕ, Bool, List}
use Rattle.atomic_table.specs.Seated.{TableId}
use Rattle.tl_types.specs.declared.commits.Entry.{Entry}
use Rattle.tl_jobs.specs.declared.replies.Reply.{Reply}

-- a session's access to an engine: the author of its batches, the table of the head that it reads,
-- the entries that it has seen, the number of parts of its share of the ledger, and how many
-- commits and breaks this share counts
pub record Access : Type 0 where
  pub author : ℕ
  pub table : TableId
  pub seen : List Entry
  pub parts : ℕ
  pub amount : ℕ

-- a session: its access, its replies in order, and whether memory ran out before its last job
pub record Session : Type 0 where
  pub access : Access
  pub replies : List Reply
  pub ran_out : Bool

-- what sessions share: the table of the head that they read, the entries that they have seen, the
-- number of parts of the share of the ledger, how many commits and breaks this share counts, and
-- the number of sessions
pub record SharedAccess : Type 0 where
  pub table : TableId
  pub seen : List Entry
  pub parts : ℕ
  pub amount : ℕ
  pub count : ℕ
