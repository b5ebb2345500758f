-- What carries the name of an engine.
use Rattle.std.specs.Prelude.{◌≡◌, ℕ, Bool, true, List, Option, Result, Ok, Err}
use Rattle.atomic_table.specs.Seated.{TableId}
use Rattle.tl_types.specs.declared.commits.Entry.{Entry}
use Rattle.tl_types.specs.declared.limits.Limits.{Limits}
use Rattle.tl_journal.specs.declared.opening.Refused.{Refused}
use Rattle.tl_engine.specs.Counting.{Continues}
use Rattle.tl_engine.specs.Plain as plain
use Rattle.tl_history.specs.Plain as history
use Rattle.tl_history.specs.Standing.{DiskStandsForHistory}

-- the answer of an opening that becomes an engine, by its history alone
abbrev pub history_attached : {D : Type 0} → Result (plain.Opening D) (Refused D)
    → Result (history.History D) (Refused D)
history_attached (Ok opening) = Ok opening.history
history_attached (Err refused) = Err refused

-- these are the table, the entries, the count of faults and the limits of the opening
pub record IsNameOf {D : Type 0} (table : TableId) (entries : List Entry) (count : ℕ)
    (limits : Limits) (opening : plain.Opening D) : Type 0 where
  pub table_is : opening.table ≡ table
  pub entries_are : opening.history.entries ≡ entries
  pub count_is : opening.history.first_count ≡ count
  pub limits_are : opening.history.limits ≡ limits

-- what a committer keeps: its history is what is written, it goes on from the named entries by as
-- many commits and breaks as are counted, and count and limits are the named ones
pub record IsCommitting {D : Type 0} (first_entries : List Entry) (count : ℕ) (limits : Limits)
    (written : List Entry) (total : ℕ) (history : history.History D) : Type 0 where
  pub entries_are : history.entries ≡ written
  pub count_is : history.first_count ≡ count
  pub limits_are : history.limits ≡ limits
  pub continues : Continues first_entries written total

-- these entries were all that was written at one moment: a history that commits under this name had
-- just these, and its disk, where it told its contents at the opening, stood for it
pub record WereWritten {D : Type 0} (reads : D → Option (List ℕ)) (may_leave : D → List ℕ → Type 0)
    (told : Bool) (first_entries : List Entry) (count : ℕ) (limits : Limits) (entries : List Entry)
    : Type 0 where
  pub history : history.History D
  pub total : ℕ
  pub commits : IsCommitting first_entries count limits entries total history
  pub stands : told ≡ true → DiskStandsForHistory reads may_leave history
