-- The steps of a replay at a pace of marks.
use Rattle.std.proofs.Common.{◌≡◌, ℕ, ◌<◌, ◌≤◌, Bool, true, false, List, [], ◌∷◌, ◌++◌, length, Option, Some, IfSome, sym, ap, ◌∙◌, subst, arith}
use Rattle.tl_types.specs.declared.commits.Commit.{Commit}
use Rattle.tl_types.specs.declared.commits.Entry.{Entry}
use Rattle.tl_types.specs.Checkpoints.{Checkpoint, checkpoint_at}
use Rattle.tl_types.specs.Entries.{commits_of}
use Rattle.tl_types.specs.History.{fits}
use Rattle.tl_types.specs.Legality.{database_behind, has_mark}
use Rattle.tl_types.specs.Limits.{standard_limits}
use Rattle.tl_types.specs.Marks.{due, table_in}
use Rattle.tl_types.proofs.EntryLemmas.{version_behind}
use Rattle.tl_types.proofs.MarkLemmas.{due_fresh, table_there}
use Rattle.tl_index.specs.Snapshots.{commit_entry}
use Rattle.tl_history.proofs.BuildLemmas.{is_built}

-- what a mark asks of the entries whose version is the checkpoint's
pub record MayMarkNow (es : List Entry) (table : ℕ) (checkpoint : Checkpoint) : Type 0 where
  pub table_is : checkpoint.table ≡ table
  pub version_is : checkpoint.version ≡ length (commits_of es)
  pub there : checkpoint.table < length (database_behind es).tables
  pub reached : checkpoint.version ≤ (database_behind es).version
  pub fresh : has_mark es checkpoint.table checkpoint.version ≡ false
  pub value_is : checkpoint ≡ checkpoint_at (database_behind es) checkpoint.table checkpoint.version

pub may_mark_now : (es : List Entry) (table : ℕ) (checkpoint : Checkpoint) → table < length (database_behind es).tables → has_mark es table (length (commits_of es)) ≡ false → checkpoint ≡ checkpoint_at (database_behind es) table (length (commits_of es)) → MayMarkNow es table checkpoint
may_mark_now es table checkpoint there fresh built =
    let made = is_built es table checkpoint there built in
    record {
      table_is = made.table_is;
      version_is = made.version_is;
      there = made.is.there;
      reached = omega (arith, made.is.reached, version_behind es);
      fresh = ap (λ n. has_mark es n checkpoint.version) made.table_is ∙ ap (has_mark es table) made.version_is ∙ fresh;
      value_is = made.is.value_is;
    }

-- the table of a commit that fits, if it has one, is there behind it
pub step_there : (es next : List Entry) (c : Commit) (store : List Commit) (number : Option ℕ) (table : ℕ) → fits standard_limits (database_behind es) c ≡ true → store ≡ commits_of es → ((entries : List Entry) → commits_of entries ≡ store → number ≡ table_in entries c.body) → number ≡ Some table → next ≡ es ++ commit_entry c ∷ [] → table < length (database_behind next).tables
step_there es next c store number table fit is named has more =
    let e : table_in es c.body ≡ Some table = sym (named es (sym is)) ∙ has in
    let there = subst (λ o. IfSome o (λ t. t < length (database_behind (es ++ commit_entry c ∷ [])).tables)) e (table_there es c fit) in
    rw more there

pub step_fresh : (next : List Entry) (table k : ℕ) (is_due : Bool) → is_due ≡ due next table k → is_due ≡ true → has_mark next table (length (commits_of next)) ≡ false
step_fresh next table k is_due is yes_due = due_fresh next table k (sym is ∙ yes_due)
