-- The checkpoint of a table that is built at the version of a history.
use Rattle.std.proofs.Common.{◌≡◌, ℕ, ◌<◌, List, length, slice_get, Some, None, Result, Ok, Err, IfOk, refl, sym, ap, ◌∙◌, subst, arith}
use Rattle.std.specs.declared.option.Option.{Option}
use Rattle.tl_types.specs.declared.commits.Entry.{Entry}
use Rattle.tl_types.specs.Checkpoints.{Checkpoint, checkpoint_of, checkpoint_at}
use Rattle.tl_types.specs.Entries.{commits_of}
use Rattle.tl_types.specs.Legality.{database_behind}
use Rattle.tl_types.specs.Plain as types
use Rattle.tl_types.proofs.EntryLemmas.{version_behind}
use Rattle.tl_history.specs.Building.{IsCheckpoint}
use Rattle.tl_history.specs.Lists.{version_after}

table_of : (table version : ℕ) (t : Option types.Table) → (checkpoint_of table version t).table ≡ table
table_of table version None = refl
table_of table version (Some t) = refl

version_of : (table version : ℕ) (t : Option types.Table) → (checkpoint_of table version t).version ≡ version
version_of table version None = refl
version_of table version (Some t) = refl

-- table and version of a checkpoint at the version of these entries
pub record IsBuilt (entries : List Entry) (table : ℕ) (checkpoint : Checkpoint) : Type 0 where
  pub table_is : checkpoint.table ≡ table
  pub version_is : checkpoint.version ≡ version_after entries
  pub is : IsCheckpoint entries checkpoint

pub is_built : (entries : List Entry) (table : ℕ) (checkpoint : Checkpoint) → table < length (database_behind entries).tables → checkpoint ≡ checkpoint_at (database_behind entries) table (length (commits_of entries)) → IsBuilt entries table checkpoint
is_built entries table checkpoint there built =
    let version = version_after entries in
    let t : checkpoint.table ≡ table = ap (λ (c : Checkpoint). c.table) built ∙ table_of table version (slice_get (database_behind entries).tables table) in
    let v : checkpoint.version ≡ version = ap (λ (c : Checkpoint). c.version) built ∙ version_of table version (slice_get (database_behind entries).tables table) in
    record {
      table_is = t;
      version_is = v;
      is = record {
        there = subst (λ n. n < length (database_behind entries).tables) (sym t) there;
        reached = omega (arith, v);
        value_is = built ∙ ap (λ n. checkpoint_at (database_behind entries) n version) (sym t) ∙ ap (λ n. checkpoint_at (database_behind entries) checkpoint.table n) (sym v);
      };
    }

-- the version of a database is the number of its commits
pub built_now : {E : Type 0} (entries : List Entry) (table : ℕ) (answer : Result Checkpoint E)
    → IfOk answer (λ c. c ≡ checkpoint_at (database_behind entries) table (database_behind entries).version) → IfOk answer (λ c. c ≡ checkpoint_at (database_behind entries) table (length (commits_of entries)))
built_now entries table (Ok c) is = is ∙ ap (checkpoint_at (database_behind entries) table) (version_behind entries)
built_now entries table (Err e) is = tt
