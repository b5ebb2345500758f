-- What a call that tends a table keeps, and what its answer says.
use Rattle.std.proofs.Common.{◌≡◌, ℕ, ◌+◌, ◌<◌, ◌≤◌, Bool, true, List, [], ◌∷◌, ◌++◌, length, Ok, Err, Result, sym, ap, ◌∙◌, subst, arith, length-append}
use Rattle.std.proofs.lemmas.Bool.{lt-ltb}
use mathlib.Core.List.{IsPrefix}
use Rattle.tl_types.specs.declared.commits.Entry.{Entry}
use Rattle.tl_types.specs.declared.limits.Limits.{Limits}
use Rattle.tl_types.specs.Checkpoints.{Checkpoint, checkpoint_at}
use Rattle.tl_types.specs.Entries.{commits_of}
use Rattle.tl_types.specs.Legality.{database_behind, has_mark, are_legal}
use Rattle.tl_types.specs.Marks.{due}
use Rattle.tl_types.proofs.CheckpointLemmas.{checkpoint_stands}
use Rattle.tl_types.proofs.EntryLemmas.{commits_of-append, database_behind-append, version_behind, tables_stay}
use Rattle.tl_index.specs.Snapshots.{mark_entry}
use Rattle.tl_history.specs.Building.{IsCheckpoint}
use Rattle.tl_history.specs.Lists.{version_after}
use Rattle.tl_history.specs.Plain as plain
use Rattle.tl_history.proofs.BuildLemmas.{IsBuilt, is_built}
use Rattle.tl_engine.specs.declared.faults.Tended.{Tended}
use Rattle.tl_engine.specs.declared.faults.Tended.TheVariants as tended
use Rattle.tl_engine.specs.declared.faults.TendFault.{TendFault}
use Rattle.tl_engine.specs.declared.faults.TendFault.TheVariants as fault
use Rattle.tl_engine.specs.Counting.{news}
use Rattle.tl_engine.specs.Naming.{IsCommitting}
use Rattle.tl_engine.specs.Tending.{AddsMark, MarkSays, HasRead, TendSays}
use Rattle.tl_engine.proofs.CountLemmas.{begins_on, news_split}

-- WHAT A COMMITTER KEEPS

pub committing_mark : {D : Type 0} (first_entries : List Entry) (count : ℕ) (limits : Limits) (written more : List Entry) (total next_total : ℕ) (old new : plain.History D) (t v : ℕ)
    → new.entries ≡ old.entries ++ mark_entry t v ∷ [] → more ≡ new.entries → next_total ≡ total → new.first_count ≡ old.first_count → new.limits ≡ old.limits
    → IsCommitting first_entries count limits written total old → IsCommitting first_entries count limits more next_total new
committing_mark first_entries count limits written more total next_total old new t v entries is same first settled kept =
    let all : more ≡ written ++ mark_entry t v ∷ [] = is ∙ entries ∙ ap (λ es. es ++ mark_entry t v ∷ []) kept.entries_are in
    record {
      entries_are = sym is;
      count_is = first ∙ kept.count_is;
      limits_are = settled ∙ kept.limits_are;
      continues = record {
        begins = begins_on first_entries written more kept.continues.begins (mark_entry t v ∷ [], sym all);
        counted = omega (arith, kept.continues.counted, ap news all, news_split written (mark_entry t v ∷ []), same);
      };
    }

-- A CHECKPOINT OF WHAT WAS SEEN

tables_more : (a b : List Entry) → IsPrefix a b → length (database_behind a).tables ≤ length (database_behind b).tables
tables_more a b p =
    let e : database_behind b ≡ database_behind (a ++ p.0) = ap database_behind (sym p.1) in
    rw (e, database_behind-append a p.0) (tables_stay (database_behind a) (commits_of p.0))

pub table_known : (a b : List Entry) (t : ℕ) → IsPrefix a b → t < length (database_behind a).tables → t < length (database_behind b).tables
table_known a b t p l = omega (arith, l, tables_more a b p)

pub versions_more : (a b : List Entry) → IsPrefix a b → version_after a ≤ version_after b
versions_more a b p =
    omega (arith, ap length (ap commits_of (sym p.1) ∙ commits_of-append a p.0), length-append (commits_of a) (commits_of p.0))

-- it stays the checkpoint over all that is written later
pub checkpoint_stays : (seen later : List Entry) (checkpoint : Checkpoint) → IsPrefix seen later → are_legal later ≡ true → IsCheckpoint seen checkpoint → IsCheckpoint later checkpoint
checkpoint_stays seen later checkpoint p legal made =
    let whole : are_legal (seen ++ p.0) ≡ true = subst (λ es. are_legal es ≡ true) (sym p.1) legal in
    let stands = checkpoint_stands seen p.0 checkpoint.table checkpoint.version whole (lt-ltb checkpoint.table (length (database_behind seen).tables) made.there) made.reached in
    record {
      there = table_known seen later checkpoint.table p made.there;
      reached = omega (arith, made.reached, versions_more seen later p);
      value_is = made.value_is ∙ sym stands ∙ ap (λ es. checkpoint_at (database_behind es) checkpoint.table checkpoint.version) p.1;
    }

-- what a mark asks of what is written
pub record MayMark (entries : List Entry) (checkpoint : Checkpoint) : Type 0 where
  pub there : checkpoint.table < length (database_behind entries).tables
  pub reached : checkpoint.version ≤ (database_behind entries).version
  pub value_is : checkpoint ≡ checkpoint_at (database_behind entries) checkpoint.table checkpoint.version

pub may_mark : (seen written entries : List Entry) (checkpoint : Checkpoint) → IsPrefix seen written → entries ≡ written → are_legal entries ≡ true → IsCheckpoint seen checkpoint → MayMark entries checkpoint
may_mark seen written entries checkpoint begins is legal made =
    let stays = checkpoint_stays seen entries checkpoint (subst (IsPrefix seen) (sym is) begins) legal made in
    record {
      there = stays.there;
      reached = omega (arith, stays.reached, version_behind entries);
      value_is = stays.value_is;
    }

-- WHAT THE ANSWER SAYS

pub tend_says : (table k : ℕ) (old list new : List Entry) (read version t : ℕ) (answer : Result Tended TendFault)
    → IsPrefix old list → due list table k ≡ true → read ≡ length list → version ≡ version_after list → t ≡ table
    → MarkSays t version read list new answer → TendSays table k old new answer
tend_says table k old list new read version t answer begins is read_is version_is t_is says =
    by_answer answer (subst (λ n. MarkSays n version read list new answer) t_is says) where
      has_read : (v r : ℕ) → v ≡ version → r ≡ read → IsPrefix list new → HasRead table k v r old new
      has_read v r a b later = record { list = list; begins = begins; later = later; read_is = b ∙ read_is; version_is = a ∙ version_is; due_is = is }

      published : AddsMark table version list new → IsPrefix list new
      published p = begins_on list p.base new p.begins (mark_entry table version ∷ [], sym p.entries_are)

      by_answer : (answer : Result Tended TendFault) → MarkSays table version read list new answer → TendSays table k old new answer
      by_answer (Ok tended.NotDue) s = absurd s
      by_answer (Ok (tended.Built v r)) s = (has_read v r s.0 s.1 (published s.2), subst (λ n. AddsMark table n list new) (sym s.0) s.2)
      by_answer (Ok (tended.Had v r)) s = (has_read v r s.0 s.1 s.2, s.3, subst (λ n. has_mark new table n ≡ true) (sym s.0) s.4)
      by_answer (Err (fault.Broken v r)) s = (has_read v r s.0 s.1 s.2, s.3)
      by_answer (Err fault.NoMemory) s = begins_on old list new begins s

-- THE TWO HALVES

-- the checkpoint that was built of what was read is that of what the pass had then seen
pub checkpoint_seen : (old seen snapshot : List Entry) (table : ℕ) (checkpoint : Checkpoint) → IsPrefix old seen → snapshot ≡ seen → table < length (database_behind old).tables
    → checkpoint ≡ checkpoint_at (database_behind snapshot) table (length (commits_of snapshot)) → IsBuilt seen table checkpoint
checkpoint_seen old seen snapshot table checkpoint begins is there built =
    is_built seen table checkpoint (table_known old seen table begins there)
    (built ∙ ap (λ es. checkpoint_at (database_behind es) table (version_after es)) is)

pub both_halves : (table k : ℕ) (old seen snapshot new : List Entry) (read : ℕ) (checkpoint : Checkpoint) (is_due : Bool) (answer : Result Tended TendFault)
    → IsPrefix old seen → snapshot ≡ seen → is_due ≡ due snapshot table k → is_due ≡ true → read ≡ length snapshot → table < length (database_behind old).tables
    → checkpoint ≡ checkpoint_at (database_behind snapshot) table (length (commits_of snapshot))
    → MarkSays checkpoint.table checkpoint.version read seen new answer → TendSays table k old new answer
both_halves table k old seen snapshot new read checkpoint is_due answer begins is asked yes_due len there built says =
    let made = checkpoint_seen old seen snapshot table checkpoint begins is there built in
    tend_says table k old seen new read checkpoint.version checkpoint.table answer begins
    (ap (λ es. due es table k) (sym is) ∙ sym asked ∙ yes_due) (len ∙ ap length is) made.version_is made.table_is says
