-- The calls of an engine as steps of a world.
use Rattle.std.specs.Prelude.{◌≡◌, ◌⊎◌, ℕ, ◌+◌, true, false, IsTrue, List, [], ◌∷◌, ◌++◌, length, Some, None, Result, Ok, Err}
use Rattle.std.specs.List.{fold, flat_map}
use Rattle.std.specs.declared.option.Option.{Option}
use mathlib.Core.List.{IsPrefix}
use Rattle.tl_types.specs.declared.batches.Batch.{Batch}
use Rattle.tl_types.specs.declared.batches.BatchFault.{BatchFault}
use Rattle.tl_types.specs.declared.commits.Commit.{Commit}
use Rattle.tl_types.specs.declared.commits.Entry.{Entry}
use Rattle.tl_types.specs.declared.commits.Entry.TheVariants as variant
use Rattle.tl_types.specs.declared.limits.Limits.{Limits}
use Rattle.tl_types.specs.Entries.{has_break}
use Rattle.tl_types.specs.History.{at_place}
use Rattle.tl_types.specs.Legality.{are_legal, has_table}
use Rattle.tl_device.specs.Known.{Rose}
use Rattle.tl_index.specs.Snapshots.{commit_entry, break_entry, mark_entry}
use Rattle.tl_core.specs.declared.passes.Build.{Build}
use Rattle.tl_core.specs.declared.steps.Step.{Step}
use Rattle.tl_core.specs.declared.steps.Step.TheVariants as step
use Rattle.tl_core.specs.Law.{GoesOn}
use Rattle.tl_history.specs.declared.faults.CommitFault.{CommitFault}
use Rattle.tl_history.specs.declared.faults.CommitFault.TheVariants as fault
use Rattle.tl_history.specs.Lists.{version_after}
use Rattle.tl_engine.specs.Counting.{news}
use Rattle.tl_engine.specs.Heads.{HasBegun, HasBuild, HeadState, IsLegalState, LeadTo, SeenState, seen_in, world_of}
use Rattle.tl_engine.specs.Saying.{becomes}
use Rattle.tl_engine.specs.Tending.{MarkAnswersOver}
use Rattle.tl_engine.specs.declared.faults.Tended.{Tended}
use Rattle.tl_engine.specs.declared.faults.Tended.TheVariants as tended
use Rattle.tl_engine.specs.declared.faults.TendFault.{TendFault}
use Rattle.tl_engine.specs.declared.faults.TendFault.TheVariants as tend_fault

-- CALLS

-- a call: the number of its pass, what this had seen, all that was written when the call took
-- effect, the table whose checkpoint it began to build then, if it did, and the entry that it
-- published then, if it did. What tends a table that is due is two calls: it begins a build, and
-- then it publishes the mark or finds out why not
pub record Call : Type 0 where
  pub pass : ℕ
  pub old : List Entry
  pub base : List Entry
  pub begins : Option ℕ
  pub entry : Option Entry

-- the entry as a list
abbrev pub as_list : Option Entry → List Entry
as_list None = []
as_list (Some e) = e ∷ []

-- what the pass has seen after the call
abbrev pub seen_after : Call → List Entry
seen_after call = call.base ++ as_list call.entry

-- without a break in the base, the entry is made of what the batch becomes over it
pub record Publishes (meaning : List Entry → Result Commit BatchFault) (of_commit : Commit → Entry)
    (base : List Entry) (entry : Option Entry) : Type 0 where
  pub commit : Commit
  pub whole : has_break base ≡ false
  pub makes : meaning base ≡ Ok commit
  pub entry_is : entry ≡ Some (of_commit commit)

-- a commit that fails says what is so of the base, and publishes no entry but the break where the
-- disk failed
abbrev pub FailsOver : (List Entry → Result Commit BatchFault) → ℕ → List Entry → Option Entry
    → CommitFault → Type 0
FailsOver meaning first_count base entry (fault.Broken version) =
    (has_break base ≡ true) × (version ≡ version_after base) × (entry ≡ None)
FailsOver meaning first_count base entry (fault.Refused version refusal) =
    (has_break base ≡ false) × (version ≡ version_after base) × (entry ≡ None)
    × (meaning base ≡ Err refusal)
FailsOver meaning first_count base entry fault.NoMemory = entry ≡ None
FailsOver meaning first_count base entry (fault.Device version count) =
    Publishes meaning break_entry base entry × (version ≡ version_after base)
    × Rose first_count count

-- a commit is answered so over the base, and publishes the entry
abbrev pub AnswersOver : (List Entry → Result Commit BatchFault) → ℕ → List Entry → Option Entry
    → Result ℕ CommitFault → Type 0
AnswersOver meaning first_count base entry (Ok version) =
    Publishes meaning commit_entry base entry × (version ≡ version_after base + 1)
AnswersOver meaning first_count base entry (Err f) = FailsOver meaning first_count base entry f

-- a commit over all that is written when it has the lock: what its pass had seen begins that; it is
-- answered over that; what is written then, and seen, is that and the entry which it publishes
pub record TakesEffect (meaning : List Entry → Result Commit BatchFault) (first_count : ℕ)
    (written more old new : List Entry) (answer : Result ℕ CommitFault) : Type 0 where
  pub entry : Option Entry
  pub begins : IsPrefix old written
  pub more_is : more ≡ written ++ as_list entry
  pub new_is : new ≡ more
  pub answers : AnswersOver meaning first_count written entry answer

-- the same of the mark of a checkpoint, which was built of so many entries
pub record MarkTakesEffect (table version read : ℕ) (written more old new : List Entry)
    (answer : Result Tended TendFault) : Type 0 where
  pub entry : Option Entry
  pub begins : IsPrefix old written
  pub more_is : more ≡ written ++ as_list entry
  pub new_is : new ≡ more
  pub answers : MarkAnswersOver table version read written entry answer

-- a commit has a base, which what its pass had seen begins: it is answered over that; its pass has
-- seen then that and the entry which it publishes; and its share counts the entry
pub record HasBase (meaning : List Entry → Result Commit BatchFault) (first_count : ℕ)
    (old new : List Entry) (before after : ℕ) (answer : Result ℕ CommitFault) : Type 0 where
  pub base : List Entry
  pub entry : Option Entry
  pub begins : IsPrefix old base
  pub new_is : new ≡ base ++ as_list entry
  pub answers : AnswersOver meaning first_count base entry answer
  pub counted : after ≡ before + news (as_list entry)

-- the call only reads, as a pass that learns and one that is copied do too
pub record IsReadCall (call : Call) : Type 0 where
  pub begins_none : call.begins ≡ None
  pub entry_none : call.entry ≡ None

-- the call reads, and begins to build the checkpoint of a table that is there
pub record IsBeginCall (call : Call) : Type 0 where
  pub table : ℕ
  pub there : IsTrue (has_table call.base table)
  pub begins_is : call.begins ≡ Some table
  pub entry_none : call.entry ≡ None

-- the call is a commit of some author and batch, which is answered over its base
pub record IsCommitCall (limits : Limits) (first_count : ℕ) (call : Call) : Type 0 where
  pub author : ℕ
  pub batch : Batch
  pub answer : Result ℕ CommitFault
  pub answers : AnswersOver (becomes limits author batch) first_count call.base call.entry answer
  pub begins_none : call.begins ≡ None

-- the call publishes a mark
pub record IsMarkCall (call : Call) : Type 0 where
  pub table : ℕ
  pub version : ℕ
  pub begins_none : call.begins ≡ None
  pub entry_is : call.entry ≡ Some (mark_entry table version)

-- what every call promises: what its pass had seen begins its base; and it reads, begins a build,
-- is a commit, or publishes a mark
abbrev pub KeepsPromise : Limits → ℕ → Call → Type 0
KeepsPromise limits first_count call =
    IsPrefix call.old call.base
    × (IsReadCall call
    ⊎ (IsBeginCall call ⊎ (IsCommitCall limits first_count call ⊎ IsMarkCall call)))

-- a mark that the call publishes is that of the build of its pass
abbrev pub MarksItsBuild : HeadState → Call → Type 0
MarksItsBuild state call =
    (table version : ℕ) → call.entry ≡ Some (mark_entry table version)
    → HasBuild state call.pass table version

-- a call of the pass, which had seen the one list and then has seen the other, and published so
-- many commits and breaks
pub record IsCallOf (limits : Limits) (first_count pass : ℕ) (old new : List Entry) (count : ℕ)
    : Type 0 where
  pub call : Call
  pub pass_is : call.pass ≡ pass
  pub old_is : call.old ≡ old
  pub new_is : seen_after call ≡ new
  pub count_is : news (as_list call.entry) ≡ count
  pub promise : KeepsPromise limits first_count call

-- two calls of the pass, which had seen the one list and in the end has seen the other: the first
-- reads so many entries with so many commits, and begins to build the checkpoint of the table on
-- them; the second publishes the entry, if there is one. A mark is that of the build
pub record AreCallsOf (limits : Limits) (first_count pass table version read : ℕ)
    (old new : List Entry) (entry : Option Entry) : Type 0 where
  pub first : Call
  pub second : Call
  pub first_is : first.pass ≡ pass
  pub second_is : second.pass ≡ pass
  pub old_is : first.old ≡ old
  pub begins_is : first.begins ≡ Some table
  pub read_is : read ≡ length first.base
  pub version_is : version ≡ version_after first.base
  pub between : seen_after first ≡ second.old
  pub entry_is : second.entry ≡ entry
  pub new_is : seen_after second ≡ new
  pub first_promise : KeepsPromise limits first_count first
  pub second_promise : KeepsPromise limits first_count second
  pub marks : (state : HeadState) → IsPrefix first.base state.written
      → HasBegun state pass table read → MarksItsBuild state second

-- what tends a table is a call that reads, or two calls of which the second publishes the mark or
-- only reads
abbrev pub AreCallsOfTend : Limits → ℕ → ℕ → ℕ → List Entry → List Entry
    → Result Tended TendFault → Type 0
AreCallsOfTend limits first_count pass table old new (Ok tended.NotDue) =
    IsCallOf limits first_count pass old new 0
AreCallsOfTend limits first_count pass table old new (Ok (tended.Built version read)) =
    AreCallsOf limits first_count pass table version read old new
    (Some (mark_entry table version))
AreCallsOfTend limits first_count pass table old new (Ok (tended.Had version read)) =
    AreCallsOf limits first_count pass table version read old new None
AreCallsOfTend limits first_count pass table old new (Err (tend_fault.Broken version read)) =
    AreCallsOf limits first_count pass table version read old new None
AreCallsOfTend limits first_count pass table old new (Err tend_fault.NoMemory) =
    IsCallOf limits first_count pass old new 0

-- THEIR STEPS

-- an entry is published, and the pass sees it
abbrev pub publishing : ℕ → Option Entry → List Step
publishing pass None = []
publishing pass (Some (variant.Commit c)) = step.Publish c ∷ step.Read pass ∷ []
publishing pass (Some (variant.Mark table version)) = step.Mark pass ∷ step.Read pass ∷ []
publishing pass (Some (variant.Break c)) = step.Break c ∷ step.Read pass ∷ []

-- the pass sees what is written, and begins a build if there is a table for it
abbrev pub reading : ℕ → Option ℕ → Step
reading pass None = step.Read pass
reading pass (Some table) = step.Begin pass table

-- the pass sees what is written, and then the entry that it publishes
abbrev pub steps_of : Call → List Step
steps_of call = reading call.pass call.begins ∷ publishing call.pass call.entry

-- what a pass builds after a call over a base of so many entries: what the call begins; nothing
-- where it publishes a mark; and what it built before where it does neither
abbrev pub build_after : Option ℕ → Option Entry → ℕ → Option Build → Option Build
build_after (Some table) entry count build = Some (record { table = table; base = count })
build_after None None count build = build
build_after None (Some (variant.Commit c)) count build = build
build_after None (Some (variant.Mark table version)) count build = None
build_after None (Some (variant.Break c)) count build = build

-- the state that a call leaves, where this is written and its pass has seen that
abbrev pub left_by : HeadState → Call → List Entry → List Entry → HeadState
left_by state call written seen =
    record {
      written = written;
      passes = at_place call.pass
          (λ (p : SeenState). record {
            seen = seen;
            build = build_after call.begins call.entry (length call.base) p.build;
          })
          state.passes;
    }

-- the state after a call
abbrev pub after_call : HeadState → Call → HeadState
after_call state call = left_by state call (seen_after call) (seen_after call)

-- the call takes effect in this state: its pass had seen what it says, its base is all that is
-- written, it keeps its promise and marks its own build, and what its pass then has seen is legal
pub record IsCallIn (limits : Limits) (first_count : ℕ) (state : HeadState) (call : Call)
    : Type 0 where
  pub pass : seen_in state call.pass ≡ Some call.old
  pub base : call.base ≡ state.written
  pub promise : KeepsPromise limits first_count call
  pub marks : MarksItsBuild state call
  pub legal : IsTrue (are_legal (seen_after call))

-- the call is allowed steps from the world of the one state to the world of the other, which is
-- legal
pub record IsAllowed (state : HeadState) (call : Call) (end : HeadState) : Type 0 where
  pub legal : IsLegalState end
  pub leads : LeadTo (world_of state) (steps_of call) (world_of end)

-- RUNS

-- the call comes next: its pass had seen what it says, its base is as long as what is written, and
-- it marks its own build
pub record ComesNext (state : HeadState) (call : Call) : Type 0 where
  pub pass : seen_in state call.pass ≡ Some call.old
  pub count : length call.base ≡ length state.written
  pub marks : MarksItsBuild state call

-- these calls come one after the other, each keeps its promise, and all that their passes have seen
-- begins the last list
abbrev pub IsRun : Limits → ℕ → List Entry → HeadState → List Call → Type 0
IsRun limits first_count last state [] = Unit {0}
IsRun limits first_count last state (call ∷ calls) =
    ComesNext state call × KeepsPromise limits first_count call × IsPrefix (seen_after call) last
    × IsRun limits first_count last (after_call state call) calls

-- the state after these calls
abbrev pub after_calls : HeadState → List Call → HeadState
after_calls state calls = fold after_call state calls

-- their steps, one after the other
abbrev pub steps_of_calls : List Call → List Step
steps_of_calls calls = flat_map steps_of calls

-- how many commits and breaks these calls published
abbrev pub news_of_calls : List Call → ℕ
news_of_calls [] = 0
news_of_calls (call ∷ calls) = news (as_list call.entry) + news_of_calls calls

-- the calls are a run of the world: allowed steps from the world of the first state to the world of
-- the last, which is legal and goes on from the first; they published all commits and breaks that
-- came; and what is written then begins the last list
pub record IsRunOfWorld (last : List Entry) (old : HeadState) (calls : List Call) : Type 0 where
  pub legal : IsLegalState (after_calls old calls)
  pub begins : IsPrefix (after_calls old calls).written last
  pub leads : LeadTo (world_of old) (steps_of_calls calls) (world_of (after_calls old calls))
  pub goes_on : GoesOn (world_of old) (world_of (after_calls old calls))
  pub counted : news (after_calls old calls).written ≡ news old.written + news_of_calls calls
