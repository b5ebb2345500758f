-- Calls of two passes over an empty history: one creates a table, the other reads, and is refused the same name.
use Rattle.std.proofs.Common.{◌≡◌, ◌+◌, ◌++◌, ℕ, pos, subst, List, [], ◌∷◌, Some, None, Ok, Err, false, true, inl, inr, refl, arith}
use mathlib.Core.List.{IsPrefix}
use Rattle.tl_types.specs.Plain as plain
use Rattle.tl_types.specs.Limits.{standard_limits}
use Rattle.tl_types.specs.Legality.{are_legal}
use Rattle.tl_types.specs.declared.batches.Batch.TheVariants as batch
use Rattle.tl_types.specs.declared.batches.BatchFault.TheVariants as refusal
use Rattle.tl_types.specs.declared.cells.ColumnKind.TheVariants.{IntKind}
use Rattle.tl_types.specs.declared.commits.Commit.{Commit}
use Rattle.tl_types.specs.declared.commits.Body.TheVariants as body
use Rattle.tl_types.specs.declared.commits.Entry.{Entry}
use Rattle.tl_types.specs.declared.commits.Entry.TheVariants as entry
use Rattle.tl_core.specs.declared.steps.Step.TheVariants as step
use Rattle.tl_core.specs.World.{World}
use Rattle.tl_history.specs.declared.faults.CommitFault.TheVariants as fault
use Rattle.tl_engine.specs.Calls.{Call, IsRun, after_calls, steps_of_calls}
use Rattle.tl_engine.specs.Counting.{news}
use Rattle.tl_engine.specs.Heads.{HasBuild, HeadState, LeadTo, start_state, world_of}
use Rattle.tl_engine.specs.Saying.{CommitSays, becomes}

abbrev table : plain.Schema
table = record { name = 101 ∷ []; columns = record { name = 105 ∷ []; kind = IntKind } ∷ []; key = 0; valid = false }

abbrev create : Commit
create = record { author = 1; body = body.Create table }

abbrev all : List Entry
all = entry.Commit create ∷ []

abbrev start : HeadState
start = start_state [] 2

abbrev creates : Call
creates = record { pass = 1; old = []; base = []; begins = None; entry = Some (entry.Commit create) }

abbrev reads : Call
reads = record { pass = 0; old = []; base = all; begins = None; entry = None }

abbrev is_refused : Call
is_refused = record { pass = 0; old = all; base = all; begins = None; entry = None }

run : IsRun standard_limits 0 all start (creates ∷ reads ∷ is_refused ∷ [])
run = (
  record { pass = refl; count = refl; marks = λ t v e. absurd (cc) },
  (([], refl), inr (inr (inl (record { author = 1; batch = batch.Create table; answer = Ok 1; answers = (record { commit = create; whole = refl; makes = refl; entry_is = refl }, refl); begins_none = refl })))),
  ([], refl),
  (
    record { pass = refl; count = refl; marks = λ t v e. absurd (cc) },
    ((all, refl), inl (record { begins_none = refl; entry_none = refl })),
    ([], refl),
    (
      record { pass = refl; count = refl; marks = λ t v e. absurd (cc) },
      (([], refl), inr (inr (inl (record { author = 1; batch = batch.Create table; answer = Err (fault.Refused 1 refusal.TableExists); answers = (refl, refl, refl, refl); begins_none = refl })))),
      ([], refl),
      tt,
    ),
  ),
)

steps : steps_of_calls (creates ∷ reads ∷ is_refused ∷ []) ≡ step.Read 1 ∷ step.Publish create ∷ step.Read 1 ∷ step.Read 0 ∷ step.Read 0 ∷ []
steps = refl

ends : after_calls start (creates ∷ reads ∷ is_refused ∷ []) ≡ start_state all 2
ends = refl

-- the same commit twice is no steps of the world
not_twice : (w : World) → LeadTo (world_of start) (step.Publish create ∷ step.Publish create ∷ []) w → ⊥
not_twice w h = let n = h.1.0 in absurd (cc)

-- and two calls that both publish over the same list are no run
not_both : (last : List Entry) → IsRun standard_limits 0 last start (creates ∷ record { pass = 0; old = []; base = []; begins = None; entry = Some (entry.Commit create) } ∷ []) → ⊥
not_both last r = let n = r.3.0.count in absurd (omega (arith, n))

-- BESIDE COMMITS

-- a pass begins the build of the table, and publishes its mark
abbrev begins : Call
begins = record { pass = 0; old = []; base = all; begins = Some 0; entry = None }

abbrev marks : Call
marks = record { pass = 0; old = all; base = all; begins = None; entry = Some (entry.Mark 0 1) }

tends : IsRun standard_limits 0 (all ++ entry.Mark 0 1 ∷ []) start (creates ∷ begins ∷ marks ∷ [])
tends = (
  record { pass = refl; count = refl; marks = λ t v e. absurd (cc) },
  (([], refl), inr (inr (inl (record { author = 1; batch = batch.Create table; answer = Ok 1; answers = (record { commit = create; whole = refl; makes = refl; entry_is = refl }, refl); begins_none = refl })))),
  (entry.Mark 0 1 ∷ [], refl),
  (
    record { pass = refl; count = refl; marks = λ t v e. absurd (cc) },
    ((all, refl), inr (inl (record { table = 0; there = refl; begins_is = refl; entry_none = refl }))),
    (entry.Mark 0 1 ∷ [], refl),
    (
      record { pass = refl; count = refl; marks = λ t v e. its_build t v (cc) (cc) },
      (([], refl), inr (inr (inr (record { table = 0; version = 1; begins_none = refl; entry_is = refl })))),
      ([], refl),
      tt,
    ),
  ),
) where
  its_build : (t v : ℕ) → 0 ≡ t → 1 ≡ v → HasBuild (after_calls start (creates ∷ begins ∷ [])) 0 t v
  its_build t v e f = subst (λ (z : ℕ × ℕ). HasBuild (after_calls start (creates ∷ begins ∷ [])) 0 z.0 z.1) (λ i. (e i, f i))
      (record { base = 1; begun = record { front = record { seen = all; build = Some (record { table = 0; base = 1 }) }; pass_is = refl; build_is = refl }; version_is = refl })

steps_of_tends : steps_of_calls (creates ∷ begins ∷ marks ∷ []) ≡ step.Read 1 ∷ step.Publish create ∷ step.Read 1 ∷ step.Begin 0 0 ∷ step.Read 0 ∷ step.Mark 0 ∷ step.Read 0 ∷ []
steps_of_tends = refl

-- a mark whose pass builds nothing is no call of a run
no_build : (last : List Entry) → IsRun standard_limits 0 last start (creates ∷ reads ∷ marks ∷ []) → ⊥
no_build last r =
    let built = r.3.3.0.marks 0 1 refl in
    let at = built.begun.pass_is in
    let is = built.begun.build_is in
    absurd (cc)

-- THE PROMISES ALONE

-- what a commit promises does not name its base: two passes may both claim the first of two entries,
-- and the count of both is right; it is the lock that gives each its own base
claims : CommitSays (becomes standard_limits 1 (batch.Create table)) 0 [] all 0 1 (Ok 1)
claims = (record { base = []; commit = create; begins = ([], refl); whole = refl; makes = refl; entries_are = refl }, refl, refl)

abbrev change : Commit
change = record { author = 1; body = body.Change (record { table = 0; closes = []; opens = [] }) }

abbrev two : List Entry
two = entry.Commit create ∷ entry.Commit change ∷ []

two_are_legal : are_legal two ≡ true
two_are_legal = refl

two_are_counted : news two ≡ 1 + 1
two_are_counted = refl

two_begin : IsPrefix all two
two_begin = (entry.Commit change ∷ [], refl)

-- MOMENTS AND FLOORS

abbrev moment : Commit
moment = record { author = 2; body = body.Moment (pos 5) }

abbrev stated : List Entry
stated = all ++ entry.Commit moment ∷ []

-- a moment is a commit of its own, and the same one again is none
states : CommitSays (becomes standard_limits 2 (batch.Moment (pos 5))) 0 all stated 0 1 (Ok 2)
states = (record { base = all; commit = moment; begins = ([], refl); whole = refl; makes = refl; entries_are = refl }, refl, refl)

falls : CommitSays (becomes standard_limits 2 (batch.Moment (pos 5))) 0 all stated 0 0 (Err (fault.Refused 2 (refusal.MomentFalls (pos 5))))
falls = ((entry.Commit moment ∷ [], refl), refl, refl, refl, refl)

-- a floor of the table, at most the number of commits
abbrev floor : Commit
floor = record { author = 2; body = body.Forget 0 2 }

forgets : CommitSays (becomes standard_limits 2 (batch.Forget (101 ∷ []) (pos 2))) 0 all (stated ++ entry.Commit floor ∷ []) 0 1 (Ok 3)
forgets = (record { base = stated; commit = floor; begins = (entry.Commit moment ∷ [], refl); whole = refl; makes = refl; entries_are = refl }, refl, refl)

is_ahead : CommitSays (becomes standard_limits 2 (batch.Forget (101 ∷ []) (pos 3))) 0 all stated 0 0 (Err (fault.Refused 2 (refusal.FloorAhead 2)))
is_ahead = ((entry.Commit moment ∷ [], refl), refl, refl, refl, refl)

-- a table that is not there is no condition of the call, and a fault
is_unknown : CommitSays (becomes standard_limits 2 (batch.Forget (102 ∷ []) (pos 1))) 0 all stated 0 0 (Err (fault.Refused 2 refusal.UnknownTable))
is_unknown = ((entry.Commit moment ∷ [], refl), refl, refl, refl, refl)
