-- A world: the entries of a history, and of each pass how many of them it has seen and which
-- checkpoint it builds. Its steps, and which of them are allowed.
use Rattle.std.specs.Prelude.{ℕ, ◌≤◌, Bool, false, ◌&&◌, not, nat_lt, IsTrue, List, [], ◌∷◌, ◌++◌, length, take, replicate, All, Option, Some, None, slice_get, option_and_then, if◌then◌else◌}
use Rattle.std.specs.List.{fold}
use Rattle.tl_types.specs.declared.commits.Entry.{Entry}
use Rattle.tl_types.specs.declared.commits.Entry.TheVariants as entry
use Rattle.tl_types.specs.Entries.{has_break}
use Rattle.tl_types.specs.History.{at_place}
use Rattle.tl_types.specs.Legality.{version_at, has_table, has_mark, takes_commit, are_legal}
use Rattle.tl_core.specs.declared.passes.Build.{Build}
use Rattle.tl_core.specs.declared.passes.PassState.{PassState}
use Rattle.tl_core.specs.declared.steps.Step.{Step}
use Rattle.tl_core.specs.declared.steps.Step.TheVariants as step

-- the entries of the history, and the passes by their numbers
pub record World : Type 0 where
  pub entries : List Entry
  pub passes : List PassState

-- LEGAL WORLDS

-- the build's base is not longer than what its pass has seen, and its table exists there
abbrev pub IsLegalBuild : List Entry → ℕ → Option Build → Type 0
IsLegalBuild entries seen None = Unit {0}
IsLegalBuild entries seen (Some build) =
    (build.base ≤ seen) × IsTrue (has_table (take build.base entries) build.table)

-- a pass has seen no more entries than there are, and its build stands on what it has seen
pub record IsLegalPass (entries : List Entry) (pass : PassState) : Type 0 where
  pub within : pass.seen ≤ length entries
  pub based : IsLegalBuild entries pass.seen pass.build

-- the entries are legal, and each pass is
pub record IsLegal (world : World) : Type 0 where
  pub history : IsTrue (are_legal world.entries)
  pub fronts : All (IsLegalPass world.entries) world.passes

-- THE START

-- a pass that has seen so many entries, and builds nothing
abbrev pub pass_at : ℕ → PassState
pass_at seen = record { seen = seen; build = None }

-- these entries and so many passes, each of which has seen all entries and builds nothing
abbrev pub start_of : List Entry → ℕ → World
start_of entries passes =
    record { entries = entries; passes = replicate passes (pass_at (length entries)) }

-- STEPS

-- the pass with this number exists
abbrev pub has_pass : World → ℕ → Bool
has_pass world pass = nat_lt pass (length world.passes)

-- what the pass with this number builds
abbrev pub build_of : World → ℕ → Option Build
build_of world pass = option_and_then (λ p. p.build) (slice_get world.passes pass)

-- the build may end in a mark: there is one, no break is among the entries, and no mark of its
-- table at the version of its base
abbrev pub may_mark : List Entry → Option Build → Bool
may_mark entries None = false
may_mark entries (Some build) =
    not (has_break entries)
    && not (has_mark entries build.table (version_at entries build.base))

-- the step is allowed in the world
abbrev pub allows : World → Step → Bool
allows world (step.Read pass) = has_pass world pass
allows world (step.Publish commit) = takes_commit world.entries commit
allows world (step.Begin pass table) = has_pass world pass && has_table world.entries table
allows world (step.Mark pass) = may_mark world.entries (build_of world pass)
allows world (step.Break commit) = takes_commit world.entries commit

-- the pass once it has seen so many entries
abbrev pub seen_to : ℕ → PassState → PassState
seen_to seen pass = record pass { seen = seen }

-- the pass once it has seen so many entries and begins the build of a table on them
abbrev pub begun_at : ℕ → ℕ → PassState → PassState
begun_at seen table pass =
    record { seen = seen; build = Some (record { table = table; base = seen }) }

-- the pass once its build has ended
abbrev pub ended : PassState → PassState
ended pass = record pass { build = None }

-- the world with one entry more
abbrev pub appended : World → Entry → World
appended world entry = record world { entries = world.entries ++ entry ∷ [] }

-- the world with the pass of this number changed
abbrev pub with_pass : World → ℕ → (PassState → PassState) → World
with_pass world pass change = record world { passes = at_place pass change world.passes }

-- the world after a build of a pass has ended in a mark
abbrev pub after_mark : World → ℕ → Option Build → World
after_mark world pass None = world
after_mark world pass (Some build) =
    with_pass
    (appended world (entry.Mark build.table (version_at world.entries build.base)))
    pass
    ended

-- the world after a step
abbrev pub after_step : World → Step → World
after_step world (step.Read pass) = with_pass world pass (seen_to (length world.entries))
after_step world (step.Publish commit) = appended world (entry.Commit commit)
after_step world (step.Begin pass table) =
    with_pass world pass (begun_at (length world.entries) table)
after_step world (step.Mark pass) = after_mark world pass (build_of world pass)
after_step world (step.Break commit) = appended world (entry.Break commit)

-- the world after a step, where it is allowed, and otherwise as it was
abbrev pub after_allowed : World → Step → World
after_allowed world step = if allows world step then after_step world step else world

-- the world after these steps, those that are not allowed passed over
abbrev pub after_steps : World → List Step → World
after_steps world steps = fold after_allowed world steps
