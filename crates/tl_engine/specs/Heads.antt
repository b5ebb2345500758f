-- What is written on the head of an engine, and what its passes have seen and build, as a world.
use Rattle.std.specs.Prelude.{◌≡◌, ℕ, false, true, IsTrue, List, [], ◌∷◌, length, map, replicate, All, Some, None, slice_get, option_map}
use Rattle.std.specs.declared.option.Option.{Option}
use mathlib.Core.List.{IsPrefix}
use mathlib.Core.Option.{some}
use lib.ListN.{get_elem?}
use Rattle.atomic_table.specs.Table.{State}
use Rattle.tl_head.specs.declared.views.View.{View}
use Rattle.tl_head.specs.Rule.{DoorState}
use Rattle.tl_types.specs.declared.commits.Entry.{Entry}
use Rattle.tl_types.specs.Legality.{are_legal, version_at}
use Rattle.tl_core.specs.declared.passes.Build.{Build}
use Rattle.tl_core.specs.declared.passes.PassState.{PassState}
use Rattle.tl_core.specs.declared.steps.Step.{Step}
use Rattle.tl_core.specs.World.{World, IsLegal, IsLegalBuild, allows, after_step}

-- the entries that a pass has seen, and the checkpoint that it builds, where it builds one
pub record SeenState : Type 0 where
  pub seen : List Entry
  pub build : Option Build

-- the entries that are written, and the passes by their numbers
pub record HeadState : Type 0 where
  pub written : List Entry
  pub passes : List SeenState

-- what the pass has seen begins what is written, and its build stands on what it has seen
pub record IsSeenOf (written : List Entry) (pass : SeenState) : Type 0 where
  pub begins : IsPrefix pass.seen written
  pub based : IsLegalBuild written (length pass.seen) pass.build

-- what is written is legal, and each pass has seen a beginning of it
pub record IsLegalState (state : HeadState) : Type 0 where
  pub legal : IsTrue (are_legal state.written)
  pub passes : All (IsSeenOf state.written) state.passes

-- these entries and so many passes, each of which has seen all entries and builds nothing
abbrev pub start_state : List Entry → ℕ → HeadState
start_state entries passes =
    record {
      written = entries;
      passes = replicate passes (record { seen = entries; build = None });
    }

-- the entries that the pass with this number has seen, where there is such a pass
abbrev pub seen_in : HeadState → ℕ → Option (List Entry)
seen_in state pass = option_map (λ (p : SeenState). p.seen) (slice_get state.passes pass)

-- the pass builds the checkpoint of the table on the first entries, so many
pub record HasBegun (state : HeadState) (pass table base : ℕ) : Type 0 where
  pub front : SeenState
  pub pass_is : slice_get state.passes pass ≡ Some front
  pub build_is : front.build ≡ Some (record { table = table; base = base })

-- the pass builds the checkpoint of the table at the version
pub record HasBuild (state : HeadState) (pass table version : ℕ) : Type 0 where
  pub base : ℕ
  pub begun : HasBegun state pass table base
  pub version_is : version_at state.written base ≡ version

-- a pass as the world has it: it has seen as many entries as its list has
abbrev pub pass_of : SeenState → PassState
pass_of pass = record { seen = length pass.seen; build = pass.build }

-- the world of a state
abbrev pub world_of : HeadState → World
world_of state = record { entries = state.written; passes = map pass_of state.passes }

-- these steps are allowed, one after the other, and lead from the one world to the other
abbrev pub LeadTo : World → List Step → World → Type 0
LeadTo world [] end = world ≡ end
LeadTo world (s ∷ steps) end = IsTrue (allows world s) × LeadTo (after_step world s) steps end

-- the state of a door's table: what is written, and what its seats have seen; it tells no builds
abbrev pub state_of : {V : Type 0} → DoorState → State (Option V) View → HeadState
state_of d s =
    record {
      written = d.written;
      passes = map (λ (v : View). record { seen = v.seen; build = None }) s.views;
    }

-- the table shows a legal world: the history word is the number of its entries, the value at home
-- stands for them, its passes are as far as the seats have seen, and the writer's seat has seen all
pub record ShowsWorld {V : Type 0} (entries : V → List Entry) (d : DoorState)
    (s : State (Option V) View) : Type 0 where
  pub state : IsLegalState (state_of d s)
  pub legal : IsLegal (world_of (state_of d s))
  pub word : slice_get s.words 2 ≡ Some (length (world_of (state_of d s)).entries)
  pub home : d.out ≡ false → (x : V) × (s.homes ≡ some (Some x) ∷ [])
      × (entries x ≡ (world_of (state_of d s)).entries)
  pub writer : (v : View) → get_elem? s.views 0 ≡ some v → v.writes ≡ true
      → v.seen ≡ (world_of (state_of d s)).entries
