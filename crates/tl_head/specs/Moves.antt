-- What each kind of step tells the seat that makes it: a fact of the step, the seat before it, the
-- number that was found, and the seat after it.
use Rattle.std.specs.Prelude.{◌≡◌, ◌≢◌, ◌⊎◌, ℕ, true, List, [], ◌∷◌, length, Some, None}
use Rattle.std.specs.declared.option.Option.{Option}
use mathlib.Core.List.{IsPrefix}
use Rattle.atomic_table.specs.Table.{Me, Step}
use Rattle.tl_types.specs.declared.commits.Entry.{Entry}
use Rattle.tl_head.specs.declared.views.View.{View}
use Rattle.tl_head.specs.declared.views.Stage.{Stage}
use Rattle.tl_head.specs.declared.views.Stage.TheVariants.{Idle, Waits, Served}
use Rattle.tl_head.specs.Views.{with_stage, with_seen}

-- of the two lists that a seat knows one is a prefix of the other, and it has then seen the longer;
-- the writer's seat has seen the longer already
pub record LearnsLonger (v w : View) : Type 0 where
  pub same : w ≡ record { stage = v.stage; seen = w.seen; told = []; writes = v.writes }
  pub own : IsPrefix v.seen w.seen
  pub other : IsPrefix v.told w.seen
  pub longer : (w.seen ≡ v.seen) ⊎ (w.seen ≡ v.told)
  pub writer : v.writes ≡ true → w.seen ≡ v.seen

module _ {S : Type 0} where
  -- draw: the seat has the number as its ticket where it was found, and is else as before
  abbrev pub Draws : Step S → Me S View → ℕ → Me S View → Type 0
  Draws st me found after =
      (after.1 ≡ me.1)
      × (found ≡ st.first → after.0 ≡ with_stage (Waits st.first) me.0)
      × (found ≢ st.first → after.0 ≡ me.0)

  -- pass on: the seat has no ticket, and no slot
  abbrev pub PassesOn : Step S → Me S View → ℕ → Me S View → Type 0
  PassesOn st me found after = (after.0 ≡ with_stage Idle me.0) × (after.1 ≡ [])

  -- a seat at this stage sees the history
  abbrev pub SeesAt : Stage → Me S View → ℕ → Me S View → Type 0
  SeesAt Idle me found after = after.0 ≡ me.0
  SeesAt (Waits n) me found after = after.0 ≡ me.0
  SeesAt (Served n list) me found after =
      (found ≡ length list) × (after.0 ≡ with_seen list me.0) × IsPrefix me.0.seen list

  -- see: the seat that is served has seen the list for which its value stood; what it had seen is a
  -- prefix of that, and the number is its length
  abbrev pub Sees : Step S → Me S View → ℕ → Me S View → Type 0
  Sees st me found after = (after.1 ≡ me.1) × SeesAt me.0.stage me found after

  -- learn: a seat that took in another one compares the two lists
  abbrev pub Learns : Step S → Me S View → ℕ → Me S View → Type 0
  Learns st me found after = (after.1 ≡ me.1) × LearnsLonger me.0 after.0

module _ {V : Type 0} (entries : V → List Entry) where
  -- the seat took the value x with its ticket n: what it had seen is a prefix of what x stands for,
  -- and all of it where the seat is the writer's
  pub record Takes (n : ℕ) (me after : Me (Option V) View) (x : V) : Type 0 where
    pub view : after.0 ≡ with_stage (Served n (entries x)) me.0
    pub slots : after.1 ≡ (0, Some x) ∷ []
    pub later : IsPrefix me.0.seen (entries x)
    pub writer : me.0.writes ≡ true → entries x ≡ me.0.seen

  -- a seat at this stage looks
  abbrev pub LooksAt : Stage → Me (Option V) View → ℕ → Me (Option V) View → Type 0
  LooksAt Idle me found after = Unit {0}
  LooksAt (Waits n) me found after =
      (found ≡ n → (x : V) × Takes n me after x) × (found ≢ n → after ≡ me)
  LooksAt (Served n list) me found after = Unit {0}

  -- look: the seat takes the value where its own number is served, and is else as before
  abbrev pub Looks : Step (Option V) → Me (Option V) View → ℕ → Me (Option V) View → Type 0
  Looks st me found after = LooksAt me.0.stage me found after

  -- the entries of what a slot holds
  abbrev pub list_of : Option V → List Entry
  list_of (Some x) = entries x
  list_of None = []

  -- the entries of what the seat has in the slot
  abbrev pub list_in : List (ℕ × Option V) → List Entry
  list_in [] = []
  list_in (x ∷ xs) = list_of x.1

  -- the stage of a seat that publishes these entries
  abbrev pub stage_with : List Entry → Stage → Stage
  stage_with list Idle = Idle
  stage_with list (Waits n) = Waits n
  stage_with list (Served n old) = Served n list

  -- the view of a seat that publishes these entries
  abbrev pub publisher_view : List Entry → View → View
  publisher_view list v = with_seen list (with_stage (stage_with list v.stage) v)

  -- publish: the seat that is served has seen what the value in its slot stands for
  abbrev pub Publishes : Step (Option V) → Me (Option V) View → ℕ → Me (Option V) View → Type 0
  Publishes st me found after =
      (after.1 ≡ me.1)
      × (after.0 ≡ publisher_view (list_in me.1) me.0)

  -- the seat has the turn with this ticket, and this value is the one that it took
  pub record HasTurn (me : Me (Option V) View) (ticket : ℕ) (value : V) : Type 0 where
    pub stage : me.0.stage ≡ Served ticket (entries value)
    pub slots : me.1 ≡ (0, None) ∷ []
