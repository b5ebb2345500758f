-- The changes between two versions of a table.
use Rattle.std.proofs.Common.{◌≡◌, ℕ, ◌+◌, ◌<◌, ◌≤◌, List, [], ◌++◌, length, take, drop, All, refl, sym, ap, subst, ◌∙◌, arith}
use Rattle.std.specs.List.{flat_map}
use Rattle.std.proofs.lemmas.Grind.{flat_map-append}
use Rattle.std.proofs.lemmas.List.{drop_all, length-take-le}
use Rattle.std.proofs.lemmas.List.Elements.{All-take, All-drop}
use Rattle.tl_types.specs.Plain as plain
use Rattle.tl_types.specs.declared.events.Event.{Event}
use Rattle.tl_types.specs.Events.{events_of, place_of}
use Rattle.tl_types.specs.Walks.{events_between}
use Rattle.tl_types.proofs.EventLemmas.{place_grows, events_before, events_within}
use Rattle.tl_index.specs.declared.changes.Lapse.{Lapse}
use Rattle.tl_index.specs.Tables.{TableOf, rows_in}
use Rattle.tl_index.specs.Changes.{IsLapseOf}
use Rattle.tl_index.proofs.WalkLemmas.{run_more}

-- what the places of a lapse are among the events of its table
pub record IsWithin (rows : List plain.Row) (events : List Event) (lapse : Lapse) : Type 0 where
  pub ordered : lapse.from ≤ lapse.to
  pub within : lapse.to ≤ length events
  pub rows_are : All (λ (e : Event). e.row < length rows) events
  pub between : drop lapse.from (take lapse.to events) ≡ events_between rows lapse.old lapse.new

pub lapse_within : (table : TableOf) (events : List Event) (lapse : Lapse) → events ≡ events_of (rows_in table) table.db.version → IsLapseOf table lapse → IsWithin (rows_in table) events lapse
lapse_within table events lapse is l =
    let rows = rows_in table in
    let many = ap length is in
    record {
      ordered = omega (arith, l.from, l.to, place_grows rows lapse.old lapse.new l.ordered);
      within = omega (arith, many, l.to, place_grows rows lapse.new table.db.version l.within);
      rows_are = subst (All (λ (e : Event). e.row < length rows)) (sym is) (events_within rows table.db.version);
      between = parts lapse.from (place_of rows lapse.old) lapse.to (place_of rows lapse.new) events (events_of rows table.db.version) l.from l.to is ∙ ap (drop (place_of rows lapse.old)) (events_before rows lapse.new table.db.version l.within);
    } where
      parts : (m n p q : ℕ) (es fs : List Event) → m ≡ n → p ≡ q → es ≡ fs → drop m (take p es) ≡ drop n (take q fs)
      parts m n p q es fs e f g = rw (e, f, g) refl

-- nothing is taken at first
pub none_taken : {X Y : Type 0} (f : X → List Y) (xs : List X) (from : ℕ) (out : List Y) → from ≤ length xs → out ≡ [] → out ≡ flat_map f (drop from (take from xs))
none_taken f xs from out l is = is ∙ sym (ap (flat_map f) (drop_all from (take from xs) (omega (arith, length-take-le from xs l))))

-- the events of a run are of rows of the table
pub run_rows : (rows : List plain.Row) (events run : List Event) (at n : ℕ) → run ≡ take n (drop at events) → All (λ (e : Event). e.row < length rows) events → All (λ (e : Event). e.row < length rows) run
run_rows rows events run at n is all =
    subst (All (λ (e : Event). e.row < length rows)) (sym is) (All-take (λ (e : Event). e.row < length rows) n (drop at events) (All-drop (λ (e : Event). e.row < length rows) at events all))

-- the changes of a run more
pub changes_more : {X Y : Type 0} (f : X → List Y) (events run : List X) (from at n : ℕ) (out new : List Y) → from ≤ at → at ≤ length events → run ≡ take n (drop at events) → new ≡ out ++ flat_map f run → out ≡ flat_map f (drop from (take at events)) → new ≡ flat_map f (drop from (take (at + n) events))
changes_more f events run from at n out new o l is step before =
    step ∙ ap (λ ys. ys ++ flat_map f run) before ∙ sym (ap (flat_map f) (run_more events run from at n o l is) ∙ flat_map-append f (drop from (take at events)) run)

-- at the end all changes are taken
pub all_taken : {X Y : Type 0} (f : X → List Y) (xs between : List X) (from to at : ℕ) (out : List Y) → out ≡ flat_map f (drop from (take at xs)) → at ≡ to → drop from (take to xs) ≡ between → out ≡ flat_map f between
all_taken f xs between from to at out is end between_is = is ∙ ap (λ n. flat_map f (drop from (take n xs))) end ∙ ap (flat_map f) between_is
