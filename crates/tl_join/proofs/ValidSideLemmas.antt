-- The entries that a side finds, one event after the other, while keys get numbers.
use Rattle.std.proofs.Common.{◌≡◌, ℕ, ℤ, ◌+◌, ◌<◌, ◌≤◌, true, cond, int_lt, List, [], ◌∷◌, ◌++◌, take, Option, Some, None, option_map, refl, sym, ap, ◌∙◌, subst, slice_get, get_or, length}
use Rattle.std.proofs.lemmas.List.{take_all, take_more}
use Rattle.std.proofs.lemmas.List.Elements.{filter_map-append}
use Rattle.std.specs.Int.{int_min, int_max}
use Rattle.std.specs.List.{filter_map, AllByRecursion}
use Rattle.std.specs.Option.{option_to_list}
use Rattle.tl_types.specs.declared.cells.Cell.{Cell}
use Rattle.tl_types.specs.declared.events.ValidEvent.{ValidEvent}
use Rattle.tl_types.specs.Plain as plain
use Rattle.tl_query.specs.declared.typed_queries.JoinPlan.{JoinPlan}
use Rattle.tl_store.specs.Reading.{cell_of_row}
use Rattle.tl_join.specs.declared.entries.Entry.{Entry}
use Rattle.tl_keys.specs.Keys.{KeyNumbers, KeepsNumbers, number_at}
use Rattle.tl_join.specs.declared.valid_sides.Side.{Side}
use Rattle.tl_join.specs.ValidEntries.{or_none, code_by, entry_between, entry_over, IsOfRow}
use Rattle.tl_join.specs.ValidSides.{entry_by, IsKnownBy, IsEventEntry, AreEntries}

pub keeps_on : (old now new : KeyNumbers) → KeepsNumbers old now → KeepsNumbers now new → KeepsNumbers old new
keeps_on old now new a b key n h = b key n (a key n h)

-- ONE ROW

some_is : {X : Type 0} {x y : X} → Some x ≡ Some y → x ≡ y
some_is h = cc

number_kept : (keys later : KeyNumbers) (code : ℕ) (o : Option Cell) → KeepsNumbers keys later → number_at keys o ≡ Some code → number_at later o ≡ Some code
number_kept keys later code None keeps h = absurd (cc)
number_kept keys later code (Some key) keeps h = keeps key code h

pub row_some : (plan : JoinPlan) (column id code : ℕ) (keys : KeyNumbers) (row : Option plain.Row) (p : plain.Period) (x y : ℤ) → x ≡ int_max p.from plan.from → y ≡ int_min p.to plan.to → Some (Some p) ≡ option_map (λ (r : plain.Row). r.period) row → int_lt x y ≡ true → number_at keys (cell_of_row column row) ≡ Some code
    → IsOfRow plan column keys id row (Some (record { id = id; code = code; begin = x; end = y }))
row_some plan column id code keys None p x y begin end is h number = absurd (cc)
row_some plan column id code keys (Some row) p x y begin end is h number = λ later keeps. (it later (kept later keeps), λ g. kept later keeps ∙ ap Some (sym (ap or_none (kept later keeps)))) where
  kept : (later : KeyNumbers) → KeepsNumbers keys later → number_at later (slice_get row.cells column) ≡ Some code
  kept later keeps = number_kept keys later code (slice_get row.cells column) keeps number

  it : (later : KeyNumbers) → number_at later (slice_get row.cells column) ≡ Some code → Some (record { id = id; code = code; begin = x; end = y }) ≡ entry_over plan id (code_by later column row) row.period
  it later has =
      sym (ap (entry_over plan id (code_by later column row)) (sym (some_is is)) ∙ ap (λ z. entry_between id (code_by later column row) z (int_min p.to plan.to)) (sym begin) ∙ ap (entry_between id (code_by later column row) x) (sym end)
      ∙ ap (λ b. cond b (Some (record { id = id; code = code_by later column row; begin = x; end = y })) None) h
      ∙ ap (λ n. Some (record { id = id; code = n; begin = x; end = y })) (ap or_none has))

-- ONE EVENT MORE

all_push : {X : Type 0} (P : X → Type 0) (xs : List X) (x : X) → AllByRecursion P xs → P x → AllByRecursion P (xs ++ x ∷ [])
all_push P [] x h p = (p, tt)
all_push P (y ∷ xs) x h p = (h.0, all_push P xs x h.1 p)

one_given : {X Y : Type 0} (g : X → Option Y) (x : X) → filter_map g (x ∷ []) ≡ option_to_list (g x)
one_given g x = by_option (g x) refl where
  by_option : (o : Option _) → g x ≡ o → filter_map g (x ∷ []) ≡ option_to_list (g x)
  by_option None e = rw e refl
  by_option (Some y) e = rw e refl

pub none_yet : (side : Side) (plan : JoinPlan) (keys : KeyNumbers) (events : List ValidEvent) → AreEntries side plan keys (take 0 events) []
none_yet side plan keys events later keeps = (refl, tt)

pub entries_more : (side : Side) (plan : JoinPlan) (old new : KeyNumbers) (events : List ValidEvent) (i : ℕ) (d : ValidEvent) (es more : List Entry) (entry : Option Entry) → i < length events → AreEntries side plan old (take i events) es → IsEventEntry side plan new (get_or events i d) entry → KeepsNumbers old new → more ≡ es ++ option_to_list entry → AreEntries side plan new (take (i + 1) events) more
entries_more side plan old new events i d es more entry inside before one keeps is later keeps_later =
    let g : ValidEvent → Option Entry = entry_by side plan later in
    let a = before later (keeps_on old new later keeps keeps_later) in
    let b = one later keeps_later in
    let front = take i events in
    let x = get_or events i d in
    let taken : take (i + 1) events ≡ front ++ x ∷ [] = take_more events i d inside in (
      is ∙ ap (λ xs. xs ++ option_to_list entry) a.0 ∙ ap (λ o. filter_map g front ++ option_to_list o) b.0 ∙ sym (ap (filter_map g) taken ∙ filter_map-append g front (x ∷ []) ∙ ap (λ xs. filter_map g front ++ xs) (one_given g x)),
      subst (AllByRecursion (IsKnownBy side plan later)) (sym taken) (all_push (IsKnownBy side plan later) front x a.1 b.1),
    )

pub entries_all : (side : Side) (plan : JoinPlan) (keys : KeyNumbers) (events : List ValidEvent) (i : ℕ) (es : List Entry) → length events ≤ i → AreEntries side plan keys (take i events) es → AreEntries side plan keys events es
entries_all side plan keys events i es h all = subst (λ xs. AreEntries side plan keys xs es) (take_all i events h) all
