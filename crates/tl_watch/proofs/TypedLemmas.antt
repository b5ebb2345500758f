-- Rows have a number where a plan asks for one: those that a change opens, and those that it closes.
use Rattle.std.proofs.Common.{◌≡◌, ℕ, ◌+◌, Bool, true, false, cond, List, [], ◌∷◌, ◌++◌, map, Option, Some, None, refl, sym, subst}
use Rattle.std.specs.Bool.{beq}
use Rattle.std.specs.Prelude.{is_some}
use Rattle.std.specs.List.{enumerate_from, list_all}
use Rattle.tl_types.proofs.Lists.{and_left, and_right}
use Rattle.tl_types.specs.Plain as plain
use Rattle.tl_types.specs.History.{has_id, row_after, new_row, match_columns, matches}
use Rattle.tl_query.specs.declared.ast.AggKind.{AggKind}
use Rattle.tl_query.specs.declared.ast.AggKind.TheVariants as kind
use Rattle.tl_query.specs.Aggregates.{number_at}
use Rattle.tl_store.specs.Reading.{IsIntColumn}
use Rattle.tl_running.specs.Standing.{HaveNumbers, Suits}
use Rattle.tl_agg.proofs.TypedLemmas.{has_number, some_suit}

-- OPENED ROWS

opens_have : (w : ℕ) (schema : plain.Schema) (c : ℕ) (opens : List plain.Opened) → list_all (matches schema) opens ≡ true → IsIntColumn schema.columns c → HaveNumbers (Some c) (map (new_row w) opens)
opens_have w schema c [] h is = tt
opens_have w schema c (o ∷ opens) h is =
    let one = and_left (matches schema o) (list_all (matches schema) opens) h in
    (has_number schema.columns o.cells c (and_left (match_columns schema.columns o.cells) (beq schema.valid (is_some o.period)) one) is, opens_have w schema c opens (and_right (matches schema o) (list_all (matches schema) opens) h) is)

pub opens_suit : (w : ℕ) (schema : plain.Schema) (k : AggKind) (column : Option ℕ) (opens : List plain.Opened) → list_all (matches schema) opens ≡ true → ((c : ℕ) → column ≡ Some c → IsIntColumn schema.columns c) → (column ≡ None → k ≡ kind.Count) → Suits k column (map (new_row w) opens)
opens_suit w schema k None opens h is count = subst (λ j. Suits j None (map (new_row w) opens)) (sym (count refl)) tt
opens_suit w schema k (Some c) opens h is count = some_suit k c (map (new_row w) opens) (opens_have w schema c opens h (is c refl))

-- THE ROWS AFTER A CHANGE

have_after : (w n : ℕ) (column : Option ℕ) (closes : List ℕ) (rows opened : List plain.Row) → HaveNumbers column rows → HaveNumbers column opened → HaveNumbers column (map (row_after w closes) (enumerate_from n rows) ++ opened)
have_after w n column closes [] opened h o = o
have_after w n column closes (r ∷ rows) opened h o = (ended column (has_id closes n) h.0, have_after w (n + 1) column closes rows opened h.1 o) where
  ended : (column : Option ℕ) (b : Bool) → is_some (number_at column r) ≡ true → is_some (number_at column (cond b (record r { to = w }) r)) ≡ true
  ended None b e = e
  ended (Some c) true e = e
  ended (Some c) false e = e

pub suits_after : (w n : ℕ) (k : AggKind) (column : Option ℕ) (closes : List ℕ) (rows opened : List plain.Row) → Suits k column rows → Suits k column opened → Suits k column (map (row_after w closes) (enumerate_from n rows) ++ opened)
suits_after w n kind.Count column closes rows opened s o = tt
suits_after w n kind.Sum column closes rows opened s o = have_after w n column closes rows opened s o
suits_after w n kind.Avg column closes rows opened s o = have_after w n column closes rows opened s o
suits_after w n kind.Min column closes rows opened s o = have_after w n column closes rows opened s o
suits_after w n kind.Max column closes rows opened s o = have_after w n column closes rows opened s o
