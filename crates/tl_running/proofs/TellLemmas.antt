-- What rows that come and go leave of the numbers, and what a value of an aggregate tells of its rows.
use Rattle.std.proofs.Common.{◌≡◌, ◌⊎◌, inl, inr, ℕ, zero, suc, ◌≤◌, ℤ, pos, Bool, true, false, not, List, [], ◌∷◌, ◌++◌, length, map, Option, None, refl, sym, ap, ◌∙◌, arith, subst}
use Rattle.std.specs.Prelude.{◌==◌}
use Rattle.std.specs.Ordering.{int_eq}
use Rattle.std.proofs.lemmas.Bool.{cases_Bool}
use Rattle.std.proofs.lemmas.Bool.Decides.{nat_tests, Decides-int_eq}
use Rattle.std.proofs.lemmas.Int.{ints}
use Rattle.tl_types.specs.declared.answers.Field.{Field}
use Rattle.tl_types.specs.Plain as plain
use Rattle.tl_query.specs.declared.ast.AggKind.{AggKind}
use Rattle.tl_query.specs.declared.ast.AggKind.TheVariants as kind
use Rattle.tl_query.specs.Aggregates.{numbers_of, sum_field, average_field, least_field, greatest_field, aggregate_of}
use Rattle.tl_running.specs.Standing.{Kept, number_in, HaveNumbers, Suits, StandsFor, Inserts, Changes, CanChange, IsShort}
use Rattle.tl_running.specs.Telling.{TellsNumber, has_rows}
use Rattle.tl_running.proofs.StandingLemmas.{has_room, row_enters, can_leave, row_leaves, numbers_same}

-- ROWS THAT HAVE A NUMBER

pub have_seam_in : (column : Option ℕ) (front back : List plain.Row) (r : plain.Row) → HaveNumbers column (r ∷ []) → HaveNumbers column (front ++ back) → HaveNumbers column (front ++ r ∷ back)
have_seam_in column [] back r h s = (h.0, s)
have_seam_in column (x ∷ front) back r h s = (s.0, have_seam_in column front back r h s.1)

pub have_seam_out : (column : Option ℕ) (front back : List plain.Row) (r : plain.Row) → HaveNumbers column (front ++ r ∷ back) → HaveNumbers column (front ++ back)
have_seam_out column [] back r s = s.1
have_seam_out column (x ∷ front) back r s = (s.0, have_seam_out column front back r s.1)

pub have_enter : (column : Option ℕ) (r : plain.Row) (fewer more : List plain.Row) → Inserts r fewer more → HaveNumbers column (r ∷ []) → HaveNumbers column fewer → HaveNumbers column more
have_enter column r fewer more ins h s = subst (HaveNumbers column) (sym ins.with) (have_seam_in column ins.front ins.back r h (subst (HaveNumbers column) ins.without s))

pub have_leave : (column : Option ℕ) (r : plain.Row) (fewer more : List plain.Row) → Inserts r fewer more → HaveNumbers column more → HaveNumbers column fewer
have_leave column r fewer more ins s = subst (HaveNumbers column) (sym ins.without) (have_seam_out column ins.front ins.back r (subst (HaveNumbers column) ins.with s))

pub suits_enter : (k : AggKind) (column : Option ℕ) (r : plain.Row) (fewer more : List plain.Row) → Inserts r fewer more → Suits k column (r ∷ []) → Suits k column fewer → Suits k column more
suits_enter kind.Count column r fewer more ins h s = tt
suits_enter kind.Sum column r fewer more ins h s = have_enter column r fewer more ins h s
suits_enter kind.Avg column r fewer more ins h s = have_enter column r fewer more ins h s
suits_enter kind.Min column r fewer more ins h s = have_enter column r fewer more ins h s
suits_enter kind.Max column r fewer more ins h s = have_enter column r fewer more ins h s

pub suits_leave : (k : AggKind) (column : Option ℕ) (r : plain.Row) (fewer more : List plain.Row) → Inserts r fewer more → Suits k column more → Suits k column fewer
suits_leave kind.Count column r fewer more ins s = tt
suits_leave kind.Sum column r fewer more ins s = have_leave column r fewer more ins s
suits_leave kind.Avg column r fewer more ins s = have_leave column r fewer more ins s
suits_leave kind.Min column r fewer more ins s = have_leave column r fewer more ins s
suits_leave kind.Max column r fewer more ins s = have_leave column r fewer more ins s

pub suits_none : (k : AggKind) (column : Option ℕ) → Suits k column []
suits_none kind.Count column = tt
suits_none kind.Sum column = tt
suits_none kind.Avg column = tt
suits_none kind.Min column = tt
suits_none kind.Max column = tt

-- where no column is asked for, as of a count, each number is 0
pub none_tells : (k : AggKind) (rows : List plain.Row) (id : ℕ) → k ≡ kind.Count → TellsNumber k None rows id (pos 0)
none_tells k rows id is = λ r here. (refl, subst (λ j. Suits j None (r ∷ [])) (sym is) tt)

-- VALUES OVER NO ROW

pub some_count : (n : ℕ) → true ≡ not (suc n == 0)
some_count n = grind (arith, nat_tests)

pub zero_or : (n : ℕ) → int_eq (pos n) (pos 0) ≡ false → not (int_eq (pos n) (pos 0)) ≡ not (n == 0)
zero_or zero e = refl
zero_or (suc m) e = ap not e ∙ some_count m

pub zero_told : (n : ℕ) → not (int_eq (pos n) (pos 0)) ≡ not (n == 0)
zero_told n = by_test (cases_Bool (int_eq (pos n) (pos 0))) where
  by_test : (int_eq (pos n) (pos 0) ≡ true) ⊎ (int_eq (pos n) (pos 0) ≡ false) → not (int_eq (pos n) (pos 0)) ≡ not (n == 0)
  by_test (inl e) = let h = (Decides-int_eq (pos n) (pos 0)).0 e in let z : n ≡ 0 = omega (arith, ints) in rw z refl
  by_test (inr e) = zero_or n e

pub empty_told : (f : List ℤ → Field) (k : AggKind) (column : Option ℕ) (rows : List plain.Row) → has_rows k (f []) ≡ false → ((n : ℤ) (ns : List ℤ) → has_rows k (f (n ∷ ns)) ≡ true) → HaveNumbers column rows → has_rows k (f (numbers_of column rows)) ≡ not (length rows == 0)
empty_told f k column [] none some have = none
empty_told f k column (r ∷ rows) none some have = ap (λ ns. has_rows k (f ns)) (numbers_same column (r ∷ rows) have) ∙ some (number_in column r) (map (number_in column) rows) ∙ some_count (length rows)

-- an aggregate's value tells whether there is a row
pub has_told : (k : AggKind) (column : Option ℕ) (rows : List plain.Row) → Suits k column rows → has_rows k (aggregate_of k column rows) ≡ not (length rows == 0)
has_told kind.Count column rows suits = zero_told (length rows)
has_told kind.Sum column rows suits = empty_told sum_field kind.Sum column rows refl (λ n ns. refl) suits
has_told kind.Avg column rows suits = empty_told average_field kind.Avg column rows refl (λ n ns. refl) suits
has_told kind.Min column rows suits = empty_told least_field kind.Min column rows refl (λ n ns. refl) suits
has_told kind.Max column rows suits = empty_told greatest_field kind.Max column rows refl (λ n ns. refl) suits

-- ONE ROW COMES OR GOES

pub changes_kind : (opens : Bool) (old new : Kept) (n : ℤ) → Changes opens old new n → new.kind ≡ old.kind
changes_kind true old new n changes = changes.kind
changes_kind false old new n changes = sym changes.kind

-- a row comes among the rows, or goes
pub record Turn (opens : Bool) (r : plain.Row) (was now : List plain.Row) : Type 0 where
  pub comes : opens ≡ true → Inserts r was now
  pub goes : opens ≡ false → Inserts r now was

pub stands_then : (opens : Bool) (old new : Kept) (column : Option ℕ) (r : plain.Row) (was now : List plain.Row) → IsShort (number_in column r) → StandsFor old column was → Turn opens r was now → Changes opens old new (number_in column r) → StandsFor new column now
stands_then true old new column r was now short stands turn changes = row_enters old new column r was now short stands (turn.comes refl) changes
stands_then false old new column r was now short stands turn changes = row_leaves old new column r now was stands (turn.goes refl) changes

pub suits_then : (opens : Bool) (k : AggKind) (column : Option ℕ) (r : plain.Row) (was now : List plain.Row) → Suits k column (r ∷ []) → Suits k column was → Turn opens r was now → Suits k column now
suits_then true k column r was now one suits turn = suits_enter k column r was now (turn.comes refl) one suits
suits_then false k column r was now one suits turn = suits_leave k column r now was (turn.goes refl) suits

pub can_then : (opens : Bool) (old : Kept) (column : Option ℕ) (r : plain.Row) (was now : List plain.Row) → length was ≤ 16777216 → StandsFor old column was → Turn opens r was now → CanChange opens old (number_in column r)
can_then true old column r was now few stands turn = has_room old column was stands (omega arith)
can_then false old column r was now few stands turn = can_leave old column r now was stands (turn.goes refl) (omega arith)
