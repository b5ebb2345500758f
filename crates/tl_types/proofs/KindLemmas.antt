-- The numbers of kinds are equal where the kinds are.
use Rattle.std.proofs.Common.{◌≡◌, ◌≢◌, ℕ, suc, ◌<◌, Bool, true, false, ◌&&◌, nat_eq, List, [], ◌∷◌, fold, length, map, refl, sym, ◌∙◌, arith}
use Rattle.std.proofs.lemmas.Bool.Decides.{nat_tests}
use Rattle.std.proofs.lemmas.List.{length-map}
use Rattle.tl_types.specs.declared.cells.Cell.{Cell}
use Rattle.tl_types.specs.declared.cells.Cell.TheVariants as cell
use Rattle.tl_types.specs.declared.cells.ColumnKind.{ColumnKind}
use Rattle.tl_types.specs.declared.cells.ColumnKind.TheVariants.{IntKind, TextKind}
use Rattle.tl_types.specs.declared.schemas.Column.{Column}
use Rattle.tl_types.specs.History.{is_of_kind, match_columns}
use Rattle.tl_types.specs.Kinds.{holds_texts, is_text, is_text_kind, with_digit, number_of}

digit_step : (n m : ℕ) (x y : Bool) → n < m → with_digit n x < with_digit m y
digit_step n m true true h = omega arith
digit_step n m true false h = omega arith
digit_step n m false true h = omega arith
digit_step n m false false h = omega arith

-- with as many digits behind it the greater number stays the greater
stays_greater : (n m : ℕ) (xs ys : List Bool) → length xs ≡ length ys → n < m → fold with_digit n xs < fold with_digit m ys
stays_greater n m [] [] e h = h
stays_greater n m [] (y ∷ ys) e h = absurd (omega arith)
stays_greater n m (x ∷ xs) [] e h = absurd (omega arith)
stays_greater n m (x ∷ xs) (y ∷ ys) e h = stays_greater (with_digit n x) (with_digit m y) xs ys (omega arith) (digit_step n m x y h)

-- one kind differs
differ : (n m k l : ℕ) → ((k ≡ l) → n ≢ m) → (nat_eq k l && nat_eq n m) ≡ false
differ n m k l h = by_test (nat_eq k l) refl where
  by_test : (b : Bool) → nat_eq k l ≡ b → (b && nat_eq n m) ≡ false
  by_test true e = let same : k ≡ l = grind (arith, nat_tests) in let apart = h same in grind (arith, nat_tests)
  by_test false e = refl

same_kinds : (n : ℕ) (columns : List Column) (cells : List Cell) → (nat_eq (length cells) (length columns) && nat_eq (fold with_digit n (map is_text cells)) (fold with_digit n (map holds_texts columns))) ≡ match_columns columns cells
same_kinds n [] [] = let same : nat_eq n n ≡ true = grind (arith, nat_tests) in same
same_kinds n [] (x ∷ cells) = differ (fold with_digit n (map is_text (x ∷ cells))) n (suc (length cells)) 0 (λ e. absurd (omega arith))
same_kinds n (c ∷ columns) [] = differ n (fold with_digit n (map holds_texts (c ∷ columns))) 0 (suc (length columns)) (λ e. absurd (omega arith))
same_kinds n (c ∷ columns) (x ∷ cells) = one c.kind x (λ m. same_kinds m columns cells) where
  next_length : nat_eq (suc (length cells)) (suc (length columns)) ≡ nat_eq (length cells) (length columns)
  next_length = grind (arith, nat_tests)

  apart : (a b : ℕ) → a < b → length cells ≡ length columns → fold with_digit a (map is_text cells) < fold with_digit b (map holds_texts columns)
  apart a b h e = stays_greater a b (map is_text cells) (map holds_texts columns) (length-map cells is_text ∙ e ∙ sym (length-map columns holds_texts)) h

  apart_too : (a b : ℕ) → b < a → length cells ≡ length columns → fold with_digit b (map holds_texts columns) < fold with_digit a (map is_text cells)
  apart_too a b h e = stays_greater b a (map holds_texts columns) (map is_text cells) (length-map columns holds_texts ∙ sym e ∙ sym (length-map cells is_text)) h

  one : (kind : ColumnKind) (x : Cell) → ((m : ℕ) → (nat_eq (length cells) (length columns) && nat_eq (fold with_digit m (map is_text cells)) (fold with_digit m (map holds_texts columns))) ≡ match_columns columns cells) → (nat_eq (suc (length cells)) (suc (length columns)) && nat_eq (fold with_digit (with_digit n (is_text x)) (map is_text cells)) (fold with_digit (with_digit n (is_text_kind kind)) (map holds_texts columns))) ≡ (is_of_kind kind x && match_columns columns cells)
  one IntKind (cell.Int i) later = rw next_length (later (with_digit n false))
  one IntKind (cell.Text t) later = differ (fold with_digit (with_digit n true) (map is_text cells)) (fold with_digit (with_digit n false) (map holds_texts columns)) (suc (length cells)) (suc (length columns)) (λ e f. absurd (omega (arith, apart_too (with_digit n true) (with_digit n false) (omega arith) (omega (arith, e)), f)))
  one TextKind (cell.Int i) later = differ (fold with_digit (with_digit n false) (map is_text cells)) (fold with_digit (with_digit n true) (map holds_texts columns)) (suc (length cells)) (suc (length columns)) (λ e f. absurd (omega (arith, apart (with_digit n false) (with_digit n true) (omega arith) (omega (arith, e)), f)))
  one TextKind (cell.Text t) later = rw next_length (later (with_digit n true))

pub kinds_same : (columns : List Column) (cells : List Cell) (k kinds : ℕ) → length cells ≡ length columns → k ≡ number_of (map is_text cells) → kinds ≡ number_of (map holds_texts columns) → nat_eq k kinds ≡ match_columns columns cells
kinds_same columns cells k kinds long is are =
    let equal : nat_eq (length cells) (length columns) ≡ true = grind (arith, nat_tests) in
    let both = same_kinds 0 columns cells in
    rw (is, are) (rw equal at both)

pub kinds_apart : (columns : List Column) (cells : List Cell) → length cells ≢ length columns → nat_eq (length cells) (length columns) ≡ match_columns columns cells
kinds_apart columns cells h =
    let apart : nat_eq (length cells) (length columns) ≡ false = grind (arith, nat_tests) in
    let both = same_kinds 0 columns cells in
    apart ∙ (rw apart at both)
