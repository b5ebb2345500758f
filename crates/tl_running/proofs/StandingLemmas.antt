-- What is kept stands for the rows when one comes or goes, and tells the value of their aggregate.
use Rattle.std.proofs.Common.{◌≡◌, ℕ, ◌+◌, ◌-◌, ◌^◌, ◌<◌, ℤ, pos, ◌+ℤ◌, true, cond, List, [], ◌∷◌, length, map, Option, Some, None, refl, sym, ap, ◌∙◌, arith, subst}
use Rattle.std.specs.Prelude.{is_some, unwrap_or}
use Rattle.std.specs.List.{count_by, cons_option}
use Rattle.std.specs.Ordering.{int_eq}
use Rattle.std.proofs.lemmas.Bool.{cond-true}
use Rattle.std.proofs.lemmas.Cmp.{int_eq_equiv}
use Rattle.std.proofs.lemmas.Int.{ints}
use Rattle.std.proofs.lemmas.List.{length-map}
use Rattle.tl_types.specs.declared.answers.Field.{Field}
use Rattle.tl_types.specs.declared.answers.Field.TheVariants as field
use Rattle.tl_types.specs.Plain as plain
use Rattle.tl_bits.specs.Bags.{times}
use Rattle.tl_query.specs.declared.ast.AggKind.{AggKind}
use Rattle.tl_query.specs.declared.ast.AggKind.TheVariants as kind
use Rattle.tl_query.specs.Aggregates.{number_at, numbers_of, total_of, aggregate_of}
use Rattle.tl_running.specs.Standing.{Kept, is_ordered, number_in, HaveNumbers, IsShort, Counts, StandsFor, HasRoom, CanLeave, Enters, Inserts}
use Rattle.tl_running.proofs.SumLemmas.{inserts_map, inserts_length, inserts_total, inserts_count, inserts_short, removes_short, short_total}

-- OF NUMBERS

counts_enter : (old new : Kept) (n : ℤ) (fewer more : List ℤ) → IsShort n → Counts old fewer → Inserts n fewer more → Enters old new n → Counts new more
counts_enter old new n fewer more short counts ins enters = record {
  count = enters.count ∙ ap (λ k. k + 1) counts.count ∙ sym (inserts_length n fewer more ins);
  sum = enters.sum ∙ ap (λ t. t +ℤ n) counts.sum ∙ sym (inserts_total n fewer more ins);
  short = inserts_short n fewer more ins short counts.short;
  bag = λ ordered v. let was : is_ordered old.kind ≡ true = sym (ap is_ordered enters.kind) ∙ ordered in
      enters.bag was v ∙ ap (λ k. k + cond (int_eq n v) 1 0) (counts.bag was v) ∙ ap (λ t. count_by (int_eq v) fewer + cond t 1 0) (int_eq_equiv.symm n v) ∙ sym (inserts_count v n fewer more ins);
}

plus_back : (a b n : ℤ) → a +ℤ n ≡ b +ℤ n → a ≡ b
plus_back a b n h = omega (arith, ints)

counts_leave : (old new : Kept) (n : ℤ) (fewer more : List ℤ) → Counts old more → Inserts n fewer more → Enters new old n → Counts new fewer
counts_leave old new n fewer more counts ins enters =
    let c = enters.count in
    let d = counts.count in
    let l = inserts_length n fewer more ins in record {
      count = omega arith;
      sum = plus_back new.sum (total_of fewer) n (sym enters.sum ∙ counts.sum ∙ inserts_total n fewer more ins);
      short = removes_short n fewer more ins counts.short;
      bag = λ ordered v. let was : is_ordered old.kind ≡ true = ap is_ordered enters.kind ∙ ordered in
          let a = enters.bag ordered v in
          let b = counts.bag was v in
          let e = inserts_count v n fewer more ins in
          let s : cond (int_eq n v) 1 0 ≡ cond (int_eq v n) 1 0 = ap (λ t. cond t 1 0) (int_eq_equiv.symm n v) in
          by_counts (times old.bag v) (times new.bag v) (cond (int_eq n v) 1 0) (cond (int_eq v n) 1 0) (count_by (int_eq v) more) (count_by (int_eq v) fewer) a b e s;
    } where
      by_counts : (o w c d m f : ℕ) → o ≡ w + c → o ≡ m → m ≡ f + d → c ≡ d → w ≡ f
      by_counts o w c d m f h i j k = omega arith

counts_room : (kept : Kept) (ns : List ℤ) → Counts kept ns → length ns < 2 ^ 32 - 1 → HasRoom kept
counts_room kept ns counts few =
    let t = short_total ns counts.short in
    let a = t.0 in
    let b = t.1 in
    let c = counts.count in
    let s = counts.sum in record {
      count = omega arith;
      low = omega (arith, ints);
      high = omega (arith, ints);
    }

counts_can : (kept : Kept) (n : ℤ) (fewer more : List ℤ) → Counts kept more → Inserts n fewer more → length more < 2 ^ 32 → CanLeave kept n
counts_can kept n fewer more counts ins few =
    let t = short_total more counts.short in
    let a = t.0 in
    let b = t.1 in
    let c = counts.count in
    let l = inserts_length n fewer more ins in
    let s = counts.sum in record {
      count = omega arith;
      low = omega (arith, ints);
      high = omega (arith, ints);
      there = λ ordered. let e = counts.bag ordered n in
          let i = inserts_count n n fewer more ins in
          let o : cond {A = ℕ} (int_eq n n) 1 0 ≡ 1 = cond-true (int_eq n n) 1 0 (int_eq_equiv.refl n) in omega arith;
    }

-- OF ROWS

few_numbers : (column : Option ℕ) (rows : List plain.Row) (bound : ℕ) → length rows < bound → length (map (number_in column) rows) < bound
few_numbers column rows bound few = subst (λ n. n < bound) (sym (length-map rows (number_in column))) few

pub has_room : (kept : Kept) (column : Option ℕ) (rows : List plain.Row) → StandsFor kept column rows → length rows < 2 ^ 32 - 1 → HasRoom kept
has_room kept column rows stands few = counts_room kept (map (number_in column) rows) stands (few_numbers column rows (2 ^ 32 - 1) few)

pub row_enters : (old new : Kept) (column : Option ℕ) (row : plain.Row) (fewer more : List plain.Row) → IsShort (number_in column row) → StandsFor old column fewer → Inserts row fewer more → Enters old new (number_in column row) → StandsFor new column more
row_enters old new column row fewer more short stands ins enters =
    counts_enter old new (number_in column row) (map (number_in column) fewer) (map (number_in column) more) short stands (inserts_map (number_in column) row fewer more ins) enters

pub can_leave : (kept : Kept) (column : Option ℕ) (row : plain.Row) (fewer more : List plain.Row) → StandsFor kept column more → Inserts row fewer more → length more < 2 ^ 32 → CanLeave kept (number_in column row)
can_leave kept column row fewer more stands ins few =
    counts_can kept (number_in column row) (map (number_in column) fewer) (map (number_in column) more) stands (inserts_map (number_in column) row fewer more ins) (few_numbers column more (2 ^ 32) few)

pub row_leaves : (old new : Kept) (column : Option ℕ) (row : plain.Row) (fewer more : List plain.Row) → StandsFor old column more → Inserts row fewer more → Enters new old (number_in column row) → StandsFor new column fewer
row_leaves old new column row fewer more stands ins enters =
    counts_leave old new (number_in column row) (map (number_in column) fewer) (map (number_in column) more) stands (inserts_map (number_in column) row fewer more ins) enters

-- VALUES

pub numbers_same : (column : Option ℕ) (rows : List plain.Row) → HaveNumbers column rows → numbers_of column rows ≡ map (number_in column) rows
numbers_same column [] have = refl
numbers_same column (r ∷ rows) have = one (number_at column r) have.0 (numbers_same column rows have.1) where
  one : (o : Option ℤ) → is_some o ≡ true → numbers_of column rows ≡ map (number_in column) rows → cons_option o (numbers_of column rows) ≡ unwrap_or o (pos 0) ∷ map (number_in column) rows
  one None some ih = absurd (cc)
  one (Some n) some ih = ap (λ ns. n ∷ ns) ih

-- a field that is told of the numbers of rows, for each kind
pub count_told : (kept : Kept) (column : Option ℕ) (rows : List plain.Row) (k : AggKind) → k ≡ kind.Count → StandsFor kept column rows → field.Number (pos kept.count) ≡ aggregate_of k column rows
count_told kept column rows k is stands = rw is (ap (λ n. field.Number (pos n)) (stands.count ∙ length-map rows (number_in column)))

pub numbers_told : (f : List ℤ → Field) (made : Field) (column : Option ℕ) (rows : List plain.Row) → HaveNumbers column rows → made ≡ f (map (number_in column) rows) → made ≡ f (numbers_of column rows)
numbers_told f made column rows have is = is ∙ ap f (sym (numbers_same column rows have))
