-- What is kept of numbers, of which one part counts and adds them.
use Rattle.std.proofs.Common.{false, length, map, sym, ◌≡◌, ℕ, ◌+◌, ℤ, true, List, [], Option, refl, ap, ◌∙◌}
use Rattle.std.specs.Prelude.{◌+ℤ◌}
use Rattle.tl_bits.specs.Bags.{times, AddsOne}
use Rattle.tl_query.specs.declared.ast.AggKind.{AggKind}
use Rattle.tl_running.specs.Standing.{Kept, is_ordered, number_in, StandsFor, Enters, summing}
use Rattle.std.proofs.lemmas.List.{length-map}
use Rattle.tl_types.specs.Plain as plain
use Rattle.tl_watch.specs.Sums.{AddsUp}
use Rattle.tl_watch.specs.Numbers.{IsBagFor, IsListFor, counted_as, kept_of}

pub none_kept : (k : AggKind) (counted : Kept) (bag : List (ℤ × ℕ)) → ((column : Option ℕ) → StandsFor counted column []) → ((v : ℤ) → times bag v ≡ 0) → (column : Option ℕ) → StandsFor (kept_of k counted bag) column []
none_kept k counted bag stands none column = record { count = (stands column).count; sum = (stands column).sum; short = tt; bag = λ ordered v. none v }

-- numbers that were counted and added elsewhere
pub sums_kept : (k : AggKind) (counted new : Kept) (bag : List (ℤ × ℕ)) (count : ℕ) (sum : ℤ) → is_ordered k ≡ false → new ≡ summing counted count sum → (column : Option ℕ) (rows : List plain.Row) → count ≡ length rows → AddsUp (map (number_in column) rows) sum → StandsFor (kept_of k new bag) column rows
sums_kept k counted new bag count sum free is column rows count_is adds = record {
  count = ap (λ (x : Kept). x.count) is ∙ count_is ∙ sym (length-map rows (number_in column));
  sum = ap (λ (x : Kept). x.sum) is ∙ adds.total;
  short = adds.short;
  bag = λ ordered. absurd (cc);
}

-- one number more is counted and added
pub enters_counted : (k : AggKind) (old new : Kept) (was now : List (ℤ × ℕ)) (n : ℤ) → new ≡ summing old (old.count + 1) (old.sum +ℤ n) → (is_ordered k ≡ true → AddsOne was now n) → Enters (kept_of k old was) (kept_of k new now) n
enters_counted k old new was now n is adds = record { kind = refl; count = ap (λ (x : Kept). x.count) is; sum = ap (λ (x : Kept). x.sum) is; bag = adds }

pub kind_counted : (k : AggKind) (old new : Kept) (count : ℕ) (sum : ℤ) → old.kind ≡ counted_as k → new ≡ summing old count sum → new.kind ≡ counted_as k
kind_counted k old new count sum kind_is is = ap (λ (x : Kept). x.kind) is ∙ kind_is

-- the bag stays without numbers
pub bag_stays : (k : AggKind) (old new : List (ℤ × ℕ)) → IsBagFor k old → (is_ordered k ≡ false → new ≡ old) → IsBagFor k new
bag_stays k old new none same free v = ap (λ b. times b v) (same free) ∙ none free v

-- so does the list
pub list_stays : (k : AggKind) (old new : List ℤ) → IsListFor k old → (is_ordered k ≡ false → new ≡ old) → IsListFor k new
list_stays k old new none same free = same free ∙ none free

pub ruleset counts_more = (enters_counted, kind_counted, bag_stays)
