-- Lines of the sample, one after the other.
use Rattle.std.proofs.Common.{◌≡◌, ℕ, suc, ◌+◌, ◌-◌, ◌*◌, ◌%◌, ◌<◌, ◌≤◌, List, ◌++◌, refl, sym, ◌∙◌, append_assoc, arith}
use Rattle.std.proofs.lemmas.List.{append-nil}
use Rattle.tl_csv.specs.Sample.{nth_number, id_of, value_of, line_text, lines_from}

-- the number after one
pub drawn_next : (start i : ℕ) → nth_number start (i + 1) ≡ (1103515245 * nth_number start i + 12345) % 2147483648
drawn_next start i = let e : i + 1 ≡ suc i = omega arith in rw e refl

first_line : (start i n k : ℕ) → n ≡ suc k → lines_from start i n ≡ line_text (id_of i) (value_of start i) ++ lines_from start (i + 1) k
first_line start i n k e = rw e refl

-- one line more, and those behind it
pub one_line : (start i to : ℕ) (out new all : List ℕ) → i < to → new ≡ out ++ line_text (id_of i) (value_of start i) → out ++ lines_from start i (to - i) ≡ all → new ++ lines_from start (i + 1) (to - (i + 1)) ≡ all
one_line start i to out new all h n g =
    let k : to - i ≡ suc (to - (i + 1)) = omega arith in
    rw (n, append_assoc out (line_text (id_of i) (value_of start i)) (lines_from start (i + 1) (to - (i + 1)))) (rw (first_line start i (to - i) (to - (i + 1)) k) at g)

-- no line behind the last
pub no_line : (start i to : ℕ) (out all : List ℕ) → to ≤ i → out ++ lines_from start i (to - i) ≡ all → out ≡ all
no_line start i to out all h g =
    let k : to - i ≡ 0 = omega arith in
    sym (append-nil out) ∙ rw k at g
