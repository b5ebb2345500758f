-- When a mark is due.
use Rattle.std.proofs.Common.{◌≡◌, ℕ, ◌-◌, ◌&&◌, true, false, nat_le, nat_lt, List, length, sym, ap, ◌∙◌, arith}
use Rattle.std.proofs.lemmas.Bool.Decides.{nat_tests}
use Rattle.tl_types.proofs.EntryLemmas.{version_behind}
use Rattle.tl_types.specs.declared.commits.Entry.{Entry}
use Rattle.tl_types.specs.Entries.{commits_of}
use Rattle.tl_types.specs.Events.{place_of}
use Rattle.tl_types.specs.History.{database_of, rows_of}
use Rattle.tl_types.specs.Legality.{database_behind}
use Rattle.tl_types.specs.Marks.{due, last_mark, events_since_mark}

not_below : (k : ℕ) → k ≡ 0 → nat_lt 0 k ≡ false
not_below k e = grind (arith, nat_tests)

some_below : (k : ℕ) → (k ≡ 0 → ⊥) → nat_lt 0 k ≡ true
some_below k e = grind (arith, nat_tests)

-- without marks none is due
pub never_due : (es : List Entry) (table k : ℕ) → k ≡ 0 → due es table k ≡ false
unfolding due
never_due es table k e = ap (λ b. b && nat_le k (events_since_mark es table)) (not_below k e)

-- by the number of events behind the last mark
pub due_by : (es : List Entry) (table k last after : ℕ) → (k ≡ 0 → ⊥) → last ≡ last_mark es table
    → after ≡ place_of (rows_of (database_of (commits_of es)) table) (database_of (commits_of es)).version - place_of (rows_of (database_of (commits_of es)) table) last
    → nat_le k after ≡ due es table k
unfolding due
due_by es table k last after some is many =
    let rows = rows_of (database_behind es) table in
    ap (nat_le k) (many ∙ ap (λ v. place_of rows v - place_of rows last) (version_behind es) ∙ ap (λ v. place_of rows (length (commits_of es)) - place_of rows v) is)
    ∙ sym (ap (λ b. b && nat_le k (events_since_mark es table)) (some_below k some))
