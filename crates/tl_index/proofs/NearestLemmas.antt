-- The nearest of a table's marks that is not after a version.
use Rattle.std.proofs.Common.{◌≡◌, ℕ, zero, suc, ◌≤◌, Bool, true, false, cond, nat_eq, nat_le, List, [], ◌∷◌, Option, Some, None, fold, refl, sym, ap, ◌∙◌, subst, arith, eq-eqb, slice_get}
use Rattle.std.specs.List.{AllByRecursion}
use Rattle.std.proofs.lemmas.Bool.{eqb-true}
use Rattle.std.proofs.lemmas.Bool.Decides.{nat_tests}
use Rattle.tl_types.specs.declared.commits.Entry.{Entry}
use Rattle.tl_types.specs.declared.commits.Entry.TheVariants as entry
use Rattle.tl_types.specs.Checkpoints.{Checkpoint, checkpoint_of, checkpoint_at}
use Rattle.tl_types.specs.Plain as plain
use Rattle.tl_ckpt.specs.Marks.{marks_for, mark_put, mark_put_at, with_mark, later_mark, nearest_in}
use Rattle.tl_types.specs.Legality.{database_behind}
use Rattle.tl_index.specs.Snapshots.{checkpoints_in, marks_of, version_or_none, mark_before}
use Rattle.tl_index.specs.Nearest.{IsNearest}
use Rattle.tl_index.proofs.Marking.{its_table, its_version}

-- MARKS BY TABLE

-- among those of its table
for_its_own : (table : ℕ) (mark : Checkpoint) (lists : List (List Checkpoint)) → marks_for (mark_put_at table mark lists) table ≡ mark_put mark (marks_for lists table)
for_its_own zero mark [] = refl
for_its_own zero mark (l ∷ lists) = refl
for_its_own (suc table) mark [] = for_its_own table mark []
for_its_own (suc table) mark (l ∷ lists) = for_its_own table mark lists

for_another : (at table : ℕ) (mark : Checkpoint) (lists : List (List Checkpoint)) → (at ≡ table → ⊥) → marks_for (mark_put_at at mark lists) table ≡ marks_for lists table
for_another zero zero mark lists apart = absurd (apart refl)
for_another zero (suc table) mark [] apart = refl
for_another zero (suc table) mark (l ∷ lists) apart = refl
for_another (suc at) zero mark [] apart = refl
for_another (suc at) zero mark (l ∷ lists) apart = refl
for_another (suc at) (suc table) mark [] apart = for_another at table mark [] (λ e. apart (ap suc e))
for_another (suc at) (suc table) mark (l ∷ lists) apart = for_another at table mark lists (λ e. apart (ap suc e))

pub for_put_at : (at table : ℕ) (mark : Checkpoint) (lists : List (List Checkpoint)) → marks_for (mark_put_at at mark lists) table ≡ cond (nat_eq at table) (mark_put mark (marks_for lists table)) (marks_for lists table)
for_put_at at table mark lists = by_test (nat_eq at table) refl where
  by_test : (b : Bool) → nat_eq at table ≡ b → marks_for (mark_put_at at mark lists) table ≡ cond b (mark_put mark (marks_for lists table)) (marks_for lists table)
  by_test true e = let same = eqb-true at table e in ap (λ n. marks_for (mark_put_at n mark lists) table) same ∙ for_its_own table mark lists
  by_test false e = for_another at table mark lists (λ same. absurd (differ e (eq-eqb at table same))) where
    differ : {b : Bool} → b ≡ false → b ≡ true → ⊥
    differ e f = absurd (cc)

-- OF ALL ENTRIES

abbrev folded : plain.Database → List Entry → List (List Checkpoint) → List (List Checkpoint)
folded db es lists = fold (λ marks mark. with_mark mark marks) lists (checkpoints_in db es)

-- each mark of a table is its checkpoint
abbrev AreOf : plain.Database → ℕ → List Checkpoint → Type 0
AreOf db table marks = AllByRecursion (λ (m : Checkpoint). m ≡ checkpoint_at db table m.version) marks

put_of : (db : plain.Database) (table : ℕ) (mark : Checkpoint) (marks : List Checkpoint) → mark ≡ checkpoint_at db table mark.version → AreOf db table marks → AreOf db table (mark_put mark marks)
put_of db table mark [] is all = (is, tt)
put_of db table mark (m ∷ marks) is all = by_test (nat_le m.version mark.version) (put_of db table mark marks is all.1) where
  by_test : (b : Bool) → AreOf db table (mark_put mark marks) → AreOf db table (cond b (m ∷ mark_put mark marks) (mark ∷ m ∷ marks))
  by_test true later = (all.0, later)
  by_test false later = (is, all)

folded_of : (db : plain.Database) (es : List Entry) (lists : List (List Checkpoint)) (table : ℕ) → AreOf db table (marks_for lists table) → AreOf db table (marks_for (folded db es lists) table)
folded_of db [] lists table all = all
folded_of db (entry.Commit c ∷ es) lists table all = folded_of db es lists table all
folded_of db (entry.Break c ∷ es) lists table all = folded_of db es lists table all
folded_of db (entry.Mark t v ∷ es) lists table all =
    let mark = checkpoint_at db t v in
    let at = slice_get db.tables t in
    folded_of db es (with_mark mark lists) table
    (subst (AreOf db table) (sym (for_put_at mark.table table mark lists)) (by_test (nat_eq mark.table table) mark (marks_for lists table) refl (its_table t v at) (its_version t v at) refl all)) where
      by_test : (b : Bool) (mark : Checkpoint) (marks : List Checkpoint) → nat_eq mark.table table ≡ b → mark.table ≡ t → mark.version ≡ v → mark ≡ checkpoint_at db t v → AreOf db table marks → AreOf db table (cond b (mark_put mark marks) marks)
      by_test true mark marks e f g is all =
          let same : t ≡ table = sym f ∙ eqb-true mark.table table e in
          put_of db table mark marks (is ∙ ap (λ n. checkpoint_at db n v) same ∙ ap (checkpoint_at db table) (sym g)) all
      by_test false mark marks e f g is all = all

-- what is found among marks that have something is one that has it, and is not after the version
record IsFound (db : plain.Database) (table version : ℕ) (mark : Checkpoint) : Type 0 where
  of : mark ≡ checkpoint_at db table mark.version
  before : mark.version ≤ version

found_in : (db : plain.Database) (table version : ℕ) (best : Option Checkpoint) (marks : List Checkpoint) (mark : Checkpoint) → ((m : Checkpoint) → best ≡ Some m → IsFound db table version m) → AreOf db table marks → fold (later_mark version) best marks ≡ Some mark → IsFound db table version mark
found_in db table version best [] mark found all is = found mark is
found_in db table version best (m ∷ marks) mark found all is =
    by_test (nat_le m.version version) refl is (λ o f h. found_in db table version o marks mark f all.1 h) where
      own : (x y : Checkpoint) → IsFound db table version x → Some x ≡ Some y → IsFound db table version y
      own x y f e = let same : x ≡ y = cc in subst (IsFound db table version) same f

      by_test : (b : Bool) → nat_le m.version version ≡ b → fold (later_mark version) (cond b (Some m) best) marks ≡ Some mark
          → ((o : Option Checkpoint) → ((x : Checkpoint) → o ≡ Some x → IsFound db table version x) → fold (later_mark version) o marks ≡ Some mark → IsFound db table version mark) → IsFound db table version mark
      by_test true e h ih = ih (Some m) (λ x same. own m x (record { of = all.0; before = grind (arith, nat_tests, e) }) same) h
      by_test false e h ih = ih best found h

-- THE NEAREST MARK

pub nearest_found : (entries : List Entry) (marks : List (List Checkpoint)) (table version : ℕ) (mark : Checkpoint) → marks ≡ marks_of entries → nearest_in (marks_for marks table) version ≡ Some mark → IsNearest entries table version mark
nearest_found entries marks table version mark are is =
    let db = database_behind entries in
    let mine = subst (λ ms. AreOf db table (marks_for ms table)) (sym are) (folded_of db entries [] table tt) in
    let found = found_in db table version None (marks_for marks table) mark (λ m e. absurd (cc)) mine is in
    record {
      of = found.of;
      before = found.before;
      greatest = sym (ap version_or_none is) ∙ ap (λ ms. version_or_none (nearest_in (marks_for ms table) version)) are;
    }

pub none_nearest : (entries : List Entry) (marks : List (List Checkpoint)) (table version : ℕ) → marks ≡ marks_of entries → nearest_in (marks_for marks table) version ≡ None → mark_before entries table version ≡ 0
none_nearest entries marks table version are is =
    sym (ap (λ ms. version_or_none (nearest_in (marks_for ms table) version)) are) ∙ ap version_or_none is
