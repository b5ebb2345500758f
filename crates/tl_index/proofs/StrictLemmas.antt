-- The marks of each table among legal entries rise strictly in version.
use Rattle.std.proofs.Common.{◌≡◌, ℕ, ◌<◌, Bool, true, false, not, ◌&&◌, ◌||◌, cond, nat_eq, nat_le, List, [], ◌∷◌, ◌++◌, length, slice_get, refl, sym, ap, ◌∙◌, subst, arith, append_assoc, IsTrue}
use Rattle.std.specs.List.{list_any, AllByRecursion}
use Rattle.std.proofs.lemmas.Bool.{eqb-true}
use Rattle.std.proofs.lemmas.Bool.Decides.{nat_tests}
use Rattle.std.proofs.lemmas.List.{append-nil}
use Rattle.tl_types.proofs.Lists.{and_left, and_right}
use Rattle.tl_types.specs.declared.commits.Entry.{Entry}
use Rattle.tl_types.specs.declared.commits.Entry.TheVariants as entry
use Rattle.tl_types.specs.Checkpoints.{Checkpoint, checkpoint_at}
use Rattle.tl_types.specs.Entries.{commits_of, has_break}
use Rattle.tl_types.specs.Legality.{are_legal, are_legal_behind, database_behind, has_mark, has_table, may_follow}
use Rattle.tl_types.specs.Plain as plain
use Rattle.tl_ckpt.specs.Marks.{marks_for, mark_put, with_mark, ClimbStrictly}
use Rattle.tl_index.specs.Snapshots.{marks_in, marks_of}
use Rattle.tl_index.proofs.EntryLemmas.{marks_with}
use Rattle.tl_index.proofs.Marking.{is_at, has_mark_is, its_table, its_version}
use Rattle.tl_index.proofs.NearestLemmas.{for_put_at}

-- ONE MARK MORE

or_front : (a b : Bool) → (a || b) ≡ false → a ≡ false
or_front true b h = h
or_front false b h = refl

or_behind : (a b : Bool) → (a || b) ≡ false → b ≡ false
or_behind true b h = absurd (cc)
or_behind false b h = h

below : (a b : ℕ) → nat_le a b ≡ true → nat_eq a b ≡ false → a < b
below a b h e = grind (arith, nat_tests)

above : (a b : ℕ) → nat_le a b ≡ false → b < a
above a b h = grind (arith, nat_tests)

abbrev AllAfter : ℕ → List Checkpoint → Type 0
AllAfter low marks = AllByRecursion (λ (m : Checkpoint). low < m.version) marks

after_put : (low : ℕ) (mark : Checkpoint) (ms : List Checkpoint) → low < mark.version → AllAfter low ms → AllAfter low (mark_put mark ms)
after_put low mark [] l all = (l, tt)
after_put low mark (m ∷ ms) l all = by_test (nat_le m.version mark.version) (after_put low mark ms l all.1) where
  by_test : (b : Bool) → AllAfter low (mark_put mark ms) → AllAfter low (cond b (m ∷ mark_put mark ms) (mark ∷ m ∷ ms))
  by_test true later = (all.0, later)
  by_test false later = (l, all)

after_less : (low high : ℕ) (ms : List Checkpoint) → low < high → AllAfter high ms → AllAfter low ms
after_less low high [] l all = tt
after_less low high (m ∷ ms) l all = ((let a = all.0 in omega (arith, a, l)), after_less low high ms l all.1)

-- among marks of which none has its version
put_strictly : (mark : Checkpoint) (ms : List Checkpoint) → list_any (is_at mark.version) ms ≡ false → ClimbStrictly ms → ClimbStrictly (mark_put mark ms)
put_strictly mark [] none up = (tt, tt)
put_strictly mark (m ∷ ms) none up =
    by_test (nat_le m.version mark.version) refl (put_strictly mark ms (or_behind (is_at mark.version m) (list_any (is_at mark.version) ms) none) up.1) where
      apart : nat_eq m.version mark.version ≡ false
      apart = or_front (is_at mark.version m) (list_any (is_at mark.version) ms) none

      by_test : (b : Bool) → nat_le m.version mark.version ≡ b → ClimbStrictly (mark_put mark ms) → ClimbStrictly (cond b (m ∷ mark_put mark ms) (mark ∷ m ∷ ms))
      by_test true e later = (after_put m.version mark ms (below m.version mark.version e apart) up.0, later)
      by_test false e later = let l = above m.version mark.version e in ((l, after_less mark.version m.version ms l up.0), up)

-- OF ALL TABLES

abbrev EachStrictly : List (List Checkpoint) → Type 0
EachStrictly lists = (table : ℕ) → ClimbStrictly (marks_for lists table)

with_strictly : (mark : Checkpoint) (lists : List (List Checkpoint)) → list_any (is_at mark.version) (marks_for lists mark.table) ≡ false → EachStrictly lists → EachStrictly (with_mark mark lists)
with_strictly mark lists none up table = subst ClimbStrictly (sym (for_put_at mark.table table mark lists)) (by_test (nat_eq mark.table table) refl) where
  by_test : (b : Bool) → nat_eq mark.table table ≡ b → ClimbStrictly (cond b (mark_put mark (marks_for lists table)) (marks_for lists table))
  by_test true e = put_strictly mark (marks_for lists table) (subst (λ n. list_any (is_at mark.version) (marks_for lists n) ≡ false) (eqb-true mark.table table e) none) (up table)
  by_test false e = up table

-- BY ENTRIES

fresh : (b : Bool) → not b ≡ true → b ≡ false
fresh true h = absurd (cc)
fresh false h = refl

one_more : (db : plain.Database) (before : List Entry) (e : Entry) → may_follow before e ≡ true → EachStrictly (marks_in db before) → EachStrictly (marks_in db (before ++ e ∷ []))
one_more db before (entry.Commit c) may up = subst EachStrictly (marks_with db before (entry.Commit c ∷ [])) up
one_more db before (entry.Mark t v) may up =
    let mark = checkpoint_at db t v in
    let at = slice_get db.tables t in
    let none : list_any (is_at v) (marks_for (marks_in db before) t) ≡ false =
    sym (has_mark_is db before t v) ∙ fresh (has_mark before t v) (and_right (not (has_break before) && has_table before t && nat_le v (length (commits_of before))) (not (has_mark before t v)) may) in
    let own : list_any (is_at mark.version) (marks_for (marks_in db before) mark.table) ≡ false =
    ap (λ n. list_any (is_at n) (marks_for (marks_in db before) mark.table)) (its_version t v at) ∙ ap (λ n. list_any (is_at v) (marks_for (marks_in db before) n)) (its_table t v at) ∙ none in
    subst EachStrictly (marks_with db before (entry.Mark t v ∷ [])) (with_strictly mark (marks_in db before) own up)
one_more db before (entry.Break c) may up = subst EachStrictly (marks_with db before (entry.Break c ∷ [])) up

behind : (db : plain.Database) (before es : List Entry) → are_legal_behind before es ≡ true → EachStrictly (marks_in db before) → EachStrictly (marks_in db (before ++ es))
behind db before [] legal up = subst (λ xs. EachStrictly (marks_in db xs)) (sym (append-nil before)) up
behind db before (e ∷ es) legal up =
    subst (λ xs. EachStrictly (marks_in db xs)) (append_assoc before (e ∷ []) es)
    (behind db (before ++ e ∷ []) es (and_right (may_follow before e) (are_legal_behind (before ++ e ∷ []) es) legal)
    (one_more db before e (and_left (may_follow before e) (are_legal_behind (before ++ e ∷ []) es) legal) up))

pub climb_strictly : (entries : List Entry) → IsTrue (are_legal entries) → (table : ℕ) → ClimbStrictly (marks_for (marks_of entries) table)
climb_strictly entries legal = behind (database_behind entries) [] entries legal (λ table. tt)
