-- The marks among the entries, and what is kept of them.
use Rattle.std.proofs.Common.{◌≡◌, ℕ, zero, suc, ◌+◌, ◌<◌, ◌≤◌, Bool, true, false, ◌&&◌, ◌||◌, cond, nat_eq, nat_le, max, List, [], ◌∷◌, length, fold, Option, Some, None, slice_get, refl, sym, ap, ◌∙◌, subst, arith, ◌⊎◌, inl, inr}
use Rattle.std.specs.List.{list_any, AllByRecursion}
use Rattle.std.proofs.lemmas.Bool.{cases_lt, ne_eqb, eqb-true, lt-leb}
use Rattle.std.proofs.lemmas.Bool.Decides.{nat_tests}
use Rattle.tl_types.specs.declared.commits.Entry.{Entry}
use Rattle.tl_types.specs.declared.commits.Entry.TheVariants as entry
use Rattle.tl_types.specs.Plain as plain
use Rattle.tl_types.specs.Checkpoints.{Checkpoint, checkpoint_of}
use Rattle.tl_types.specs.Legality.{has_mark}
use Rattle.tl_types.specs.Marks.{last_mark}
use Rattle.tl_ckpt.specs.Marks.{marks_for, mark_put, mark_put_at, with_mark, later_mark, nearest_in, Climb}
use Rattle.tl_index.specs.Snapshots.{checkpoints_in, marks_in, HaveKnownMarks}

-- the checkpoint of a table at a version is of that table and version
pub its_table : (n v : ℕ) (o : Option plain.Table) → (checkpoint_of n v o).table ≡ n
its_table n v None = refl
its_table n v (Some t) = refl

pub its_version : (n v : ℕ) (o : Option plain.Table) → (checkpoint_of n v o).version ≡ v
its_version n v None = refl
its_version n v (Some t) = refl

abbrev put_mark : List (List Checkpoint) → Checkpoint → List (List Checkpoint)
put_mark marks mark = with_mark mark marks

-- WHICH VERSIONS

abbrev pub is_at : ℕ → Checkpoint → Bool
is_at version mark = nat_eq mark.version version

or_none : (b : Bool) → (b || false) ≡ b
or_none true = refl
or_none false = refl

within : (a b : ℕ) → a ≤ b → nat_le a b ≡ true
within a b l = grind (arith, nat_tests)

to_front : (a b c : Bool) → (a || (b || c)) ≡ (b || (a || c))
to_front true true c = refl
to_front true false c = refl
to_front false b c = refl

any_put : (v : ℕ) (mark : Checkpoint) (ms : List Checkpoint) → list_any (is_at v) (mark_put mark ms) ≡ (is_at v mark || list_any (is_at v) ms)
any_put v mark [] = refl
any_put v mark (m ∷ ms) = by_test (nat_le m.version mark.version) (any_put v mark ms) where
  by_test : (b : Bool) → list_any (is_at v) (mark_put mark ms) ≡ (is_at v mark || list_any (is_at v) ms) → list_any (is_at v) (cond b (m ∷ mark_put mark ms) (mark ∷ m ∷ ms)) ≡ (is_at v mark || (is_at v m || list_any (is_at v) ms))
  by_test true h = ap (λ b. is_at v m || b) h ∙ to_front (is_at v m) (is_at v mark) (list_any (is_at v) ms)
  by_test false h = refl

zero_suc : (n : ℕ) → nat_eq 0 (suc n) ≡ false
zero_suc n = ne_eqb 0 (suc n) (λ e. omega (arith, e))

suc_zero : (n : ℕ) → nat_eq (suc n) 0 ≡ false
suc_zero n = ne_eqb (suc n) 0 (λ e. omega (arith, e))

suc_suc : (m n : ℕ) → nat_eq (suc m) (suc n) ≡ nat_eq m n
suc_suc m n = grind (arith, nat_tests)

any_put_at : (v t : ℕ) (mark : Checkpoint) (lists : List (List Checkpoint)) (table : ℕ) → list_any (is_at v) (marks_for (mark_put_at t mark lists) table) ≡ (nat_eq t table && is_at v mark || list_any (is_at v) (marks_for lists table))
any_put_at v zero mark [] zero = refl
any_put_at v zero mark [] (suc table) = rw (zero_suc table) refl
any_put_at v zero mark (l ∷ lists) zero = any_put v mark l
any_put_at v zero mark (l ∷ lists) (suc table) = rw (zero_suc table) refl
any_put_at v (suc t) mark [] zero = rw (suc_zero t) refl
any_put_at v (suc t) mark [] (suc table) = rw (suc_suc t table) (any_put_at v t mark [] table)
any_put_at v (suc t) mark (l ∷ lists) zero = rw (suc_zero t) refl
any_put_at v (suc t) mark (l ∷ lists) (suc table) = rw (suc_suc t table) (any_put_at v t mark lists table)

any_in : (v table : ℕ) (cs : List Checkpoint) (lists : List (List Checkpoint)) → list_any (is_at v) (marks_for (fold put_mark lists cs) table) ≡ (list_any (λ m. nat_eq m.table table && is_at v m) cs || list_any (is_at v) (marks_for lists table))
any_in v table [] lists = refl
any_in v table (m ∷ cs) lists =
    any_in v table cs (with_mark m lists)
    ∙ ap (λ b. list_any (λ m. nat_eq m.table table && is_at v m) cs || b) (any_put_at v m.table m lists table)
    ∙ turn (list_any (λ m. nat_eq m.table table && is_at v m) cs) (nat_eq m.table table && is_at v m) (list_any (is_at v) (marks_for lists table)) where
      turn : (a b c : Bool) → (a || (b || c)) ≡ ((b || a) || c)
      turn true true c = refl
      turn true false c = refl
      turn false true c = refl
      turn false false c = refl

marked_in : (db : plain.Database) (es : List Entry) (t v : ℕ) → has_mark es t v ≡ list_any (λ m. nat_eq m.table t && is_at v m) (checkpoints_in db es)
marked_in db [] t v = refl
marked_in db (entry.Commit c ∷ es) t v = marked_in db es t v
marked_in db (entry.Mark u w ∷ es) t v =
    let n = its_table u w (slice_get db.tables u) in
    let m = its_version u w (slice_get db.tables u) in
    rw (n, m) (ap (λ b. (nat_eq u t && nat_eq w v) || b) (marked_in db es t v))
marked_in db (entry.Break c ∷ es) t v = marked_in db es t v

-- whether a table has a mark at a version
pub has_mark_is : (db : plain.Database) (es : List Entry) (t v : ℕ) → has_mark es t v ≡ list_any (is_at v) (marks_for (marks_in db es) t)
has_mark_is db es t v =
    marked_in db es t v ∙ sym (any_in v t (checkpoints_in db es) [] ∙ or_none (list_any (λ m. nat_eq m.table t && is_at v m) (checkpoints_in db es)))

-- behind marks that are after the version none is at it
none_at : (v low : ℕ) (ms : List Checkpoint) (best : Option Checkpoint) → v < low → AllByRecursion (λ m. low ≤ m.version) ms → (fold (later_mark v) best ms ≡ best) × (list_any (is_at v) ms ≡ false)
none_at v low [] best l all = (refl, refl)
none_at v low (m ∷ ms) best l all =
    let a = all.0 in
    let e : nat_le m.version v ≡ false = lt-leb m.version v (omega (arith, a, l)) in
    let f : nat_eq m.version v ≡ false = ne_eqb m.version v (λ e. omega (arith, a, l, e)) in
    rw (e, f) (none_at v low ms best l all.1)

equal_by : (a b : ℕ) → a ≤ b → b ≤ a → nat_eq a b ≡ true
equal_by a b l m = grind (arith, nat_tests)

kept_later : (v : ℕ) (b m r : Checkpoint) (ms : List Checkpoint) (t : Bool) → t ≡ true → fold (later_mark v) (cond t (Some m) (Some b)) ms ≡ Some r → fold (later_mark v) (Some m) ms ≡ Some r
kept_later v b m r ms true e h = h
kept_later v b m r ms false e h = absurd (cc)

last_at : (v : ℕ) (b : Checkpoint) (ms : List Checkpoint) (r : Checkpoint) → b.version ≤ v → Climb (b ∷ ms) → fold (later_mark v) (Some b) ms ≡ Some r → list_any (is_at v) (b ∷ ms) ≡ is_at v r
last_at v b [] r low up h = let e : b ≡ r = cc in ap (λ (x : Checkpoint). is_at v x || false) e ∙ or_none (is_at v r)
last_at v b (m ∷ ms) r low up h =
    by_order (cases_lt v m.version)
    (λ l. last_at v m ms r l up.1 (kept_later v b m r ms (nat_le m.version v) (within m.version v l) h)) where
      by_order : (v < m.version) ⊎ (m.version ≤ v) → (m.version ≤ v → list_any (is_at v) (m ∷ ms) ≡ is_at v r) → list_any (is_at v) (b ∷ m ∷ ms) ≡ is_at v r
      by_order (inl l) next =
          let all : AllByRecursion (λ x. m.version ≤ x.version) (m ∷ ms) = (omega arith, up.1.0) in
          let past = none_at v m.version (m ∷ ms) (Some b) l all in
          let e : b ≡ r = (let f : Some b ≡ Some r = sym past.0 ∙ h in cc) in
          ap (λ c. is_at v b || c) past.1 ∙ or_none (is_at v b) ∙ ap (is_at v) e
      by_order (inr l) next = both (is_at v b) (is_at v m) refl refl (next l) where
        both : (x y : Bool) → is_at v b ≡ x → is_at v m ≡ y → (is_at v m || list_any (is_at v) ms) ≡ is_at v r → (x || (is_at v m || list_any (is_at v) ms)) ≡ is_at v r
        both false y e f g = g
        both true y e f g =
            let here = eqb-true b.version v e in
            let above = up.0.0 in
            let same : is_at v m ≡ true = equal_by m.version v l (omega (arith, here, above)) in
            sym (ap (λ c. c || list_any (is_at v) ms) same) ∙ g

-- the nearest mark tells whether there is one at the version
pub nearest_at : (v : ℕ) (ms : List Checkpoint) (r : Checkpoint) → Climb ms → nearest_in ms v ≡ Some r → list_any (is_at v) ms ≡ is_at v r
nearest_at v [] r up h = absurd (cc)
nearest_at v (m ∷ ms) r up h = by_order (cases_lt v m.version) where
  first : (t : Bool) → t ≡ true → fold (later_mark v) (cond t (Some m) None) ms ≡ Some r → fold (later_mark v) (Some m) ms ≡ Some r
  first true e h = h
  first false e h = absurd (cc)

  by_order : (v < m.version) ⊎ (m.version ≤ v) → list_any (is_at v) (m ∷ ms) ≡ is_at v r
  by_order (inl l) =
      let past = none_at v m.version (m ∷ ms) None l (omega arith, up.0) in
      absurd (let f : None ≡ Some r = sym past.0 ∙ h in cc)
  by_order (inr l) = last_at v m ms r l up (first (nat_le m.version v) (within m.version v l) h)

some_stays : (v : ℕ) (b : Checkpoint) (ms : List Checkpoint) → fold (later_mark v) (Some b) ms ≡ None → ⊥
some_stays v b [] h = cc
some_stays v b (m ∷ ms) h = by_test (nat_le m.version v) (some_stays v m ms) (some_stays v b ms) h where
  by_test : (t : Bool) → (fold (later_mark v) (Some m) ms ≡ None → ⊥) → (fold (later_mark v) (Some b) ms ≡ None → ⊥) → fold (later_mark v) (cond t (Some m) (Some b)) ms ≡ None → ⊥
  by_test true f g h = f h
  by_test false f g h = g h

other_version : (a v : ℕ) → nat_le a v ≡ false → nat_eq a v ≡ false
other_version a v e = grind (arith, nat_tests)

pub none_near : (v : ℕ) (ms : List Checkpoint) → nearest_in ms v ≡ None → list_any (is_at v) ms ≡ false
none_near v [] h = refl
none_near v (m ∷ ms) h = by_test (nat_le m.version v) refl (none_near v ms) h where
  by_test : (t : Bool) → nat_le m.version v ≡ t → (nearest_in ms v ≡ None → list_any (is_at v) ms ≡ false) → fold (later_mark v) (cond t (Some m) None) ms ≡ None → (nat_eq m.version v || list_any (is_at v) ms) ≡ false
  by_test true e ih h = absurd (some_stays v m ms h)
  by_test false e ih h = rw (other_version m.version v e) (ih h)

-- THE LAST MARK

abbrev greatest : List Checkpoint → ℕ
greatest [] = 0
greatest (m ∷ ms) = max m.version (greatest ms)

abbrev last_in : List Checkpoint → ℕ → ℕ
last_in [] table = 0
last_in (m ∷ cs) table = cond (nat_eq m.table table) (max m.version (last_in cs table)) (last_in cs table)

greatest_put : (mark : Checkpoint) (ms : List Checkpoint) → greatest (mark_put mark ms) ≡ max mark.version (greatest ms)
greatest_put mark [] = refl
greatest_put mark (m ∷ ms) = by_test (nat_le m.version mark.version) (greatest_put mark ms) where
  by_test : (b : Bool) → greatest (mark_put mark ms) ≡ max mark.version (greatest ms) → greatest (cond b (m ∷ mark_put mark ms) (mark ∷ m ∷ ms)) ≡ max mark.version (max m.version (greatest ms))
  by_test true h = ap (max m.version) h ∙ omega arith
  by_test false h = refl

greatest_put_at : (t : ℕ) (mark : Checkpoint) (lists : List (List Checkpoint)) (table : ℕ) → greatest (marks_for (mark_put_at t mark lists) table) ≡ cond (nat_eq t table) (max mark.version (greatest (marks_for lists table))) (greatest (marks_for lists table))
greatest_put_at zero mark [] zero = refl
greatest_put_at zero mark [] (suc table) = rw (zero_suc table) refl
greatest_put_at zero mark (l ∷ lists) zero = greatest_put mark l
greatest_put_at zero mark (l ∷ lists) (suc table) = rw (zero_suc table) refl
greatest_put_at (suc t) mark [] zero = rw (suc_zero t) refl
greatest_put_at (suc t) mark [] (suc table) = rw (suc_suc t table) (greatest_put_at t mark [] table)
greatest_put_at (suc t) mark (l ∷ lists) zero = rw (suc_zero t) refl
greatest_put_at (suc t) mark (l ∷ lists) (suc table) = rw (suc_suc t table) (greatest_put_at t mark lists table)

greatest_in : (table : ℕ) (cs : List Checkpoint) (lists : List (List Checkpoint)) → greatest (marks_for (fold put_mark lists cs) table) ≡ max (last_in cs table) (greatest (marks_for lists table))
greatest_in table [] lists = omega arith
greatest_in table (m ∷ cs) lists =
    greatest_in table cs (with_mark m lists)
    ∙ ap (max (last_in cs table)) (greatest_put_at m.table m lists table)
    ∙ by_test (nat_eq m.table table) (last_in cs table) (greatest (marks_for lists table)) where
      by_test : (b : Bool) (x y : ℕ) → max x (cond b (max m.version y) y) ≡ max (cond b (max m.version x) x) y
      by_test true x y = omega arith
      by_test false x y = refl

last_mark_in : (db : plain.Database) (es : List Entry) (t : ℕ) → last_mark es t ≡ last_in (checkpoints_in db es) t
last_mark_in db [] t = refl
last_mark_in db (entry.Commit c ∷ es) t = last_mark_in db es t
last_mark_in db (entry.Mark u w ∷ es) t =
    let n = its_table u w (slice_get db.tables u) in
    let m = its_version u w (slice_get db.tables u) in
    rw (n, m) (ap (λ x. cond (nat_eq u t) (max w x) x) (last_mark_in db es t))
last_mark_in db (entry.Break c ∷ es) t = last_mark_in db es t

last_mark_greatest : (db : plain.Database) (es : List Entry) (t : ℕ) → last_mark es t ≡ greatest (marks_for (marks_in db es) t)
last_mark_greatest db es t = last_mark_in db es t ∙ sym (greatest_in t (checkpoints_in db es) [] ∙ omega arith)

climbs_last : (m : Checkpoint) (ms : List Checkpoint) (r : Checkpoint) → Climb (m ∷ ms) → slice_get (m ∷ ms) (length ms) ≡ Some r → (greatest (m ∷ ms) ≡ r.version) × (m.version ≤ r.version)
climbs_last m [] r up h = let e : m ≡ r = cc in let f : m.version ≡ r.version = ap (λ (x : Checkpoint). x.version) e in (omega (arith, f), omega (arith, f))
climbs_last m (n ∷ ms) r up h =
    let later = climbs_last n ms r up.1 h in
    let a = up.0.0 in
    let e = later.0 in
    let b = later.1 in
    (ap (max m.version) e ∙ omega (arith, a, b), omega (arith, a, b))

-- the last of a table's marks has the version of its last mark
pub last_mark_is : (db : plain.Database) (es : List Entry) (t : ℕ) (ms : List Checkpoint) (place : ℕ) (r : Checkpoint) → ms ≡ marks_for (marks_in db es) t → Climb ms → length ms ≡ place + 1 → slice_get ms place ≡ Some r → last_mark es t ≡ r.version
last_mark_is db es t [] place r is up many h = absurd (omega (arith, many))
last_mark_is db es t (m ∷ ms) place r is up many h =
    let e : place ≡ length ms = omega (arith, many) in
    last_mark_greatest db es t ∙ ap greatest (sym is) ∙ (climbs_last m ms r up (subst (λ n. slice_get (m ∷ ms) n ≡ Some r) e h)).0

pub no_last_mark : (db : plain.Database) (es : List Entry) (t : ℕ) (ms : List Checkpoint) → ms ≡ marks_for (marks_in db es) t → length ms ≡ 0 → last_mark es t ≡ 0
no_last_mark db es t [] is none = last_mark_greatest db es t ∙ ap greatest (sym is)
no_last_mark db es t (m ∷ ms) is none = absurd (omega (arith, none))

-- it is not after the present version
pub last_mark_known : (db : plain.Database) (es : List Entry) (t : ℕ) → HaveKnownMarks db es → last_mark es t ≤ db.version
last_mark_known db [] t k = omega arith
last_mark_known db (entry.Commit c ∷ es) t k = last_mark_known db es t k
last_mark_known db (entry.Mark u w ∷ es) t k = by_test (nat_eq u t) (last_mark_known db es t k.2) where
  by_test : (b : Bool) → last_mark es t ≤ db.version → cond b (max w (last_mark es t)) (last_mark es t) ≤ db.version
  by_test true l = let v = k.1 in omega (arith, l, v)
  by_test false l = l
last_mark_known db (entry.Break c ∷ es) t k = last_mark_known db es t k
