-- Commits, each followed by its mark where it is due, are legal entries of these commits.
use Rattle.std.proofs.Common.{◌≡◌, ℕ, zero, suc, ◌+◌, ◌-◌, ◌<◌, ◌≤◌, ◌&&◌, ◌||◌, not, max, Bool, true, false, cond, nat_eq, nat_le, nat_lt, List, [], ◌∷◌, ◌++◌, length, fold, slice_get, Option, Some, None, IfSome, refl, sym, ap, ◌∙◌, arith, length-append}
use Rattle.std.proofs.lemmas.Bool.{eqb-true, lt-ltb}
use Rattle.std.proofs.lemmas.Bool.Decides.{nat_tests}
use Rattle.std.proofs.lemmas.List.{append-nil, append_assoc}
use Rattle.std.proofs.lemmas.List.Folds.{list_any-append}
use Rattle.std.proofs.lemmas.List.Sums.{fold-append}
use Rattle.tl_types.specs.declared.commits.Body.{Body}
use Rattle.tl_types.specs.declared.commits.Body.TheVariants as body
use Rattle.tl_types.specs.declared.commits.Commit.{Commit}
use Rattle.tl_types.specs.declared.commits.Entry.{Entry}
use Rattle.tl_types.specs.declared.commits.Entry.TheVariants as entry
use Rattle.tl_types.specs.Entries.{commits_of, is_break, has_break}
use Rattle.tl_types.specs.Events.{place_of}
use Rattle.tl_types.specs.History.{new_table, after_commit, after_body, database_of, fits, fits_body, fits_floor, fits_table, table_after, table_number, with_floor, rows_of}
use Rattle.tl_types.specs.Legality.{FitFrom, FitInTurn, database_behind, has_table, has_mark, may_follow, are_legal}
use Rattle.tl_types.specs.Limits.{standard_limits}
use Rattle.tl_types.specs.Marks.{last_mark, due, table_in, with_due, paced_step, paced}
use Rattle.tl_types.specs.Plain as plain
use Rattle.tl_types.proofs.Lists.{and_right, length-at_place}
use Rattle.tl_types.proofs.EntryLemmas.{commits_of-append, database_behind-append, legal_push}
use Rattle.tl_types.proofs.EventLemmas.{place_grows}

-- ONE ENTRY MORE

pub commits_with_mark : (es : List Entry) (table version : ℕ) → commits_of (es ++ entry.Mark table version ∷ []) ≡ commits_of es
commits_with_mark es table version = commits_of-append es (entry.Mark table version ∷ []) ∙ append-nil (commits_of es)

pub break_with_mark : (es : List Entry) (table version : ℕ) → has_break (es ++ entry.Mark table version ∷ []) ≡ has_break es
break_with_mark es table version = list_any-append is_break es (entry.Mark table version ∷ []) ∙ or_false (has_break es) where
  or_false : (b : Bool) → (b || false) ≡ b
  or_false true = refl
  or_false false = refl

pub break_with_commit : (es : List Entry) (c : Commit) → has_break (es ++ entry.Commit c ∷ []) ≡ has_break es
break_with_commit es c = list_any-append is_break es (entry.Commit c ∷ []) ∙ or_false (has_break es) where
  or_false : (b : Bool) → (b || false) ≡ b
  or_false true = refl
  or_false false = refl

pub commits_due : (k : ℕ) (table : Option ℕ) (es : List Entry) → commits_of (with_due k table es) ≡ commits_of es
commits_due k None es = refl
commits_due k (Some table) es = by_due (due es table k) where
  by_due : (b : Bool) → commits_of (cond b (es ++ entry.Mark table (length (commits_of es)) ∷ []) es) ≡ commits_of es
  by_due true = commits_with_mark es table (length (commits_of es))
  by_due false = refl

pub break_due : (k : ℕ) (table : Option ℕ) (es : List Entry) → has_break (with_due k table es) ≡ has_break es
break_due k None es = refl
break_due k (Some table) es = by_due (due es table k) where
  by_due : (b : Bool) → has_break (cond b (es ++ entry.Mark table (length (commits_of es)) ∷ []) es) ≡ has_break es
  by_due true = break_with_mark es table (length (commits_of es))
  by_due false = refl

pub database_due : (k : ℕ) (table : Option ℕ) (es : List Entry) → database_behind (with_due k table es) ≡ database_behind es
database_due k table es = ap database_of (commits_due k table es)

pub commits_step : (k : ℕ) (es : List Entry) (c : Commit) → commits_of (paced_step k es c) ≡ commits_of es ++ c ∷ []
commits_step k es c =
    let next = es ++ entry.Commit c ∷ [] in
    commits_due k (table_in es c.body) next ∙ commits_of-append es (entry.Commit c ∷ [])

pub break_step : (k : ℕ) (es : List Entry) (c : Commit) → has_break (paced_step k es c) ≡ has_break es
break_step k es c =
    let next = es ++ entry.Commit c ∷ [] in
    break_due k (table_in es c.body) next ∙ break_with_commit es c

-- A MARK THAT IS DUE

-- the last mark is no earlier than any mark
marked_by : (es : List Entry) (t n : ℕ) → has_mark es t n ≡ true → n ≤ last_mark es t
marked_by [] t n h = absurd (cc)
marked_by (entry.Commit c ∷ es) t n h = marked_by es t n h
marked_by (entry.Break c ∷ es) t n h = marked_by es t n h
marked_by (entry.Mark u v ∷ es) t n h = by_test (nat_eq u t) (nat_eq v n) refl refl h (marked_by es t n) where
  by_test : (a b : Bool) → nat_eq u t ≡ a → nat_eq v n ≡ b → (a && b || has_mark es t n) ≡ true → (has_mark es t n ≡ true → n ≤ last_mark es t) → n ≤ cond a (max v (last_mark es t)) (last_mark es t)
  by_test true true d e h ih = omega (arith, eqb-true v n e)
  by_test true false d e h ih = omega (arith, ih h)
  by_test false b d e h ih = ih h

-- where a mark is due, none of this version is there
pub due_fresh : (es : List Entry) (t k : ℕ) → due es t k ≡ true → has_mark es t (length (commits_of es)) ≡ false
unfolding due
due_fresh es t k is = by_test (has_mark es t (length (commits_of es))) refl where
  by_test : (b : Bool) → has_mark es t (length (commits_of es)) ≡ b → b ≡ false
  by_test false e = refl
  by_test true e =
      let rows = rows_of (database_behind es) t in
      let le : place_of rows (length (commits_of es)) ≤ place_of rows (last_mark es t) = place_grows rows (length (commits_of es)) (last_mark es t) (marked_by es t (length (commits_of es)) e) in
      absurd (none (place_of rows (length (commits_of es))) (place_of rows (last_mark es t)) le (is)) where
        none : (x y : ℕ) → x ≤ y → (nat_lt 0 k && nat_le k (x - y)) ≡ true → ⊥
        none x y le h = grind (arith, nat_tests, le)

-- the table of a body that fits is there behind it
pub body_there : (db : plain.Database) (b : Body) → fits_body standard_limits db b ≡ true → IfSome (table_number db.tables b) (λ table. table < length (after_body (db.version + 1) b db.tables))
body_there db (body.Create schema) f = omega (arith, length-append db.tables (new_table schema ∷ []))
body_there db (body.Change change) f =
    omega (arith, found db.tables change.table f, length-at_place change.table (table_after (db.version + 1) change) db.tables) where
      found : (ts : List plain.Table) (i : ℕ) → fits_table standard_limits change (slice_get ts i) ≡ true → i < length ts
      found [] i f = absurd (cc)
      found (t ∷ ts) zero f = omega arith
      found (t ∷ ts) (suc i) f = let l = found ts i f in omega (arith, l)
body_there db (body.Moment moment) f = tt
body_there db (body.Forget number floor) f =
    omega (arith, found db.tables number f, length-at_place number (with_floor floor) db.tables) where
      found : (ts : List plain.Table) (i : ℕ) → fits_floor db.version floor (slice_get ts i) ≡ true → i < length ts
      found [] i f = absurd (cc)
      found (t ∷ ts) zero f = omega arith
      found (t ∷ ts) (suc i) f = let l = found ts i f in omega (arith, l)

-- the table of a commit that fits is there behind it
pub table_there : (es : List Entry) (c : Commit) → fits standard_limits (database_behind es) c ≡ true → IfSome (table_in es c.body) (λ table. table < length (database_behind (es ++ entry.Commit c ∷ [])).tables)
table_there es c fit =
    let db = database_behind es in
    let next : database_behind (es ++ entry.Commit c ∷ []) ≡ after_commit db c = database_behind-append es (entry.Commit c ∷ []) in
    rw next (body_there db c.body (and_right (nat_lt db.version 16777215) (fits_body standard_limits db c.body) fit))

-- ALL COMMITS

pub commits_paced : (k : ℕ) (es : List Entry) (cs : List Commit) → commits_of (fold (paced_step k) es cs) ≡ commits_of es ++ cs
commits_paced k es [] = sym (append-nil (commits_of es))
commits_paced k es (c ∷ cs) =
    commits_paced k (paced_step k es c) cs ∙ ap (λ ds. ds ++ cs) (commits_step k es c) ∙ append_assoc (commits_of es) (c ∷ []) cs

-- the pace is kept with one commit more
pub pace_on : (k : ℕ) (old new : List Entry) (c : Commit) → old ≡ paced (commits_of old) k → new ≡ paced_step k old c → new ≡ paced (commits_of new) k
pace_on k old new c pace is =
    is ∙ ap (λ es. paced_step k es c) pace ∙ sym (fold-append (paced_step k) [] (commits_of old) (c ∷ []))
    ∙ ap (λ cs. paced cs k) (sym (commits_step k old c) ∙ ap commits_of (sym is))

unbroken : (b c : Bool) → b ≡ false → c ≡ true → (not b && c) ≡ true
unbroken b c h k = ap (λ t. not t && c) h ∙ k

-- the mark that is due may follow the commits
mark_follows : (es : List Entry) (t k : ℕ) → has_break es ≡ false → t < length (database_behind es).tables → due es t k ≡ true → may_follow es (entry.Mark t (length (commits_of es))) ≡ true
mark_follows es t k whole there is =
    all_four (has_break es) (has_table es t) (nat_le (length (commits_of es)) (length (commits_of es))) (has_mark es t (length (commits_of es)))
    whole (lt-ltb t (length (database_behind es).tables) there) (itself (length (commits_of es))) (due_fresh es t k is) where
      itself : (n : ℕ) → nat_le n n ≡ true
      itself n = grind (arith, nat_tests)

      all_four : (a b c d : Bool) → a ≡ false → b ≡ true → c ≡ true → d ≡ false → (not a && b && c && not d) ≡ true
      all_four a b c d e f g h = rw (e, f, g, h) refl

legal_due : (k : ℕ) (table : Option ℕ) (es : List Entry) → has_break es ≡ false → IfSome table (λ t. t < length (database_behind es).tables) → are_legal es ≡ true → are_legal (with_due k table es) ≡ true
legal_due k None es whole there h = h
legal_due k (Some t) es whole there h = by_due (due es t k) refl where
  by_due : (b : Bool) → due es t k ≡ b → are_legal (cond b (es ++ entry.Mark t (length (commits_of es)) ∷ []) es) ≡ true
  by_due true is = legal_push es (entry.Mark t (length (commits_of es))) h (mark_follows es t k whole there is)
  by_due false is = h

legal_step : (k : ℕ) (es : List Entry) (c : Commit) → has_break es ≡ false → fits standard_limits (database_behind es) c ≡ true → are_legal es ≡ true → are_legal (paced_step k es c) ≡ true
legal_step k es c whole fit h =
    let next = es ++ entry.Commit c ∷ [] in
    legal_due k (table_in es c.body) next (break_with_commit es c ∙ whole) (table_there es c fit)
    (legal_push es (entry.Commit c) h (unbroken (has_break es) (fits standard_limits (database_behind es) c) whole fit))

database_step : (k : ℕ) (es : List Entry) (c : Commit) → database_behind (paced_step k es c) ≡ after_commit (database_behind es) c
database_step k es c = database_due k (table_in es c.body) (es ++ entry.Commit c ∷ []) ∙ database_behind-append es (entry.Commit c ∷ [])

legal_paced : (k : ℕ) (es : List Entry) (cs : List Commit) → has_break es ≡ false → are_legal es ≡ true → FitFrom standard_limits (database_behind es) cs → are_legal (fold (paced_step k) es cs) ≡ true
legal_paced k es [] whole h f = h
legal_paced k es (c ∷ cs) whole h f =
    let later : FitFrom standard_limits (database_behind (paced_step k es c)) cs = rw (database_step k es c) f.1 in
    legal_paced k (paced_step k es c) cs (break_step k es c ∙ whole) (legal_step k es c whole f.0 h) later

pub paced_commits : (cs : List Commit) (k : ℕ) → commits_of (paced cs k) ≡ cs
paced_commits cs k = commits_paced k [] cs

pub paced_legal : (cs : List Commit) (k : ℕ) → FitInTurn standard_limits cs → are_legal (paced cs k) ≡ true
paced_legal cs k f = legal_paced k [] cs refl refl f
