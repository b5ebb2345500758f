-- The commits, the database and the version of longer lists of entries.
use Rattle.std.proofs.Common.{◌≡◌, ℕ, zero, suc, ◌+◌, ◌<◌, ◌≤◌, true, false, true≢false, not, nat_lt, List, [], ◌∷◌, ◌++◌, length, get_or, take, drop, fold, refl, sym, ap, ◌∙◌, arith, length-append, append_assoc}
use Rattle.std.proofs.lemmas.Bool.{not-true}
use Rattle.std.proofs.lemmas.Bool.Decides.{nat_tests}
use Rattle.std.proofs.lemmas.List.{append-nil, take-append-drop, take_more}
use Rattle.std.proofs.lemmas.List.Elements.{filter_map-append}
use Rattle.std.proofs.lemmas.List.Sums.{fold-append}
use Rattle.tl_types.proofs.Lists.{and_left, and_right, and_both, length-at_place}
use Rattle.tl_types.specs.Plain as plain
use Rattle.tl_types.specs.declared.commits.Commit.{Commit}
use Rattle.tl_types.specs.declared.commits.Body.{Body}
use Rattle.tl_types.specs.declared.commits.Body.TheVariants as body
use Rattle.tl_types.specs.declared.commits.Entry.{Entry}
use Rattle.tl_types.specs.declared.commits.Entry.TheVariants as entry
use Rattle.tl_types.specs.declared.limits.Limits.{Limits}
use Rattle.tl_types.specs.Entries.{commit_of, commits_of, has_break}
use Rattle.tl_types.specs.History.{new_table, nothing, after_commit, after_body, database_of, fits, fits_body, table_after, with_floor}
use Rattle.tl_types.specs.Limits.{standard_limits}
use Rattle.tl_types.specs.Legality.{FitFrom, database_behind, version_at, has_table, may_follow, are_legal_behind, are_legal}

-- COMMITS

pub commits_of-append : (es fs : List Entry) → commits_of (es ++ fs) ≡ commits_of es ++ commits_of fs
commits_of-append es fs = filter_map-append commit_of es fs

-- the commits of one entry more
pub commits_more : (es : List Entry) (i : ℕ) (e : Entry) → i < length es → e ≡ get_or es i e → commits_of (take (i + 1) es) ≡ commits_of (take i es) ++ commits_of (e ∷ [])
commits_more es i e l s =
    ap commits_of (take_more es i e l) ∙ commits_of-append (take i es) (get_or es i e ∷ [])
    ∙ ap (λ (f : Entry). commits_of (take i es) ++ commits_of (f ∷ [])) (sym s)

pub count_more : (es : List Entry) (i : ℕ) (e : Entry) → i < length es → e ≡ get_or es i e → length (commits_of (take (i + 1) es)) ≡ length (commits_of (take i es)) + length (commits_of (e ∷ []))
count_more es i e l s = ap length (commits_more es i e l s) ∙ length-append (commits_of (take i es)) (commits_of (e ∷ []))

pub database_behind-append : (es fs : List Entry) → database_behind (es ++ fs) ≡ fold after_commit (database_behind es) (commits_of fs)
database_behind-append es fs =
    ap database_of (commits_of-append es fs) ∙ fold-append after_commit nothing (commits_of es) (commits_of fs)

-- the database of entries is that of a prefix, and then of the commits behind it
pub database_from : (es : List Entry) (n : ℕ) → database_behind es ≡ fold after_commit (database_behind (take n es)) (commits_of (drop n es))
database_from es n = ap database_behind (sym (take-append-drop n es)) ∙ database_behind-append (take n es) (drop n es)

pub commits_from : (es : List Entry) (n : ℕ) → commits_of es ≡ commits_of (take n es) ++ commits_of (drop n es)
commits_from es n = ap commits_of (sym (take-append-drop n es)) ∙ commits_of-append (take n es) (drop n es)

pub version_parts : (es : List Entry) (n : ℕ) → length (commits_of es) ≡ version_at es n + length (commits_of (drop n es))
version_parts es n = ap length (commits_from es n) ∙ length-append (commits_of (take n es)) (commits_of (drop n es))

pub version_within : (es : List Entry) (n : ℕ) → version_at es n ≤ length (commits_of es)
version_within es n = omega (arith, version_parts es n)

-- VERSIONS

pub version_after : (db : plain.Database) (cs : List Commit) → (fold after_commit db cs).version ≡ db.version + length cs
version_after db [] = omega arith
version_after db (c ∷ cs) =
    let later = version_after (after_commit db c) cs in
    let e : db.version + 1 + length cs ≡ db.version + length (c ∷ cs) = omega arith in
    later ∙ e

pub version_behind : (es : List Entry) → (database_behind es).version ≡ length (commits_of es)
version_behind es = version_after nothing (commits_of es) ∙ omega arith

-- TABLES

pub tables_grow : (db : plain.Database) (c : Commit) → length db.tables ≤ length (after_commit db c).tables
tables_grow db c = by_body c.body where
  by_body : (b : Body) → length db.tables ≤ length (after_body (db.version + 1) b db.tables)
  by_body (body.Create schema) = omega (arith, length-append db.tables (new_table schema ∷ []))
  by_body (body.Change change) = omega (arith, length-at_place change.table (table_after (db.version + 1) change) db.tables)
  by_body (body.Moment moment) = omega arith
  by_body (body.Forget number floor) = omega (arith, length-at_place number (with_floor floor) db.tables)

pub tables_stay : (db : plain.Database) (cs : List Commit) → length db.tables ≤ length (fold after_commit db cs).tables
tables_stay db [] = omega arith
tables_stay db (c ∷ cs) = let later = tables_stay (after_commit db c) cs in omega (arith, tables_grow db c, later)

-- a table of a prefix is a table of the whole
pub table_stays : (es : List Entry) (n table : ℕ) → has_table (take n es) table ≡ true → has_table es table ≡ true
table_stays es n table h =
    let longer : length (database_behind (take n es)).tables ≤ length (database_behind es).tables = rw (database_from es n) (tables_stay (database_behind (take n es)) (commits_of (drop n es))) in
    grind (arith, nat_tests, longer)

-- COMMITS THAT FIT

-- one commit more, which fits
pub fit_more : (limits : Limits) (db : plain.Database) (commits : List Commit) (c : Commit) → FitFrom limits db commits → fits limits (fold after_commit db commits) c ≡ true → FitFrom limits db (commits ++ c ∷ [])
fit_more limits db [] c fitting fit = (fit, tt)
fit_more limits db (d ∷ commits) c fitting fit = (fitting.0, fit_more limits (after_commit db d) commits c fitting.1 fit)

-- LEGAL LISTS

pub legal_behind-append : (before es fs : List Entry) → are_legal_behind before (es ++ fs) ≡ true → are_legal_behind (before ++ es) fs ≡ true
legal_behind-append before [] fs h = rw (append-nil before) h
legal_behind-append before (e ∷ es) fs h =
    let later = legal_behind-append (before ++ e ∷ []) es fs (and_right (may_follow before e) (are_legal_behind (before ++ e ∷ []) (es ++ fs)) h) in
    rw (← append_assoc before (e ∷ []) es) later

pub legal_behind_push : (before es : List Entry) (e : Entry) → are_legal_behind before es ≡ true → may_follow (before ++ es) e ≡ true → are_legal_behind before (es ++ e ∷ []) ≡ true
legal_behind_push before [] e h m =
    let m' : may_follow before e ≡ true = rw (append-nil before) at m in
    and_both (may_follow before e) true m' refl
legal_behind_push before (f ∷ es) e h m =
    let m' : may_follow ((before ++ f ∷ []) ++ es) e ≡ true = rw (append_assoc before (f ∷ []) es) m in
    and_both (may_follow before f) (are_legal_behind (before ++ f ∷ []) (es ++ e ∷ []))
    (and_left (may_follow before f) (are_legal_behind (before ++ f ∷ []) es) h)
    (legal_behind_push (before ++ f ∷ []) es e (and_right (may_follow before f) (are_legal_behind (before ++ f ∷ []) es) h) m')

pub legal_push : (es : List Entry) (e : Entry) → are_legal es ≡ true → may_follow es e ≡ true → are_legal (es ++ e ∷ []) ≡ true
legal_push es e h m = legal_behind_push [] es e h m

-- the entry at a place may follow those before it
pub legal_at : (before es : List Entry) (k : ℕ) (d : Entry) → are_legal_behind before es ≡ true → k < length es → may_follow (before ++ take k es) (get_or es k d) ≡ true
legal_at before [] k d h l = absurd (omega arith)
legal_at before (e ∷ es) zero d h l = rw (append-nil before) (and_left (may_follow before e) (are_legal_behind (before ++ e ∷ []) es) h)
legal_at before (e ∷ es) (suc k) d h l =
    let later = legal_at (before ++ e ∷ []) es k d (and_right (may_follow before e) (are_legal_behind (before ++ e ∷ []) es) h) (omega arith) in
    rw (← append_assoc before (e ∷ []) (take k es)) later

-- the commits of a legal list fit one after the other
pub fit_behind : (before es : List Entry) → are_legal_behind before es ≡ true → FitFrom standard_limits (database_behind before) (commits_of es)
fit_behind before [] h = tt
fit_behind before (e ∷ es) h =
    by_entry e (and_left (may_follow before e) (are_legal_behind (before ++ e ∷ []) es) h) (fit_behind (before ++ e ∷ []) es (and_right (may_follow before e) (are_legal_behind (before ++ e ∷ []) es) h)) where
      by_entry : (e : Entry) → may_follow before e ≡ true → FitFrom standard_limits (database_behind (before ++ e ∷ [])) (commits_of es) → FitFrom standard_limits (database_behind before) (commits_of (e ∷ es))
      by_entry (entry.Commit c) m l =
          let l' : FitFrom standard_limits (after_commit (database_behind before) c) (commits_of es) = rw (database_behind-append before (entry.Commit c ∷ [])) at l in
          (and_right (not (has_break before)) (fits standard_limits (database_behind before) c) m, l')
      by_entry (entry.Mark t v) m l = rw (database_behind-append before (entry.Mark t v ∷ [])) at l
      by_entry (entry.Break c) m l = rw (database_behind-append before (entry.Break c ∷ [])) at l

-- no more commits fit than the limit says
pub fit_is_few : (db : plain.Database) (cs : List Commit) → db.version ≤ 16777215 → FitFrom standard_limits db cs → (fold after_commit db cs).version ≤ 16777215
fit_is_few db [] l h = l
fit_is_few db (c ∷ cs) l h =
    let room : nat_lt db.version 16777215 ≡ true = and_left (nat_lt db.version 16777215) (fits_body standard_limits db c.body) h.0 in
    let few : db.version + 1 ≤ 16777215 = grind (arith, nat_tests) in
    fit_is_few (after_commit db c) cs few h.1

pub commits_few : (es : List Entry) → are_legal es ≡ true → length (commits_of es) ≤ 16777215
commits_few es h =
    let few = fit_is_few nothing (commits_of es) (omega arith) (fit_behind [] es h) in
    omega (arith, few, version_behind es)

-- nothing stands behind a break
pub none_behind_break : (before es : List Entry) → has_break before ≡ true → are_legal_behind before es ≡ true → es ≡ []
none_behind_break before [] is h = refl
none_behind_break before (e ∷ es) is h =
    absurd (true≢false (sym is ∙ unbroken_before e (and_left (may_follow before e) (are_legal_behind (before ++ e ∷ []) es) h))) where
      unbroken_before : (e : Entry) → may_follow before e ≡ true → has_break before ≡ false
      unbroken_before (entry.Commit c) m = not-true (has_break before) (and_left (not (has_break before)) (fits standard_limits (database_behind before) c) m)
      unbroken_before (entry.Mark t v) m = grind arith
      unbroken_before (entry.Break c) m = not-true (has_break before) (and_left (not (has_break before)) (fits standard_limits (database_behind before) c) m)
