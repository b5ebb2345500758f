-- Runs over pieces, put together; and what they take.
use Rattle.std.proofs.Common.{◌≡◌, ℕ, zero, suc, ◌+◌, ◌*◌, ◌≤◌, ℤ, pos, ◌-ℤ◌, Bool, true, false, ◌&&◌, cond, List, [], ◌∷◌, ◌++◌, length, map, Option, Some, None, Result, Ok, Err, IfOk, slice_get, refl, ap, sym, subst, ◌∙◌, arith}
use Rattle.std.specs.List.{filter, flat_map}
use Rattle.std.specs.declared.alloc.AllocError.{AllocError}
use Rattle.std.proofs.lemmas.Int.{ints}
use Rattle.std.proofs.lemmas.List.Sums.{sum_by-append}
use Rattle.std.proofs.lemmas.List.{length-map, length-append, ext_get_or}
use Rattle.tl_bits.specs.Sets.{is_member}
use Rattle.tl_types.specs.declared.answers.Field.{Field}
use Rattle.tl_types.specs.declared.cells.Cell.{Cell}
use Rattle.tl_types.specs.declared.commits.Entry.{Entry}
use Rattle.tl_types.specs.declared.runs.Piece.{Piece}
use Rattle.tl_types.specs.declared.runs.Run.{Run}
use Rattle.tl_types.specs.Plain as plain
use Rattle.tl_types.specs.Runs.{runs_over, count_of, runs_of}
use Rattle.tl_types.specs.Entries.{commits_of}
use Rattle.tl_types.specs.History.{database_of, rows_of, is_visible}
use Rattle.tl_query.specs.declared.ast.AggKind.{AggKind}
use Rattle.tl_query.specs.declared.typed_queries.AggPlan.{AggPlan}
use Rattle.tl_query.specs.declared.typed_queries.TypedPred.{TypedPred}
use Rattle.tl_query.specs.declared.typed_queries.Span.TheVariants as span
use Rattle.tl_query.specs.Aggregates.{aggregate_of, group_runs, in_group, with_rows}
use Rattle.tl_query.specs.Ordered.{values_of}
use Rattle.tl_query.specs.Passing.{passes}
use Rattle.tl_agg.specs.Kept.{both, size, kept_at}
use Rattle.tl_agg.specs.Runs.{kept_with, runs_by, system_runs, start_set}
use Rattle.tl_running.specs.Standing.{Suits}
use Rattle.tl_range.specs.Dividing.{Follow}
use Rattle.tl_exec.specs.Pieces.{CanScan, IsAskedOf, AreRunsOver, PutsTogether}
use Rattle.tl_exec.specs.Bounds.{rows_chosen}
use Rattle.tl_exec.proofs.SelectLemmas.{rows_by_test, chosen_shown}

-- NO VERSIONS

none_over : (f : ℤ → Field) (from : ℤ) → runs_of f from from ≡ []
unfolding runs_over
none_over f from = let e : from -ℤ from ≡ pos 0 = omega (arith, ints) in ap (λ n. runs_over f from (count_of n)) e

none_with : (kind : AggKind) (column : Option ℕ) (rows : ℤ → List plain.Row) (value : Cell) (from : ℕ) → group_runs kind column (span.System from from) rows value ≡ []
none_with kind column rows value from = ap (λ runs. map (in_group value) (with_rows rows runs)) (none_over (λ moment. aggregate_of kind column (rows moment)) (pos from))

none_grouped : (kind : AggKind) (column : Option ℕ) (by : ℕ) (rows : List plain.Row) (keep : List Bool) (from : ℕ) (values : List Cell)
    → flat_map (λ value. group_runs kind column (span.System from from) (kept_with rows keep by value) value) values ≡ []
none_grouped kind column by rows keep from [] = refl
none_grouped kind column by rows keep from (value ∷ values) =
    ap (λ runs. runs ++ flat_map (λ value. group_runs kind column (span.System from from) (kept_with rows keep by value) value) values) (none_with kind column (kept_with rows keep by value) value from)
    ∙ none_grouped kind column by rows keep from values

none_by : (kind : AggKind) (column by : Option ℕ) (rows : List plain.Row) (keep : List Bool) (from : ℕ) → runs_by kind column by rows keep from from ≡ []
none_by kind column None rows keep from = none_over (λ moment. aggregate_of kind column (kept_at rows keep moment)) (pos from)
none_by kind column (Some by) rows keep from = none_grouped kind column by rows keep from (values_of by rows)

-- a plan has no runs over no versions
pub no_runs : (plan : AggPlan) (rows : List plain.Row) (keep : List Bool) (from : ℕ) → system_runs plan rows keep from from ≡ []
no_runs plan rows keep from = none_by plan.kind plan.column plan.by rows keep from

-- PIECES

-- no parts
pub none_together : (whole : List Run) → whole ≡ [] → PutsTogether [] whole
none_together whole is plan rows keep from to [] suits follow over = is ∙ sym (no_runs plan rows keep from) ∙ ap (system_runs plan rows keep from) follow
none_together whole is plan rows keep from to (piece ∷ pieces) suits follow over = let m = over.many in absurd (omega arith)

-- pieces that follow on each other, and the last of them
pub record HasLast (from to : ℕ) (pieces : List Piece) (n : ℕ) : Type 0 where
  pub front : List Piece
  pub last : Piece
  pub are : pieces ≡ front ++ last ∷ []
  pub many : length front ≡ n
  pub follow : Follow from last.from front
  pub ends : last.to ≡ to
  pub later : from ≤ last.from

has_last : (from to : ℕ) (pieces : List Piece) (n : ℕ) → length pieces ≡ n + 1 → Follow from to pieces → HasLast from to pieces n
has_last from to [] n e follow = absurd (omega arith)
has_last from to (p ∷ []) n e follow =
    let a : p.from ≡ from = follow.0 in
    record { front = []; last = p; are = refl; many = omega arith; follow = sym a; ends = follow.1; later = omega arith }
has_last from to (p ∷ q ∷ pieces) zero e follow = absurd (omega arith)
has_last from to (p ∷ q ∷ pieces) (suc n) e follow =
    let h = has_last p.to to (q ∷ pieces) n (omega arith) follow.1 in
    let a : p.from ≡ from = follow.0 in
    let some = p.some in
    let l = h.later in
    let m = h.many in
    record { front = p ∷ h.front; last = h.last; are = ap (λ ps. p ∷ ps) h.are; many = omega arith; follow = (a, h.follow); ends = h.ends; later = omega arith }

get_front : {X : Type 0} (xs ys : List X) (i : ℕ) (x : X) → slice_get xs i ≡ Some x → slice_get (xs ++ ys) i ≡ Some x
get_front [] ys i x is = absurd (cc)
get_front (y ∷ xs) ys zero x is = is
get_front (y ∷ xs) ys (suc i) x is = get_front xs ys i x is

get_last : {X : Type 0} (xs : List X) (x : X) (i : ℕ) → length xs ≡ i → slice_get (xs ++ x ∷ []) i ≡ Some x
get_last [] x zero e = refl
get_last [] x (suc i) e = absurd (omega arith)
get_last (y ∷ xs) x zero e = absurd (omega arith)
get_last (y ∷ xs) x (suc i) e = get_last xs x i (omega arith)

-- one part more
pub one_together : (parts : List (List Run)) (old part new : List Run)
    → ((plan : AggPlan) (rows : List plain.Row) (keep : List Bool) (from middle to : ℕ) → Suits plan.kind plan.column rows → from ≤ middle → middle ≤ to
    → old ≡ system_runs plan rows keep from middle → part ≡ system_runs plan rows keep middle to → new ≡ system_runs plan rows keep from to)
    → PutsTogether parts old → PutsTogether (parts ++ part ∷ []) new
one_together parts old part new joined was plan rows keep from to pieces suits follow over =
    let m = over.many in
    let k = length-append parts (part ∷ []) in
    let h = has_last from to pieces (length parts) (omega arith) follow in
    let each : (i : ℕ) (piece : Piece) (p : List Run) → slice_get (h.front ++ h.last ∷ []) i ≡ Some piece → slice_get (parts ++ part ∷ []) i ≡ Some p → p ≡ system_runs plan rows keep piece.from piece.to
    = subst (λ ps. (i : ℕ) (piece : Piece) (p : List Run) → slice_get ps i ≡ Some piece → slice_get (parts ++ part ∷ []) i ≡ Some p → p ≡ system_runs plan rows keep piece.from piece.to) h.are over.each in
    let before : AreRunsOver plan rows keep h.front parts = record {
      many = sym h.many;
      each = λ i piece p there is. each i piece p (get_front h.front (h.last ∷ []) i piece there) (get_front parts (part ∷ []) i p is);
    } in
    let some = h.last.some in
    let up = joined plan rows keep from h.last.from h.last.to suits h.later (omega arith) (was plan rows keep from h.last.from h.front suits h.follow before)
    (each (length parts) h.last part (get_last h.front h.last (length parts) h.many) (get_last parts part (length parts) refl)) in
    up ∙ ap (system_runs plan rows keep from) h.ends

-- pieces that follow on each other end within them
pub ends_within : (from to : ℕ) (pieces : List Piece) (i : ℕ) (piece : Piece) → Follow from to pieces → slice_get pieces i ≡ Some piece → (from ≤ to) × (piece.to ≤ to)
ends_within from to [] i piece follow there = absurd (cc)
ends_within from to (p ∷ []) zero piece follow there =
    let e : p ≡ piece = cc in
    let some = p.some in
    let a : p.from ≡ from = follow.0 in
    let b : p.to ≡ to = follow.1 in
    subst (λ (q : Piece). (from ≤ to) × (q.to ≤ to)) e (omega arith, omega arith)
ends_within from to (p ∷ []) (suc i) piece follow there = absurd (cc)
ends_within from to (p ∷ q ∷ pieces) zero piece follow there =
    let e : p ≡ piece = cc in
    let some = p.some in
    let a : p.from ≡ from = follow.0 in
    let h = ends_within p.to to (q ∷ pieces) 0 q follow.1 refl in
    let l : p.to ≤ to = h.0 in
    subst (λ (q : Piece). (from ≤ to) × (q.to ≤ to)) e (omega arith, l)
ends_within from to (p ∷ q ∷ pieces) (suc i) piece follow there =
    let some = p.some in
    let a : p.from ≡ from = follow.0 in
    let h = ends_within p.to to (q ∷ pieces) i piece follow.1 there in
    let l : p.to ≤ to = h.0 in
    (omega arith, h.1)

-- a scan up to a version goes up to one before it
pub scan_less : (entries : List Entry) (plan : AggPlan) (keep : List Bool) (to end : ℕ) → CanScan entries plan keep to → end ≤ to → CanScan entries plan keep end
scan_less entries plan keep to end can l = let w = can.within in record {
  table = can.table;
  suits = can.suits;
  kept = can.kept;
  few = can.few;
  within = omega arith;
}

-- THE START SET

both_tests_are : (f g : plain.Row → Bool) (rows : List plain.Row) → both (map f rows) (map g rows) ≡ map (λ r. f r && g r) rows
both_tests_are f g [] = refl
both_tests_are f g (row ∷ rows) = ap (λ s. (f row && g row) ∷ s) (both_tests_are f g rows)

pub both_length : (set keep : List Bool) → length set ≡ length keep → length (both set keep) ≡ length set
both_length [] keep e = refl
both_length (s ∷ set) [] e = absurd (omega arith)
both_length (s ∷ set) (k ∷ keep) e = let h = both_length set keep (omega arith) in omega arith

both_member : (set keep : List Bool) (row : ℕ) → length set ≡ length keep → is_member (both set keep) row ≡ (is_member set row && is_member keep row)
both_member [] keep row e = refl
both_member (s ∷ set) [] row e = absurd (omega arith)
both_member (s ∷ set) (k ∷ keep) zero e = refl
both_member (s ∷ set) (k ∷ keep) (suc row) e = both_member set keep row (omega arith)

-- the set of the rows that stand, met with the kept ones
pub both_are : (f : plain.Row → Bool) (rows : List plain.Row) (keep set new : List Bool) → set ≡ map f rows → length keep ≡ length rows → length new ≡ length set
    → ((row : ℕ) → is_member new row ≡ (is_member set row && is_member keep row)) → new ≡ both (map f rows) keep
both_are f rows keep set new is kept long met =
    let same : length set ≡ length keep = ap length is ∙ length-map rows f ∙ sym kept in
    ext_get_or false new (both set keep) (long ∙ sym (both_length set keep same)) (λ row below. met row ∙ sym (both_member set keep row same))
    ∙ ap (λ s. both s keep) is

-- steps of a piece
pub piece_steps : (before between after e0 e inside r r2 w w2 s s2 : ℕ) → between ≤ before + e0 + 3 * w + 2 * s → after ≤ between + (5 * inside + 3 * r2 + w2 + 2 * s2 + 1)
    → inside ≡ e → r2 ≡ r → w2 ≡ w → s2 ≡ s → after ≤ before + (e0 + 5 * e + 3 * r + 4 * w + 4 * s + 2)
piece_steps before between after e0 e inside r r2 w w2 s s2 start scan es rs ws ss = omega arith

pub if_ok_put : (parts : List (List Run)) (result : Result (List Run) AllocError) (plan : AggPlan) (rows : List plain.Row) (keep : List Bool) (from to : ℕ) (pieces : List Piece) → Suits plan.kind plan.column rows → Follow from to pieces
    → AreRunsOver plan rows keep pieces parts → IfOk result (λ runs. PutsTogether parts runs) → IfOk result (λ runs. runs ≡ system_runs plan rows keep from to)
if_ok_put parts (Ok runs) plan rows keep from to pieces suits follow over put = put plan rows keep from to pieces suits follow over
if_ok_put parts (Err e) plan rows keep from to pieces suits follow over put = tt

-- THE RANGE

size_first : (b : Bool) (bs : List Bool) → size (b ∷ bs) ≡ cond b 1 0 + size bs
size_first b bs = let z : 0 + cond b 1 0 ≡ cond b 1 0 = omega arith in sum_by-append (λ (n : Bool). cond n 1 0) (b ∷ []) bs ∙ ap (λ n. n + size bs) z

pub size_of_tests : (h : plain.Row → Bool) (rows : List plain.Row) → size (map h rows) ≡ length (filter h rows)
size_of_tests h [] = refl
size_of_tests h (row ∷ rows) = size_first (h row) (map h rows) ∙ by_test (h row) (size_of_tests h rows) where
  by_test : (b : Bool) → size (map h rows) ≡ length (filter h rows) → cond b 1 0 + size (map h rows) ≡ length (cond b (row ∷ filter h rows) (filter h rows))
  by_test true e = omega arith
  by_test false e = omega arith

-- as many stand at the start as are chosen there
pub start_size : (db : plain.Database) (table : ℕ) (pred : TypedPred) (version : ℕ) (keep : List Bool) → keep ≡ map (passes pred) (rows_of db table)
    → size (start_set (rows_of db table) keep version) ≡ rows_chosen db table version pred
start_size db table pred version keep is =
    let rows = rows_of db table in
    let f : plain.Row → Bool = λ r. is_visible version r && passes pred r in
    ap (λ k. size (start_set rows k version)) is ∙ ap size (both_tests_are (is_visible version) (passes pred) rows)
    ∙ size_of_tests f rows ∙ ap length (sym (rows_by_test f rows)) ∙ chosen_shown db table pred version (map f rows) refl

pub range_steps : (before between counted after p w e0 e r r2 s : ℕ) → between ≤ before + p * w → counted ≡ between + w → after ≤ counted + (e0 + 5 * e + 3 * r2 + 4 * w + 4 * s + 2) → r2 ≡ r
    → after ≤ before + (p * w + e0 + 5 * e + 3 * r + 5 * w + 4 * s + 2)
range_steps before between counted after p w e0 e r r2 s first count then same = omega arith

-- what can be scanned for the rows that pass
pub scan_of_asked : (entries : List Entry) (plan : AggPlan) (pred : TypedPred) (keep : List Bool) (to : ℕ) → IsAskedOf (database_of (commits_of entries)) plan pred to
    → keep ≡ map (passes pred) (rows_of (database_of (commits_of entries)) plan.table) → length keep ≤ 16777216 → CanScan entries plan keep to
scan_of_asked entries plan pred keep to asked is few = record {
  table = asked.table;
  suits = asked.suits;
  kept = ap length is ∙ length-map (rows_of (database_of (commits_of entries)) plan.table) (passes pred);
  few = few;
  within = asked.within;
}

-- runs of kept rows that pass are those that are asked for
pub if_ok_same : (result : Result (List Run) AllocError) (some others : List Run) → some ≡ others → IfOk result (λ runs. runs ≡ some) → IfOk result (λ runs. runs ≡ others)
if_ok_same (Ok runs) some others same is = is ∙ same
if_ok_same (Err e) some others same is = tt
