-- Rows over periods, and what lines leave of a row.
use Rattle.std.proofs.Common.{◌≡◌, ℤ, ◌<ℤ◌, ℕ, zero, suc, ◌+◌, ◌<◌, ◌≤◌, true, List, [], ◌∷◌, ◌++◌, Option, Some, length, take, get_or, slice_get, append_assoc, refl, sym, ap, ◌∙◌, arith}
use Rattle.std.specs.List.{AllZip, list_any}
use Rattle.std.proofs.lemmas.List.{take_more, map-append}
use Rattle.tl_types.specs.declared.cells.Cell.{Cell}
use Rattle.tl_types.specs.Facts.{IsOpened}
use Rattle.tl_types.specs.History.{is_within}
use Rattle.tl_types.specs.Plain as plain
use Rattle.tl_types.specs.Resolving.{BatchLine}
use Rattle.tl_batch.specs.Covers.{Beyond, Full, before_all, gaps, is_covered}
use Rattle.tl_batch.specs.Pieces.{cuts, over, periods_with, pieces_at}
use Rattle.tl_batch.proofs.PeriodSetLemmas.{left_by_lines}
use Rattle.tl_batch.proofs.CellLemmas.{cells_copied}

one_more : (cells : List Cell) (ps : List (Option plain.Period)) (i : ℕ) (p : Option plain.Period) → i < length ps → p ≡ get_or ps i p → over cells (take (i + 1) ps) ≡ over cells (take i ps) ++ (record { cells = cells; period = p }) ∷ []
one_more cells ps i p h is =
    ap (over cells) (take_more ps i p h ∙ ap (λ q. take i ps ++ q ∷ []) (sym is)) ∙ map-append (λ q. record { cells = cells; period = q }) (take i ps) (p ∷ [])

-- a row of copied cells is pushed
pub one_over : (cells copy : List Cell) (ps : List (Option plain.Period)) (i : ℕ) (p : Option plain.Period) (o : plain.Opened) (old before after : List plain.Opened) → i < length ps → p ≡ get_or ps i p
    → AllZip (λ v w. w ≡ v) cells copy → o ≡ record { cells = copy; period = p } → after ≡ before ++ o ∷ [] → before ≡ old ++ over cells (take i ps) → after ≡ old ++ over cells (take (i + 1) ps)
one_over cells copy ps i p o old before after h is copies made pushed so_far =
    let row : o ≡ record { cells = cells; period = p } = made ∙ ap (λ cs. record { cells = cs; period = p }) (cells_copied cells copy copies) in
    pushed ∙ (ap (λ q. before ++ q ∷ []) row ∙ (ap (λ b. b ++ (record { cells = cells; period = p }) ∷ []) so_far
    ∙ (append_assoc old (over cells (take i ps)) ((record { cells = cells; period = p }) ∷ []) ∙ ap (λ xs. old ++ xs) (sym (one_more cells ps i p h is)))))

-- WHAT IS LEFT OF A ROW, PIECE BY PIECE

-- a row of the cells over a period
abbrev row_over : List Cell → Option plain.Period → plain.Opened
row_over cells p = record { cells = cells; period = p }

-- the row at a place among rows
row_there : (rows : List plain.Row) (row : ℕ) → row < length rows → (r : plain.Row) × (slice_get rows row ≡ Some r)
row_there [] row h = absurd (omega arith)
row_there (r ∷ rows) zero h = (r, refl)
row_there (r ∷ rows) (suc row) h = row_there rows row (omega arith)

pub part_opened : (rows : List plain.Row) (row : ℕ) (start now : List Cell) (period : Option plain.Period) → row < length rows → start ≡ [] → ((r : plain.Row) → slice_get rows row ≡ Some r → now ≡ start ++ r.cells) → ((r : plain.Row) → slice_get rows row ≡ Some r → (1 ≤ length r.cells) × (length r.cells ≤ 16))
    → IsOpened (record { cells = now; period = period })
part_opened rows row start now period h none cells number =
    let found = row_there rows row h in
    let n = number found.0 found.1 in
    let some = n.0 in
    let few = n.1 in
    let same : now ≡ found.0.cells = cells found.0 found.1 ∙ ap (λ s. s ++ found.0.cells) none in
    let long = ap length same in
    record { some = omega arith; few = omega arith }

pub part_pushed : (cells start now : List Cell) (part : plain.Period) (o : plain.Opened) (before after : List plain.Opened) → start ≡ [] → now ≡ start ++ cells → o ≡ record { cells = now; period = Some part } → after ≡ before ++ o ∷ [] → after ≡ before ++ over cells (Some part ∷ [])
part_pushed cells start now part o before after none e is made = made ∙ ap (λ q. before ++ q ∷ []) (is ∙ ap (λ cs. row_over cs (Some part)) (e ∙ ap (λ s. s ++ cells) none))

-- pieces, and more to come
pub piece_goes : (cells : List Cell) (pieces rest whole : List (Option plain.Period)) (before after all : List plain.Opened) → after ≡ before ++ over cells pieces → pieces ++ rest ≡ whole → before ++ over cells whole ≡ all → after ++ over cells rest ≡ all
piece_goes cells pieces rest whole before after all made split e =
    ap (λ os. os ++ over cells rest) made ∙ (append_assoc before (over cells pieces) (over cells rest) ∙ (ap (λ os. before ++ os) (sym (map-append (row_over cells) pieces rest) ∙ ap (over cells) split) ∙ e))

-- the last pieces
pub piece_ends : (cells : List Cell) (pieces whole : List (Option plain.Period)) (before after all : List plain.Opened) → after ≡ before ++ over cells pieces → pieces ≡ whole → before ++ over cells whole ≡ all → after ≡ all
piece_ends cells pieces whole before after all made same e = made ∙ (ap (λ ps. before ++ over cells ps) same ∙ e)

-- the times that no stretch covers are what lines of the same moments leave
pub few_left : (r : plain.Row) (lines : List (Option plain.Period)) (stretches : List (ℤ × ℤ)) (before after : List plain.Opened) → ((p : plain.Period) × ((r.period ≡ Some p) × (p.from <ℤ p.to))) → Beyond before_all stretches
    → ((p : plain.Period) → r.period ≡ Some p → after ≡ before ++ over r.cells (gaps p.from p.to stretches)) → Full lines → ((t : ℤ) → is_covered t stretches ≡ list_any (is_within t) lines) → after ≡ before ++ over r.cells (cuts true lines r.period)
few_left r lines stretches before after timed beyond made full hold =
    made timed.0 timed.1.0 ∙ ap (λ ps. before ++ over r.cells ps) (left_by_lines lines (gaps timed.0.from timed.0.to stretches) timed.0 stretches stretches refl refl beyond timed.1.1 full hold ∙ ap (cuts true lines) (sym timed.1.0))

-- what the lines leave of a row, by its key
pub left_here : (schema : plain.Schema) (lines : List BatchLine) (rows : List plain.Row) (row : ℕ) (key : Cell) (before after : List plain.Opened) → schema.valid ≡ true → row < length rows → ((r : plain.Row) → slice_get rows row ≡ Some r → slice_get r.cells schema.key ≡ Some key)
    → ((r : plain.Row) → slice_get rows row ≡ Some r → after ≡ before ++ over r.cells (cuts true (periods_with (Some key) lines) r.period)) → after ≡ before ++ pieces_at schema lines (slice_get rows row)
left_here schema lines rows row key before after valid h keyed made =
    let found = row_there rows row h in
    let r = found.0 in
    made r found.1 ∙ (ap (λ k. before ++ over r.cells (cuts true (periods_with k lines) r.period)) (sym (keyed r found.1)) ∙ (ap (λ v. before ++ over r.cells (cuts v (periods_with (slice_get r.cells schema.key) lines) r.period)) (sym valid)
    ∙ ap (λ o. before ++ pieces_at schema lines o) (sym found.1)))
