-- Cells, periods and rows are read exactly.
use Rattle.std.proofs.Common.{◌≡◌, ℕ, zero, suc, ◌<◌, ◌≤◌, ◌^◌, ℤ, pos, ◌+ℤ◌, ◌<ℤ◌, true, List, [], ◌∷◌, ◌++◌, length, refl, sym, ap, ◌∙◌, subst, arith, Option, Some, None, Ok}
use Rattle.std.specs.List.{flat_map, AllByRecursion}
use Rattle.std.specs.Str.{IsUtf8, is_utf8}
use Rattle.std.proofs.lemmas.Int.{ints}
use Rattle.std.proofs.lemmas.Str.{IsUtf8-from_is_utf8, is_utf8-from_IsUtf8}
use Rattle.tl_types.specs.declared.cells.Cell.{Cell}
use Rattle.tl_types.specs.declared.cells.Cell.TheVariants as cell
use Rattle.tl_types.specs.Plain as plain
use Rattle.tl_record.specs.Spelling.{short_number, signed_number, cell_bytes, period_bytes, row_bytes, IsSigned, IsCell, IsPeriod, IsRow}
use Rattle.tl_record.specs.Reading.{in_turn, byte_between, signed_between, any_2, begins_text, text_of, text_at, cell_of, cell_at, cells_at, period_of, period_if, period_at, row_of, row_at, least, greatest, before_greatest, IsBetween}
use Rattle.tl_record.proofs.Exact.{Reads, SpellsIn, FitsIn, one}
use Rattle.tl_record.proofs.Turns.{turns}
use Rattle.tl_record.proofs.Parts.{okay, same_value, maps, restated, behinds, block_reads}
use Rattle.tl_record.proofs.Bounds.{byte_reads}
use Rattle.tl_record.proofs.Fields.{any_2_reads, signed_reads, IsWithin, list_reads}
use Rattle.tl_record.proofs.TextCuts.{text_goes_on, text_began, some_text}

-- TEXTS

abbrev IsText : List ℕ → Type 0
IsText text = IsUtf8 text × (length text ≤ 65535)

abbrev text_bytes : List ℕ → List ℕ
text_bytes text = short_number (length text) ++ text

text_of_reads : (n : ℕ) → n < 2 ^ 16
    → Reads (text_of n) (λ t. t) (λ t. IsText t × (length t ≡ n))
unfolding text_of
text_of_reads n h =
    restated (text_of n) (λ t. t) (λ t. t) (λ t. (is_utf8 t ≡ true) × (length t ≡ n))
    (λ t. IsText t × (length t ≡ n))
    (block_reads is_utf8 (begins_text n) n (text_goes_on n) (text_began n))
    (λ t f. let l = f.1 in (((IsUtf8-from_is_utf8 t f.0, omega (arith, l, h)), l), refl))
    (λ t f. (is_utf8-from_IsUtf8 t f.0.0, f.1))

text_reads : Reads text_at text_bytes IsText
unfolding text_at
text_reads =
    behinds any_2 text_of short_number (λ t. t) (λ n. n < 2 ^ 16) IsText length any_2_reads
    (λ t f. let l = f.1 in omega (arith, l)) text_of_reads
    (λ n h.
    let r = some_text n in
    let l = r.2 in
    (r.0, ((r.1, omega (arith, l, h)), l)))

-- CELLS

abbrev cell_tag : Cell → ℕ
cell_tag (cell.Int i) = 1
cell_tag (cell.Text t) = 2

abbrev cell_rest : Cell → List ℕ
cell_rest (cell.Int i) = signed_number i
cell_rest (cell.Text t) = text_bytes t

abbrev int_of : Cell → ℤ
int_of (cell.Int i) = i
int_of (cell.Text t) = pos 0

abbrev letters_of : Cell → List ℕ
letters_of (cell.Int i) = []
letters_of (cell.Text t) = t

abbrev CellAs : ℕ → Cell → Type 0
CellAs n y = IsCell y × (cell_tag y ≡ n)

int_back : (y : Cell) → CellAs 1 y → IsWithin least greatest (int_of y) × (cell.Int (int_of y) ≡ y)
int_back (cell.Int i) f = (f.0, refl)
int_back (cell.Text t) f = absurd (omega (arith, f.1))

text_back : (y : Cell) → CellAs 2 y → IsText (letters_of y) × (cell.Text (letters_of y) ≡ y)
text_back (cell.Int i) f = absurd (omega (arith, f.1))
text_back (cell.Text t) f = (f.0, refl)

pub any_signed : Reads (signed_between least greatest) signed_number (IsWithin least greatest)
any_signed =
    signed_reads least greatest (omega (arith, ints)) (omega (arith, ints), omega (arith, ints))
    (omega (arith, ints), omega (arith, ints))

cell_of_reads : (n : ℕ) → IsBetween 1 2 n → Reads (cell_of n) cell_rest (CellAs n)
cell_of_reads zero h = absurd (omega (arith, h.0))
cell_of_reads (suc zero) h =
    maps (signed_between least greatest) (λ i. cell.Int i) int_of signed_number cell_rest
    (IsWithin least greatest) (CellAs 1) any_signed (λ i f. ((f, refl), refl)) int_back
cell_of_reads (suc (suc zero)) h =
    maps text_at (λ t. cell.Text t) letters_of text_bytes cell_rest IsText (CellAs 2) text_reads
    (λ t f. ((f, refl), refl)) text_back
cell_of_reads (suc (suc (suc n))) h = absurd (omega (arith, h.1))

tag_within : (y : Cell) → IsBetween 1 2 (cell_tag y)
tag_within (cell.Int i) = (omega arith, omega arith)
tag_within (cell.Text t) = (omega arith, omega arith)

some_cell_as : (n : ℕ) → IsBetween 1 2 n → (y : Cell) × CellAs n y
some_cell_as zero h = absurd (omega (arith, h.0))
some_cell_as (suc zero) h = (cell.Int (pos 0), ((omega (arith, ints), omega (arith, ints)), refl))
some_cell_as (suc (suc zero)) h = let r = some_text 0 in let l = r.2 in (cell.Text r.0, ((r.1, omega (arith, l)), refl))
some_cell_as (suc (suc (suc n))) h = absurd (omega (arith, h.1))

cell_whole : (y : Cell) → cell_bytes y ≡ one (cell_tag y) ++ cell_rest y
cell_whole (cell.Int i) = refl
cell_whole (cell.Text t) = refl

cell_reads : Reads cell_at cell_bytes IsCell
unfolding cell_at
cell_reads =
    restated cell_at (λ y. one (cell_tag y) ++ cell_rest y) cell_bytes IsCell IsCell
    (behinds (byte_between 1 2) cell_of one cell_rest (IsBetween 1 2) IsCell cell_tag
    (byte_reads 1 2 (omega arith)) (λ y f. tag_within y) cell_of_reads some_cell_as)
    (λ y f. (f, cell_whole y)) (λ y f. f)

-- PERIODS

nothing_reads : {A : Type 0} (v : A) (t : A → List ℕ) (F : A → Type 0) → F v → t v ≡ []
    → ((x : A) → F x → x ≡ v) → Reads (λ bytes. Ok (v, bytes)) t F
nothing_reads {A = A} v t F f e only = record {
  again = λ x rest g.
      let i = only x g in
      ap (λ l. okay {X = A × List ℕ} (v, l ++ rest)) (ap t i ∙ e)
      ∙ ap (λ z. okay {X = A × List ℕ} (z, rest)) (sym i);
  takes = λ bytes rest x g.
      let p = same_value {X = A × List ℕ} (v, bytes) (x, rest) g in
      subst (λ (z : A × List ℕ). F z.0 × (bytes ≡ t z.0 ++ z.1)) p (f, ap (λ l. l ++ bytes) (sym e));
  short = λ bytes g. absurd (cc);
  bad = λ bytes g x more rest h q. absurd (cc);
}

abbrev period_tag : Option plain.Period → ℕ
period_tag None = 0
period_tag (Some p) = 1

abbrev period_rest : Option plain.Period → List ℕ
period_rest None = []
period_rest (Some p) = signed_number p.from ++ signed_number p.to

abbrev PeriodAs : ℕ → Option plain.Period → Type 0
PeriodAs n y = IsPeriod y × (period_tag y ≡ n)

abbrev Behind : ℤ → ℤ → Type 0
Behind from to = IsWithin (from +ℤ pos 1) greatest to

abbrev ends_of : Option plain.Period → ℤ × ℤ
ends_of None = (pos 0, pos 0)
ends_of (Some p) = (p.from, p.to)

none_only : (y : Option plain.Period) → PeriodAs 0 y → y ≡ None
none_only None f = refl
none_only (Some p) f = absurd (omega (arith, f.1))

starts : Reads (signed_between least before_greatest) signed_number (IsWithin least before_greatest)
starts =
    signed_reads least before_greatest (omega (arith, ints)) (omega (arith, ints), omega (arith, ints))
    (omega (arith, ints), omega (arith, ints))

ends : (from : ℤ) → IsWithin least before_greatest from
    → Reads (signed_between (from +ℤ pos 1) greatest) signed_number (Behind from)
ends from h =
    let a = h.0 in
    let b = h.1 in
    signed_reads (from +ℤ pos 1) greatest (omega (arith, ints, b))
    (omega (arith, ints, a), omega (arith, ints, b)) (omega (arith, ints), omega (arith, ints))

some_end : (from : ℤ) → IsWithin least before_greatest from → (to : ℤ) × Behind from to
some_end from h = let b = h.1 in (greatest, (omega (arith, ints, b), omega (arith, ints)))

ends_out : (from to : ℤ) → IsWithin least before_greatest from → Behind from to
    → IsSigned from × IsSigned to × (from <ℤ to)
ends_out from to f g =
    let a = f.0 in
    let b = f.1 in
    let d = g.0 in
    let e = g.1 in
    ((a, omega (arith, ints, b)), (omega (arith, ints, a, d), e), omega (arith, ints, d))

ends_in : (from to : ℤ) → IsSigned from × IsSigned to × (from <ℤ to)
    → IsWithin least before_greatest from × Behind from to
ends_in from to f =
    let a = f.0.0 in
    let b = f.1.1 in
    let d = f.2 in
    ((a, omega (arith, ints, b, d)), (omega (arith, ints, d), b))

period_back : (y : Option plain.Period) → PeriodAs 1 y
    → FitsIn (IsWithin least before_greatest) Behind (ends_of y) × (period_of (ends_of y) ≡ y)
period_back None f = absurd (omega (arith, f.1))
period_back (Some p) f = let e = ends_in p.from p.to f.0 in ((e.0, e.1), refl)

period_if_reads : (n : ℕ) → IsBetween 0 1 n → Reads (period_if n) period_rest (PeriodAs n)
period_if_reads zero h = nothing_reads None period_rest (PeriodAs 0) (tt, refl) refl none_only
period_if_reads (suc zero) h =
    maps (in_turn (signed_between least before_greatest) (λ from. signed_between (from +ℤ pos 1) greatest))
    period_of ends_of (SpellsIn signed_number (λ from. signed_number)) period_rest
    (FitsIn (IsWithin least before_greatest) Behind) (PeriodAs 1)
    (turns (signed_between least before_greatest) (λ from. signed_between (from +ℤ pos 1) greatest)
    signed_number (λ from. signed_number) (IsWithin least before_greatest) Behind starts ends some_end)
    (λ p f. ((ends_out p.0 p.1 f.0 f.1, refl), refl)) period_back
period_if_reads (suc (suc n)) h = absurd (omega (arith, h.1))

some_period : (n : ℕ) → IsBetween 0 1 n → (y : Option plain.Period) × PeriodAs n y
some_period zero h = (None, (tt, refl))
some_period (suc zero) h = (
  Some (record { from = pos 0; to = pos 1 }),
  (((omega (arith, ints), omega (arith, ints)), (omega (arith, ints), omega (arith, ints)), omega (arith, ints)), refl),
)
some_period (suc (suc n)) h = absurd (omega (arith, h.1))

period_tag_within : (y : Option plain.Period) → IsBetween 0 1 (period_tag y)
period_tag_within None = (omega arith, omega arith)
period_tag_within (Some p) = (omega arith, omega arith)

period_whole : (y : Option plain.Period) → period_bytes y ≡ one (period_tag y) ++ period_rest y
period_whole None = refl
period_whole (Some p) = refl

period_reads : Reads period_at period_bytes IsPeriod
unfolding period_at
period_reads =
    restated period_at (λ y. one (period_tag y) ++ period_rest y) period_bytes IsPeriod IsPeriod
    (behinds (byte_between 0 1) period_if one period_rest (IsBetween 0 1) IsPeriod period_tag
    (byte_reads 0 1 (omega arith)) (λ y f. period_tag_within y) period_if_reads some_period)
    (λ y f. (f, period_whole y)) (λ y f. f)

-- ROWS

abbrev AreCells : List Cell → Type 0
AreCells cells = AllByRecursion IsCell cells × IsBetween 1 16 (length cells)

abbrev cells_bytes : List Cell → List ℕ
cells_bytes cells = one (length cells) ++ flat_map cell_bytes cells

some_cell : (y : Cell) × IsCell y
some_cell = (cell.Int (pos 0), (omega (arith, ints), omega (arith, ints)))

cells_read : Reads cells_at cells_bytes AreCells
unfolding cells_at
cells_read =
    list_reads cell_at cell_bytes IsCell cell_reads some_cell (byte_between 1 16) one (IsBetween 1 16)
    (byte_reads 1 16 (omega arith))

row_back : (r : plain.Opened) → IsRow r
    → FitsIn AreCells (λ cells. IsPeriod) (r.cells, r.period) × (row_of (r.cells, r.period) ≡ r)
row_back r f = (((f.1, (f.0.some, f.0.few)), f.2), refl)

pub row_reads : Reads row_at row_bytes IsRow
unfolding row_at
row_reads =
    maps (in_turn cells_at (λ cells. period_at)) row_of (λ r. (r.cells, r.period))
    (SpellsIn cells_bytes (λ cells. period_bytes)) row_bytes (FitsIn AreCells (λ cells. IsPeriod)) IsRow
    (turns cells_at (λ cells. period_at) cells_bytes (λ cells. period_bytes) AreCells (λ cells. IsPeriod)
    cells_read (λ cells f. period_reads) (λ cells f. (None, tt)))
    (λ p f. ((record { some = f.0.1.0; few = f.0.1.1 }, f.0.0, f.1), refl)) row_back

pub some_row : (r : plain.Opened) × IsRow r
some_row =
    let c = some_cell in (
      record { cells = c.0 ∷ []; period = None },
      (record { some = omega arith; few = omega arith }, (c.1, tt), tt),
    )
