-- What lines leave of rows, and of the rows that they put, from the last line to the first.
use Rattle.std.proofs.Common.{arith, ◌≡◌, ℕ, ◌+◌, ℤ, ◌<◌, true, List, [], ◌∷◌, ◌++◌, length, reverse, drop, get_or, slice_get, Option, Some, subst, refl, sym, ap, ◌∙◌}
use Rattle.std.proofs.lemmas.List.{drop_more, map-append, reverse-append}
use Rattle.std.proofs.lemmas.Option.{slice_get_read}
use Rattle.tl_types.specs.declared.cells.Cell.{Cell}
use Rattle.tl_types.specs.Plain as plain
use Rattle.tl_types.specs.Resolving.{BatchLine, put_lines}
use Rattle.tl_batch.specs.Pieces.{cuts, periods_with, over, put_pieces, row_pieces}
use Rattle.tl_batch.specs.Covers.{Full, HoldLines}
use Rattle.tl_batch.proofs.HoldLemmas.{Adds, hold_front}

reversed_over : (cells : List Cell) (periods : List (Option plain.Period)) → reverse (over cells (reverse periods)) ≡ over cells periods
reversed_over cells [] = refl
reversed_over cells (p ∷ periods) =
    ap (λ ps. reverse (over cells ps)) (reverse-append (p ∷ []) periods) ∙ (ap reverse (map-append row (reverse periods) (p ∷ [])) ∙ (reverse-append (over cells (reverse periods)) (row p ∷ []) ∙ ap (λ os. row p ∷ os) (reversed_over cells periods))) where
      row : Option plain.Period → plain.Opened
      row q = record { cells = cells; period = q }

-- the row's key is the cell at its place
key_of : (place at : ℕ) (cells given : List Cell) (key : Cell) → given ≡ cells → at ≡ place → place < length cells → key ≡ get_or given at key → slice_get cells place ≡ Some key
key_of place at cells given key same is there e = slice_get_read cells (length cells) place key refl there (e ∙ (ap (λ cs. get_or cs at key) same ∙ ap (λ p. get_or cells p key) is))

-- what lines leave of a row's period, by the key among its cells
pub left_of : (schema : plain.Schema) (lines : List BatchLine) (at : ℕ) (cells given : List Cell) (key : Cell) (period whole : Option plain.Period) (parts : List (Option plain.Period)) → schema.valid ≡ true → whole ≡ period → given ≡ cells → at ≡ schema.key → schema.key < length cells → key ≡ get_or given at key
    → parts ≡ cuts true (periods_with (Some key) lines) whole → parts ≡ cuts schema.valid (periods_with (slice_get cells schema.key) lines) period
left_of schema lines at cells given key period whole parts valid span same is there e left = grind (arith, key_of schema.key)

pub behind_back : (schema : plain.Schema) (lines : List BatchLine) (at : ℕ) (cells given : List Cell) (key : Cell) (period whole : Option plain.Period) (parts turned given_parts : List (Option plain.Period)) (old new : List plain.Opened) → schema.valid ≡ true → whole ≡ period → given ≡ cells → at ≡ schema.key → schema.key < length cells → key ≡ get_or given at key
    → parts ≡ cuts true (periods_with (Some key) lines) whole → turned ≡ reverse parts → given_parts ≡ turned → new ≡ old ++ over given given_parts → reverse new ≡ row_pieces schema lines cells period ++ reverse old
behind_back schema lines at cells given key period whole parts turned given_parts old new valid span same is there e left turn lent made = grind (arith, reverse-append old (over cells (reverse parts)), reversed_over cells parts, left_of schema lines)

pub behind_held : (schema : plain.Schema) (lines : List BatchLine) (at : ℕ) (line : plain.Opened) (given : List Cell) (key : Cell) (period : Option plain.Period) (before after : List (Cell × List (ℤ × ℤ))) → given ≡ line.cells → period ≡ line.period → at ≡ schema.key → schema.key < length line.cells → key ≡ get_or given at key
    → HoldLines before lines → Adds key period before after → Full (period ∷ []) → HoldLines after (record { key = slice_get line.cells schema.key; period = line.period; puts = Some line } ∷ lines)
behind_held schema lines at line given key period before after same span is there e held adds full = grind (arith, key_of schema.key, hold_front before after lines key period (Some line) held adds full)

-- ONE LINE MORE, FROM THE LAST TO THE FIRST

-- the line of a row that is put
abbrev pub put_line : plain.Schema → plain.Opened → BatchLine
put_line schema row = record { key = slice_get row.cells schema.key; period = row.period; puts = Some row }

line_first : (schema : plain.Schema) (rows : List plain.Opened) (i j : ℕ) (row : plain.Opened) → i ≡ j + 1 → j < length rows → row ≡ get_or rows j row → put_lines schema (drop j rows) ≡ put_line schema row ∷ put_lines schema (drop i rows)
line_first schema rows i j row next h at = ap (put_lines schema) (drop_more rows j row h ∙ (ap (λ r. r ∷ drop (j + 1) rows) (sym at) ∙ ap (λ n. row ∷ drop n rows) (sym next)))

pub pieces_more : (schema : plain.Schema) (rows : List plain.Opened) (i j : ℕ) (row : plain.Opened) (before after : List plain.Opened) → i ≡ j + 1 → j < length rows → row ≡ get_or rows j row → reverse before ≡ put_pieces schema (put_lines schema (drop i rows))
    → reverse after ≡ row_pieces schema (put_lines schema (drop i rows)) row.cells row.period ++ reverse before → reverse after ≡ put_pieces schema (put_lines schema (drop j rows))
pieces_more schema rows i j row before after next h at behind made =
    made ∙ (ap (λ ps. row_pieces schema (put_lines schema (drop i rows)) row.cells row.period ++ ps) behind ∙ sym (ap (put_pieces schema) (line_first schema rows i j row next h at)))

pub held_more : (schema : plain.Schema) (rows : List plain.Opened) (i j : ℕ) (row : plain.Opened) (covers : List (Cell × List (ℤ × ℤ))) → i ≡ j + 1 → j < length rows → row ≡ get_or rows j row → HoldLines covers (put_line schema row ∷ put_lines schema (drop i rows)) → HoldLines covers (put_lines schema (drop j rows))
held_more schema rows i j row covers next h at held = subst (HoldLines covers) (sym (line_first schema rows i j row next h at)) held
