-- The fault of one line, by the rows of its key.
use Rattle.std.proofs.Common.{◌≡◌, ℕ, ◌+◌, ◌<◌, Bool, true, false, ◌&&◌, ◌||◌, not, cond, List, [], ◌∷◌, ◌++◌, length, take, drop, get_or, slice_get, Option, Some, None, refl, sym, ap, ◌∙◌, arith}
use Rattle.std.specs.List.{list_any}
use Rattle.std.proofs.lemmas.List.{take_more, map-append, at_drop_more}
use Rattle.tl_types.specs.declared.cells.Cell.{Cell}
use Rattle.tl_types.specs.declared.batches.BatchFault.{BatchFault}
use Rattle.tl_types.specs.declared.batches.BatchFault.TheVariants as fault
use Rattle.tl_types.specs.Plain as plain
use Rattle.tl_types.specs.History.{is_open}
use Rattle.tl_types.specs.Resolving.{BatchLine, same_key}
use Rattle.tl_types.specs.declared.batches.KeyLine.{KeyLine}
use Rattle.tl_batch.specs.Pieces.{affects_period, cuts, periods_with}
use Rattle.tl_batch.specs.Untimed.{has_open}
use Rattle.tl_batch.specs.Lines.{line_of, lines_of}
use Rattle.tl_batch.specs.Faults.{is_row_affected, fault_of, fault_from}
use Rattle.tl_batch.proofs.KeyIndexLemmas.{cell_sym, same_as}

-- KEYS

pub key_congr : (key : Option Cell) (x : Cell) (k : Option Cell) → same_key key (Some x) ≡ true → same_key key k ≡ same_key (Some x) k
key_congr None x k e = absurd (cc)
key_congr (Some y) x None e = refl
key_congr (Some y) x (Some z) e = same_as y x z e

pub periods-same : (key : Option Cell) (x : Cell) (lines : List BatchLine) → same_key key (Some x) ≡ true → periods_with key lines ≡ periods_with (Some x) lines
periods-same key x [] e = refl
periods-same key x (said ∷ lines) e = grind (arith, key_congr key x said.key e, periods-same key x lines e)

-- A LINE OF A TABLE WITHOUT VALID TIME

no_lines : (x : Cell) (earlier : List BatchLine) → list_any (λ e. same_key e.key (Some x)) earlier ≡ false → periods_with (Some x) earlier ≡ []
no_lines x [] h = refl
no_lines x (said ∷ earlier) h =
    let both = either_false (same_key said.key (Some x)) (list_any (λ e. same_key e.key (Some x)) earlier) h in
    ap (λ b. cond b (said.period ∷ periods_with (Some x) earlier) (periods_with (Some x) earlier)) (key_sym said.key ∙ both.0) ∙ no_lines x earlier both.1 where
      either_false : (a b : Bool) → (a || b) ≡ false → (a ≡ false) × (b ≡ false)
      either_false true b g = absurd (cc)
      either_false false b g = (refl, g)

      key_sym : (k : Option Cell) → same_key (Some x) k ≡ same_key k (Some x)
      key_sym None = refl
      key_sym (Some y) = cell_sym x y

-- a line whose key no earlier line has affects the open rows of the key
pub row_affected_keyed : (schema : plain.Schema) (rows : List plain.Row) (earlier : List BatchLine) (said : BatchLine) (x : Cell) → schema.valid ≡ false → said.key ≡ Some x → list_any (λ e. same_key e.key (Some x)) earlier ≡ false
    → list_any (is_row_affected schema earlier said) rows ≡ has_open schema.key x rows
row_affected_keyed schema [] earlier said x untimed keyed first = refl
row_affected_keyed schema (r ∷ rows) earlier said x untimed keyed first =
    ap (λ b. b || list_any (is_row_affected schema earlier said) rows) (ap (λ k. is_open r && (same_key key k && list_any (λ p. affects_period schema.valid said.period p) (cuts schema.valid (periods_with key earlier) r.period))) keyed ∙ by_key (is_open r) (same_key key (Some x)) refl)
    ∙ ap (λ b. (is_open r && same_key key (Some x)) || b) (row_affected_keyed schema rows earlier said x untimed keyed first) where
      key : Option Cell
      key = slice_get r.cells schema.key

      affected : same_key key (Some x) ≡ true → list_any (λ p. affects_period schema.valid said.period p) (cuts schema.valid (periods_with key earlier) r.period) ≡ true
      affected e =
          ap (λ ps. list_any (λ p. affects_period schema.valid said.period p) (cuts schema.valid ps r.period)) (periods-same key x earlier e ∙ no_lines x earlier first)
          ∙ ap (λ v. affects_period v said.period r.period || false) untimed

      by_key : (o k : Bool) → same_key key (Some x) ≡ k → (o && (k && list_any (λ p. affects_period schema.valid said.period p) (cuts schema.valid (periods_with key earlier) r.period))) ≡ (o && k)
      by_key true true g = affected g
      by_key true false g = refl
      by_key false k g = refl

-- ONE LINE MORE

found_here : (a b : Bool) (x y f : BatchFault) (o rest : Option BatchFault) → o ≡ cond a (Some x) (cond b (Some y) None) → o ≡ Some f → cond a (Some x) (cond b (Some y) rest) ≡ Some f
found_here true b x y f o rest e g = sym e ∙ g
found_here false true x y f o rest e g = sym e ∙ g
found_here false false x y f o rest e g = absurd (cc)

found_later : (a b : Bool) (x y : BatchFault) (o rest : Option BatchFault) → o ≡ cond a (Some x) (cond b (Some y) None) → o ≡ None → cond a (Some x) (cond b (Some y) rest) ≡ rest
found_later true b x y o rest e g = absurd (cc)
found_later false true x y o rest e g = absurd (cc)
found_later false false x y o rest e g = refl

pub fault_here : (schema : plain.Schema) (removes : Bool) (rows : List plain.Row) (key_lines : List KeyLine) (i : ℕ) (s : KeyLine) (f : BatchFault) (o all : Option BatchFault) → i < length key_lines → s ≡ get_or key_lines i s → o ≡ fault_of schema removes rows (lines_of (take i key_lines)) (line_of s) (i + 2) → o ≡ Some f
    → all ≡ fault_from schema removes rows (i + 2) (lines_of (take i key_lines)) (lines_of (drop i key_lines)) → Some f ≡ all
fault_here schema removes rows key_lines i s f o all h at e g start =
    sym (start ∙ (at_drop_more (λ ls. fault_from schema removes rows (i + 2) (lines_of (take i key_lines)) (lines_of ls)) key_lines i s h
    ∙ (ap (λ q. fault_from schema removes rows (i + 2) (lines_of (take i key_lines)) (lines_of (q ∷ drop (i + 1) key_lines))) (sym at)
    ∙ found_here (not schema.valid && list_any (λ e. same_key e.key (Some s.key)) (lines_of (take i key_lines))) (removes && not (list_any (is_row_affected schema (lines_of (take i key_lines)) (line_of s)) rows)) (fault.KeyTwice (i + 2)) (fault.NoRow (i + 2)) f o (fault_from schema removes rows (i + 2 + 1) (lines_of (take i key_lines) ++ line_of s ∷ []) (lines_of (drop (i + 1) key_lines))) e g)))

pub fault_later : (schema : plain.Schema) (removes : Bool) (rows : List plain.Row) (key_lines : List KeyLine) (i : ℕ) (s : KeyLine) (o all : Option BatchFault) → i < length key_lines → s ≡ get_or key_lines i s → o ≡ fault_of schema removes rows (lines_of (take i key_lines)) (line_of s) (i + 2) → o ≡ None
    → all ≡ fault_from schema removes rows (i + 2) (lines_of (take i key_lines)) (lines_of (drop i key_lines)) → all ≡ fault_from schema removes rows (i + 1 + 2) (lines_of (take (i + 1) key_lines)) (lines_of (drop (i + 1) key_lines))
fault_later schema removes rows key_lines i s o all h at e g start =
    let number : i + 2 + 1 ≡ i + 1 + 2 = omega arith in
    let front : lines_of (take i key_lines) ++ line_of s ∷ [] ≡ lines_of (take (i + 1) key_lines) = sym (ap lines_of (take_more key_lines i s h ∙ ap (λ q. take i key_lines ++ q ∷ []) (sym at)) ∙ map-append line_of (take i key_lines) (s ∷ [])) in
    start ∙ (at_drop_more (λ ls. fault_from schema removes rows (i + 2) (lines_of (take i key_lines)) (lines_of ls)) key_lines i s h
    ∙ (ap (λ q. fault_from schema removes rows (i + 2) (lines_of (take i key_lines)) (lines_of (q ∷ drop (i + 1) key_lines))) (sym at)
    ∙ (found_later (not schema.valid && list_any (λ e. same_key e.key (Some s.key)) (lines_of (take i key_lines))) (removes && not (list_any (is_row_affected schema (lines_of (take i key_lines)) (line_of s)) rows)) (fault.KeyTwice (i + 2)) (fault.NoRow (i + 2)) o (fault_from schema removes rows (i + 2 + 1) (lines_of (take i key_lines) ++ line_of s ∷ []) (lines_of (drop (i + 1) key_lines))) e g
    ∙ (ap (λ m. fault_from schema removes rows m (lines_of (take i key_lines) ++ line_of s ∷ []) (lines_of (drop (i + 1) key_lines))) number ∙ ap (λ ls. fault_from schema removes rows (i + 1 + 2) ls (lines_of (drop (i + 1) key_lines))) front))))

-- a line that puts a row into a table with valid time has no fault
pub never_fault : (schema : plain.Schema) (removes : Bool) (rows : List plain.Row) (rec : ℕ) (earlier lines : List BatchLine) → schema.valid ≡ true → removes ≡ false → None ≡ fault_from schema removes rows rec earlier lines
never_fault schema removes rows rec earlier [] valid puts = refl
never_fault schema removes rows rec earlier (said ∷ lines) valid puts = grind (arith, never_fault schema removes rows (rec + 1) (earlier ++ said ∷ []) lines valid puts)
