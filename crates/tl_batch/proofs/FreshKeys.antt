-- Keys that rise stand once each, and what is left of the first fault of their lines.
use Rattle.std.proofs.Common.{◌≡◌, ℕ, ◌+◌, Bool, true, false, ◌||◌, List, [], ◌∷◌, length, map, take, drop, get_or, None, refl, sym, ap, subst, ◌∙◌, ◌-◌, ◌≤◌, arith}
use Rattle.std.proofs.lemmas.List.{take_all}
use Rattle.std.specs.Borrow.{Bor}
use Rattle.std.specs.declared.cmp.Ordering.{Ordering}
use Rattle.std.specs.declared.cmp.Ordering.TheVariants.{Less, Equal, Greater}
use Rattle.std.specs.Ordering.{is_lt, is_eq}
use Rattle.std.specs.Cmp.{int_cmp_total}
use Rattle.std.specs.Cmp.Lexicographic.{nat_list_cmp_total}
use Rattle.tl_types.specs.declared.cells.Cell.{Cell}
use Rattle.tl_types.specs.declared.cells.Cell.TheVariants as cell
use Rattle.tl_types.specs.contracts.cells.CellOrd.TheImpl as cells
use Rattle.tl_types.specs.Plain as plain
use Rattle.tl_types.specs.History.{same_cell}
use Rattle.tl_batch.specs.Untimed.{has_cell, row_fault, key_fault, AreFresh}
use Rattle.tl_batch.proofs.CellLemmas.{cell_order}
use Rattle.tl_batch.proofs.KeyIndexLemmas.{cell_sym}

-- KEYS THAT RISE

before_both : (x y z : Cell) → cells.cmp-value.it x y ≡ Less → cells.cmp-value.it y z ≡ Less → cells.cmp-value.it x z ≡ Less
before_both (cell.Int i) (cell.Int j) (cell.Int k) h l = int_cmp_total.trans i j k h l
before_both (cell.Int i) (cell.Int j) (cell.Text t) h l = refl
before_both (cell.Int i) (cell.Text s) (cell.Int k) h l = absurd (cc)
before_both (cell.Int i) (cell.Text s) (cell.Text t) h l = refl
before_both (cell.Text r) (cell.Int j) z h l = absurd (cc)
before_both (cell.Text r) (cell.Text s) (cell.Int k) h l = absurd (cc)
before_both (cell.Text r) (cell.Text s) (cell.Text t) h l = nat_list_cmp_total.trans r s t h l

less : (o : Ordering) → is_lt o ≡ true → o ≡ Less
less Less e = refl
less Equal e = absurd (cc)
less Greater e = absurd (cc)

-- each key comes after the one before it, the first after a key
abbrev pub RiseFrom : Cell → List Cell → Type 0
RiseFrom last [] = Unit {0}
RiseFrom last (k ∷ keys) = (cells.cmp-value.it last k ≡ Less) × RiseFrom k keys

-- each of the earlier keys comes before a key
abbrev AreBefore : List Cell → Cell → Type 0
AreBefore [] k = Unit {0}
AreBefore (e ∷ earlier) k = (cells.cmp-value.it e k ≡ Less) × AreBefore earlier k

before_further : (earlier : List Cell) (k next : Cell) → cells.cmp-value.it k next ≡ Less → AreBefore earlier k → AreBefore earlier next
before_further [] k next h b = tt
before_further (e ∷ earlier) k next h b = (before_both e k next b.0 h, before_further earlier k next h b.1)

other_cell : (x y : Cell) → cells.cmp-value.it y x ≡ Less → same_cell x y ≡ false
other_cell x y h = cell_sym x y ∙ sym (cell_order y x) ∙ ap is_eq h

no_earlier : (earlier : List Cell) (k : Cell) → AreBefore earlier k → has_cell earlier k ≡ false
no_earlier [] k b = refl
no_earlier (e ∷ earlier) k b = ap (λ t. t || has_cell earlier k) (other_cell k e b.0) ∙ no_earlier earlier k b.1

fresh_from : (earlier : List Cell) (k : Cell) (keys : List Cell) → AreBefore earlier k → RiseFrom k keys → AreFresh earlier (k ∷ keys)
fresh_from earlier k [] b r = (no_earlier earlier k b, tt)
fresh_from earlier k (next ∷ keys) b r = (no_earlier earlier k b, fresh_from (k ∷ earlier) next keys (r.0, before_further earlier k next r.0 b) r.1)

pub risen_is_fresh : (k : Cell) (keys : List Cell) → RiseFrom k keys → AreFresh [] (k ∷ keys)
risen_is_fresh k keys r = fresh_from [] k keys tt r

-- before the first step
pub risen_start : (keys : List (Bor Cell)) (first : Bor Cell) → 1 ≤ length keys → first ≡ get_or keys 0 first → RiseFrom first.now (map (λ q. q.now) (take (length keys - 1) (drop 1 keys)))
    → AreFresh [] (map (λ q. q.now) keys)
risen_start [] first h at r = absurd (let e : ⊥ = omega arith in e)
risen_start (k ∷ behind) first h at r =
    let whole : take (length (k ∷ behind) - 1) (drop 1 (k ∷ behind)) ≡ behind = take_all (length (k ∷ behind) - 1) behind (omega arith) in
    risen_is_fresh k.now (map (λ q. q.now) behind)
    (subst (λ rest. RiseFrom k.now (map (λ q. q.now) rest)) whole
    (subst (λ (q : Bor Cell). RiseFrom q.now (map (λ p. p.now) (take (length (k ∷ behind) - 1) (drop 1 (k ∷ behind))))) at r))

-- THE FIRST FAULT

pub fault_of_fresh : (removes : Bool) (place : ℕ) (rows : List plain.Row) (rec : ℕ) (earlier keys : List Cell) → AreFresh earlier keys
    → row_fault removes place rows rec keys ≡ key_fault removes place rows rec earlier keys
fault_of_fresh removes place rows rec earlier [] f = refl
fault_of_fresh removes place rows rec earlier (k ∷ keys) f = grind (arith, fault_of_fresh removes place rows (rec + 1) (k ∷ earlier) keys f.1)

puts_miss_none : (place : ℕ) (rows : List plain.Row) (rec : ℕ) (keys : List Cell) → row_fault false place rows rec keys ≡ None
puts_miss_none place rows rec [] = refl
puts_miss_none place rows rec (k ∷ keys) = puts_miss_none place rows (rec + 1) keys

pub none_of_puts : (removes : Bool) (place : ℕ) (rows : List plain.Row) (rec : ℕ) (keys : List Cell) → removes ≡ false → None ≡ row_fault removes place rows rec keys
none_of_puts removes place rows rec keys e = sym (ap (λ r. row_fault r place rows rec keys) e ∙ puts_miss_none place rows rec keys)
