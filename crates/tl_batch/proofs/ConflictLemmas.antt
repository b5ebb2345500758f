-- Lines that do not conflict: they have their own starts, and without valid time their own keys.
use Rattle.std.proofs.Common.{◌≡◌, ℕ, zero, suc, ◌+◌, ◌<◌, ℤ, ◌<ℤ◌, int_lt, Bool, true, false, ◌&&◌, ◌||◌, not, cond, List, [], ◌∷◌, length, map, slice_get, Option, Some, None, is_some, subst, refl, sym, ap, ◌∙◌, arith}
use Rattle.std.specs.Borrow.{Bor}
use Rattle.std.specs.Bool.{beq}
use Rattle.std.specs.List.{list_all, list_any}
use Rattle.std.specs.Ordering.{int_eq}
use Rattle.std.proofs.lemmas.Bool.{and_parts}
use Rattle.std.proofs.lemmas.Int.{ints}
use Rattle.tl_types.specs.declared.cells.Cell.{Cell}
use Rattle.tl_types.specs.declared.batches.BatchFault.TheVariants as fault
use Rattle.tl_types.specs.Plain as plain
use Rattle.tl_types.specs.History.{matches, match_columns, same_cell}
use Rattle.tl_types.specs.Resolving.{overlap, same_key, conflict, conflict_fault}
use Rattle.tl_batch.specs.Covers.{Full}
use Rattle.tl_batch.specs.Syncing.{HaveOwnStarts, same_start, start_of}
use Rattle.tl_batch.specs.Untimed.{has_cell, key_fault}
use Rattle.tl_batch.proofs.KeyIndexLemmas.{cell_sym}

-- NO LINE CONFLICTS WITH AN EARLIER ONE

or_parts : (a b : Bool) → (a || b) ≡ false → (a ≡ false) × (b ≡ false)
or_parts true b e = absurd (cc)
or_parts false b e = (refl, e)

-- the first line has no fault, nor have those behind it
first_fresh : (schema : plain.Schema) (rec : ℕ) (earlier : List plain.Opened) (l : plain.Opened) (lines : List plain.Opened) → conflict_fault schema rec earlier (l ∷ lines) ≡ None → (list_any (λ e. conflict schema e l) earlier ≡ false) × (conflict_fault schema (rec + 1) (l ∷ earlier) lines ≡ None)
first_fresh schema rec earlier l lines e = by_test (list_any (λ e. conflict schema e l) earlier) refl e where
  by_test : (b : Bool) → list_any (λ e. conflict schema e l) earlier ≡ b → cond b (Some (fault.KeyTwice rec)) (conflict_fault schema (rec + 1) (l ∷ earlier) lines) ≡ None → (list_any (λ e. conflict schema e l) earlier ≡ false) × (conflict_fault schema (rec + 1) (l ∷ earlier) lines ≡ None)
  by_test true f g = absurd (cc)
  by_test false f g = (f, g)

fresh_at : (schema : plain.Schema) (rec : ℕ) (earlier lines : List plain.Opened) (j : ℕ) (p : plain.Opened) → conflict_fault schema rec earlier lines ≡ None → slice_get lines j ≡ Some p → list_any (λ e. conflict schema e p) earlier ≡ false
fresh_at schema rec earlier [] j p e at = absurd (cc)
fresh_at schema rec earlier (l ∷ lines) zero p e at = let same : l ≡ p = cc in ap (λ q. list_any (λ e. conflict schema e q) earlier) (sym same) ∙ (first_fresh schema rec earlier l lines e).0
fresh_at schema rec earlier (l ∷ lines) (suc j) p e at = (or_parts (conflict schema l p) (list_any (λ e. conflict schema e p) earlier) (fresh_at schema (rec + 1) (l ∷ earlier) lines j p (first_fresh schema rec earlier l lines e).1 at)).1

no_conflict : (schema : plain.Schema) (rec : ℕ) (earlier lines : List plain.Opened) → conflict_fault schema rec earlier lines ≡ None → (i j : ℕ) (o p : plain.Opened) → i < j → slice_get lines i ≡ Some o → slice_get lines j ≡ Some p → conflict schema o p ≡ false
no_conflict schema rec earlier [] e i j o p h at there = absurd (cc)
no_conflict schema rec earlier (l ∷ lines) e i zero o p h at there = absurd (omega arith)
no_conflict schema rec earlier (l ∷ lines) e zero (suc j) o p h at there =
    let same : l ≡ o = cc in
    ap (λ q. conflict schema q p) (sym same) ∙ (or_parts (conflict schema l p) (list_any (λ e. conflict schema e p) earlier) (fresh_at schema (rec + 1) (l ∷ earlier) lines j p (first_fresh schema rec earlier l lines e).1 there)).0
no_conflict schema rec earlier (l ∷ lines) e (suc i) (suc j) o p h at there = no_conflict schema (rec + 1) (l ∷ earlier) lines (first_fresh schema rec earlier l lines e).1 i j o p (omega arith) at there

-- THEIR OWN STARTS

line_at : (test : plain.Opened → Bool) (lines : List plain.Opened) (i : ℕ) (o : plain.Opened) → list_all test lines ≡ true → slice_get lines i ≡ Some o → test o ≡ true
line_at test [] i o all at = absurd (cc)
line_at test (l ∷ lines) zero o all at = let same : l ≡ o = cc in ap test (sym same) ∙ (and_parts (test l) (list_all test lines) all).0
line_at test (l ∷ lines) (suc i) o all at = line_at test lines i o (and_parts (test l) (list_all test lines) all).1 at

-- a period that is there has a moment
abbrev HasMoment : Option plain.Period → Type 0
HasMoment None = Unit {0}
HasMoment (Some p) = p.from <ℤ p.to

full_at : (lines : List plain.Opened) (i : ℕ) (o : plain.Opened) → Full (map (λ o. o.period) lines) → slice_get lines i ≡ Some o → HasMoment o.period
full_at [] i o all at = absurd (cc)
full_at (l ∷ lines) zero o all at = let same : l ≡ o = cc in subst (λ (q : plain.Opened). HasMoment q.period) same (first l.period all) where
  first : (p : Option plain.Period) → Full (p ∷ map (λ o. o.period) lines) → HasMoment p
  first None f = tt
  first (Some p) f = f.0
full_at (l ∷ lines) (suc i) o all at = full_at lines i o (behind l.period all) at where
  behind : (p : Option plain.Period) → Full (p ∷ map (λ o. o.period) lines) → Full (map (λ o. o.period) lines)
  behind None f = f
  behind (Some p) f = f.1

-- periods that begin at one moment have it in common
start_shared : (p q : Option plain.Period) → HasMoment p → HasMoment q → beq true (is_some p) ≡ true → beq true (is_some q) ≡ true → int_eq (start_of p) (start_of q) ≡ true → overlap p q ≡ true
start_shared None q f g s r e = absurd (cc)
start_shared (Some p) None f g s r e = absurd (cc)
start_shared (Some p) (Some q) f g s r e = grind (arith, ints)

pub own_starts : (schema : plain.Schema) (lines : List plain.Opened) → conflict_fault schema 2 [] lines ≡ None → list_all (matches schema) lines ≡ true → (schema.valid ≡ true → Full (map (λ o. o.period) lines)) → HaveOwnStarts schema.key lines
own_starts schema lines none matching full i j o p h at there = by_start (same_start schema.key o p) refl where
  apart : conflict schema o p ≡ false
  apart = no_conflict schema 2 [] lines none i j o p h at there

  in_time : (l : plain.Opened) (n : ℕ) → slice_get lines n ≡ Some l → beq schema.valid (is_some l.period) ≡ true
  in_time l n e = (and_parts (match_columns schema.columns l.cells) (beq schema.valid (is_some l.period)) (line_at (matches schema) lines n l matching e)).1

  by_time : (b : Bool) → schema.valid ≡ b → same_key (slice_get o.cells schema.key) (slice_get p.cells schema.key) ≡ true → int_eq (start_of o.period) (start_of p.period) ≡ true → ⊥
  by_time false v k s = let c : conflict schema o p ≡ true = ap (λ a. a && (not schema.valid || overlap o.period p.period)) k ∙ ap (λ b. not b || overlap o.period p.period) v in let d : false ≡ true = sym apart ∙ c in absurd (cc)
  by_time true v k s =
      let both = start_shared o.period p.period (full_at lines i o (full v) at) (full_at lines j p (full v) there) (ap (λ b. beq b (is_some o.period)) (sym v) ∙ in_time o i at) (ap (λ b. beq b (is_some p.period)) (sym v) ∙ in_time p j there) s in
      let c : conflict schema o p ≡ true = ap (λ a. a && (not schema.valid || overlap o.period p.period)) k ∙ (ap (λ b. not b || overlap o.period p.period) v ∙ both) in
      let d : false ≡ true = sym apart ∙ c in
      absurd (cc)

  by_start : (b : Bool) → same_start schema.key o p ≡ b → same_start schema.key o p ≡ false
  by_start true e = let parts = and_parts (same_key (slice_get o.cells schema.key) (slice_get p.cells schema.key)) (int_eq (start_of o.period) (start_of p.period)) e in absurd (by_time schema.valid refl parts.0 parts.1)
  by_start false e = e

-- WITHOUT VALID TIME

-- the keys of lines
abbrev pub HaveKeys : ℕ → List plain.Opened → List Cell → Type 0
HaveKeys place lines keys = map Some keys ≡ map (λ (o : plain.Opened). slice_get o.cells place) lines

head_is : (place : ℕ) (l : plain.Opened) (lines : List plain.Opened) (k : Cell) (keys : List Cell) → HaveKeys place (l ∷ lines) (k ∷ keys) → Some k ≡ slice_get l.cells place
head_is place l lines k keys e = cc

tail_are : (place : ℕ) (l : plain.Opened) (lines : List plain.Opened) (k : Cell) (keys : List Cell) → HaveKeys place (l ∷ lines) (k ∷ keys) → HaveKeys place lines keys
tail_are place l lines k keys e = cc

same_conflict : (schema : plain.Schema) (e l : plain.Opened) (k m : Cell) → schema.valid ≡ false → Some m ≡ slice_get e.cells schema.key → Some k ≡ slice_get l.cells schema.key → same_cell k m ≡ conflict schema e l
same_conflict schema e l k m off at there =
    cell_sym k m
    ∙ (sym (and_true (same_cell m k)) ∙ (ap (λ o. same_key o (Some k) && true) at ∙ (ap (λ o. same_key (slice_get e.cells schema.key) o && true) there ∙ ap (λ b. same_key (slice_get e.cells schema.key) (slice_get l.cells schema.key) && (not b || overlap e.period l.period)) (sym off)))) where
      and_true : (b : Bool) → (b && true) ≡ b
      and_true true = refl
      and_true false = refl

earlier_keys : (schema : plain.Schema) (earlier : List plain.Opened) (keys : List Cell) (l : plain.Opened) (k : Cell) → schema.valid ≡ false → HaveKeys schema.key earlier keys → Some k ≡ slice_get l.cells schema.key → has_cell keys k ≡ list_any (λ e. conflict schema e l) earlier
earlier_keys schema [] [] l k off e at = refl
earlier_keys schema [] (m ∷ keys) l k off e at = absurd (cc)
earlier_keys schema (o ∷ earlier) [] l k off e at = absurd (cc)
earlier_keys schema (o ∷ earlier) (m ∷ keys) l k off e at =
    ap (λ b. b || has_cell keys k) (same_conflict schema o l k m off (head_is schema.key o earlier m keys e) at) ∙ ap (λ b. conflict schema o l || b) (earlier_keys schema earlier keys l k off (tail_are schema.key o earlier m keys e) at)

-- a key twice is a conflict
keys_conflict : (schema : plain.Schema) (place : ℕ) (rows : List plain.Row) (rec : ℕ) (earlier : List plain.Opened) (before : List Cell) (lines : List plain.Opened) (keys : List Cell) → schema.valid ≡ false → HaveKeys schema.key earlier before → HaveKeys schema.key lines keys
    → key_fault false place rows rec before keys ≡ conflict_fault schema rec earlier lines
keys_conflict schema place rows rec earlier before [] [] off e f = refl
keys_conflict schema place rows rec earlier before [] (k ∷ keys) off e f = absurd (cc)
keys_conflict schema place rows rec earlier before (l ∷ lines) [] off e f = absurd (cc)
keys_conflict schema place rows rec earlier before (l ∷ lines) (k ∷ keys) off e f =
    let at = head_is schema.key l lines k keys f in
    let more : HaveKeys schema.key (l ∷ earlier) (k ∷ before) = ap (λ o. o ∷ map Some before) at ∙ ap (λ os. slice_get l.cells schema.key ∷ os) e in
    ap (λ b. cond b (Some (fault.KeyTwice rec)) (key_fault false place rows (rec + 1) (k ∷ before) keys)) (earlier_keys schema earlier before l k off e at)
    ∙ ap (λ o. cond (list_any (λ e. conflict schema e l) earlier) (Some (fault.KeyTwice rec)) o) (keys_conflict schema place rows (rec + 1) (l ∷ earlier) (k ∷ before) lines keys off more (tail_are schema.key l lines k keys f))

some_keys : (keys : List (Bor Cell)) → map Some (map (λ (k : Bor Cell). k.now) keys) ≡ map (λ (k : Bor Cell). Some k.now) keys
some_keys [] = refl
some_keys (k ∷ keys) = ap (λ os. Some k.now ∷ os) (some_keys keys)

pub twice_found : (schema : plain.Schema) (place : ℕ) (rows : List plain.Row) (lines : List plain.Opened) (keys lent : List (Bor Cell)) → schema.valid ≡ false → place ≡ schema.key → lent ≡ keys → map (λ (k : Bor Cell). Some k.now) keys ≡ map (λ (o : plain.Opened). slice_get o.cells place) lines
    → key_fault false schema.key rows 2 [] (map (λ k. k.now) lent) ≡ conflict_fault schema 2 [] lines
twice_found schema place rows lines keys lent off at same e =
    ap (λ ks. key_fault false schema.key rows 2 [] (map (λ (k : Bor Cell). k.now) ks)) same
    ∙ keys_conflict schema schema.key rows 2 [] [] lines (map (λ (k : Bor Cell). k.now) keys) off refl (some_keys keys ∙ (e ∙ ap (λ n. map (λ (o : plain.Opened). slice_get o.cells n) lines) at))
