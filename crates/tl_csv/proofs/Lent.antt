-- Blocks that are lent, and those of them that stand in one text.
use Rattle.std.proofs.Common.{◌≡◌, ℕ, zero, suc, ◌+◌, ◌<◌, length, Bool, true, false, List, [], ◌∷◌, ◌++◌, Some, None, refl, sym, ap, ◌∙◌, subst, arith, drop, take, get_or, append_assoc, slice_get, cond}
use Rattle.std.specs.Borrow.{Bor}
use Rattle.std.specs.List.{flat_map}
use Rattle.std.proofs.lemmas.List.{map-append, take_more}
use Rattle.tl_csv.specs.declared.lent_blocks.LentBlock.{LentBlock}
use Rattle.tl_csv.specs.declared.reading.BlockRecords.{BlockRecords}
use Rattle.tl_csv.specs.BlockRecords.{IsBefore, IsBlock, behind_block}
use Rattle.tl_csv.specs.LentBlocks.{block_at, bytes_of, plain_of}
use Rattle.tl_csv.specs.Separators.{separated_text, separator, AreOfBlocks, ArePlain, IsPlain}
use Rattle.tl_csv.proofs.SeparatorLemmas.{first_block}

-- one more block
put_more : (block : List ℕ) (t : Bool) (all more alone : List (List ℕ)) → more ≡ all ++ alone → cond t (block ∷ more) more ≡ cond t (block ∷ all) all ++ alone
put_more block true all more alone h = ap (λ z. block ∷ z) h
put_more block false all more alone h = h

plain_more : (xs : List LentBlock) (x : LentBlock) → plain_of (xs ++ x ∷ []) ≡ plain_of xs ++ plain_of (x ∷ [])
plain_more [] x = refl
plain_more (y ∷ xs) x = put_more y.bytes.now y.is_plain (plain_of xs) (plain_of (xs ++ x ∷ [])) (plain_of (x ∷ [])) (plain_more xs x)

are_plain_more : (xs ys : List (List ℕ)) → ArePlain xs → ArePlain ys → ArePlain (xs ++ ys)
are_plain_more [] ys h g = g
are_plain_more (x ∷ xs) ys h g = (h.0, are_plain_more xs ys h.1 g)

is_plain_alone : (x : LentBlock) (t : Bool) → (t ≡ true → IsPlain x.bytes.now) → ArePlain (cond t (x.bytes.now ∷ []) [])
is_plain_alone x true h = (h refl, tt)
is_plain_alone x false h = tt

pub plain_behind : (xs ys : List LentBlock) (x : LentBlock) → ys ≡ xs ++ x ∷ [] → ArePlain (plain_of xs) → (x.is_plain ≡ true → IsPlain x.bytes.now) → ArePlain (plain_of ys)
plain_behind xs ys x e h plain = rw (e, plain_more xs x) (are_plain_more (plain_of xs) (plain_of (x ∷ [])) h (is_plain_alone x x.is_plain plain))

pub bytes_behind : (xs ys : List LentBlock) (x : LentBlock) → ys ≡ xs ++ x ∷ [] → bytes_of ys ≡ bytes_of xs ++ x.bytes.now ∷ []
bytes_behind xs ys x e = rw e (map-append (λ b. b.bytes.now) xs (x ∷ []))

-- the block at a place, and those behind it
drop_at : (xs : List LentBlock) (p : ℕ) (x : LentBlock) → slice_get xs p ≡ Some x → (drop p xs ≡ x ∷ drop (p + 1) xs) × (block_at (bytes_of xs) p ≡ x.bytes.now)
drop_at [] p x h = absurd (cc)
drop_at (y ∷ xs) zero x h = let same : y ≡ x = cc in (ap (λ z. z ∷ xs) same, ap (λ z. z.bytes.now) same)
drop_at (y ∷ xs) (suc p) x h =
    let more : suc p + 1 ≡ suc (p + 1) = omega arith in
    let behind = drop_at xs p x h in
    (rw more behind.0, behind.1)

pub plain_at : (xs : List LentBlock) (p : ℕ) (x : LentBlock) → slice_get xs p ≡ Some x → x.is_plain ≡ true → plain_of (drop p xs) ≡ block_at (bytes_of xs) p ∷ plain_of (drop (p + 1) xs)
plain_at xs p x h is =
    let (at, block) = drop_at xs p x h in
    rw (at, is, block) refl

pub passed_at : (xs : List LentBlock) (p : ℕ) (x : LentBlock) → slice_get xs p ≡ Some x → x.is_plain ≡ false → plain_of (drop p xs) ≡ plain_of (drop (p + 1) xs)
passed_at xs p x h not =
    let (at, block) = drop_at xs p x h in
    rw (at, not) refl

-- behind the last block there is none
none_at : (xs : List LentBlock) (p : ℕ) → slice_get xs p ≡ None → (drop p xs ≡ []) × (drop (p + 1) xs ≡ [])
none_at [] zero h = (refl, refl)
none_at [] (suc p) h = let more : suc p + 1 ≡ suc (p + 1) = omega arith in rw more (refl, refl)
none_at (x ∷ xs) zero h = absurd (cc)
none_at (x ∷ xs) (suc p) h = let more : suc p + 1 ≡ suc (p + 1) = omega arith in rw more (none_at xs p h)

pub past_at : (xs : List LentBlock) (p : ℕ) → slice_get xs p ≡ None → plain_of (drop p xs) ≡ plain_of (drop (p + 1) xs)
past_at xs p h =
    let (at, behind) = none_at xs p h in
    rw (at, behind) refl

-- what is known of a place by whether its block stands in the text
pub ruleset places = (plain_at, passed_at, past_at)

-- THE FIRST BLOCK

pub first_is : (b : BlockRecords) (all : List (List ℕ)) (block : List ℕ) (rest : List (List ℕ)) → all ≡ block ∷ rest → IsBefore b all → IsBlock b
first_is b all block rest e h = (first_block b block rest (rw e at h)).is

pub first_behind : (b : BlockRecords) (all : List (List ℕ)) (block : List ℕ) (rest : List (List ℕ)) → all ≡ block ∷ rest → IsBefore b all → AreOfBlocks (behind_block b) rest
first_behind b all block rest e h = (first_block b block rest (rw e at h)).behind

pub before_same : (b : BlockRecords) (all others : List (List ℕ)) → all ≡ others → IsBefore b all → IsBefore b others
before_same b all others e h = subst (IsBefore b) e h

pub ruleset first_block_rules = (first_is, first_behind, before_same)

-- the text of one block more
separated_more : (xs ys : List (List ℕ)) → separated_text (xs ++ ys) ≡ separated_text xs ++ separated_text ys
separated_more [] ys = refl
separated_more (x ∷ xs) ys =
    ap (λ text. x ++ (separator ++ text)) (separated_more xs ys)
    ∙ sym (append_assoc x (separator ++ separated_text xs) (separated_text ys))

pieces_next : (blocks : List LentBlock) (i : ℕ) (d : LentBlock) → i < length blocks → separated_text (plain_of (take (i + 1) blocks)) ≡ separated_text (plain_of (take i blocks)) ++ separated_text (plain_of (get_or blocks i d ∷ []))
pieces_next blocks i d within =
    rw (take_more blocks i d within, plain_more (take i blocks) (get_or blocks i d)) (separated_more (plain_of (take i blocks)) (plain_of (get_or blocks i d ∷ [])))

pub pieces_more : (pieces new : List (Bor (List ℕ))) (blocks : List LentBlock) (i : ℕ) (d : LentBlock) → i < length blocks → flat_map (λ p. p.now) new ≡ flat_map (λ p. p.now) pieces ++ separated_text (plain_of (get_or blocks i d ∷ []))
    → flat_map (λ p. p.now) pieces ≡ separated_text (plain_of (take i blocks)) → flat_map (λ p. p.now) new ≡ separated_text (plain_of (take (i + 1) blocks))
pieces_more pieces new blocks i d within h before = h ∙ (rw before (sym (pieces_next blocks i d within)))
