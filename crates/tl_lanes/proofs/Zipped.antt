-- Two lists combined item by item, one part after another.
use Rattle.std.proofs.Common.{◌≡◌, ℕ, ◌+◌, ◌≤◌, List, [], ◌∷◌, ◌++◌, length, take, drop, map, refl, sym, ◌∙◌, ap, arith}
use Rattle.std.proofs.lemmas.List.{drop_at, drop-drop, take-append-drop, length-take-le}
use Rattle.std.proofs.Math.Seq.{take-add}
use Rattle.std.proofs.lemmas.Simd.{take_more_put_chunk, put_chunk_is, length-zip2, length-chunk}
use Rattle.std.specs.Simd.Lanes.{zip2, chunk, put_chunk}
use Rattle.std.specs.Int.{bit_not, w64}
use Rattle.std.specs.Prelude.{bit_and}
use Rattle.tl_lanes.specs.Words.{and_not}

-- the complement may be taken item by item
pub zip2_and_not : (xs ys : List ℕ) → zip2 bit_and xs (map (bit_not w64) ys) ≡ zip2 and_not xs ys
zip2_and_not [] ys = refl
zip2_and_not (x ∷ xs) [] = refl
zip2_and_not (x ∷ xs) (y ∷ ys) = ap (λ zs. and_not x y ∷ zs) (zip2_and_not xs ys)

-- of two parts
pub zip2-append : {X Y Z : Type 0} (f : X → Y → Z) → (xs ws : List X) (ys vs : List Y) → length xs ≡ length ys
    → zip2 f (xs ++ ws) (ys ++ vs) ≡ zip2 f xs ys ++ zip2 f ws vs
zip2-append f [] ws [] vs same = refl
zip2-append f [] ws (y ∷ ys) vs same = absurd (omega arith)
zip2-append f (x ∷ xs) ws [] vs same = absurd (omega arith)
zip2-append f (x ∷ xs) ws (y ∷ ys) vs same = ap (λ zs. f x y ∷ zs) (zip2-append f xs ws ys vs (omega arith))

-- one part more
pub zip2_part : {X Y Z : Type 0} (f : X → Y → Z) → (xs : List X) (ys : List Y) (i n : ℕ) → length ys ≡ length xs → i ≤ length xs
    → zip2 f (take i xs) (take i ys) ++ zip2 f (take n (drop i xs)) (take n (drop i ys)) ≡ zip2 f (take (i + n) xs) (take (i + n) ys)
zip2_part f xs ys i n same within =
    let here : length (take i xs) ≡ length (take i ys) = length-take-le i xs within ∙ sym (length-take-le i ys (omega arith)) in
    rw (take-add i n xs, take-add i n ys) (sym (zip2-append f (take i xs) (take n (drop i xs)) (take i ys) (take n (drop i ys)) here))

-- the part from `i` on
pub zip2_rest : {X Y Z : Type 0} (f : X → Y → Z) → (xs : List X) (ys : List Y) (i : ℕ) → length ys ≡ length xs → i ≤ length xs
    → zip2 f (take i xs) (take i ys) ++ zip2 f (drop i xs) (drop i ys) ≡ zip2 f xs ys
zip2_rest f xs ys i same within =
    let here : length (take i xs) ≡ length (take i ys) = length-take-le i xs within ∙ sym (length-take-le i ys (omega arith)) in
    let both = zip2-append f (take i xs) (drop i xs) (take i ys) (drop i ys) here in
    let left = take-append-drop i xs in
    let right = take-append-drop i ys in
    sym both ∙ rw (left, right) refl

-- a vector of items written over a list leaves what is behind it
pub drop_behind_chunk : {X : Type 0} (xs ws : List X) (i n : ℕ) → length ws ≡ n → i + n ≤ length xs → drop (i + n) (put_chunk i xs ws) ≡ drop (i + n) xs
drop_behind_chunk xs ws i n long within =
    let front : length (take i xs) ≡ i = length-take-le i xs (omega arith) in
    let whole = put_chunk_is i xs ws (omega arith) in
    let behind = drop_at (take i xs) (ws ++ drop (length ws) (drop i xs)) i front in
    let last = drop_at ws (drop (length ws) (drop i xs)) n long in
    sym (drop-drop n i (put_chunk i xs ws)) ∙ ap (λ l. drop n (drop i l)) whole ∙ ap (drop n) behind ∙ last
    ∙ ap (λ k. drop k (drop i xs)) long ∙ drop-drop n i xs

-- the items are combined up to `i`, and those behind are as they were
pub record CombinedTo (f : ℕ → ℕ → ℕ) (old new ys : List ℕ) (i : ℕ) : Type 0 where
  pub within : i ≤ length old
  pub front : take i new ≡ zip2 f (take i old) (take i ys)
  pub back : drop i new ≡ drop i old

pub combined_lanes : (f : ℕ → ℕ → ℕ) (old new ys : List ℕ) (i n : ℕ) → length new ≡ length old → length ys ≡ length old → i + n ≤ length old
    → CombinedTo f old new ys i → CombinedTo f old (put_chunk i new (zip2 f (chunk i n new) (chunk i n ys))) ys (i + n)
combined_lanes f old new ys i n same others within so_far =
    let long : length (zip2 f (chunk i n new) (chunk i n ys)) ≡ n =
    length-zip2 f (chunk i n new) (chunk i n ys) (length-chunk i n new (omega arith) ∙ sym (length-chunk i n ys (omega arith)))
    ∙ length-chunk i n new (omega arith) in
    let put = take_more_put_chunk i new (zip2 f (chunk i n new) (chunk i n ys)) (i + n) (omega arith) (omega arith) in
    let back = so_far.back in
    let front = so_far.front in record {
      within = within;
      front = put ∙ ap (λ zs. zs ++ zip2 f (chunk i n new) (chunk i n ys)) front
          ∙ ap (λ ws. zip2 f (take i old) (take i ys) ++ zip2 f (take n ws) (chunk i n ys)) back
          ∙ zip2_part f old ys i n others (omega arith);
      back = drop_behind_chunk new (zip2 f (chunk i n new) (chunk i n ys)) i n long (omega arith)
          ∙ sym (drop-drop n i new) ∙ ap (drop n) back ∙ drop-drop n i old;
    }

-- what is combined up to `i`, and the rest of it then
pub combined_all : (f : ℕ → ℕ → ℕ) (old new last ys : List ℕ) (i : ℕ) → length ys ≡ length old → i ≤ length old
    → take i new ≡ zip2 f (take i old) (take i ys) → drop i new ≡ drop i old
    → last ≡ take i new ++ zip2 f (drop i new) (drop i ys) → last ≡ zip2 f old ys
combined_all f old new last ys i same within front back end =
    end ∙ ap (λ zs. zs ++ zip2 f (drop i new) (drop i ys)) front
    ∙ ap (λ zs. zip2 f (take i old) (take i ys) ++ zip2 f zs (drop i ys)) back ∙ zip2_rest f old ys i same within
