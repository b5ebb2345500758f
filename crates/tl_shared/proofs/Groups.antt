-- Items changed chunk by chunk.
use Rattle.std.proofs.Common.{◌≡◌, ℕ, suc, ◌+◌, ◌*◌, ◌/◌, ◌%◌, ◌<◌, List, [], ◌∷◌, length, get_or, set, take, drop, All, sym, ap, ◌∙◌, arith, refl, zero}
use Rattle.std.proofs.lemmas.List.{length-set, take_more, take-append-drop}
use Rattle.std.proofs.lemmas.List.Elements.{All-take, All-drop}
use Rattle.std.proofs.lemmas.List.Sums.{fold-append}
use Rattle.tl_shared.specs.Chunks.{flatten, IsChunked, piece_or_nil, set_each, set_within}
use Rattle.std.proofs.Math.Nat.{div-add-mod, mod-lt}
use Rattle.tl_shared.proofs.Pieces.{chunked_set, piece_within, place_within, with_list}

pub length-set_each : {X : Type 0} (x : X) (xs : List X) (places : List ℕ) → length (set_each x xs places) ≡ length xs
length-set_each x xs [] = refl
length-set_each x xs (p ∷ ps) = length-set_each x (set xs p x) ps ∙ length-set xs p x

pub length-set_within : {X : Type 0} (size : ℕ) (x : X) (xs : List X) (places : List ℕ) → length (set_within size x xs places) ≡ length xs
length-set_within size x xs [] = refl
length-set_within size x xs (p ∷ ps) = length-set_within size x (set xs (p % size) x) ps ∙ length-set xs (p % size) x

set_twice : {X : Type 0} (xs : List X) (i : ℕ) (x y : X) → set (set xs i x) i y ≡ set xs i y
set_twice [] i x y = refl
set_twice (w ∷ xs) zero x y = refl
set_twice (w ∷ xs) (suc i) x y = ap (λ t. w ∷ t) (set_twice xs i x y)

set_read : {X : Type 0} (xs : List X) (i : ℕ) (d : X) → set xs i (get_or xs i d) ≡ xs
set_read [] i d = refl
set_read (w ∷ xs) zero d = refl
set_read (w ∷ xs) (suc i) d = ap (λ t. w ∷ t) (set_read xs i d)

read_set : {X : Type 0} (xs : List X) (i : ℕ) (x d : X) → i < length xs → get_or (set xs i x) i d ≡ x
read_set [] i x d h = absurd (omega arith)
read_set (w ∷ xs) zero x d h = refl
read_set (w ∷ xs) (suc i) x d h = read_set xs i x d (omega arith)

-- a place by its chunk and its place there
pub whole_place : (size i p : ℕ) → p / size ≡ i → size * i + p % size ≡ p
whole_place size i p here = ap (λ q. size * q + p % size) (sym here) ∙ div-add-mod p size

-- one chunk with the item at places of it
pub group_list : {X : Type 0} (size : ℕ) (ds : List (List X)) (i : ℕ) (x : X) (places : List ℕ) → 0 < size → IsChunked size ds → All (λ p. p < length (flatten ds)) places → All (λ p. p / size ≡ i) places → flatten (set ds i (set_within size x (piece_or_nil i ds) places)) ≡ set_each x (flatten ds) places
group_list size ds i x [] some chunked small inside = ap flatten (set_read ds i [])
group_list size ds i x (p ∷ ps) some chunked small inside =
    let here : p / size ≡ i = inside 0 0 (omega arith) in
    let low : p < length (flatten ds) = small 0 0 (omega arith) in
    let r = p % size in
    let in_chunk : r < size = mod-lt p some in
    let place : size * i + r ≡ p = whole_place size i p here in
    let at : size * i + r < length (flatten ds) = omega (arith, place, low) in
    let one = set (piece_or_nil i ds) r x in
    let there : i < length ds = piece_within size ds (flatten ds) chunked refl i r at in
    let listed : flatten (set ds i one) ≡ set (flatten ds) p x = with_list size ds (flatten ds) chunked refl i r x in_chunk at ∙ ap (λ n. set (flatten ds) n x) place in
    let again : IsChunked size (set ds i one) = chunked_set size ds i one chunked (length-set (piece_or_nil i ds) r x) in
    let same : piece_or_nil i (set ds i one) ≡ one = read_set ds i one [] there in
    let later = group_list size (set ds i one) i x ps some again (λ k d h. rw (listed, length-set (flatten ds) p x) (small (suc k) d (omega arith))) (λ k d h. inside (suc k) d (omega arith)) in
    let inner = set_within size x one ps in
    ap flatten (sym (set_twice ds i one inner)) ∙ ap (λ t. flatten (set (set ds i one) i (set_within size x t ps))) (sym same) ∙ later ∙ ap (λ t. set_each x t ps) listed

pub group_chunked : {X : Type 0} (size : ℕ) (ds : List (List X)) (i : ℕ) (x : X) (places : List ℕ) → IsChunked size ds → IsChunked size (set ds i (set_within size x (piece_or_nil i ds) places))
group_chunked size ds i x places chunked =
    chunked_set size ds i (set_within size x (piece_or_nil i ds) places) chunked (length-set_within size x (piece_or_nil i ds) places)

-- one more item set within a chunk
pub within_more : {X : Type 0} (size : ℕ) (x : X) (xs : List X) (places : List ℕ) (i d : ℕ) → i < length places → set_within size x xs (take (i + 1) places) ≡ set (set_within size x xs (take i places)) (get_or places i d % size) x
within_more size x xs places i d h =
    ap (set_within size x xs) (take_more places i d h)
    ∙ fold-append (λ items place. set items (place % size) x) xs (take i places) (get_or places i d ∷ [])

-- the places of a group are within their chunk
pub group_within : {X : Type 0} (size : ℕ) (ds : List (List X)) (rest front : List ℕ) (n i : ℕ) → 0 < size → IsChunked size ds → All (λ p. p < length (flatten ds)) rest → All (λ p. p / size ≡ i) (take n rest) → front ≡ take n rest → All (λ p. p % size < length (piece_or_nil i ds)) front
group_within size ds rest front n i some chunked small inside is = rw is (λ k d h.
    let p = get_or (take n rest) k d in
    let low : p < length (flatten ds) = All-take (λ q. q < length (flatten ds)) n rest small k d h in
    let here : p / size ≡ i = inside k d h in
    let at : size * i + p % size < length (flatten ds) = omega (arith, whole_place size i p here, low) in
    place_within size ds (flatten ds) chunked refl i (p % size) (mod-lt p some) at)

-- one chunk more with the item at its places
pub group_step : {X : Type 0} (size : ℕ) (ds new : List (List X)) (x : X) (rest front back : List ℕ) (n i : ℕ) (whole : List X) → 0 < size → IsChunked size ds → All (λ p. p < length (flatten ds)) rest → All (λ p. p / size ≡ i) (take n rest) → front ≡ take n rest → back ≡ drop n rest → new ≡ set ds i (set_within size x (piece_or_nil i ds) front) → set_each x (flatten ds) rest ≡ whole → (set_each x (flatten new) back ≡ whole) × IsChunked size new × All (λ p. p < length (flatten new)) back
group_step size ds new x rest front back n i whole some chunked small inside is_front is_back is_new is_whole =
    let low : All (λ p. p < length (flatten ds)) (take n rest) = All-take (λ q. q < length (flatten ds)) n rest small in
    let high : All (λ p. p < length (flatten ds)) (drop n rest) = All-drop (λ q. q < length (flatten ds)) n rest small in
    let made : new ≡ set ds i (set_within size x (piece_or_nil i ds) (take n rest)) = rw is_front at is_new in
    let listed : flatten new ≡ set_each x (flatten ds) (take n rest) = ap flatten made ∙ group_list size ds i x (take n rest) some chunked low inside in
    let long : length (flatten new) ≡ length (flatten ds) = ap length listed ∙ length-set_each x (flatten ds) (take n rest) in
    let joined : set_each x (flatten ds) rest ≡ set_each x (set_each x (flatten ds) (take n rest)) (drop n rest) =
    ap (set_each x (flatten ds)) (sym (take-append-drop n rest)) ∙ fold-append (λ items place. set items place x) (flatten ds) (take n rest) (drop n rest) in (
      ap (set_each x (flatten new)) is_back ∙ ap (λ t. set_each x t (drop n rest)) listed ∙ sym joined ∙ is_whole,
      rw made (group_chunked size ds i x (take n rest) chunked),
      rw (is_back, long) high,
    )
