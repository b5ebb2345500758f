-- Pieces of a list, each of `size` items but for the last, which has 1 to `size`.
use Rattle.std.proofs.Common.{◌≡◌, ℕ, ◌+◌, ◌-◌, ◌*◌, ◌/◌, ◌%◌, ◌<◌, ◌≤◌, zero, suc, min, List, [], ◌∷◌, ◌++◌, length, get_or, set, take, drop, sym, ap, subst, ◌∙◌, arith, append_assoc, length-append}
use Rattle.std.proofs.Math.Nat.{div-add-mod, mod-lt, mul-mod_right}
use Rattle.std.proofs.lemmas.List.{length-set, append-nil, take-append-drop, drop-drop, drop-take, drop_at, take_at, take_all, drop_all, length-take, length-drop, get_or-take, get_or-drop, set-append_left, set-append_right}
use Rattle.std.proofs.lemmas.Grind.{flat_map-append}
use Rattle.tl_shared.specs.Chunks.{flatten, AreFull, IsChunked, piece_or_nil}

-- the two parts of a list that was split
pub rejoin : {X : Type 0} (n : ℕ) (xs front behind : List X) → front ≡ take n xs → behind ≡ drop n xs → front ++ behind ≡ xs
rejoin n xs front behind p q = rw (p, q) (take-append-drop n xs)

-- the piece that was read at a place
pub same_piece : {X : Type 0} (ds : List (List X)) (i : ℕ) (d : List X) → i < length ds → d ≡ get_or ds i d → d ≡ piece_or_nil i ds
same_piece [] i d h is = absurd (omega arith)
same_piece (c ∷ ds) zero d h is = is
same_piece (c ∷ ds) (suc i) d h is = same_piece ds i d (omega arith) is

module _ {X : Type 0} (size : ℕ) where
  -- one more full piece
  pub full_more : (ds : List (List X)) (c : List X) → AreFull size ds → length c ≡ size → AreFull size (ds ++ c ∷ [])
  full_more [] c h e = (e, tt)
  full_more (d ∷ ds) c h e = (h.0, full_more ds c h.1 e)

  -- one more piece behind full ones
  pub piece_more : (ds : List (List X)) (c : List X) → AreFull size ds → 0 < length c → length c ≤ size → IsChunked size (ds ++ c ∷ [])
  piece_more [] c h some most = (some, most)
  piece_more (d ∷ []) c h some most = (h.0, (some, most))
  piece_more (d ∷ e ∷ ds) c h some most = (h.0, piece_more (e ∷ ds) c h.1 some most)

  pub flatten_more : (ds : List (List X)) (c : List X) → flatten (ds ++ c ∷ []) ≡ flatten ds ++ c
  flatten_more ds c = flat_map-append (λ piece. piece) ds (c ∷ []) ∙ ap (λ t. flatten ds ++ t) (append-nil c)

  -- behind a full piece the places are those of the rest
  skip_piece : (c rest : List X) (i : ℕ) → length c ≡ size → drop (size * suc i) (c ++ rest) ≡ drop (size * i) rest
  skip_piece c rest i e =
      let more : size * suc i ≡ size + size * i = omega arith in
      ap (λ n. drop n (c ++ rest)) more ∙ sym (drop-drop (size * i) size (c ++ rest)) ∙ ap (λ t. drop (size * i) t) (drop_at c rest size e)

  abbrev nothing : List X
  nothing = []

  drop_nothing : (n : ℕ) → drop n nothing ≡ nothing
  drop_nothing n = drop_all n nothing (omega arith)

  take_nothing : (n : ℕ) → take n nothing ≡ nothing
  take_nothing n = take_all n nothing (omega arith)

  -- piece `i` is what stands from place `size * i` on
  pub piece_at : (ds : List (List X)) (i : ℕ) → IsChunked size ds → piece_or_nil i ds ≡ take size (drop (size * i) (flatten ds))
  piece_at [] i h = sym (ap (λ t. take size t) (drop_nothing (size * i)) ∙ take_nothing size)
  piece_at (c ∷ []) zero h =
      let none : size * 0 ≡ 0 = omega arith in
      sym (ap (λ n. take size (drop n (c ++ []))) none ∙ ap (λ t. take size t) (append-nil c) ∙ take_all size c h.1)
  piece_at (c ∷ []) (suc i) h =
      let past : length (c ++ []) ≤ size * suc i = omega (arith, length-append c [], h.1) in
      sym (ap (λ t. take size t) (drop_all (size * suc i) (c ++ []) past) ∙ take_nothing size)
  piece_at (c ∷ d ∷ ds) zero h =
      let none : size * 0 ≡ 0 = omega arith in
      sym (ap (λ n. take size (drop n (c ++ flatten (d ∷ ds)))) none ∙ take_at c (flatten (d ∷ ds)) size h.0)
  piece_at (c ∷ d ∷ ds) (suc i) h =
      piece_at (d ∷ ds) i h.1 ∙ sym (ap (λ t. take size t) (skip_piece c (flatten (d ∷ ds)) i h.0))

  -- a piece is there where its first place is, and where all places before it are taken
  pub piece_there : (ds : List (List X)) (i : ℕ) → IsChunked size ds → size * i < length (flatten ds) → i < length ds
  piece_there [] i h low = absurd (omega arith)
  piece_there (c ∷ ds) zero h low = omega arith
  piece_there (c ∷ []) (suc i) h low = absurd (omega (arith, length-append c [], h.1))
  piece_there (c ∷ d ∷ ds) (suc i) h low =
      let later = piece_there (d ∷ ds) i h.1 (omega (arith, length-append c (flatten (d ∷ ds)), h.0)) in omega arith

  -- a changed item in one piece is one in the list
  pub flatten_set : (ds : List (List X)) (i j : ℕ) (x : X) → IsChunked size ds → i < length ds → j < length (piece_or_nil i ds) → flatten (set ds i (set (piece_or_nil i ds) j x)) ≡ set (flatten ds) (size * i + j) x
  flatten_set [] i j x h le lt = absurd (omega arith)
  flatten_set (c ∷ ds) zero j x h le lt =
      let place : size * 0 + j ≡ j = omega arith in
      sym (ap (λ n. set (c ++ flatten ds) n x) place ∙ set-append_left c (flatten ds) j x lt)
  flatten_set (c ∷ []) (suc i) j x h le lt = absurd (omega arith)
  flatten_set (c ∷ d ∷ ds) (suc i) j x h le lt =
      let rest : List X = flatten (d ∷ ds) in
      let place : (size * suc i + j) - size ≡ size * i + j = omega arith in
      ap (λ t. c ++ t) (flatten_set (d ∷ ds) i j x h.1 (omega arith) lt)
      ∙ sym (set-append_right c rest size (size * suc i + j) x h.0 (omega arith) ∙ ap (λ n. c ++ set rest n x) place)

  -- a piece of the same length in place of one keeps the pieces' lengths
  pub chunked_set : (ds : List (List X)) (i : ℕ) (c : List X) → IsChunked size ds → length c ≡ length (piece_or_nil i ds) → IsChunked size (set ds i c)
  chunked_set [] i c h e = tt
  chunked_set (d ∷ []) zero c h e = (omega (arith, h.0), omega (arith, h.1))
  chunked_set (d ∷ []) (suc i) c h e = h
  chunked_set (d ∷ f ∷ ds) zero c h e = (e ∙ h.0, h.1)
  chunked_set (d ∷ f ∷ ds) (suc zero) c h e = (h.0, chunked_set (f ∷ ds) zero c h.1 e)
  chunked_set (d ∷ f ∷ ds) (suc (suc i)) c h e = (h.0, chunked_set (f ∷ ds) (suc i) c h.1 e)

-- a list that is kept in pieces
module _ {X : Type 0} (size : ℕ) (ds : List (List X)) (xs : List X) (chunked : IsChunked size ds) (is : flatten ds ≡ xs) where
  -- piece `q` of the list
  pub piece_is : (q : ℕ) → piece_or_nil q ds ≡ take size (drop (size * q) xs)
  piece_is q = piece_at size ds q chunked ∙ ap (λ t. take size (drop (size * q) t)) is

  pub piece_len : (q : ℕ) → length (piece_or_nil q ds) ≡ min size (length xs - size * q)
  piece_len q =
      ap length (piece_is q) ∙ length-take size (drop (size * q) xs) ∙ ap (λ n. min size n) (length-drop (size * q) xs)

  -- an item by its piece and its place there
  pub item_at : (q r : ℕ) (d : X) → r < size → get_or (piece_or_nil q ds) r d ≡ get_or xs (size * q + r) d
  item_at q r d h =
      ap (λ t. get_or t r d) (piece_is q)
      ∙ get_or-take size (drop (size * q) xs) r d h
      ∙ get_or-drop (size * q) xs r d

  pub piece_within : (q r : ℕ) → size * q + r < length xs → q < length ds
  piece_within q r h = piece_there size ds q chunked (omega (arith, ap length is))

  pub place_within : (q r : ℕ) → r < size → size * q + r < length xs → r < length (piece_or_nil q ds)
  place_within q r low h = omega (arith, piece_len q)

  -- the items of piece `q` from a place of it on
  pub piece_from : (q r at : ℕ) → r ≤ size → size * q + r ≡ at → drop r (piece_or_nil q ds) ≡ take (size - r) (drop at xs)
  piece_from q r at low place =
      let split : r + (size - r) ≡ size = omega arith in
      ap (drop r) (piece_is q ∙ ap (λ n. take n (drop (size * q) xs)) (sym split))
      ∙ drop-take r (size - r) (drop (size * q) xs)
      ∙ ap (take (size - r)) (drop-drop r (size * q) xs ∙ ap (λ n. drop n xs) place)

  -- the list with one item changed
  pub with_list : (q r : ℕ) (x : X) → r < size → size * q + r < length xs → flatten (set ds q (set (piece_or_nil q ds) r x)) ≡ set xs (size * q + r) x
  with_list q r x low h =
      flatten_set size ds q r x chunked (piece_within q r h) (place_within q r low h)
      ∙ ap (λ t. set t (size * q + r) x) is

-- a piece in a block of pieces, where blocks have `size` pieces
module _ {X : Type 0} (size : ℕ) (bs : List (List (List X))) (cs : List (List X)) (chunked : IsChunked size bs) (is : flatten bs ≡ cs) (some : 0 < size) (i : ℕ) (there : i < length cs) (block : List (List X)) (block_is : block ≡ get_or bs (i / size) block) where
  place : size * (i / size) + i % size ≡ i
  place = div-add-mod i size

  low : size * (i / size) + i % size < length cs
  low = omega (arith, place, there)

  -- the block is there
  pub block_there : i / size < length bs
  block_there = piece_within size bs cs chunked is (i / size) (i % size) low

  whole : block ≡ piece_or_nil (i / size) bs
  whole = same_piece bs (i / size) block block_there block_is

  -- the piece is there in its block
  pub chunk_there : i % size < length block
  chunk_there = omega (arith, ap length whole, place_within size bs cs chunked is (i / size) (i % size) (mod-lt i some) low)

  -- the piece by its place in its block
  pub chunk_is : piece_or_nil (i % size) block ≡ piece_or_nil i cs
  chunk_is =
      ap (piece_or_nil (i % size)) whole
      ∙ item_at size bs cs chunked is (i / size) (i % size) [] (mod-lt i some)
      ∙ ap (λ n. piece_or_nil n cs) place

  -- the block with another piece in that place
  module _ (new : List (List X)) (one : List X) (set_there : new ≡ set block (i % size) one) where
    pub block_chunked : IsChunked size (set bs (i / size) new)
    block_chunked = chunked_set size bs (i / size) new chunked (ap length set_there ∙ length-set block (i % size) one ∙ ap length whole)

    pub block_list : flatten (set bs (i / size) new) ≡ set cs i one
    block_list =
        ap (λ b. flatten (set bs (i / size) b)) (set_there ∙ ap (λ b. set b (i % size) one) whole)
        ∙ with_list size bs cs chunked is (i / size) (i % size) one (mod-lt i some) low
        ∙ ap (λ n. set cs n one) place

-- items behind those of the last piece
module _ {X : Type 0} (size : ℕ) (more : List X) where
  extend_list : (ds : List (List X)) (i : ℕ) → IsChunked size ds → length (flatten ds) < size * suc i → i < length ds → flatten (set ds i (piece_or_nil i ds ++ more)) ≡ flatten ds ++ more
  extend_list [] i h short there = absurd (omega arith)
  extend_list (c ∷ []) zero h short there = append-nil (c ++ more) ∙ ap (λ t. t ++ more) (sym (append-nil c))
  extend_list (c ∷ []) (suc i) h short there = absurd (omega arith)
  extend_list (c ∷ d ∷ ds) zero h short there = absurd (omega (arith, length-append c (flatten (d ∷ ds)), h.0))
  extend_list (c ∷ d ∷ ds) (suc i) h short there =
      let rest : List X = flatten (d ∷ ds) in
      let less : length rest < size * suc i = omega (arith, length-append c rest, h.0) in
      ap (λ t. c ++ t) (extend_list (d ∷ ds) i h.1 less (omega arith)) ∙ sym (append_assoc c rest more)

  extend_chunked : (ds : List (List X)) (i : ℕ) → IsChunked size ds → length (flatten ds) < size * suc i → i < length ds → length (piece_or_nil i ds) + length more ≤ size → IsChunked size (set ds i (piece_or_nil i ds ++ more))
  extend_chunked [] i h short there room = absurd (omega arith)
  extend_chunked (c ∷ []) zero h short there room = (omega (arith, length-append c more, h.0), omega (arith, length-append c more, room))
  extend_chunked (c ∷ []) (suc i) h short there room = absurd (omega arith)
  extend_chunked (c ∷ d ∷ ds) zero h short there room = absurd (omega (arith, length-append c (flatten (d ∷ ds)), h.0))
  extend_chunked (c ∷ d ∷ ds) (suc zero) h short there room =
      (h.0, extend_chunked (d ∷ ds) zero h.1 (omega (arith, length-append c (flatten (d ∷ ds)), h.0)) (omega arith) room)
  extend_chunked (c ∷ d ∷ ds) (suc (suc i)) h short there room =
      (h.0, extend_chunked (d ∷ ds) (suc i) h.1 (omega (arith, length-append c (flatten (d ∷ ds)), h.0)) (omega arith) room)

  -- the list that has `len` items, of which the last piece is not full
  module _ (ds : List (List X)) (xs : List X) (chunked : IsChunked size ds) (is : flatten ds ≡ xs) (some : 0 < size) (len : ℕ) (len_is : len ≡ length xs) (begun : 0 < len % size) (fits : len % size + length more ≤ size) where
    abbrev pub last : ℕ
    last = len / size

    parts : size * last + len % size ≡ len
    parts = div-add-mod len size

    pub last_there : last < length ds
    last_there = piece_within size ds xs chunked is last 0 (omega (arith, parts, len_is, begun))

    short : length (flatten ds) < size * suc last
    short = omega (arith, ap length is, parts, len_is, mod-lt len some)

    last_len : length (piece_or_nil last ds) ≡ len % size
    last_len = omega (arith, piece_len size ds xs chunked is last, parts, len_is, mod-lt len some)

    pub last_room : length (piece_or_nil last ds) + length more ≤ size
    last_room = omega (arith, last_len, fits)

    pub last_list : flatten (set ds last (piece_or_nil last ds ++ more)) ≡ xs ++ more
    last_list = extend_list ds last chunked short last_there ∙ ap (λ t. t ++ more) is

    pub last_chunked : IsChunked size (set ds last (piece_or_nil last ds ++ more))
    last_chunked = extend_chunked ds last chunked short last_there last_room

-- one piece more behind others
pub record IsPushed {X : Type 0} (size : ℕ) (old new : List (List X)) (more : List X) : Type 0 where
  pub list : flatten new ≡ flatten old ++ more
  pub chunked : IsChunked size new

module _ {X : Type 0} (size : ℕ) where
  -- those before the last one are full
  before_last : (ds : List (List X)) (c : List X) → IsChunked size (ds ++ c ∷ []) → AreFull size ds
  before_last [] c h = tt
  before_last (d ∷ []) c h = (h.0, tt)
  before_last (d ∷ e ∷ ds) c h = (h.0, before_last (e ∷ ds) c h.1)

  the_last : (ds : List (List X)) (c : List X) → IsChunked size (ds ++ c ∷ []) → (0 < length c) × (length c ≤ size)
  the_last [] c h = h
  the_last (d ∷ []) c h = h.1
  the_last (d ∷ e ∷ ds) c h = the_last (e ∷ ds) c h.1

  -- items behind those of the last piece
  pub pushed_onto : (old rest new : List (List X)) (c longer more : List X) → IsChunked size old → old ≡ rest ++ c ∷ [] → new ≡ rest ++ longer ∷ [] → longer ≡ c ++ more → length c + length more ≤ size → IsPushed size old new more
  pushed_onto old rest new c longer more chunked is made grown room =
      let last = the_last rest c (subst (IsChunked size) is chunked) in
      let long = ap length grown ∙ length-append c more in record {
        list =
            ap flatten made
            ∙ flatten_more size rest longer
            ∙ ap (λ t. flatten rest ++ t) grown
            ∙ sym (append_assoc (flatten rest) c more)
            ∙ ap (λ t. t ++ more) (sym (flatten_more size rest c) ∙ ap flatten (sym is));
        chunked = subst (IsChunked size) (sym made) (piece_more size rest longer (before_last rest c (subst (IsChunked size) is chunked)) (omega (arith, long, last.0)) (omega (arith, long, room)));
      }

  -- a piece behind a last one that is full
  pub pushed_behind : (old rest both new : List (List X)) (c more : List X) → IsChunked size old → old ≡ rest ++ c ∷ [] → both ≡ rest ++ c ∷ [] → new ≡ both ++ more ∷ [] → size ≤ length c → 0 < length more → length more ≤ size → IsPushed size old new more
  pushed_behind old rest both new c more chunked is same made full some most =
      let last = the_last rest c (subst (IsChunked size) is chunked) in
      let all : AreFull size both = subst (AreFull size) (sym same) (full_more size rest c (before_last rest c (subst (IsChunked size) is chunked)) (omega (arith, last.1, full))) in record {
        list = ap flatten made ∙ flatten_more size both more ∙ ap (λ t. flatten t ++ more) (same ∙ sym is);
        chunked = subst (IsChunked size) (sym made) (piece_more size both more all some most);
      }

  -- pieces are full where the last item ends one
  pub all_full : (ds : List (List X)) (n : ℕ) → IsChunked size ds → length (flatten ds) ≡ size * n → AreFull size ds
  all_full [] n h e = tt
  all_full (c ∷ []) zero h e = absurd (omega (arith, length-append c [], h.0, e))
  all_full (c ∷ []) (suc zero) h e = (omega (arith, length-append c [], e), tt)
  all_full (c ∷ []) (suc (suc n)) h e = absurd (omega (arith, length-append c [], h.0, h.1, e))
  all_full (c ∷ d ∷ ds) zero h e = (h.0, all_full (d ∷ ds) zero h.1 (omega (arith, length-append c (flatten (d ∷ ds)), h.0, e)))
  all_full (c ∷ d ∷ ds) (suc n) h e = (h.0, all_full (d ∷ ds) n h.1 (omega (arith, length-append c (flatten (d ∷ ds)), h.0, e)))

  -- pieces of a list that has `len` items, of which the last ends a piece
  pub ends_full : (ds : List (List X)) (len : ℕ) → IsChunked size ds → length (flatten ds) ≡ len → len % size ≡ 0 → AreFull size ds
  ends_full ds len h is whole =
      all_full ds (len / size) h (is ∙ sym (div-add-mod len size) ∙ ap (λ r. size * (len / size) + r) whole ∙ omega arith)

-- what fills up a piece ends it
pub filled_up : (size n : ℕ) → 0 < size → (n + (size - n % size)) % size ≡ 0
filled_up size n some =
    let low = mod-lt n some in
    let parts = div-add-mod n size in
    let all : n + (size - n % size) ≡ size * suc (n / size) = omega (arith, low, parts) in
    ap (λ t. t % size) all ∙ mul-mod_right size (suc (n / size))
