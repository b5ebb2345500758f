-- Lines without a backslash end no block, so what they do together is what they do one by one.
use Rattle.std.proofs.Common.{◌≡◌, ℕ, ◌+◌, ◌-◌, ◌<◌, ◌≤◌, ◌^◌, ◌==◌, zero, suc, Bool, true, false, ◌||◌, min, List, [], ◌∷◌, ◌++◌, length, take, drop, None, refl, ap, sym, ◌∙◌, arith, tests, nat_lt, nat_le, append_assoc, append-nil, length-append, subst, codes}
use Rattle.std.proofs.lemmas.Bool.{ltb-true}
use Rattle.std.proofs.lemmas.Int.{ints, clamps}
use Rattle.std.proofs.lemmas.List.{take-append-drop, length-take-le}
use Rattle.std.proofs.Math.Seq.{take-length}
use Rattle.std.specs.List.{position_or_len, slice_index}
use Rattle.memchr.specs.Find.{Nowhere, NoneBefore, Passes, is_byte}
use Rattle.tl_types.specs.declared.limits.Limits.{Limits}
use Rattle.tl_types.specs.Names.{same_bytes}
use Rattle.tl_script.specs.Script.{without_last, text_of, stands_in, ends_block}
use Rattle.tl_script.specs.Phases.{Place, Inside, Spot, Goes, behind, early_fault, after_line, with_step, reading_from}
use Rattle.tl_script.specs.InHand.{IsNamedPlace}
use Rattle.tl_script.specs.PlainLines.{line_ends, are_lines, ArePlain, behind_plain, HasRoom, PassesLines}
use Rattle.tl_script.proofs.ScriptLemmas.{is_lf}
use Rattle.tl_script.proofs.SpotLemmas.{ReadsRest, first_begins, one_line, stands_in-append}

-- COUNTS OF LINES

few_ends : (bytes : List ℕ) → line_ends bytes ≤ length bytes
few_ends [] = omega arith
few_ends (b ∷ bytes) = by_test (b == 10) refl (few_ends bytes) where
  by_test : (t : Bool) → (b == 10) ≡ t → line_ends bytes ≤ length bytes → line_ends (b ∷ bytes) ≤ length (b ∷ bytes)
  by_test true e h = rw e (omega arith)
  by_test false e h = rw e (omega arith)

ends-append : (xs ys : List ℕ) → line_ends (xs ++ ys) ≡ line_ends xs + line_ends ys
ends-append [] ys = omega arith
ends-append (x ∷ xs) ys = by_test (x == 10) refl (ends-append xs ys) where
  by_test : (t : Bool) → (x == 10) ≡ t → line_ends (xs ++ ys) ≡ line_ends xs + line_ends ys → line_ends ((x ∷ xs) ++ ys) ≡ line_ends (x ∷ xs) + line_ends ys
  by_test true e h = rw e (omega arith)
  by_test false e h = rw e h

-- a run of the bytes that are left, counted
pub run_counted : (bytes rest run after : List ℕ) (count few : ℕ) → count + length rest ≤ length bytes → count + line_ends rest ≡ line_ends bytes → run ≡ take 128 rest → after ≡ drop 128 rest → few ≡ line_ends run
    → ((count + few) + length after ≤ length bytes) × ((count + few) + line_ends after ≡ line_ends bytes)
run_counted bytes rest run after count few within counted r a f =
    let joins : run ++ after ≡ rest = ap (λ xs. xs ++ after) r ∙ (ap (λ xs. take 128 rest ++ xs) a ∙ take-append-drop 128 rest) in
    let len : length run + length after ≡ length rest = sym (length-append run after) ∙ ap length joins in
    let ends : line_ends run + line_ends after ≡ line_ends rest = sym (ends-append run after) ∙ ap line_ends joins in
    (omega (arith, within, len, f, few_ends run), omega (arith, counted, ends, f))

-- the first line has one
first_counts : (bytes : List ℕ) → position_or_len is_lf bytes < length bytes → line_ends bytes ≡ line_ends (drop (position_or_len is_lf bytes + 1) bytes) + 1
first_counts [] h = absurd (omega arith)
first_counts (b ∷ bytes) h = by_test (is_lf b) refl (first_counts bytes) where
  by_test : (t : Bool) → is_lf b ≡ t → (position_or_len is_lf bytes < length bytes → line_ends bytes ≡ line_ends (drop (position_or_len is_lf bytes + 1) bytes) + 1)
      → line_ends (b ∷ bytes) ≡ line_ends (drop (position_or_len is_lf (b ∷ bytes) + 1) (b ∷ bytes)) + 1
  by_test true e ih = rw e refl
  by_test false e ih =
      let h' : position_or_len is_lf bytes < length bytes = omega (arith, rw e at h) in
      let n : position_or_len is_lf (b ∷ bytes) + 1 ≡ suc (position_or_len is_lf bytes + 1) = rw e (omega arith) in
      (rw e (ih h')) ∙ ap (λ n. line_ends (drop n (b ∷ bytes)) + 1) (sym n)

-- WHOLE LINES

lines_rest : (b : ℕ) (bytes : List ℕ) → are_lines (b ∷ bytes) ≡ true → are_lines bytes ≡ true
lines_rest b [] h = refl
lines_rest b (c ∷ bytes) h = h

lines_behind : (n : ℕ) (bytes : List ℕ) → are_lines bytes ≡ true → are_lines (drop n bytes) ≡ true
lines_behind zero bytes h = h
lines_behind (suc n) [] h = h
lines_behind (suc n) (b ∷ bytes) h = lines_behind n bytes (lines_rest b bytes h)

-- whole lines have an LF
lines_end : (b : ℕ) (bytes : List ℕ) → are_lines (b ∷ bytes) ≡ true → position_or_len is_lf (b ∷ bytes) < length (b ∷ bytes)
lines_end b [] h = rw h (omega arith)
lines_end b (c ∷ bytes) h = by_test (is_lf b) refl (lines_end c bytes h) where
  by_test : (t : Bool) → is_lf b ≡ t → position_or_len is_lf (c ∷ bytes) < length (c ∷ bytes) → position_or_len is_lf (b ∷ c ∷ bytes) < length (b ∷ c ∷ bytes)
  by_test true e ih = rw e (omega arith)
  by_test false e ih = rw e (omega (arith, ih))

-- bytes up to an LF are whole lines
lines_to : (bytes : List ℕ) (at : ℕ) → at < length bytes → (slice_index bytes at == 10) ≡ true → are_lines (take (at + 1) bytes) ≡ true
lines_to [] at h e = absurd (omega arith)
lines_to (b ∷ bytes) zero h e = e
lines_to (b ∷ []) (suc at) h e = absurd (omega arith)
lines_to (b ∷ c ∷ bytes) (suc at) h e =
    let n : suc at + 1 ≡ suc (suc at) = omega arith in
    let m : at + 1 ≡ suc at = omega arith in
    let ih : are_lines (take (suc at) (c ∷ bytes)) ≡ true = ap (λ k. are_lines (take k (c ∷ bytes))) (sym m) ∙ lines_to (c ∷ bytes) at (omega arith) e in
    ap (λ k. are_lines (take k (b ∷ c ∷ bytes))) n ∙ ih

-- BACKSLASHES

-- a byte that is nowhere in the first places
nowhere_first : (a : ℕ) (bytes : List ℕ) (at : ℕ) → Nowhere (Passes (is_byte a) bytes) 0 at → stands_in a (take at bytes) ≡ false
nowhere_first a bytes zero h = refl
nowhere_first a [] (suc at) h = refl
nowhere_first a (b ∷ bytes) (suc at) h = by_test (b == a) refl (nowhere_first a bytes at (λ k low less found. h (suc k) (omega arith) (omega (arith, less)) found)) where
  by_test : (t : Bool) → (b == a) ≡ t → stands_in a (take at bytes) ≡ false → stands_in a (take (suc at) (b ∷ bytes)) ≡ false
  by_test true e ih = absurd (h 0 (omega arith) (omega arith) e)
  by_test false e ih = rw e ih

stands_in_front : (a n : ℕ) (xs : List ℕ) → stands_in a xs ≡ false → stands_in a (take n xs) ≡ false
stands_in_front a n xs h = by_test (stands_in a (take n xs)) refl where
  both : (stands_in a (take n xs) || stands_in a (drop n xs)) ≡ false
  both = sym (stands_in-append a (take n xs) (drop n xs)) ∙ (ap (stands_in a) (take-append-drop n xs) ∙ h)

  by_test : (t : Bool) → stands_in a (take n xs) ≡ t → stands_in a (take n xs) ≡ false
  by_test true e = absurd (let f = rw e at both in cc)
  by_test false e = e

stands_in_behind : (a n : ℕ) (xs : List ℕ) → stands_in a xs ≡ false → stands_in a (drop n xs) ≡ false
stands_in_behind a zero xs h = h
stands_in_behind a (suc n) [] h = h
stands_in_behind a (suc n) (x ∷ xs) h = by_test (x == a) refl (stands_in_behind a n xs) where
  by_test : (t : Bool) → (x == a) ≡ t → (stands_in a xs ≡ false → stands_in a (drop n xs) ≡ false) → stands_in a (drop n xs) ≡ false
  by_test true e ih = absurd (let f = rw e at h in cc)
  by_test false e ih = ih (rw e at h)

-- a line without a byte has a text without it
without_last_lacks : (a b : ℕ) (xs : List ℕ) → stands_in a xs ≡ false → stands_in a (without_last b xs) ≡ false
without_last_lacks a b [] h = refl
without_last_lacks a b (x ∷ []) h = by_test (x == b) refl where
  by_test : (t : Bool) → (x == b) ≡ t → stands_in a (without_last b (x ∷ [])) ≡ false
  by_test true e = rw e refl
  by_test false e = rw e h
without_last_lacks a b (x ∷ y ∷ xs) h = by_test (x == a) refl (without_last_lacks a b (y ∷ xs)) where
  by_test : (t : Bool) → (x == a) ≡ t → (stands_in a (y ∷ xs) ≡ false → stands_in a (without_last b (y ∷ xs)) ≡ false) → stands_in a (without_last b (x ∷ y ∷ xs)) ≡ false
  by_test true e ih = absurd (let f = rw e at h in cc)
  by_test false e ih = rw e (ih (rw e at h))

-- a text that ends a block begins with a backslash
no_end_text : (text : List ℕ) → stands_in 92 text ≡ false → same_bytes text (codes "\\.") ≡ false
no_end_text [] h = refl
no_end_text (x ∷ xs) h = by_test (x == 92) refl where
  by_test : (t : Bool) → (x == 92) ≡ t → same_bytes (x ∷ xs) (codes "\\.") ≡ false
  by_test true e = absurd (let f = rw e at h in cc)
  by_test false e = rw e refl

plain_goes_on : (line : List ℕ) → stands_in 92 line ≡ false → ends_block line ≡ false
plain_goes_on line h = no_end_text (text_of line) (without_last_lacks 92 13 (without_last 10 line) (without_last_lacks 92 10 line h))

-- ONE LINE

without_last_within : (b : ℕ) (xs : List ℕ) → length (without_last b xs) ≤ length xs
without_last_within b [] = omega arith
without_last_within b (x ∷ []) = by_test (x == b) refl where
  by_test : (t : Bool) → (x == b) ≡ t → length (without_last b (x ∷ [])) ≤ 1
  by_test true e = rw e (omega arith)
  by_test false e = rw e (omega arith)
without_last_within b (x ∷ y ∷ xs) = let ih = without_last_within b (y ∷ xs) in omega arith

not_less : (m n : ℕ) → n ≤ m → nat_lt m n ≡ false
not_less m n h = by_test (nat_lt m n) refl where
  by_test : (t : Bool) → nat_lt m n ≡ t → nat_lt m n ≡ false
  by_test true e = absurd (let less = ltb-true _ _ e in omega (arith, less, h))
  by_test false e = e

not_most : (m n : ℕ) → n < m → nat_le m n ≡ false
not_most m n h = grind (arith, tests)

plain_line : (limits : Limits) (spot : Spot) (line : List ℕ) (session begun : ℕ) (text block : List ℕ) → stands_in 92 line ≡ false → HasRoom limits spot (length line)
    → spot.place ≡ Inside session begun text block
    → after_line limits spot line ≡ Goes (behind spot line spot.names spot.jobs (Inside session begun text (block ++ line)))
plain_line limits spot line session begun text block h room place =
    let early : early_fault limits spot line ≡ None = rw (not_most limits.phases spot.ended room.ended, not_less limits.line (length (without_last 10 line)) (omega (arith, without_last_within 10 line, room.line))) refl in
    rw (early, not_less limits.phase (spot.size + length line) room.phase, place, plain_goes_on line h) refl

-- SEVERAL LINES

-- the spot behind a line and the lines behind it
plain_joins : (spot : Spot) (line lines both : List ℕ) (session begun : ℕ) (text block : List ℕ) → line ++ lines ≡ both → line_ends both ≡ line_ends lines + 1
    → behind_plain (behind spot line spot.names spot.jobs (Inside session begun text (block ++ line))) lines session begun text (block ++ line) ≡ behind_plain spot both session begun text block
plain_joins spot line lines both session begun text block joins ends =
    let number : min (min (spot.line + 1) (2 ^ 64 - 1) + line_ends lines) (2 ^ 64 - 1) ≡ min (spot.line + line_ends both) (2 ^ 64 - 1) = grind (arith, ints, clamps, ends) in
    let size : (spot.size + length line) + length lines ≡ spot.size + length both = (let len = ap length (sym joins) ∙ length-append line lines in omega arith) in
    let bytes : (block ++ line) ++ lines ≡ block ++ both = append_assoc block line lines ∙ ap (λ xs. block ++ xs) joins in
    rw (number, size, bytes) refl

-- the spot behind no line
plain_none : (spot : Spot) (session begun : ℕ) (text block : List ℕ) → spot.line ≤ 2 ^ 64 - 1 → spot.place ≡ Inside session begun text block → behind_plain spot [] session begun text block ≡ spot
plain_none spot session begun text block small place =
    let number : min (spot.line + 0) (2 ^ 64 - 1) ≡ spot.line = grind (arith, ints, clamps, small) in
    let same : Inside session begun text (block ++ []) ≡ spot.place = ap (λ xs. Inside session begun text xs) (append-nil block) ∙ sym place in
    let size : spot.size + 0 ≡ spot.size = omega arith in
    rw (number, same, size) refl

-- lines without a backslash go on in their block
plain_lines_go_on : (fuel : ℕ) (whole : Bool) (limits : Limits) (spot : Spot) (lines more : List ℕ) (session begun : ℕ) (text block : List ℕ) → length lines ≤ fuel → are_lines lines ≡ true → stands_in 92 lines ≡ false
    → HasRoom limits spot (length lines) → spot.line ≤ 2 ^ 64 - 1 → spot.place ≡ Inside session begun text block
    → reading_from whole limits spot (lines ++ more) ≡ reading_from whole limits (behind_plain spot lines session begun text block) more
plain_lines_go_on fuel whole limits spot [] more session begun text block f w p room small place = ap (λ s. reading_from whole limits s more) (sym (plain_none spot session begun text block small place))
plain_lines_go_on zero whole limits spot (b ∷ bytes) more session begun text block f w p room small place = absurd (omega arith)
plain_lines_go_on (suc fuel) whole limits spot (b ∷ bytes) more session begun text block f w p room small place =
    let lines = b ∷ bytes in
    let some = lines_end b bytes w in
    let n = position_or_len is_lf lines + 1 in
    let begins = first_begins lines some in
    let line = take n lines in
    let rest = drop n lines in
    let len : length line ≡ n = length-take-le n lines begins.within in
    let left : length line + length rest ≡ length lines = sym (length-append line rest) ∙ ap length (take-append-drop n lines) in
    let next = behind spot line spot.names spot.jobs (Inside session begun text (block ++ line)) in
    let here : HasRoom limits spot (length line) = record { ended = room.ended; line = omega (arith, left, room.line); phase = omega (arith, left, room.phase) } in
    let ahead : HasRoom limits next (length rest) = record { ended = room.ended; line = omega (arith, left, room.line); phase = omega (arith, left, room.phase) } in
    let small_next : min (spot.line + 1) (2 ^ 64 - 1) ≤ 2 ^ 64 - 1 = grind (arith, ints, clamps) in
    let fewer : length rest ≤ fuel = omega (arith, left, len, f) in
    one_line whole limits spot lines more n begins
    ∙ (ap (λ step. with_step step spot (λ next. reading_from whole limits next (rest ++ more))) (plain_line limits spot line session begun text block (stands_in_front 92 n lines p) here place)
    ∙ (plain_lines_go_on fuel whole limits next rest more session begun text (block ++ line) fewer (lines_behind n lines w) (stands_in_behind 92 n lines p) ahead small_next refl
    ∙ ap (λ s. reading_from whole limits s more) (plain_joins spot line rest lines session begun text block (take-append-drop n lines) (first_counts lines some))))

-- PARTS OF THE CODE

length_front : {A : Type 0} (n : ℕ) (xs : List A) → length (take n xs) ≤ length xs
length_front zero xs = omega arith
length_front (suc n) [] = omega arith
length_front (suc n) (x ∷ xs) = let ih = length_front n xs in omega arith

-- a front of a front
front_of : {A : Type 0} (n m : ℕ) (xs : List A) → n ≤ m → take n (take m xs) ≡ take n xs
front_of zero m xs h = refl
front_of (suc n) zero xs h = absurd (omega arith)
front_of (suc n) (suc m) [] h = refl
front_of (suc n) (suc m) (x ∷ xs) h = ap (λ r. x ∷ r) (front_of n m xs (omega arith))

front_within : {A : Type 0} (xs ys : List A) → xs ≡ take (length xs) ys → length xs ≤ length ys
front_within xs ys h = let len : length xs ≡ length (take (length xs) ys) = ap length h in omega (arith, len, length_front (length xs) ys)

-- the bytes before a backslash, or all where there is none
pub plain_before : (bytes front : List ℕ) (at : ℕ) → front ≡ take at bytes → NoneBefore (Passes (is_byte 92) bytes) 0 (length bytes) at → stands_in 92 front ≡ false
plain_before bytes front at f none = ap (stands_in 92) f ∙ nowhere_first 92 bytes at none.before

pub plain_all : (bytes : List ℕ) → Nowhere (Passes (is_byte 92) bytes) 0 (length bytes) → stands_in 92 bytes ≡ false
plain_all bytes none = ap (stands_in 92) (sym (take-length bytes)) ∙ nowhere_first 92 bytes (length bytes) none

-- the bytes up to an LF
pub whole_to : (bytes front : List ℕ) (at : ℕ) → front ≡ take (at + 1) bytes → at < length bytes → Passes (is_byte 10) bytes at → are_lines front ≡ true
whole_to bytes front at f h e = ap are_lines f ∙ lines_to bytes at h e

pub are_plain : (bytes front lines : List ℕ) → front ≡ take (length front) bytes → stands_in 92 front ≡ false → lines ≡ take (length lines) front → are_lines lines ≡ true → ArePlain bytes lines
are_plain bytes front lines f p l w =
    record {
      front = l ∙ (ap (take (length lines)) f ∙ front_of (length lines) (length front) bytes (front_within lines front l));
      whole = w;
      plain = ap (stands_in 92) l ∙ stands_in_front 92 (length lines) front p;
    }

-- what was read of lines without a backslash
pub passes_plain : (limits : Limits) (spot new : Spot) (bytes lines : List ℕ) (session begun : ℕ) (text block : List ℕ) → ArePlain bytes lines → HasRoom limits spot (length bytes) → spot.line ≤ 2 ^ 64 - 1
    → spot.place ≡ Inside session begun text block → new ≡ behind_plain spot lines session begun text block → PassesLines limits spot bytes (length lines) new
passes_plain limits spot new bytes lines session begun text block plain room small place e = subst (PassesLines limits spot bytes (length lines)) (sym e) passes where
  within : length lines ≤ length bytes
  within = front_within lines bytes plain.front

  here : HasRoom limits spot (length lines)
  here = record { ended = room.ended; line = omega (arith, within, room.line); phase = omega (arith, within, room.phase) }

  joins : lines ++ drop (length lines) bytes ≡ bytes
  joins = ap (λ xs. xs ++ drop (length lines) bytes) plain.front ∙ take-append-drop (length lines) bytes

  passes : PassesLines limits spot bytes (length lines) (behind_plain spot lines session begun text block)
  passes =
      record {
        within = within;
        size = refl;
        is_named = λ h. record { grown = h.grown; jobs = h.jobs; open_block = (let P : Place → Type 0 = λ place. IsNamedPlace (length spot.names) place in subst P place h.open_block) };
        read = λ whole more.
            ap (λ xs. reading_from whole limits spot (xs ++ more)) (sym joins)
            ∙ (ap (reading_from whole limits spot) (append_assoc lines (drop (length lines) bytes) more)
            ∙ plain_lines_go_on (length lines) whole limits spot lines (drop (length lines) bytes ++ more) session begun text block (omega arith) plain.whole plain.plain here small place);
      }

-- no line was read
pub passes_none : (limits : Limits) (spot new : Spot) (bytes : List ℕ) → new ≡ spot → PassesLines limits spot bytes 0 new
passes_none limits spot new bytes e =
    subst (PassesLines limits spot bytes 0) (sym e)
    (record { within = omega arith; size = omega arith; is_named = λ h. h; read = λ whole more. refl })

-- the rest behind a line and the lines behind it
pub rest_passes : (limits : Limits) (old next new : Spot) (bytes after : List ℕ) (number : ℕ) → ReadsRest limits old bytes next after → PassesLines limits next after number new → ReadsRest limits old bytes new (drop number after)
rest_passes limits old next new bytes after number so_far passes whole more = so_far whole more ∙ passes.read whole more
