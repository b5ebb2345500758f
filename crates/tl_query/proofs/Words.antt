-- What is written of a part is read as its token, where what follows ends it.
use Rattle.std.proofs.Common.{◌≡◌, ℕ, ℤ, pos, negsuc, neg_ℤ, suc, ◌+◌, ◌-◌, ◌*◌, ◌/◌, ◌%◌, ◌^◌, ◌<◌, ◌≤◌, ◌==◌, nat_lt, nat_le, Bool, true, false, cond, ◌&&◌, ◌||◌, not, List, [], ◌∷◌, ◌++◌, length, take, Option, Some, None, is_some, Ok, Err, refl, ◌∙◌, ap, subst, append_assoc, arith, length-append}
use Rattle.std.specs.List.{list_all, prefix_len}
use Rattle.std.specs.Fmt.{decimal, signed_decimal}
use Rattle.std.proofs.lemmas.Bool.Decides.{nat_tests}
use Rattle.std.proofs.lemmas.List.Sums.{fold_push}
use Rattle.std.proofs.lemmas.Fmt.{decimal_by_steps}
use Rattle.tl_types.specs.Names.{is_digit, begins_word, continues_word, is_word, is_name, is_keyword, keyword_of, keywords, spelling_of}
use Rattle.tl_query.specs.declared.terminals.Terminal.{Terminal}
use Rattle.tl_types.specs.declared.keywords.Keyword.{Keyword}
use Rattle.tl_types.specs.declared.keywords.Keyword.TheVariants as words
use Rattle.tl_query.specs.declared.terminals.Terminal.TheVariants as terminals
use Rattle.tl_query.specs.declared.terminals.SoftWord.{SoftWord}
use Rattle.tl_query.specs.declared.terminals.SoftWord.TheVariants as soft
use Rattle.tl_query.specs.declared.tokens.Token.{Token}
use Rattle.tl_query.specs.declared.tokens.Token.TheVariants.{Fixed, Word, Number, Negative, Quoted, Stray}
use Rattle.tl_query.specs.declared.faults.TextFault.TheVariants.{BadByte, OpenText, NumberTooLarge}
use Rattle.tl_query.specs.Terminals.{soft_spelling, spelling}
use Rattle.tl_query.specs.Scanning.{is_blank, digits_value, other_token, word_token, word_piece, number_piece, negative_piece, one_more, closing_len, single_quotes, text_token, quoted_piece, symbol, less_piece, greater_piece, symbol_piece, piece_at}
use Rattle.tl_query.specs.Printing.{double_quotes, text_constant}

-- BYTES THAT END A TOKEN

abbrev pub ends : ℕ → Bool
ends b = (b == 32) || ((b == 41) || (b == 44))

-- what follows a token with no space: nothing, or a byte that ends it
abbrev pub IsSoft : List ℕ → Type 0
IsSoft [] = Unit {0}
IsSoft (b ∷ bytes) = ends b ≡ true

-- the prefix of the bytes is read as one token
pub record Begins (text z : List ℕ) (token : Token) (joins : Bool) : Type 0 where
  pub first : ℕ
  pub others : List ℕ
  pub is : text ++ z ≡ first ∷ others
  pub visible : is_blank first ≡ false
  pub piece : (at : ℕ) → piece_at at first others ≡ Ok (record { token = token; len = length text; joins = joins })

pub cond_true : {A : Type 0} (t : Bool) (x y : A) → t ≡ true → cond t x y ≡ x
cond_true true x y e = refl
cond_true false x y e = absurd (cc)

pub cond_false : {A : Type 0} (t : Bool) (x y : A) → t ≡ false → cond t x y ≡ y
cond_false true x y e = absurd (cc)
cond_false false x y e = refl

both_true : (a b : Bool) → (a && b) ≡ true → (a ≡ true) × (b ≡ true)
both_true true b e = (refl, e)
both_true false b e = absurd (cc)

-- the first byte doesn't pass
abbrev Fails : (ℕ → Bool) → List ℕ → Type 0
Fails p [] = Unit {0}
Fails p (b ∷ bytes) = p b ≡ false

passing_len : (p : ℕ → Bool) (w z : List ℕ) → list_all p w ≡ true → Fails p z → prefix_len p (w ++ z) ≡ length w
passing_len p [] [] h f = refl
passing_len p [] (b ∷ z) h f = cond_false (p b) (1 + prefix_len p z) 0 f
passing_len p (x ∷ w) z h f =
    let k = both_true (p x) (list_all p w) h in
    let n : 1 + prefix_len p (w ++ z) ≡ suc (length w) = let e = passing_len p w z k.1 f in omega arith in
    cond_true (p x) (1 + prefix_len p (w ++ z)) 0 k.0 ∙ n

prefix_taken : (w z : List ℕ) → take (length w) (w ++ z) ≡ w
prefix_taken [] z = refl
prefix_taken (x ∷ w) z = ap (λ y. x ∷ y) (prefix_taken w z)

soft_word : (z : List ℕ) → IsSoft z → Fails continues_word z
soft_word [] h = tt
soft_word (b ∷ z) h = not_word b h where
  not_word : (b : ℕ) → ends b ≡ true → continues_word b ≡ false
  not_word b h = grind (arith, nat_tests)

soft_digit : (z : List ℕ) → IsSoft z → Fails is_digit z
soft_digit [] h = tt
soft_digit (b ∷ z) h = not_digit b h where
  not_digit : (b : ℕ) → ends b ≡ true → is_digit b ≡ false
  not_digit b h = grind (arith, nat_tests)

-- WORDS

word_seen : (b : ℕ) → begins_word b ≡ true → is_blank b ≡ false
word_seen b h = grind (arith, nat_tests)

word_goes_on : (b : ℕ) (rest : Bool) → begins_word b ≡ true → rest ≡ true → (continues_word b && rest) ≡ true
word_goes_on b rest h k = ap (λ t. (t || is_digit b) && rest) h ∙ k

pub word_begins : (w z : List ℕ) → is_word w ≡ true → IsSoft z → Begins w z (word_token w) true
unfolding piece_at word_piece
word_begins [] z h s = absurd (cc)
word_begins (b ∷ w) z h s =
    let k = both_true (begins_word b) (list_all continues_word w) h in
    let len : prefix_len continues_word (b ∷ (w ++ z)) ≡ length (b ∷ w) = passing_len continues_word (b ∷ w) z (word_goes_on b (list_all continues_word w) k.0 k.1) (soft_word z s) in
    record {
      first = b;
      others = w ++ z;
      is = refl;
      visible = word_seen b k.0;
      piece = λ at. cond_true (begins_word b) _ _ k.0 ∙ ap (λ n. Ok (record { token = word_token (take n (b ∷ (w ++ z))); len = n; joins = true })) len ∙ ap (λ y. Ok (record { token = word_token y; len = length (b ∷ w); joins = true })) (prefix_taken (b ∷ w) z);
    }

-- NUMBERS

-- digits that spell a number
record Spell (n : ℕ) (ds : List ℕ) : Type 0 where
  digits : list_all is_digit ds ≡ true
  number : digits_value ds ≡ n
  some : 1 ≤ length ds

one_digit : (n : ℕ) → n < 10 → Spell n ((48 + n) ∷ [])
one_digit n h =
    let d : is_digit (48 + n) ≡ true = grind (arith, nat_tests) in
    let m : 10 * 0 + (48 + n - 48) ≡ n = omega arith in
    record { digits = ap (λ t. t && true) d; number = m; some = omega arith }

all_and : (xs ys : List ℕ) → list_all is_digit xs ≡ true → list_all is_digit ys ≡ true → list_all is_digit (xs ++ ys) ≡ true
all_and [] ys h k = k
all_and (x ∷ xs) ys h k = let e = both_true (is_digit x) (list_all is_digit xs) h in ap (λ t. t && list_all is_digit (xs ++ ys)) e.0 ∙ all_and xs ys e.1 k

more_digits : (n : ℕ) (ds : List ℕ) → 10 ≤ n → Spell (n / 10) ds → Spell n (ds ++ ((48 + n % 10) ∷ []))
more_digits n ds h s =
    let d : is_digit (48 + n % 10) ≡ true = last_digit (n % 10) (omega arith) in
    let m : 10 * (n / 10) + (48 + n % 10 - 48) ≡ n = omega arith in
    record {
      digits = all_and ds ((48 + n % 10) ∷ []) s.digits (ap (λ t. t && true) d);
      number = fold_push (λ n d. 10 * n + (d - 48)) 0 ds (48 + n % 10) ∙ ap (λ k. 10 * k + (48 + n % 10 - 48)) s.number ∙ m;
      some = omega (arith, length-append ds ((48 + n % 10) ∷ []));
    } where
      last_digit : (k : ℕ) → k < 10 → is_digit (48 + k) ≡ true
      last_digit k h = grind (arith, nat_tests)

decimal_spells : (n : ℕ) → n < 2 ^ 64 → Spell n (decimal n)
decimal_spells n h = decimal_by_steps Spell one_digit more_digits n h

digit_seen : (b : ℕ) → is_digit b ≡ true → is_blank b ≡ false
digit_seen b h = grind (arith, nat_tests)

digit_no_word : (b : ℕ) → is_digit b ≡ true → begins_word b ≡ false
digit_no_word b h = grind (arith, nat_tests)

within : (n : ℕ) → n < 2 ^ 63 → nat_lt n (2 ^ 63) ≡ true
within n h = grind (arith, nat_tests)

number_begins : (n : ℕ) (ds z : List ℕ) → Spell n ds → n < 2 ^ 63 → IsSoft z → Begins ds z (Number (pos n)) true
unfolding piece_at number_piece
number_begins n [] z s h f = let k = s.some in absurd (omega arith)
number_begins n (d ∷ ds) z s h f =
    let k = both_true (is_digit d) (list_all is_digit ds) s.digits in
    let len : prefix_len is_digit (d ∷ (ds ++ z)) ≡ length (d ∷ ds) = passing_len is_digit (d ∷ ds) z s.digits (soft_digit z f) in
    record {
      first = d;
      others = ds ++ z;
      is = refl;
      visible = digit_seen d k.0;
      piece = λ at. cond_false (begins_word d) _ _ (digit_no_word d k.0) ∙ cond_true (is_digit d) _ _ k.0
          ∙ ap (λ n. cond (nat_lt (digits_value (take n (d ∷ (ds ++ z)))) (2 ^ 63)) (Ok (record { token = Number (pos (digits_value (take n (d ∷ (ds ++ z))))); len = n; joins = true })) (Err (NumberTooLarge at))) len
          ∙ ap (λ y. cond (nat_lt (digits_value y) (2 ^ 63)) (Ok (record { token = Number (pos (digits_value y)); len = length (d ∷ ds); joins = true })) (Err (NumberTooLarge at))) (prefix_taken (d ∷ ds) z)
          ∙ ap (λ m. cond (nat_lt m (2 ^ 63)) (Ok (record { token = Number (pos m); len = length (d ∷ ds); joins = true })) (Err (NumberTooLarge at))) s.number
          ∙ cond_true (nat_lt n (2 ^ 63)) _ _ (within n h);
    }

some_digits : (n : ℕ) → 1 ≤ n → (n == 0) ≡ false
some_digits n h = grind (arith, nat_tests)

at_most : (n : ℕ) → n ≤ 2 ^ 63 → nat_le n (2 ^ 63) ≡ true
at_most n h = grind (arith, nat_tests)

negative_begins : (n : ℕ) (ds z : List ℕ) → Spell n ds → n ≤ 2 ^ 63 → IsSoft z → Begins (45 ∷ ds) z (Negative (neg_ℤ (pos n))) true
unfolding piece_at negative_piece
negative_begins n ds z s h f =
    let len : prefix_len is_digit (ds ++ z) ≡ length ds = passing_len is_digit ds z s.digits (soft_digit z f) in
    let more : length ds + 1 ≡ length (45 ∷ ds) = omega arith in
    record {
      first = 45;
      others = ds ++ z;
      is = refl;
      visible = refl;
      piece = λ at. ap (λ n. cond (n == 0) (Err (BadByte at)) (cond (nat_le (digits_value (take n (ds ++ z))) (2 ^ 63)) (Ok (record { token = Negative (neg_ℤ (pos (digits_value (take n (ds ++ z))))); len = n + 1; joins = true })) (Err (NumberTooLarge at)))) len
          ∙ cond_false (length ds == 0) _ _ (some_digits (length ds) s.some)
          ∙ ap (λ y. cond (nat_le (digits_value y) (2 ^ 63)) (Ok (record { token = Negative (neg_ℤ (pos (digits_value y))); len = length ds + 1; joins = true })) (Err (NumberTooLarge at))) (prefix_taken ds z)
          ∙ ap (λ m. cond (nat_le m (2 ^ 63)) (Ok (record { token = Negative (neg_ℤ (pos m)); len = length ds + 1; joins = true })) (Err (NumberTooLarge at))) s.number
          ∙ cond_true (nat_le n (2 ^ 63)) _ _ (at_most n h)
          ∙ ap (λ k. Ok (record { token = Negative (neg_ℤ (pos n)); len = k; joins = true })) more;
    }

-- the token of a number
abbrev pub number_token : ℤ → Token
number_token (pos n) = Number (pos n)
number_token (negsuc n) = Negative (negsuc n)

pub natural_begins : (n : ℕ) (z : List ℕ) → n < 2 ^ 63 → IsSoft z → Begins (signed_decimal (pos n)) z (number_token (pos n)) true
natural_begins n z h f = number_begins n (decimal n) z (decimal_spells n (omega arith)) h f

pub below_begins : (n : ℕ) (z : List ℕ) → n < 2 ^ 63 → IsSoft z → Begins (signed_decimal (negsuc n)) z (number_token (negsuc n)) true
below_begins n z h f = negative_begins (suc n) (decimal (suc n)) z (decimal_spells (suc n) (omega arith)) (omega arith) f

-- TEXTS

soft_no_quote : (b : ℕ) → ends b ≡ true → (b == 39) ≡ false
soft_no_quote b h = grind (arith, nat_tests)

closing_end : (z : List ℕ) → IsSoft z → closing_len true z ≡ Some 0
unfolding closing_len
closing_end [] h = refl
closing_end (b ∷ z) h = cond_false (b == 39) _ _ (soft_no_quote b h)

some_more : (n m : ℕ) → n ≡ m → Some n ≡ Some m
some_more n m e = ap (λ n. Some n) e

closing_pair : (n : ℕ) (o : Option ℕ) → o ≡ Some (n + 1) → one_more (one_more o) ≡ Some (suc (suc n) + 1)
closing_pair n o e = ap (λ o. one_more (one_more o)) e ∙ some_more (n + 1 + 1 + 1) (suc (suc n) + 1) (omega arith)

closing_single : (n : ℕ) (o : Option ℕ) → o ≡ Some (n + 1) → one_more o ≡ Some (suc n + 1)
closing_single n o e = ap one_more e ∙ some_more (n + 1 + 1) (suc n + 1) (omega arith)

closing_double_quotes : (t z : List ℕ) → IsSoft z → closing_len false (double_quotes t ++ (39 ∷ z)) ≡ Some (length (double_quotes t) + 1)
unfolding closing_len
closing_double_quotes [] z h = ap one_more (closing_end z h)
closing_double_quotes (b ∷ t) z h = elim (b == 39) as (λ u. (b == 39) ≡ u → closing_len false (cond u (39 ∷ 39 ∷ double_quotes t) (b ∷ double_quotes t) ++ (39 ∷ z)) ≡ Some (length (cond u (39 ∷ 39 ∷ double_quotes t) (b ∷ double_quotes t)) + 1)) [
  | true ↦ λ e. closing_pair (length (double_quotes t)) (closing_len false (double_quotes t ++ (39 ∷ z))) (closing_double_quotes t z h)
  | false ↦ λ e. cond_false (b == 39) _ _ e ∙ closing_single (length (double_quotes t)) (closing_len false (double_quotes t ++ (39 ∷ z))) (closing_double_quotes t z h)
] refl

is_quote : (b : ℕ) → (b == 39) ≡ true → 39 ≡ b
is_quote b e = grind (arith, nat_tests)

single_double_quotes : (t : List ℕ) → single_quotes false (double_quotes t) ≡ t
unfolding single_quotes
single_double_quotes [] = refl
single_double_quotes (b ∷ t) = elim (b == 39) as (λ u. (b == 39) ≡ u → single_quotes false (cond u (39 ∷ 39 ∷ double_quotes t) (b ∷ double_quotes t)) ≡ b ∷ t) [
  | true ↦ λ e. ap (λ y. 39 ∷ y) (single_double_quotes t) ∙ ap (λ b. b ∷ t) (is_quote b e)
  | false ↦ λ e. ap (λ u. b ∷ single_quotes u (double_quotes t)) e ∙ ap (λ y. b ∷ y) (single_double_quotes t)
] refl

text_is : (t : List ℕ) → length t ≤ 65535 → text_token t ≡ Quoted t
unfolding text_token
text_is t few =
    let short : nat_le (length t) 65535 ≡ true = grind (arith, nat_tests) in
    cond_true (nat_le (length t) 65535) (Quoted t) Stray short

pub text_begins : (t z : List ℕ) → length t ≤ 65535 → IsSoft z → Begins (text_constant t) z (Quoted t) true
unfolding piece_at quoted_piece
text_begins t z few f =
    let there : (double_quotes t ++ (39 ∷ [])) ++ z ≡ double_quotes t ++ (39 ∷ z) = append_assoc (double_quotes t) (39 ∷ []) z in
    let less : length (double_quotes t) + 1 - 1 ≡ length (double_quotes t) = omega arith in
    let more : length (double_quotes t) + 1 + 1 ≡ length (text_constant t) = omega (arith, length-append (double_quotes t) (39 ∷ [])) in
    record {
      first = 39;
      others = double_quotes t ++ (39 ∷ z);
      is = ap (λ y. 39 ∷ y) there;
      visible = refl;
      piece = λ at. ap (λ o. elim o [ None ↦ Err (OpenText at) | Some n ↦ Ok (record { token = text_token (single_quotes false (take (n - 1) (double_quotes t ++ (39 ∷ z)))); len = n + 1; joins = true }) ]) (closing_double_quotes t z f)
          ∙ ap (λ n. Ok (record { token = text_token (single_quotes false (take n (double_quotes t ++ (39 ∷ z)))); len = length (double_quotes t) + 1 + 1; joins = true })) less
          ∙ ap (λ y. Ok (record { token = text_token (single_quotes false y); len = length (double_quotes t) + 1 + 1; joins = true })) (prefix_taken (double_quotes t) (39 ∷ z))
          ∙ ap (λ y. Ok (record { token = text_token y; len = length (double_quotes t) + 1 + 1; joins = true })) (single_double_quotes t)
          ∙ ap (λ k. Ok (record { token = k; len = length (double_quotes t) + 1 + 1; joins = true })) (text_is t few)
          ∙ ap (λ n. Ok (record { token = Quoted t; len = n; joins = true })) more;
    }

-- KEYWORDS AND NAMES

-- a word that is no keyword
no_keyword : (o : Option Keyword) → is_some o ≡ false → o ≡ None
no_keyword None h = refl
no_keyword (Some k) h = absurd (cc)

not_true : (b : Bool) → not b ≡ true → b ≡ false
not_true true e = absurd (cc)
not_true false e = refl

name_token : (word : List ℕ) → is_name word ≡ true → word_token word ≡ Word word
unfolding word_token other_token
name_token word h =
    let k = both_true (is_word word && nat_le (length word) 64) (not (is_keyword word)) h in
    ap (λ o. elim o [ Some k ↦ Fixed (terminals.Keyword k) | None ↦ cond (is_name word) (Word word) Stray ]) (no_keyword (keyword_of word) (not_true (is_keyword word) k.1)) ∙ ap (λ t. cond t (Word word) Stray) h

pub name_begins : (name z : List ℕ) → is_name name ≡ true → IsSoft z → Begins name z (Word name) true
name_begins name z h s =
    let k = both_true (is_word name && nat_le (length name) 64) (not (is_keyword name)) h in
    let w = both_true (is_word name) (nat_le (length name) 64) k.0 in
    subst (λ t. Begins name z t true) (name_token name h) (word_begins name z w.0 s)

-- a word that is a name elsewhere is a name
soft_name : (w : SoftWord) → is_name (soft_spelling w) ≡ true
unfolding soft_spelling spelling_of keywords
soft_name soft.Moment = refl
soft_name soft.Forget = refl
soft_name soft.Before = refl
soft_name soft.Sync = refl

pub soft_begins : (w : SoftWord) (z : List ℕ) → IsSoft z → Begins (soft_spelling w) z (Word (soft_spelling w)) true
soft_begins w z s = name_begins (soft_spelling w) z (soft_name w) s

-- whether a terminal is a word
abbrev pub is_spelled : Terminal → Bool
is_spelled (terminals.Keyword k) = true
is_spelled _ = false

-- a keyword is a word
keyword_word : (k : Keyword) → is_word (spelling_of k) ≡ true
unfolding spelling_of
keyword_word words.Create = refl
keyword_word _ = refl

-- the keyword that is spelled so is that keyword
keyword_again : (k : Keyword) → keyword_of (spelling_of k) ≡ Some k
unfolding spelling_of keywords
keyword_again words.Create = refl
keyword_again _ = refl

keyword_token : (k : Keyword) → word_token (spelling_of k) ≡ Fixed (terminals.Keyword k)
unfolding word_token
keyword_token k = ap (λ o. elim o [ Some k ↦ Fixed (terminals.Keyword k) | None ↦ other_token (spelling_of k) ]) (keyword_again k)

keyword_begins : (k : Keyword) (z : List ℕ) → IsSoft z → Begins (spelling_of k) z (Fixed (terminals.Keyword k)) true
keyword_begins k z s = subst (λ t. Begins (spelling_of k) z t true) (keyword_token k) (word_begins (spelling_of k) z (keyword_word k) s)

not_greater : (b : ℕ) → ends b ≡ true → ((b == 62) ≡ false) × ((b == 61) ≡ false)
not_greater b h = (one b h, other b h) where
  one : (b : ℕ) → ends b ≡ true → (b == 62) ≡ false
  one b h = grind (arith, nat_tests)

  other : (b : ℕ) → ends b ≡ true → (b == 61) ≡ false
  other b h = grind (arith, nat_tests)

less_end : (z : List ℕ) → IsSoft z → less_piece z ≡ symbol terminals.Less 1
less_end [] h = refl
less_end (b ∷ z) h = let k = not_greater b h in cond_false (b == 62) _ _ k.0 ∙ cond_false (b == 61) _ _ k.1

greater_end : (z : List ℕ) → IsSoft z → greater_piece z ≡ symbol terminals.Greater 1
greater_end [] h = refl
greater_end (b ∷ z) h = cond_false (b == 61) _ _ (not_greater b h).1

-- `(` is read whatever follows it
pub open_begins : (z : List ℕ) → Begins (spelling terminals.Open) z (Fixed terminals.Open) false
unfolding piece_at symbol_piece spelling
open_begins z = record { first = 40; others = z; is = refl; visible = refl; piece = λ at. refl }

pub terminal_begins : (m : Terminal) (z : List ℕ) → IsSoft z → Begins (spelling m) z (Fixed m) (is_spelled m)
unfolding piece_at symbol_piece spelling
terminal_begins terminals.Open z s = record { first = 40; others = z; is = refl; visible = refl; piece = λ at. refl }
terminal_begins terminals.Close z s = record { first = 41; others = z; is = refl; visible = refl; piece = λ at. refl }
terminal_begins terminals.Comma z s = record { first = 44; others = z; is = refl; visible = refl; piece = λ at. refl }
terminal_begins terminals.Semicolon z s = record { first = 59; others = z; is = refl; visible = refl; piece = λ at. refl }
terminal_begins terminals.Star z s = record { first = 42; others = z; is = refl; visible = refl; piece = λ at. refl }
terminal_begins terminals.Equal z s = record { first = 61; others = z; is = refl; visible = refl; piece = λ at. refl }
terminal_begins terminals.Unequal z s = record { first = 60; others = 62 ∷ z; is = refl; visible = refl; piece = λ at. refl }
terminal_begins terminals.Less z s = record { first = 60; others = z; is = refl; visible = refl; piece = λ at. ap Ok (less_end z s) }
terminal_begins terminals.AtMost z s = record { first = 60; others = 61 ∷ z; is = refl; visible = refl; piece = λ at. refl }
terminal_begins terminals.Greater z s = record { first = 62; others = z; is = refl; visible = refl; piece = λ at. ap Ok (greater_end z s) }
terminal_begins terminals.AtLeast z s = record { first = 62; others = 61 ∷ z; is = refl; visible = refl; piece = λ at. refl }
terminal_begins (terminals.Keyword k) z s = keyword_begins k z s
