-- What is spelled is read again.
use Rattle.std.proofs.Common.{◌≡◌, ℕ, ◌+◌, ◌≤◌, zero, suc, Bool, true, false, cond, List, [], ◌∷◌, ◌++◌, length, Option, Some, None, Result, Ok, Err, refl, ◌∙◌, ap, subst, append_assoc, arith, length-append}
use Rattle.std.specs.List.{AllByRecursion}
use Rattle.std.specs.Option.{option_map}
use Rattle.tl_types.specs.declared.cells.Cell.{Cell}
use Rattle.tl_types.specs.declared.cells.Cmp.{Cmp}
use Rattle.tl_types.specs.declared.cells.Cmp.TheVariants as cmps
use Rattle.tl_types.specs.declared.cells.ColumnKind.{ColumnKind}
use Rattle.tl_types.specs.declared.cells.ColumnKind.TheVariants as kinds
use Rattle.tl_query.specs.declared.terminals.Terminal.{Terminal}
use Rattle.tl_types.specs.declared.keywords.Keyword.TheVariants as words
use Rattle.tl_query.specs.declared.terminals.Terminal.TheVariants as terminals
use Rattle.tl_query.specs.declared.terminals.SoftWord.{SoftWord}
use Rattle.tl_query.specs.declared.terminals.SoftWord.TheVariants as soft
use Rattle.tl_query.specs.declared.tokens.Token.{Token}
use Rattle.tl_query.specs.declared.tokens.Token.TheVariants.{Fixed, Word, Number}
use Rattle.tl_query.specs.declared.tokens.Placed.{Placed}
use Rattle.tl_query.specs.declared.ast.Name.{Name}
use Rattle.tl_query.specs.declared.ast.Stamp.{Stamp}
use Rattle.tl_query.specs.declared.ast.ColumnForm.{ColumnForm}
use Rattle.tl_query.specs.declared.ast.CreateForm.{CreateForm}
use Rattle.tl_query.specs.declared.ast.SelectForm.{SelectForm}
use Rattle.tl_query.specs.declared.ast.AggForm.{AggForm}
use Rattle.tl_query.specs.declared.ast.AggKind.{AggKind}
use Rattle.tl_query.specs.declared.ast.AggKind.TheVariants as aggs
use Rattle.tl_query.specs.declared.ast.JoinForm.{JoinForm}
use Rattle.tl_query.specs.declared.ast.AsOf.{AsOf}
use Rattle.tl_query.specs.declared.ast.AsOf.TheVariants as as_ofs
use Rattle.tl_query.specs.declared.ast.Over.{Over}
use Rattle.tl_query.specs.declared.ast.Over.TheVariants as overs
use Rattle.tl_query.specs.declared.ast.Pred.{Pred}
use Rattle.tl_query.specs.declared.ast.Test.{Test}
use Rattle.tl_query.specs.declared.ast.ValidPoint.{ValidPoint}
use Rattle.tl_query.specs.declared.ast.Item.{Item}
use Rattle.tl_query.specs.declared.ast.Item.TheVariants as items
use Rattle.tl_query.specs.declared.ast.Query.TheVariants as queries
use Rattle.tl_query.specs.declared.ast.Statement.{Statement}
use Rattle.tl_query.specs.declared.ast.Statement.TheVariants as statements
use Rattle.tl_query.specs.Terminals.{same_terminal, soft_spelling}
use Rattle.tl_query.specs.Grammar.{keyword, Part, terminal, terminal_at, said, identifier, version, moment, number, bound, constant, IsPart, Fits, IsSpelling, IsCreate, IsSelect, IsAgg, IsJoin, IsAsked, IsPred, IsAggregate, name_by, version_by, kind_keyword, cmp_terminal, agg_keyword, item_part, column_parts, valid_parts, create_parts, item_parts, asked_parts, test_parts, conj_parts, any_parts, where_parts, valid_at_parts, version_or_moment_parts, as_of_parts, select_parts, column_name_parts, by_parts, over_parts, agg_parts, join_parts, end_parts, each_after, separated}
use Rattle.tl_query.specs.Reading.{◌>>=◌, is_fixed, after, expect, as_name, as_version, as_moment, as_number, is_soft, as_soft, as_bound, as_constant, item_by, as_item, kind_by, as_kind, as_cmp, agg_by, as_agg, valid_by, as_valid, take_at, peek_at, last_of, statement_end, where_some, first_offset, with_first, up_to, further, several, column_at, columns_at, valid_at, create_at, put_at, remove_at, items_at, asked_at, test_at, conj_at, where_at, valid_point_at, version_or_moment_at, as_of_at, moment_stated_at, forget_at, sync_at, agg_or_sync_at, agg_or_forget_at, agg_or_soft_at, parse_select, versions_at, system_at, moments_at, over_at, column_name_at, by_at, agg_at, side_at, on_at, join_at, statement_at}
use Rattle.tl_query.proofs.Lists.{Reads}
use Rattle.tl_query.proofs.SameTerminals.{same_itself}
use Rattle.tl_query.proofs.Readers.{join_or_less, select_or_less, remove_or_less, put_or_less}
use Rattle.tl_query.proofs.Takers.{some_one}

-- a value is read, and what is left are the parts after it
abbrev pub Read : {A : Type 0} → A → List Part → Result (A × List Placed) (Option ℕ) → Type 0
Read x w r = (rest : List Placed) × Fits w rest × (r ≡ Ok (x, rest))

-- no token of the part is this terminal
abbrev pub IsOther : Terminal → Part → Type 0
IsOther m q = (p : Placed) → IsPart q p → is_fixed m p.token ≡ false

-- the parts don't begin with this terminal
abbrev pub Apart : Terminal → List Part → Type 0
Apart m [] = Unit {0}
Apart m (q ∷ w) = IsOther m q

other_said : (m k : Terminal) → same_terminal k m ≡ false → IsOther m (terminal k)
other_said m k h = λ p e. ap (is_fixed m) e ∙ h

other_at : (m k : Terminal) (at : ℕ) → same_terminal k m ≡ false → IsOther m (terminal_at k at)
other_at m k at h = λ p e. ap (λ (p : Placed). is_fixed m p.token) e ∙ h

name_other : (m : Terminal) (at : ℕ) (t : Token) (n : Name) → name_by at t ≡ Some n → is_fixed m t ≡ false
name_other m at (Word w) n e = refl
name_other m at _ n e = absurd (cc)

version_other : (m : Terminal) (at : ℕ) (t : Token) (s : Stamp) → version_by at t ≡ Some s → is_fixed m t ≡ false
version_other m at (Number n) s e = refl
version_other m at _ s e = absurd (cc)

after_again : (m : Terminal) (w : List Part) (ts : List Placed) → Fits (terminal m ∷ w) ts → (rest : List Placed) × Fits w rest × (after m ts ≡ Some rest)
unfolding after
after_again m w [] h = absurd h
after_again m w (p ∷ ts) h = (ts, h.1, ap (λ t. cond (is_fixed m t) (Some ts) None) h.0 ∙ ap (λ b. cond b (Some ts) None) (same_itself m))

after_none : (m : Terminal) (w : List Part) (ts : List Placed) → Apart m w → Fits w ts → after m ts ≡ None
unfolding after
after_none m [] [] a h = refl
after_none m [] (p ∷ ts) a h = absurd h
after_none m (q ∷ w) [] a h = absurd h
after_none m (q ∷ w) (p ∷ ts) a h = ap (λ b. cond b (Some ts) None) (a p h.0)

expect_again : (m : Terminal) (w : List Part) (ts : List Placed) → Fits (terminal m ∷ w) ts → (rest : List Placed) × Fits w rest × (expect m ts ≡ Ok rest)
unfolding expect
expect_again m w ts h = let a = after_again m w ts h in (a.0, a.1, ap (λ o. where_some o (Err (first_offset ts)) (λ rest. Ok rest)) a.2)

take_again : {A : Type 0} (take : Placed → Option A) (part : A → Part) → ((p : Placed) (x : A) → IsPart (part x) p → take p ≡ Some x) → (x : A) (w : List Part) (ts : List Placed) → Fits (part x ∷ w) ts → Read x w (take_at take ts)
unfolding take_at
take_again take part back x w [] h = absurd h
take_again take part back x w (p ∷ ts) h = (ts, h.1, ap (λ o. where_some o (Err (Some p.at)) (λ x. Ok (x, ts))) (back p x h.0))

name_again : (n : Name) (w : List Part) (ts : List Placed) → Fits (identifier n ∷ w) ts → Read n w (take_at as_name ts)
name_again n w ts h = take_again as_name identifier (λ p x e. e) n w ts h

version_again : (s : Stamp) (w : List Part) (ts : List Placed) → Fits (version s ∷ w) ts → Read s w (take_at as_version ts)
version_again s w ts h = take_again as_version version (λ p x e. e) s w ts h

number_again : (s : Stamp) (w : List Part) (ts : List Placed) → Fits (number s ∷ w) ts → Read s w (take_at as_number ts)
number_again s w ts h = take_again as_number number (λ p x e. e) s w ts h

bound_again : (s : Stamp) (w : List Part) (ts : List Placed) → Fits (bound s ∷ w) ts → Read s w (take_at as_bound ts)
bound_again s w ts h = take_again as_bound bound (λ p x e. e) s w ts h

constant_back : (p : Placed) (x : Cell × ℕ) → IsPart (constant x.0 x.1) p → as_constant p ≡ Some x
constant_back p x e = ap (option_map (λ c. (c, p.at))) e.0 ∙ ap (λ n. Some (x.0, n)) e.1

column_back : (at : ℕ) (t : Token) (n : Name) → name_by at t ≡ Some n → item_by at t ≡ Some (items.Column n)
column_back at (Word w) n e = ap (λ n. Some (items.Column n)) (some_one e)
column_back at _ n e = absurd (cc)

item_back : (p : Placed) (x : Item) → IsPart (item_part x) p → as_item p ≡ Some x
item_back p (items.Column n) e = column_back p.at p.token n e
item_back p (items.ValidFrom at) e = ap as_item e
item_back p (items.ValidTo at) e = ap as_item e

kind_back : (p : Placed) (k : ColumnKind) → IsPart (keyword (kind_keyword k)) p → as_kind p ≡ Some k
kind_back p kinds.IntKind e = ap kind_by e
kind_back p kinds.TextKind e = ap kind_by e

cmp_back : (p : Placed) (c : Cmp) (at : ℕ) → IsPart (terminal_at (cmp_terminal c) at) p → as_cmp p ≡ Some (c, at)
cmp_back p cmps.Eq at e = ap as_cmp e
cmp_back p cmps.Ne at e = ap as_cmp e
cmp_back p cmps.Lt at e = ap as_cmp e
cmp_back p cmps.Le at e = ap as_cmp e
cmp_back p cmps.Gt at e = ap as_cmp e
cmp_back p cmps.Ge at e = ap as_cmp e

agg_back : (p : Placed) (k : AggKind) → IsPart (keyword (agg_keyword k)) p → as_agg p ≡ Some k
agg_back p aggs.Count e = ap agg_by e
agg_back p aggs.Sum e = ap agg_by e
agg_back p aggs.Avg e = ap agg_by e
agg_back p aggs.Min e = ap agg_by e
agg_back p aggs.Max e = ap agg_by e

no_valid : (at : ℕ) (t : Token) → is_fixed (terminals.Keyword words.Valid) t ≡ false → valid_by at t ≡ None
no_valid at (Fixed (terminals.Keyword words.Valid)) e = absurd (cc)
no_valid at _ e = refl

valid_word_again : (at : ℕ) (w : List Part) (ts : List Placed) → Fits (terminal_at (terminals.Keyword words.Valid) at ∷ w) ts → (rest : List Placed) × Fits w rest × (peek_at as_valid ts ≡ Some (at, rest))
unfolding peek_at
valid_word_again at w [] h = absurd h
valid_word_again at w (p ∷ ts) h = (ts, h.1, ap (λ p. option_map (λ x. (x, ts)) (as_valid p)) h.0)

valid_word_none : (w : List Part) (ts : List Placed) → Apart (terminals.Keyword words.Valid) w → Fits w ts → peek_at as_valid ts ≡ None
unfolding peek_at
valid_word_none [] [] a h = refl
valid_word_none [] (p ∷ ts) a h = absurd h
valid_word_none (q ∷ w) [] a h = absurd h
valid_word_none (q ∷ w) (p ∷ ts) a h = ap (option_map (λ x. (x, ts))) (no_valid p.at p.token (a p h.0))

-- WORDS THAT ARE NAMES ELSEWHERE

soft_itself : (m : SoftWord) → is_soft m (Word (soft_spelling m)) ≡ true
unfolding soft_spelling
soft_itself soft.Moment = refl
soft_itself soft.Forget = refl
soft_itself soft.Before = refl
soft_itself soft.Sync = refl

-- what such a word is taken for
soft_value : (m : SoftWord) (p : Placed) (b : Bool) → is_soft m p.token ≡ b → as_soft m p ≡ cond b (Some p.at) None
soft_value m p b e = ap (λ b. cond b (Some p.at) None) e

soft_token : (m : SoftWord) (p : Placed) → IsPart (said m) p → as_soft m p ≡ Some p.at
soft_token m p e = soft_value m p true (ap (is_soft m) e ∙ soft_itself m)

soft_word_again : (m : SoftWord) (w : List Part) (ts : List Placed) → Fits (said m ∷ w) ts → (at : ℕ) × (rest : List Placed) × Fits w rest × (peek_at (as_soft m) ts ≡ Some (at, rest))
unfolding peek_at
soft_word_again m w [] h = absurd h
soft_word_again m w (p ∷ ts) h = (p.at, ts, h.1, ap (option_map (λ x. (x, ts))) (soft_token m p h.0))

soft_taken_again : (m : SoftWord) (w : List Part) (ts : List Placed) → Fits (said m ∷ w) ts → (at : ℕ) × (rest : List Placed) × Fits w rest × (take_at (as_soft m) ts ≡ Ok (at, rest))
unfolding take_at
soft_taken_again m w [] h = absurd h
soft_taken_again m w (p ∷ ts) h = (p.at, ts, h.1, ap (λ o. where_some o (Err (Some p.at)) (λ x. Ok (x, ts))) (soft_token m p h.0))

-- where another part comes
soft_none : (m : SoftWord) (q : Part) (w : List Part) (ts : List Placed) → ((p : Placed) → IsPart q p → is_soft m p.token ≡ false) → Fits (q ∷ w) ts → peek_at (as_soft m) ts ≡ None
unfolding peek_at
soft_none m q w [] a h = absurd h
soft_none m q w (p ∷ ts) a h = ap (option_map (λ x. (x, ts))) (soft_value m p false (a p h.0))

version_not_soft : (m : SoftWord) (at : ℕ) (t : Token) (s : Stamp) → version_by at t ≡ Some s → is_soft m t ≡ false
version_not_soft m at (Number n) s e = refl
version_not_soft m at _ s e = absurd (cc)

-- no keyword or symbol comes
said_other : (m : Terminal) (w : SoftWord) → IsOther m (said w)
said_other m w = λ p e. ap (is_fixed m) e

ended_again : (s : Statement) (b : Bool) (ts : List Placed) → Fits (end_parts b) ts → statement_end s ts ≡ Ok s
unfolding statement_end last_of
ended_again s true ts h = let a = after_again terminals.Semicolon [] ts h in ap (λ o. where_some o (last_of s ts) (last_of s)) a.2 ∙ none_left a.0 a.1 where
  none_left : (rest : List Placed) → Fits [] rest → last_of s rest ≡ Ok s
  none_left [] h = refl
  none_left (p ∷ rest) h = absurd h
ended_again s false [] h = ap (λ o. where_some o (last_of s []) (last_of s)) (after_none terminals.Semicolon [] [] tt tt)
ended_again s false (p ∷ ts) h = absurd h

-- one reading after another
then_again : {A B : Type 0} (r : Result A (Option ℕ)) (x : A) (f : A → Result B (Option ℕ)) (y : Result B (Option ℕ)) → r ≡ Ok x → f x ≡ y → r >>= f ≡ y
then_again r x f y e h = ap (λ r. r >>= f) e ∙ h

-- LISTS

-- A reader reads again each value that passes a test, where what follows it does too.
abbrev Again : {A : Type 0} → (A → Type 0) → (List Part → Type 0) → Reads A → (A → List Part) → Type 0
Again {A} Q F one parts = (x : A) → Q x → (w : List Part) → F w → (ts : List Placed) → Fits (parts x ++ w) ts → Read x w (one ts)

-- what follows the first of several
more_follow : {A : Type 0} (F : List Part → Type 0) (m : Terminal) (parts : A → List Part) → ((w : List Part) → F (terminal m ∷ w)) → (xs : List A) (w : List Part) → F w → F (each_after m parts xs ++ w)
more_follow F m parts behind [] w h = h
more_follow F m parts behind (x ∷ xs) w h = behind ((parts x ++ each_after m parts xs) ++ w)

up_to_again : {A : Type 0} (Q : A → Type 0) (F : List Part → Type 0) (m : Terminal) (one : Reads A) (parts : A → List Part) → Again Q F one parts → ((w : List Part) → F (terminal m ∷ w))
    → (xs : List A) → AllByRecursion Q xs → (room : ℕ) → length xs ≤ room → (w : List Part) → Apart m w → F w → (ts : List Placed) → Fits (each_after m parts xs ++ w) ts → Read xs w (up_to m one room ts)
unfolding up_to
up_to_again Q F m one parts law behind [] qs zero few w stop f ts h = (ts, h, refl)
up_to_again Q F m one parts law behind [] qs (suc room) few w stop f ts h = (ts, h, ap (λ o. where_some o (Ok ([], ts)) (λ rest. one rest >>= λ x. with_first x.0 (up_to m one room x.1))) (after_none m w ts stop h))
up_to_again Q F m one parts law behind (x ∷ xs) qs zero few w stop f ts h = absurd (omega arith)
up_to_again Q F m one parts law behind (x ∷ xs) qs (suc room) few w stop f ts h =
    let a = after_again m ((parts x ++ each_after m parts xs) ++ w) ts h in
    let i = law x qs.0 (each_after m parts xs ++ w) (more_follow F m parts behind xs w f) a.0 (subst (λ z. Fits z a.0) (append_assoc (parts x) (each_after m parts xs) w) a.1) in
    let y = up_to_again Q F m one parts law behind xs qs.1 room (omega arith) w stop f i.0 i.1 in (
      y.0,
      y.1,
      ap (λ o. where_some o (Ok ([], ts)) (λ rest. one rest >>= λ x. with_first x.0 (up_to m one room x.1))) a.2 ∙ then_again (one a.0) (x, i.0) (λ x. with_first x.0 (up_to m one room x.1)) _ i.2 (ap (with_first x) y.2),
    )

-- a first value, and those after it
first_again : {A : Type 0} (Q : A → Type 0) (F : List Part → Type 0) (m : Terminal) (one : Reads A) (parts : A → List Part) → Again Q F one parts → ((w : List Part) → F (terminal m ∷ w))
    → (x : A) (xs : List A) → Q x → AllByRecursion Q xs → (room : ℕ) → length xs ≤ room → (w : List Part) → Apart m w → F w → (ts : List Placed) → (rest : List Placed) → Fits (each_after m parts xs ++ w) rest → one ts ≡ Ok (x, rest) → Read (x ∷ xs) w (one ts >>= λ x. with_first x.0 (up_to m one room x.1))
first_again Q F m one parts law behind x xs q qs room few w stop f ts rest h e =
    let y = up_to_again Q F m one parts law behind xs qs room few w stop f rest h in
    (y.0, y.1, then_again (one ts) (x, rest) (λ x. with_first x.0 (up_to m one room x.1)) _ e (ap (with_first x) y.2))

fits_length : (parts : List Part) (ts : List Placed) → Fits parts ts → length ts ≡ length parts
fits_length [] [] h = refl
fits_length [] (p ∷ ts) h = absurd h
fits_length (q ∷ parts) [] h = absurd h
fits_length (q ∷ parts) (p ∷ ts) h = ap suc (fits_length parts ts h.1)

each_length : {A : Type 0} (m : Terminal) (parts : A → List Part) (xs : List A) (w : List Part) → length xs ≤ length (each_after m parts xs ++ w)
each_length m parts [] w = omega arith
each_length m parts (x ∷ xs) w =
    let e : length ((parts x ++ each_after m parts xs) ++ w) ≡ length (parts x) + length (each_after m parts xs ++ w) = ap length (append_assoc (parts x) (each_after m parts xs) w) ∙ length-append (parts x) (each_after m parts xs ++ w) in
    omega (arith, each_length m parts xs w)

several_again : {A : Type 0} (Q : A → Type 0) (F : List Part → Type 0) (m : Terminal) (one : Reads A) (parts : A → List Part) → Again Q F one parts → ((w : List Part) → F (terminal m ∷ w))
    → (xs : List A) → 1 ≤ length xs → AllByRecursion Q xs → (w : List Part) → Apart m w → F w → (ts : List Placed) → Fits (separated m parts xs ++ w) ts → Read xs w (several m one ts)
unfolding several
several_again Q F m one parts law behind [] some qs w stop f ts h = absurd (omega arith)
several_again Q F m one parts law behind (x ∷ xs) some qs w stop f ts h =
    let i = law x qs.0 (each_after m parts xs ++ w) (more_follow F m parts behind xs w f) ts (subst (λ z. Fits z ts) (append_assoc (parts x) (each_after m parts xs) w) h) in
    let few : length xs ≤ length i.0 = omega (arith, fits_length (each_after m parts xs ++ w) i.0 i.1, each_length m parts xs w) in
    let y = up_to_again Q F m one parts law behind xs qs.1 (length i.0) few w stop f i.0 i.1 in
    (y.0, y.1, then_again (one ts) (x, i.0) (λ x. with_first x.0 (further m one x.1)) _ i.2 (ap (with_first x) y.2))

-- no test, and nothing asked of what follows
abbrev Any : {A : Type 0} → A → Type 0
Any x = Unit {0}

every : {A : Type 0} (xs : List A) → AllByRecursion Any xs
every [] = tt
every (x ∷ xs) = (tt, every xs)

-- PRODUCTIONS

column_again : Again Any Any column_at column_parts
unfolding column_at
column_again c q w f ts h =
    let n = name_again c.name (keyword (kind_keyword c.kind) ∷ w) ts h in
    let k = take_again as_kind (λ k. keyword (kind_keyword k)) kind_back c.kind w n.0 n.1 in
    (k.0, k.1, then_again (take_at as_name ts) (c.name, n.0) _ _ n.2 (then_again (take_at as_kind n.0) (c.kind, k.0) _ _ k.2 refl))

columns_again : (cs : List ColumnForm) → 1 ≤ length cs → length cs ≤ 16 → (w : List Part) → Apart terminals.Comma w → (ts : List Placed) → Fits (separated terminals.Comma column_parts cs ++ w) ts → Read cs w (columns_at ts)
unfolding columns_at
columns_again [] some few w stop ts h = absurd (omega arith)
columns_again (c ∷ cs) some few w stop ts h =
    let x = column_again c tt (each_after terminals.Comma column_parts cs ++ w) tt ts (subst (λ z. Fits z ts) (append_assoc (column_parts c) (each_after terminals.Comma column_parts cs) w) h) in
    first_again Any Any terminals.Comma column_at column_parts column_again (λ w. tt) c cs tt (every cs) 15 (omega arith) w stop tt ts x.0 x.1 x.2

valid_again : (v : Bool) (w : List Part) → Apart (terminals.Keyword words.Valid) w → (ts : List Placed) → Fits (valid_parts v ++ w) ts → Read v w (valid_at ts)
unfolding valid_at
valid_again true w stop ts h = let a = after_again (terminals.Keyword words.Valid) w ts h in (a.0, a.1, ap (λ o. where_some o (Ok (false, ts)) (λ rest. Ok (true, rest))) a.2)
valid_again false w stop ts h = (ts, h, ap (λ o. where_some o (Ok (false, ts)) (λ rest. Ok (true, rest))) (after_none (terminals.Keyword words.Valid) w ts stop h))

item_again : Again Any Any (take_at as_item) item_parts
item_again x q w f ts h = take_again as_item item_part item_back x w ts h

item_no_star : (x : Item) → IsOther terminals.Star (item_part x)
item_no_star (items.Column n) = λ p e. name_other terminals.Star p.at p.token n e
item_no_star (items.ValidFrom at) = other_at terminals.Star (terminals.Keyword words.ValidFrom) at refl
item_no_star (items.ValidTo at) = other_at terminals.Star (terminals.Keyword words.ValidTo) at refl

items_no_star : (xs : List Item) (w : List Part) → 1 ≤ length xs → Apart terminals.Star (separated terminals.Comma item_parts xs ++ w)
items_no_star [] w some = absurd (omega arith)
items_no_star (x ∷ xs) w some = item_no_star x

asked_again : (all : Bool) (xs : List Item) → IsAsked all xs → (w : List Part) → Apart terminals.Comma w → (ts : List Placed) → Fits (asked_parts all xs ++ w) ts → Read (all, xs) w (asked_at ts)
unfolding asked_at
asked_again true [] is w stop ts h = let a = after_again terminals.Star w ts h in (a.0, a.1, ap (λ o. where_some o (items_at ts >>= λ x. Ok ((false, x.0), x.1)) (λ rest. Ok ((true, []), rest))) a.2)
asked_again true (x ∷ xs) is w stop ts h = absurd (cc)
asked_again false xs is w stop ts h =
    let a = several_again Any Any terminals.Comma (take_at as_item) item_parts item_again (λ w. tt) xs is (every xs) w stop tt ts h in (
      a.0,
      a.1,
      ap (λ o. where_some o (items_at ts >>= λ x. Ok ((false, x.0), x.1)) (λ rest. Ok ((true, []), rest))) (after_none terminals.Star (separated terminals.Comma item_parts xs ++ w) ts (items_no_star xs w is) h) ∙ then_again (items_at ts) (xs, a.0) _ _ a.2 refl,
    )

test_again : Again Any Any test_at test_parts
unfolding test_at
test_again t q w f ts h =
    let n = name_again t.column (terminal_at (cmp_terminal t.cmp) t.cmp_at ∷ constant t.value t.value_at ∷ w) ts h in
    let c = take_again as_cmp (λ x. terminal_at (cmp_terminal x.0) x.1) (λ p x e. cmp_back p x.0 x.1 e) (t.cmp, t.cmp_at) (constant t.value t.value_at ∷ w) n.0 n.1 in
    let v = take_again as_constant (λ x. constant x.0 x.1) constant_back (t.value, t.value_at) w c.0 c.1 in
    (v.0, v.1, then_again (take_at as_name ts) (t.column, n.0) _ _ n.2 (then_again (take_at as_cmp n.0) ((t.cmp, t.cmp_at), c.0) _ _ c.2 (then_again (take_at as_constant c.0) ((t.value, t.value_at), v.0) _ _ v.2 refl)))

conj_again : Again (λ tests. 1 ≤ length tests) (Apart (terminals.Keyword words.And)) conj_at conj_parts
conj_again tests some w stop ts h = several_again Any Any (terminals.Keyword words.And) test_at test_parts test_again (λ w. tt) tests some (every tests) w stop tt ts h

-- what may follow WHERE
pub record Follows (w : List Part) : Type 0 where
  pub no_where : Apart (terminals.Keyword words.Where) w
  pub no_and : Apart (terminals.Keyword words.And) w
  pub no_or : Apart (terminals.Keyword words.Or) w

any_again : (any : List (List Test)) → AllByRecursion (λ tests. 1 ≤ length tests) any → (w : List Part) → Follows w → (ts : List Placed) → Fits (any_parts any ++ w) ts → Read (record { any = any }) w (where_at ts)
unfolding where_at
any_again [] good w f ts h = (ts, h, ap (λ o. where_some o (Ok (record { any = [] }, ts)) (λ rest. several (terminals.Keyword words.Or) conj_at rest >>= λ any. Ok (record { any = any.0 }, any.1))) (after_none (terminals.Keyword words.Where) w ts f.no_where h))
any_again (tests ∷ any) good w f ts h =
    let a = after_again (terminals.Keyword words.Where) (separated (terminals.Keyword words.Or) conj_parts (tests ∷ any) ++ w) ts h in
    let s = several_again (λ tests. 1 ≤ length tests) (Apart (terminals.Keyword words.And)) (terminals.Keyword words.Or) conj_at conj_parts conj_again (λ w. other_said (terminals.Keyword words.And) (terminals.Keyword words.Or) refl) (tests ∷ any) (omega arith) good w f.no_or f.no_and a.0 a.1 in (
      s.0,
      s.1,
      ap (λ o. where_some o (Ok (record { any = [] }, ts)) (λ rest. several (terminals.Keyword words.Or) conj_at rest >>= λ any. Ok (record { any = any.0 }, any.1))) a.2 ∙ then_again (several (terminals.Keyword words.Or) conj_at a.0) (tests ∷ any, s.0) _ _ s.2 refl,
    )

where_again : (p : Pred) → IsPred p → (w : List Part) → Follows w → (ts : List Placed) → Fits (where_parts p ++ w) ts → Read p w (where_at ts)
where_again p good w f ts h = any_again p.any good w f ts h

valid_point_again : (o : Option ValidPoint) (w : List Part) → Apart (terminals.Keyword words.Valid) w → (ts : List Placed) → Fits (valid_at_parts o ++ w) ts → Read o w (valid_point_at ts)
unfolding valid_point_at
valid_point_again None w stop ts h = (ts, h, ap (λ o. where_some o (Ok (None, ts)) (λ valid. expect (terminals.Keyword words.At) valid.1 >>= λ rest. take_at as_moment rest >>= λ value. Ok (Some (record { pos = valid.0; value = value.0 }), value.1))) (valid_word_none w ts stop h))
valid_point_again (Some v) w stop ts h =
    let a = valid_word_again v.pos (keyword words.At ∷ moment v.value ∷ w) ts h in
    let o = expect_again (terminals.Keyword words.At) (moment v.value ∷ w) a.0 a.1 in
    let n = take_again as_moment moment (λ p x e. e) v.value w o.0 o.1 in (
      n.0,
      n.1,
      ap (λ o. where_some o (Ok (None, ts)) (λ valid. expect (terminals.Keyword words.At) valid.1 >>= λ rest. take_at as_moment rest >>= λ value. Ok (Some (record { pos = valid.0; value = value.0 }), value.1))) a.2
          ∙ then_again (expect (terminals.Keyword words.At) a.0) o.0 _ _ o.2 (then_again (take_at as_moment o.0) (v.value, n.0) _ _ n.2 refl),
    )

version_or_moment_again : (x : AsOf) (w : List Part) (ts : List Placed) → Fits (version_or_moment_parts x ++ w) ts → Read x w (version_or_moment_at ts)
unfolding version_or_moment_at
version_or_moment_again (as_ofs.Version s) w ts h =
    let no : peek_at (as_soft soft.Moment) ts ≡ None = soft_none soft.Moment (version s) w ts (λ p e. version_not_soft soft.Moment p.at p.token s e) h in
    let v = version_again s w ts h in
    (v.0, v.1, ap (λ o. where_some o (take_at as_version ts >>= λ s. Ok (as_ofs.Version s.0, s.1)) (λ word. take_at as_number word.1 >>= λ s. Ok (as_ofs.Moment s.0, s.1))) no ∙ then_again (take_at as_version ts) (s, v.0) _ _ v.2 refl)
version_or_moment_again (as_ofs.Moment s) w ts h =
    let a = soft_word_again soft.Moment (number s ∷ w) ts h in
    let v = number_again s w a.1 a.2 in
    (v.0, v.1, ap (λ o. where_some o (take_at as_version ts >>= λ s. Ok (as_ofs.Version s.0, s.1)) (λ word. take_at as_number word.1 >>= λ s. Ok (as_ofs.Moment s.0, s.1))) a.3 ∙ then_again (take_at as_number a.1) (s, v.0) _ _ v.2 refl)

as_of_again : (o : Option AsOf) (w : List Part) → Apart (terminals.Keyword words.As) w → (ts : List Placed) → Fits (as_of_parts o ++ w) ts → Read o w (as_of_at ts)
unfolding as_of_at
as_of_again None w stop ts h = (ts, h, ap (λ o. where_some o (Ok (None, ts)) (λ rest. expect (terminals.Keyword words.Of) rest >>= λ next. version_or_moment_at next >>= λ x. Ok (Some x.0, x.1))) (after_none (terminals.Keyword words.As) w ts stop h))
as_of_again (Some x) w stop ts h =
    let a = after_again (terminals.Keyword words.As) (keyword words.Of ∷ (version_or_moment_parts x ++ w)) ts h in
    let o = expect_again (terminals.Keyword words.Of) (version_or_moment_parts x ++ w) a.0 a.1 in
    let v = version_or_moment_again x w o.0 o.1 in (
      v.0,
      v.1,
      ap (λ o. where_some o (Ok (None, ts)) (λ rest. expect (terminals.Keyword words.Of) rest >>= λ next. version_or_moment_at next >>= λ x. Ok (Some x.0, x.1))) a.2
          ∙ then_again (expect (terminals.Keyword words.Of) a.0) o.0 _ _ o.2 (then_again (version_or_moment_at o.0) (x, v.0) _ _ v.2 refl),
    )

by_again : (o : Option Name) (w : List Part) → Apart (terminals.Keyword words.By) w → (ts : List Placed) → Fits (by_parts o ++ w) ts → Read o w (by_at ts)
unfolding by_at
by_again None w stop ts h = (ts, h, ap (λ o. where_some o (Ok (None, ts)) (λ rest. take_at as_name rest >>= λ name. Ok (Some name.0, name.1))) (after_none (terminals.Keyword words.By) w ts stop h))
by_again (Some n) w stop ts h =
    let a = after_again (terminals.Keyword words.By) (identifier n ∷ w) ts h in
    let x = name_again n w a.0 a.1 in
    (x.0, x.1, ap (λ o. where_some o (Ok (None, ts)) (λ rest. take_at as_name rest >>= λ name. Ok (Some name.0, name.1))) a.2 ∙ then_again (take_at as_name a.0) (n, x.0) _ _ x.2 refl)

versions_again : (from to : Stamp) (w : List Part) (ts : List Placed) → Fits (version from ∷ keyword words.To ∷ version to ∷ w) ts → Read (overs.System from to) w (versions_at ts)
unfolding versions_at
versions_again from to w ts h =
    let a = version_again from (keyword words.To ∷ version to ∷ w) ts h in
    let o = expect_again (terminals.Keyword words.To) (version to ∷ w) a.0 a.1 in
    let b = version_again to w o.0 o.1 in
    (b.0, b.1, then_again (take_at as_version ts) (from, a.0) _ _ a.2 (then_again (expect (terminals.Keyword words.To) a.0) o.0 _ _ o.2 (then_again (take_at as_version o.0) (to, b.0) _ _ b.2 refl)))

moments_again : (at : ℕ) (from to : Stamp) (as_of : Option AsOf) (w : List Part) → Apart (terminals.Keyword words.As) w → (ts : List Placed) → Fits (terminal_at (terminals.Keyword words.Valid) at ∷ bound from ∷ keyword words.To ∷ bound to ∷ (as_of_parts as_of ++ w)) ts → Read (overs.Valid at from to as_of) w (moments_at ts)
unfolding moments_at
moments_again at from to as_of w stop ts h =
    let v = take_again as_valid (terminal_at (terminals.Keyword words.Valid)) (λ p x e. ap as_valid e) at (bound from ∷ keyword words.To ∷ bound to ∷ (as_of_parts as_of ++ w)) ts h in
    let a = bound_again from (keyword words.To ∷ bound to ∷ (as_of_parts as_of ++ w)) v.0 v.1 in
    let o = expect_again (terminals.Keyword words.To) (bound to ∷ (as_of_parts as_of ++ w)) a.0 a.1 in
    let b = bound_again to _ o.0 o.1 in
    let s = as_of_again as_of w stop b.0 b.1 in (
      s.0,
      s.1,
      then_again (take_at as_valid ts) (at, v.0) _ _ v.2 (then_again (take_at as_bound v.0) (from, a.0) _ _ a.2 (then_again (expect (terminals.Keyword words.To) a.0) o.0 _ _ o.2 (then_again (take_at as_bound o.0) (to, b.0) _ _ b.2 (then_again (as_of_at b.0) (as_of, s.0) _ _ s.2 refl)))),
    )

over_again : (o : Over) (w : List Part) → Apart (terminals.Keyword words.As) w → (ts : List Placed) → Fits (over_parts o ++ w) ts → Read o w (over_at ts)
unfolding over_at system_at
over_again overs.SystemAll w stop ts h =
    let o = expect_again (terminals.Keyword words.Over) (keyword words.System ∷ keyword words.All ∷ w) ts h in
    let s = after_again (terminals.Keyword words.System) (keyword words.All ∷ w) o.0 o.1 in
    let a = after_again (terminals.Keyword words.All) w s.0 s.1 in
    (a.0, a.1, then_again (expect (terminals.Keyword words.Over) ts) o.0 _ _ o.2 (ap (λ x. where_some x (moments_at o.0) system_at) s.2 ∙ ap (λ x. where_some x (versions_at s.0) (λ rest. Ok (overs.SystemAll, rest))) a.2))
over_again (overs.System from to) w stop ts h =
    let o = expect_again (terminals.Keyword words.Over) (keyword words.System ∷ version from ∷ keyword words.To ∷ version to ∷ w) ts h in
    let s = after_again (terminals.Keyword words.System) (version from ∷ keyword words.To ∷ version to ∷ w) o.0 o.1 in
    let v = versions_again from to w s.0 s.1 in
    let no : after (terminals.Keyword words.All) s.0 ≡ None = after_none (terminals.Keyword words.All) (version from ∷ keyword words.To ∷ version to ∷ w) s.0 (λ p e. version_other (terminals.Keyword words.All) p.at p.token from e) s.1 in
    (v.0, v.1, then_again (expect (terminals.Keyword words.Over) ts) o.0 _ _ o.2 (ap (λ x. where_some x (moments_at o.0) system_at) s.2 ∙ ap (λ x. where_some x (versions_at s.0) (λ rest. Ok (overs.SystemAll, rest))) no ∙ v.2))
over_again (overs.Valid at from to as_of) w stop ts h =
    let o = expect_again (terminals.Keyword words.Over) (terminal_at (terminals.Keyword words.Valid) at ∷ bound from ∷ keyword words.To ∷ bound to ∷ (as_of_parts as_of ++ w)) ts h in
    let m = moments_again at from to as_of w stop o.0 o.1 in
    let no : after (terminals.Keyword words.System) o.0 ≡ None = after_none (terminals.Keyword words.System) (terminal_at (terminals.Keyword words.Valid) at ∷ bound from ∷ keyword words.To ∷ bound to ∷ (as_of_parts as_of ++ w)) o.0 (other_at (terminals.Keyword words.System) (terminals.Keyword words.Valid) at refl) o.1 in
    (m.0, m.1, then_again (expect (terminals.Keyword words.Over) ts) o.0 _ _ o.2 (ap (λ x. where_some x (moments_at o.0) system_at) no ∙ m.2))

some_name_again : (n : Name) (w : List Part) (ts : List Placed) → Fits (identifier n ∷ w) ts → Read (Some n) w (take_at as_name ts >>= λ name. Ok (Some name.0, name.1))
some_name_again n w ts h = let x = name_again n w ts h in (x.0, x.1, then_again (take_at as_name ts) (n, x.0) _ _ x.2 refl)

column_name_again : (k : AggKind) (o : Option Name) → IsAggregate k o → (w : List Part) (ts : List Placed) → Fits (column_name_parts o ++ w) ts → Read o w (column_name_at k ts)
unfolding column_name_at
column_name_again aggs.Count None is w ts h = (ts, h, refl)
column_name_again aggs.Count (Some n) is w ts h = absurd (cc)
column_name_again aggs.Sum None is w ts h = absurd (cc)
column_name_again aggs.Sum (Some n) is w ts h = some_name_again n w ts h
column_name_again aggs.Avg None is w ts h = absurd (cc)
column_name_again aggs.Avg (Some n) is w ts h = some_name_again n w ts h
column_name_again aggs.Min None is w ts h = absurd (cc)
column_name_again aggs.Min (Some n) is w ts h = some_name_again n w ts h
column_name_again aggs.Max None is w ts h = absurd (cc)
column_name_again aggs.Max (Some n) is w ts h = some_name_again n w ts h

side_again : (n : Name) (p : Pred) → IsPred p → (w : List Part) → Follows w → (ts : List Placed) → Fits (identifier n ∷ (where_parts p ++ w)) ts → Read (n, p) w (side_at ts)
unfolding side_at
side_again n p good w f ts h =
    let x = name_again n _ ts h in
    let y = where_again p good w f x.0 x.1 in
    (y.0, y.1, then_again (take_at as_name ts) (n, x.0) _ _ x.2 (then_again (where_at x.0) (p, y.0) _ _ y.2 refl))

on_again : (a b : Name) (w : List Part) (ts : List Placed) → Fits (keyword words.On ∷ identifier a ∷ terminal terminals.Equal ∷ identifier b ∷ w) ts → Read (a, b) w (on_at ts)
unfolding on_at
on_again a b w ts h =
    let o = expect_again (terminals.Keyword words.On) (identifier a ∷ terminal terminals.Equal ∷ identifier b ∷ w) ts h in
    let x = name_again a (terminal terminals.Equal ∷ identifier b ∷ w) o.0 o.1 in
    let e = expect_again terminals.Equal (identifier b ∷ w) x.0 x.1 in
    let y = name_again b w e.0 e.1 in
    (y.0, y.1, then_again (expect (terminals.Keyword words.On) ts) o.0 _ _ o.2 (then_again (take_at as_name o.0) (a, x.0) _ _ x.2 (then_again (expect terminals.Equal x.0) e.0 _ _ e.2 (then_again (take_at as_name e.0) (b, y.0) _ _ y.2 refl))))

-- WHAT FOLLOWS

end_apart : (m : Terminal) → same_terminal terminals.Semicolon m ≡ false → (b : Bool) → Apart m (end_parts b)
end_apart m e true = other_said m terminals.Semicolon e
end_apart m e false = tt

as_of_apart : (m : Terminal) → same_terminal terminals.Semicolon m ≡ false → same_terminal (terminals.Keyword words.As) m ≡ false → (o : Option AsOf) (b : Bool) → Apart m (as_of_parts o ++ end_parts b)
as_of_apart m e h None b = end_apart m e b
as_of_apart m e h (Some s) b = other_said m (terminals.Keyword words.As) h

valid_apart : (m : Terminal) → same_terminal terminals.Semicolon m ≡ false → same_terminal (terminals.Keyword words.As) m ≡ false → same_terminal (terminals.Keyword words.Valid) m ≡ false → (v : Option ValidPoint) (o : Option AsOf) (b : Bool) → Apart m (valid_at_parts v ++ (as_of_parts o ++ end_parts b))
valid_apart m e h k None o b = as_of_apart m e h o b
valid_apart m e h k (Some v) o b = other_at m (terminals.Keyword words.Valid) v.pos k

over_apart : (m : Terminal) → same_terminal (terminals.Keyword words.Over) m ≡ false → (o : Over) (w : List Part) → Apart m (over_parts o ++ w)
over_apart m e overs.SystemAll w = other_said m (terminals.Keyword words.Over) e
over_apart m e (overs.System from to) w = other_said m (terminals.Keyword words.Over) e
over_apart m e (overs.Valid at from to as_of) w = other_said m (terminals.Keyword words.Over) e

by_apart : (m : Terminal) → same_terminal (terminals.Keyword words.Over) m ≡ false → same_terminal (terminals.Keyword words.By) m ≡ false → (n : Option Name) (o : Over) (w : List Part) → Apart m (by_parts n ++ (over_parts o ++ w))
by_apart m e h None o w = over_apart m e o w
by_apart m e h (Some n) o w = other_said m (terminals.Keyword words.By) h

agg_apart : (k : AggKind) → (same_terminal (terminals.Keyword (agg_keyword k)) (terminals.Keyword words.Create) ≡ false) × (same_terminal (terminals.Keyword (agg_keyword k)) (terminals.Keyword words.Put) ≡ false) × (same_terminal (terminals.Keyword (agg_keyword k)) (terminals.Keyword words.Remove) ≡ false) × (same_terminal (terminals.Keyword (agg_keyword k)) (terminals.Keyword words.Select) ≡ false) × (same_terminal (terminals.Keyword (agg_keyword k)) (terminals.Keyword words.Join) ≡ false)
agg_apart aggs.Count = (refl, refl, refl, refl, refl)
agg_apart aggs.Sum = (refl, refl, refl, refl, refl)
agg_apart aggs.Avg = (refl, refl, refl, refl, refl)
agg_apart aggs.Min = (refl, refl, refl, refl, refl)
agg_apart aggs.Max = (refl, refl, refl, refl, refl)

-- STATEMENTS

create_whole : (f : CreateForm) (w : List Part) → create_parts f ++ w ≡ keyword words.Create ∷ keyword words.Table ∷ identifier f.name ∷ terminal terminals.Open ∷ (separated terminals.Comma column_parts f.columns ++ (terminal terminals.Close ∷ keyword words.Key ∷ identifier f.key ∷ (valid_parts f.valid ++ w)))
create_whole f w = simp append_assoc

create_again : (f : CreateForm) → IsCreate f → (b : Bool) (ts : List Placed) → Fits (keyword words.Table ∷ identifier f.name ∷ terminal terminals.Open ∷ (separated terminals.Comma column_parts f.columns ++ (terminal terminals.Close ∷ keyword words.Key ∷ identifier f.key ∷ (valid_parts f.valid ++ end_parts b)))) ts → create_at ts ≡ Ok (statements.Create f)
unfolding create_at
create_again f is b ts h =
    let table = expect_again (terminals.Keyword words.Table) (identifier f.name ∷ terminal terminals.Open ∷ (separated terminals.Comma column_parts f.columns ++ terminal terminals.Close ∷ keyword words.Key ∷ identifier f.key ∷ (valid_parts f.valid ++ end_parts b))) ts h in
    let name = name_again f.name (terminal terminals.Open ∷ (separated terminals.Comma column_parts f.columns ++ terminal terminals.Close ∷ keyword words.Key ∷ identifier f.key ∷ (valid_parts f.valid ++ end_parts b))) table.0 table.1 in
    let opened = expect_again terminals.Open _ name.0 name.1 in
    let columns = columns_again f.columns is.some is.few (terminal terminals.Close ∷ keyword words.Key ∷ identifier f.key ∷ (valid_parts f.valid ++ end_parts b)) (other_said terminals.Comma terminals.Close refl) opened.0 opened.1 in
    let closed = expect_again terminals.Close (keyword words.Key ∷ identifier f.key ∷ (valid_parts f.valid ++ end_parts b)) columns.0 columns.1 in
    let word = expect_again (terminals.Keyword words.Key) (identifier f.key ∷ (valid_parts f.valid ++ end_parts b)) closed.0 closed.1 in
    let key = name_again f.key _ word.0 word.1 in
    let valid = valid_again f.valid (end_parts b) (end_apart (terminals.Keyword words.Valid) refl b) key.0 key.1 in
    then_again (expect (terminals.Keyword words.Table) ts) table.0 _ _ table.2 (then_again (take_at as_name table.0) (f.name, name.0) _ _ name.2 (then_again (expect terminals.Open name.0) opened.0 _ _ opened.2
    (then_again (columns_at opened.0) (f.columns, columns.0) _ _ columns.2 (then_again (expect terminals.Close columns.0) closed.0 _ _ closed.2 (then_again (expect (terminals.Keyword words.Key) closed.0) word.0 _ _ word.2
    (then_again (take_at as_name word.0) (f.key, key.0) _ _ key.2 (then_again (valid_at key.0) (f.valid, valid.0) _ _ valid.2 (ended_again (statements.Create f) b valid.0 valid.1))))))))

put_again : (n : Name) (b : Bool) (ts : List Placed) → Fits (identifier n ∷ end_parts b) ts → put_at ts ≡ Ok (statements.Put n)
unfolding put_at
put_again n b ts h = let x = name_again n (end_parts b) ts h in then_again (take_at as_name ts) (n, x.0) (λ x. statement_end (statements.Put x.0) x.1) _ x.2 (ended_again (statements.Put n) b x.0 x.1)

remove_again : (n : Name) (b : Bool) (ts : List Placed) → Fits (identifier n ∷ end_parts b) ts → remove_at ts ≡ Ok (statements.Remove n)
unfolding remove_at
remove_again n b ts h = let x = name_again n (end_parts b) ts h in then_again (take_at as_name ts) (n, x.0) (λ x. statement_end (statements.Remove x.0) x.1) _ x.2 (ended_again (statements.Remove n) b x.0 x.1)

select_whole : (f : SelectForm) (w : List Part) → select_parts f ++ w ≡ keyword words.Select ∷ (asked_parts f.all f.items ++ (keyword words.From ∷ identifier f.table ∷ (where_parts f.pred ++ (valid_at_parts f.valid_at ++ (as_of_parts f.as_of ++ w)))))
select_whole f w = simp append_assoc

select_again : (f : SelectForm) → IsSelect f → (b : Bool) (ts : List Placed) → Fits (asked_parts f.all f.items ++ (keyword words.From ∷ identifier f.table ∷ (where_parts f.pred ++ (valid_at_parts f.valid_at ++ (as_of_parts f.as_of ++ end_parts b))))) ts → parse_select ts ≡ Ok (statements.Ask (queries.Select f))
unfolding parse_select
select_again f is b ts h =
    let rest : List Part = valid_at_parts f.valid_at ++ (as_of_parts f.as_of ++ end_parts b) in
    let follows : Follows rest = record { no_where = valid_apart (terminals.Keyword words.Where) refl refl refl f.valid_at f.as_of b; no_and = valid_apart (terminals.Keyword words.And) refl refl refl f.valid_at f.as_of b; no_or = valid_apart (terminals.Keyword words.Or) refl refl refl f.valid_at f.as_of b } in
    let asked = asked_again f.all f.items is.asked (keyword words.From ∷ identifier f.table ∷ (where_parts f.pred ++ rest)) (other_said terminals.Comma (terminals.Keyword words.From) refl) ts h in
    let from = expect_again (terminals.Keyword words.From) (identifier f.table ∷ (where_parts f.pred ++ (valid_at_parts f.valid_at ++ (as_of_parts f.as_of ++ end_parts b)))) asked.0 asked.1 in
    let side = name_again f.table _ from.0 from.1 in
    let tested = where_again f.pred is.tested rest follows side.0 side.1 in
    let valid = valid_point_again f.valid_at _ (as_of_apart (terminals.Keyword words.Valid) refl refl f.as_of b) tested.0 tested.1 in
    let as_of = as_of_again f.as_of (end_parts b) (end_apart (terminals.Keyword words.As) refl b) valid.0 valid.1 in
    then_again (asked_at ts) ((f.all, f.items), asked.0) _ _ asked.2 (then_again (expect (terminals.Keyword words.From) asked.0) from.0 _ _ from.2 (then_again (take_at as_name from.0) (f.table, side.0) _ _ side.2 (then_again (where_at side.0) (f.pred, tested.0) _ _ tested.2
    (then_again (valid_point_at tested.0) (f.valid_at, valid.0) _ _ valid.2 (then_again (as_of_at valid.0) (f.as_of, as_of.0) _ _ as_of.2 (ended_again (statements.Ask (queries.Select f)) b as_of.0 as_of.1))))))

agg_whole : (f : AggForm) (w : List Part) → agg_parts f ++ w ≡ keyword (agg_keyword f.kind) ∷ (column_name_parts f.column ++ (keyword words.From ∷ identifier f.table ∷ (where_parts f.pred ++ (by_parts f.by ++ (over_parts f.over ++ w)))))
agg_whole f w = simp append_assoc

agg_again : (f : AggForm) → IsAgg f → (b : Bool) (ts : List Placed) → Fits (keyword (agg_keyword f.kind) ∷ (column_name_parts f.column ++ (keyword words.From ∷ identifier f.table ∷ (where_parts f.pred ++ (by_parts f.by ++ (over_parts f.over ++ end_parts b)))))) ts → agg_at ts ≡ Ok (statements.Ask (queries.Agg f))
unfolding agg_at
agg_again f is b ts h =
    let rest : List Part = by_parts f.by ++ (over_parts f.over ++ end_parts b) in
    let follows : Follows rest = record { no_where = by_apart (terminals.Keyword words.Where) refl refl f.by f.over (end_parts b); no_and = by_apart (terminals.Keyword words.And) refl refl f.by f.over (end_parts b); no_or = by_apart (terminals.Keyword words.Or) refl refl f.by f.over (end_parts b) } in
    let kind = take_again as_agg (λ k. keyword (agg_keyword k)) agg_back f.kind _ ts h in
    let column = column_name_again f.kind f.column is.aggregate _ kind.0 kind.1 in
    let from = expect_again (terminals.Keyword words.From) (identifier f.table ∷ (where_parts f.pred ++ (by_parts f.by ++ (over_parts f.over ++ end_parts b)))) column.0 column.1 in
    let side = name_again f.table _ from.0 from.1 in
    let tested = where_again f.pred is.tested rest follows side.0 side.1 in
    let by = by_again f.by _ (over_apart (terminals.Keyword words.By) refl f.over (end_parts b)) tested.0 tested.1 in
    let over = over_again f.over (end_parts b) (end_apart (terminals.Keyword words.As) refl b) by.0 by.1 in
    then_again (take_at as_agg ts) (f.kind, kind.0) _ _ kind.2 (then_again (column_name_at f.kind kind.0) (f.column, column.0) _ _ column.2 (then_again (expect (terminals.Keyword words.From) column.0) from.0 _ _ from.2 (then_again (take_at as_name from.0) (f.table, side.0) _ _ side.2
    (then_again (where_at side.0) (f.pred, tested.0) _ _ tested.2 (then_again (by_at tested.0) (f.by, by.0) _ _ by.2 (then_again (over_at by.0) (f.over, over.0) _ _ over.2 (ended_again (statements.Ask (queries.Agg f)) b over.0 over.1)))))))

join_whole : (f : JoinForm) (w : List Part) → join_parts f ++ w ≡ keyword words.Join ∷ identifier f.left ∷ (where_parts f.left_pred ++ (keyword words.With ∷ identifier f.right ∷ (where_parts f.right_pred ++ (keyword words.On ∷ identifier f.left_on ∷ terminal terminals.Equal ∷ identifier f.right_on ∷ (over_parts f.over ++ w)))))
join_whole f w = simp append_assoc

join_again : (f : JoinForm) → IsJoin f → (b : Bool) (ts : List Placed) → Fits (identifier f.left ∷ (where_parts f.left_pred ++ (keyword words.With ∷ identifier f.right ∷ (where_parts f.right_pred ++ (keyword words.On ∷ identifier f.left_on ∷ terminal terminals.Equal ∷ identifier f.right_on ∷ (over_parts f.over ++ end_parts b)))))) ts → join_at ts ≡ Ok (statements.Ask (queries.Join f))
unfolding join_at
join_again f is b ts h =
    let behind : List Part = keyword words.On ∷ identifier f.left_on ∷ terminal terminals.Equal ∷ identifier f.right_on ∷ (over_parts f.over ++ end_parts b) in
    let rest : List Part = keyword words.With ∷ identifier f.right ∷ (where_parts f.right_pred ++ behind) in
    let first : Follows rest = record { no_where = other_said (terminals.Keyword words.Where) (terminals.Keyword words.With) refl; no_and = other_said (terminals.Keyword words.And) (terminals.Keyword words.With) refl; no_or = other_said (terminals.Keyword words.Or) (terminals.Keyword words.With) refl } in
    let second : Follows behind = record { no_where = other_said (terminals.Keyword words.Where) (terminals.Keyword words.On) refl; no_and = other_said (terminals.Keyword words.And) (terminals.Keyword words.On) refl; no_or = other_said (terminals.Keyword words.Or) (terminals.Keyword words.On) refl } in
    let left = side_again f.left f.left_pred is.left_tested rest first ts h in
    let word = expect_again (terminals.Keyword words.With) (identifier f.right ∷ (where_parts f.right_pred ++ keyword words.On ∷ identifier f.left_on ∷ terminal terminals.Equal ∷ identifier f.right_on ∷ (over_parts f.over ++ end_parts b))) left.0 left.1 in
    let right = side_again f.right f.right_pred is.right_tested behind second word.0 word.1 in
    let on = on_again f.left_on f.right_on _ right.0 right.1 in
    let over = over_again f.over (end_parts b) (end_apart (terminals.Keyword words.As) refl b) on.0 on.1 in
    then_again (side_at ts) ((f.left, f.left_pred), left.0) _ _ left.2 (then_again (expect (terminals.Keyword words.With) left.0) word.0 _ _ word.2 (then_again (side_at word.0) ((f.right, f.right_pred), right.0) _ _ right.2
    (then_again (on_at right.0) ((f.left_on, f.right_on), on.0) _ _ on.2 (then_again (over_at on.0) (f.over, over.0) _ _ over.2 (ended_again (statements.Ask (queries.Join f)) b over.0 over.1)))))

moment_stated_again : (s : Stamp) (b : Bool) (ts : List Placed) → Fits (number s ∷ end_parts b) ts → moment_stated_at ts ≡ Ok (statements.Moment s)
unfolding moment_stated_at
moment_stated_again s b ts h = let x = number_again s (end_parts b) ts h in then_again (take_at as_number ts) (s, x.0) (λ x. statement_end (statements.Moment x.0) x.1) _ x.2 (ended_again (statements.Moment s) b x.0 x.1)

forget_again : (n : Name) (s : Stamp) (b : Bool) (ts : List Placed) → Fits (identifier n ∷ said soft.Before ∷ version s ∷ end_parts b) ts → forget_at ts ≡ Ok (statements.Forget n s)
unfolding forget_at
forget_again n s b ts h =
    let x = name_again n (said soft.Before ∷ version s ∷ end_parts b) ts h in
    let w = soft_taken_again soft.Before (version s ∷ end_parts b) x.0 x.1 in
    let v = version_again s (end_parts b) w.1 w.2 in
    then_again (take_at as_name ts) (n, x.0) _ _ x.2 (then_again (take_at (as_soft soft.Before) x.0) (w.0, w.1) _ _ w.3 (then_again (take_at as_version w.1) (s, v.0) _ _ v.2 (ended_again (statements.Forget n s) b v.0 v.1)))

sync_again : (n : Name) (b : Bool) (ts : List Placed) → Fits (identifier n ∷ end_parts b) ts → sync_at ts ≡ Ok (statements.Sync n)
unfolding sync_at
sync_again n b ts h = let x = name_again n (end_parts b) ts h in then_again (take_at as_name ts) (n, x.0) (λ x. statement_end (statements.Sync x.0) x.1) _ x.2 (ended_again (statements.Sync n) b x.0 x.1)

-- where a keyword comes first, no such word does
agg_first : (ts : List Placed) (k : Terminal) (w : List Part) → Fits (terminal k ∷ w) ts → agg_or_soft_at ts ≡ agg_at ts
unfolding agg_or_soft_at
agg_first ts k w h =
    let no : (m : SoftWord) → peek_at (as_soft m) ts ≡ None = λ m. soft_none m (terminal k) w ts (λ p e. ap (is_soft m) e) h in
    ap (λ o. where_some o (agg_or_forget_at ts) (λ word. moment_stated_at word.1)) (no soft.Moment) ∙ ap (λ o. where_some o (agg_or_sync_at ts) (λ word. forget_at word.1)) (no soft.Forget) ∙ ap (λ o. where_some o (agg_at ts) (λ word. sync_at word.1)) (no soft.Sync)

moment_first : (s : Stamp) (b : Bool) (ts : List Placed) → Fits (said soft.Moment ∷ number s ∷ end_parts b) ts → agg_or_soft_at ts ≡ Ok (statements.Moment s)
unfolding agg_or_soft_at
moment_first s b ts h =
    let a = soft_word_again soft.Moment (number s ∷ end_parts b) ts h in
    ap (λ o. where_some o (agg_or_forget_at ts) (λ word. moment_stated_at word.1)) a.3 ∙ moment_stated_again s b a.1 a.2

forget_not_moment : is_soft soft.Moment (Word (soft_spelling soft.Forget)) ≡ false
unfolding soft_spelling
forget_not_moment = refl

forget_first : (n : Name) (s : Stamp) (b : Bool) (ts : List Placed) → Fits (said soft.Forget ∷ identifier n ∷ said soft.Before ∷ version s ∷ end_parts b) ts → agg_or_soft_at ts ≡ Ok (statements.Forget n s)
unfolding agg_or_soft_at
forget_first n s b ts h =
    let w : List Part = identifier n ∷ said soft.Before ∷ version s ∷ end_parts b in
    let no : peek_at (as_soft soft.Moment) ts ≡ None = soft_none soft.Moment (said soft.Forget) w ts (λ p e. ap (is_soft soft.Moment) e ∙ forget_not_moment) h in
    let a = soft_word_again soft.Forget w ts h in
    ap (λ o. where_some o (agg_or_forget_at ts) (λ word. moment_stated_at word.1)) no ∙ ap (λ o. where_some o (agg_or_sync_at ts) (λ word. forget_at word.1)) a.3 ∙ forget_again n s b a.1 a.2

sync_not_before : (is_soft soft.Moment (Word (soft_spelling soft.Sync)) ≡ false) × (is_soft soft.Forget (Word (soft_spelling soft.Sync)) ≡ false)
unfolding soft_spelling
sync_not_before = (refl, refl)

sync_first : (n : Name) (b : Bool) (ts : List Placed) → Fits (said soft.Sync ∷ identifier n ∷ end_parts b) ts → agg_or_soft_at ts ≡ Ok (statements.Sync n)
unfolding agg_or_soft_at
sync_first n b ts h =
    let w : List Part = identifier n ∷ end_parts b in
    let no_moment : peek_at (as_soft soft.Moment) ts ≡ None = soft_none soft.Moment (said soft.Sync) w ts (λ p e. ap (is_soft soft.Moment) e ∙ sync_not_before.0) h in
    let no_floor : peek_at (as_soft soft.Forget) ts ≡ None = soft_none soft.Forget (said soft.Sync) w ts (λ p e. ap (is_soft soft.Forget) e ∙ sync_not_before.1) h in
    let a = soft_word_again soft.Sync w ts h in
    ap (λ o. where_some o (agg_or_forget_at ts) (λ word. moment_stated_at word.1)) no_moment ∙ ap (λ o. where_some o (agg_or_sync_at ts) (λ word. forget_at word.1)) no_floor ∙ ap (λ o. where_some o (agg_at ts) (λ word. sync_at word.1)) a.3 ∙ sync_again n b a.1 a.2

-- where such a word comes first, no keyword does
keyword_none : (ts : List Placed) (m : SoftWord) (w : List Part) → Fits (said m ∷ w) ts → put_or_less ts ≡ agg_or_soft_at ts
keyword_none ts m w h =
    let no : (k : Terminal) → after k ts ≡ None = λ k. after_none k (said m ∷ w) ts (said_other k m) h in
    ap (λ o. where_some o (remove_or_less ts) put_at) (no (terminals.Keyword words.Put)) ∙ ap (λ o. where_some o (select_or_less ts) remove_at) (no (terminals.Keyword words.Remove))
    ∙ ap (λ o. where_some o (join_or_less ts) parse_select) (no (terminals.Keyword words.Select)) ∙ ap (λ o. where_some o (agg_or_soft_at ts) join_at) (no (terminals.Keyword words.Join))

-- the word with which no other statement begins
first_word : (ts : List Placed) (k : Terminal) (w : List Part) → Fits (terminal k ∷ w) ts → (m : Terminal) → same_terminal k m ≡ false → after m ts ≡ None
first_word ts k w h m e = after_none m (terminal k ∷ w) ts (other_said m k e) h

-- what is spelled is read
pub statement_again : (ts : List Placed) (s : Statement) → IsSpelling ts s → statement_at ts ≡ Ok s
unfolding statement_at
statement_again ts (statements.Create f) h =
    let a = after_again (terminals.Keyword words.Create) (keyword words.Table ∷ identifier f.name ∷ terminal terminals.Open ∷ (separated terminals.Comma column_parts f.columns ++ terminal terminals.Close ∷ keyword words.Key ∷ identifier f.key ∷ (valid_parts f.valid ++ end_parts h.1.0))) ts (subst (λ z. Fits z ts) (create_whole f (end_parts h.1.0)) h.1.1) in
    ap (λ o. where_some o (put_or_less ts) create_at) a.2 ∙ create_again f h.0 h.1.0 a.0 a.1
statement_again ts (statements.Put n) h =
    let a = after_again (terminals.Keyword words.Put) (identifier n ∷ end_parts h.1.0) ts h.1.1 in
    let no : (m : Terminal) → same_terminal (terminals.Keyword words.Put) m ≡ false → after m ts ≡ None = first_word ts (terminals.Keyword words.Put) (identifier n ∷ end_parts h.1.0) h.1.1 in
    ap (λ o. where_some o (put_or_less ts) create_at) (no (terminals.Keyword words.Create) refl) ∙ ap (λ o. where_some o (remove_or_less ts) put_at) a.2 ∙ put_again n h.1.0 a.0 a.1
statement_again ts (statements.Remove n) h =
    let a = after_again (terminals.Keyword words.Remove) (identifier n ∷ end_parts h.1.0) ts h.1.1 in
    let no : (m : Terminal) → same_terminal (terminals.Keyword words.Remove) m ≡ false → after m ts ≡ None = first_word ts (terminals.Keyword words.Remove) (identifier n ∷ end_parts h.1.0) h.1.1 in
    ap (λ o. where_some o (put_or_less ts) create_at) (no (terminals.Keyword words.Create) refl) ∙ ap (λ o. where_some o (remove_or_less ts) put_at) (no (terminals.Keyword words.Put) refl) ∙ ap (λ o. where_some o (select_or_less ts) remove_at) a.2 ∙ remove_again n h.1.0 a.0 a.1
statement_again ts (statements.Ask (queries.Select f)) h =
    let k = subst (λ z. Fits z ts) (select_whole f (end_parts h.1.0)) h.1.1 in
    let a = after_again (terminals.Keyword words.Select) _ ts k in
    let no : (m : Terminal) → same_terminal (terminals.Keyword words.Select) m ≡ false → after m ts ≡ None = first_word ts (terminals.Keyword words.Select) _ k in
    ap (λ o. where_some o (put_or_less ts) create_at) (no (terminals.Keyword words.Create) refl) ∙ ap (λ o. where_some o (remove_or_less ts) put_at) (no (terminals.Keyword words.Put) refl) ∙ ap (λ o. where_some o (select_or_less ts) remove_at) (no (terminals.Keyword words.Remove) refl)
    ∙ ap (λ o. where_some o (join_or_less ts) parse_select) a.2 ∙ select_again f h.0 h.1.0 a.0 a.1
statement_again ts (statements.Ask (queries.Join f)) h =
    let k = subst (λ z. Fits z ts) (join_whole f (end_parts h.1.0)) h.1.1 in
    let a = after_again (terminals.Keyword words.Join) (identifier f.left ∷ (where_parts f.left_pred ++ keyword words.With ∷ identifier f.right ∷ (where_parts f.right_pred ++ keyword words.On ∷ identifier f.left_on ∷ terminal terminals.Equal ∷ identifier f.right_on ∷ (over_parts f.over ++ end_parts h.1.0)))) ts k in
    let no : (m : Terminal) → same_terminal (terminals.Keyword words.Join) m ≡ false → after m ts ≡ None = first_word ts (terminals.Keyword words.Join) (identifier f.left ∷ (where_parts f.left_pred ++ keyword words.With ∷ identifier f.right ∷ (where_parts f.right_pred ++ keyword words.On ∷ identifier f.left_on ∷ terminal terminals.Equal ∷ identifier f.right_on ∷ (over_parts f.over ++ end_parts h.1.0)))) k in
    ap (λ o. where_some o (put_or_less ts) create_at) (no (terminals.Keyword words.Create) refl) ∙ ap (λ o. where_some o (remove_or_less ts) put_at) (no (terminals.Keyword words.Put) refl) ∙ ap (λ o. where_some o (select_or_less ts) remove_at) (no (terminals.Keyword words.Remove) refl)
    ∙ ap (λ o. where_some o (join_or_less ts) parse_select) (no (terminals.Keyword words.Select) refl) ∙ ap (λ o. where_some o (agg_or_soft_at ts) join_at) a.2 ∙ join_again f h.0 h.1.0 a.0 a.1
statement_again ts (statements.Ask (queries.Agg f)) h =
    let k = subst (λ z. Fits z ts) (agg_whole f (end_parts h.1.0)) h.1.1 in
    let e = agg_apart f.kind in
    let no : (m : Terminal) → same_terminal (terminals.Keyword (agg_keyword f.kind)) m ≡ false → after m ts ≡ None = first_word ts (terminals.Keyword (agg_keyword f.kind)) _ k in
    ap (λ o. where_some o (put_or_less ts) create_at) (no (terminals.Keyword words.Create) e.0) ∙ ap (λ o. where_some o (remove_or_less ts) put_at) (no (terminals.Keyword words.Put) e.1) ∙ ap (λ o. where_some o (select_or_less ts) remove_at) (no (terminals.Keyword words.Remove) e.2)
    ∙ ap (λ o. where_some o (join_or_less ts) parse_select) (no (terminals.Keyword words.Select) e.3) ∙ ap (λ o. where_some o (agg_or_soft_at ts) join_at) (no (terminals.Keyword words.Join) e.4) ∙ agg_first ts (terminals.Keyword (agg_keyword f.kind)) _ k ∙ agg_again f h.0 h.1.0 ts k
statement_again ts (statements.Moment s) h =
    let w : List Part = number s ∷ end_parts h.1.0 in
    let no : after (terminals.Keyword words.Create) ts ≡ None = after_none (terminals.Keyword words.Create) (said soft.Moment ∷ w) ts (said_other (terminals.Keyword words.Create) soft.Moment) h.1.1 in
    ap (λ o. where_some o (put_or_less ts) create_at) no ∙ keyword_none ts soft.Moment w h.1.1 ∙ moment_first s h.1.0 ts h.1.1
statement_again ts (statements.Forget n s) h =
    let w : List Part = identifier n ∷ said soft.Before ∷ version s ∷ end_parts h.1.0 in
    let no : after (terminals.Keyword words.Create) ts ≡ None = after_none (terminals.Keyword words.Create) (said soft.Forget ∷ w) ts (said_other (terminals.Keyword words.Create) soft.Forget) h.1.1 in
    ap (λ o. where_some o (put_or_less ts) create_at) no ∙ keyword_none ts soft.Forget w h.1.1 ∙ forget_first n s h.1.0 ts h.1.1
statement_again ts (statements.Sync n) h =
    let w : List Part = identifier n ∷ end_parts h.1.0 in
    let no : after (terminals.Keyword words.Create) ts ≡ None = after_none (terminals.Keyword words.Create) (said soft.Sync ∷ w) ts (said_other (terminals.Keyword words.Create) soft.Sync) h.1.1 in
    ap (λ o. where_some o (put_or_less ts) create_at) no ∙ keyword_none ts soft.Sync w h.1.1 ∙ sync_first n h.1.0 ts h.1.1
