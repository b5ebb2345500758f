-- Reading tokens whose offsets are all 0 gives what reading them gives, but for its offsets.
use Rattle.std.proofs.Common.{◌≡◌, ℕ, zero, suc, Bool, true, false, cond, List, [], ◌∷◌, length, map, Option, Some, None, Result, Ok, Err, refl, ◌∙◌, ap}
use Rattle.std.specs.Option.{option_map}
use Rattle.tl_types.specs.declared.cells.Cell.{Cell}
use Rattle.tl_types.specs.declared.cells.Cmp.{Cmp}
use Rattle.tl_query.specs.declared.terminals.Terminal.{Terminal}
use Rattle.tl_types.specs.declared.keywords.Keyword.TheVariants as words
use Rattle.tl_query.specs.declared.terminals.Terminal.TheVariants as terminals
use Rattle.tl_query.specs.declared.terminals.SoftWord.{SoftWord}
use Rattle.tl_query.specs.declared.terminals.SoftWord.TheVariants as soft
use Rattle.tl_query.specs.declared.tokens.Token.{Token}
use Rattle.tl_query.specs.declared.tokens.Token.TheVariants.{Fixed, Word, Number, Negative}
use Rattle.tl_query.specs.declared.tokens.Placed.{Placed}
use Rattle.tl_query.specs.declared.ast.Name.{Name}
use Rattle.tl_query.specs.declared.ast.AggKind.{AggKind}
use Rattle.tl_query.specs.declared.ast.AggKind.TheVariants as aggs
use Rattle.tl_query.specs.declared.ast.AsOf.TheVariants as as_ofs
use Rattle.tl_query.specs.declared.ast.Over.TheVariants as overs
use Rattle.tl_query.specs.declared.ast.Pred.{Pred}
use Rattle.tl_query.specs.declared.ast.Item.{Item}
use Rattle.tl_query.specs.declared.ast.Query.TheVariants as queries
use Rattle.tl_query.specs.declared.ast.Statement.{Statement}
use Rattle.tl_query.specs.declared.ast.Statement.TheVariants as statements
use Rattle.tl_query.specs.Grammar.{name_by, version_by, number_by, bound_by, constant_by}
use Rattle.tl_query.specs.Printing.{unplaced_name, unplaced_stamp, unplaced_column, unplaced_item, unplaced_test, unplaced_pred, unplaced_point, unplaced_as_of, unplaced_over, without_offsets}
use Rattle.tl_query.specs.Reading.{◌>>=◌, first_offset, is_fixed, after, expect, as_name, as_version, as_moment, as_number, is_soft, as_soft, as_bound, as_constant, item_by, as_item, as_kind, cmp_by, as_cmp, as_agg, valid_by, as_valid, take_at, peek_at, last_of, statement_end, where_some, with_first, up_to, further, several, column_at, columns_at, valid_at, create_at, put_at, remove_at, items_at, asked_at, test_at, conj_at, where_at, valid_point_at, version_or_moment_at, as_of_at, moment_stated_at, forget_at, sync_at, agg_or_sync_at, agg_or_forget_at, agg_or_soft_at, parse_select, versions_at, system_at, moments_at, over_at, column_name_at, by_at, agg_at, side_at, on_at, join_at, statement_at}
use Rattle.tl_query.proofs.Lists.{Reads}
use Rattle.tl_query.proofs.Readers.{join_or_less, select_or_less, remove_or_less, put_or_less}

-- a token at the offset 0
abbrev pub unplaced_token : Placed → Placed
unplaced_token p = record { token = p.token; at = 0 }

abbrev pub zeros : List Placed → List Placed
zeros ts = map unplaced_token ts

-- a result with the value changed, and any offset 0
abbrev pub changed : {A : Type 0} → (A → A) → Result A (Option ℕ) → Result A (Option ℕ)
changed f (Ok x) = Ok (f x)
changed f (Err o) = Err (option_map (λ _. 0) o)

-- a value and the tokens after it
abbrev pub both : {A : Type 0} → (A → A) → A × List Placed → A × List Placed
both f x = (f x.0, zeros x.1)

-- nothing has an offset
abbrev same : {A : Type 0} → A → A
same x = x

-- a reader gives the same of tokens at 0
abbrev Agrees : {A : Type 0} → Reads A → (A → A) → Type 0
Agrees one f = (ts : List Placed) → one (zeros ts) ≡ changed (both f) (one ts)

then : {A B : Type 0} (f : A → A) (k : B → B) (r s : Result A (Option ℕ)) (g h : A → Result B (Option ℕ)) → s ≡ changed f r → ((x : A) → h (f x) ≡ changed k (g x)) → s >>= h ≡ changed k (r >>= g)
then f k (Ok x) s g h e d = ap (λ s. s >>= h) e ∙ d x
then f k (Err o) s g h e d = ap (λ s. s >>= h) e

choice : {A B : Type 0} (f : A → A) (k : B → B) (o p : Option A) (y z : Result B (Option ℕ)) (g h : A → Result B (Option ℕ)) → p ≡ option_map f o → z ≡ changed k y → ((x : A) → h (f x) ≡ changed k (g x)) → where_some p z h ≡ changed k (where_some o y g)
choice f k None p y z g h e d c = ap (λ o. where_some o z h) e ∙ d
choice f k (Some x) p y z g h e d c = ap (λ o. where_some o z h) e ∙ c x

-- ONE TOKEN

taken : {A : Type 0} (f : A → A) (o p : Option A) (at : ℕ) (ts : List Placed) → p ≡ option_map f o → where_some p (Err (Some 0)) (λ x. Ok (x, zeros ts)) ≡ changed (both f) (where_some o (Err (Some at)) (λ x. Ok (x, ts)))
taken f None p at ts e = ap (λ o. where_some o (Err (Some 0)) (λ x. Ok (x, zeros ts))) e
taken f (Some x) p at ts e = ap (λ o. where_some o (Err (Some 0)) (λ x. Ok (x, zeros ts))) e

take_agrees : {A : Type 0} (take : Placed → Option A) (f : A → A) → ((p : Placed) → take (unplaced_token p) ≡ option_map f (take p)) → Agrees (take_at take) f
unfolding take_at
take_agrees take f h [] = refl
take_agrees take f h (p ∷ ts) = taken f (take p) (take (unplaced_token p)) p.at ts (h p)

name_same : (at : ℕ) (t : Token) → name_by 0 t ≡ option_map unplaced_name (name_by at t)
name_same at (Word w) = refl
name_same at _ = refl

version_same : (at : ℕ) (t : Token) → version_by 0 t ≡ option_map unplaced_stamp (version_by at t)
version_same at (Number n) = refl
version_same at _ = refl

number_same : (at : ℕ) (t : Token) → number_by 0 t ≡ option_map unplaced_stamp (number_by at t)
number_same at (Number n) = refl
number_same at (Negative n) = refl
number_same at _ = refl

soft_same : (b : Bool) (at : ℕ) → ◌≡◌ {A = Option ℕ} (cond {A = Option ℕ} b (Some 0) None) (option_map (λ _. 0) (cond {A = Option ℕ} b (Some at) None))
soft_same true at = refl
soft_same false at = refl

bound_same : (at : ℕ) (t : Token) → bound_by 0 t ≡ option_map unplaced_stamp (bound_by at t)
bound_same at (Number n) = refl
bound_same at (Negative n) = refl
bound_same at (Fixed (terminals.Keyword words.Forever)) = refl
bound_same at _ = refl

item_same : (at : ℕ) (t : Token) → item_by 0 t ≡ option_map unplaced_item (item_by at t)
item_same at (Word w) = refl
item_same at (Fixed (terminals.Keyword words.ValidFrom)) = refl
item_same at (Fixed (terminals.Keyword words.ValidTo)) = refl
item_same at _ = refl

valid_same : (at : ℕ) (t : Token) → valid_by 0 t ≡ option_map (λ _. 0) (valid_by at t)
valid_same at (Fixed (terminals.Keyword words.Valid)) = refl
valid_same at _ = refl

option_same : {A : Type 0} (o : Option A) → o ≡ option_map same o
option_same None = refl
option_same (Some x) = refl

-- a value with the offset of its token
placed_same : {A : Type 0} (at : ℕ) (o : Option A) → option_map {U = A × ℕ} (λ c. (c, 0)) o ≡ option_map {U = A × ℕ} (λ (x : A × ℕ). (x.0, 0)) (option_map {U = A × ℕ} (λ c. (c, at)) o)
placed_same at None = refl
placed_same at (Some c) = refl

name_agrees : Agrees (take_at as_name) unplaced_name
name_agrees = take_agrees as_name unplaced_name (λ p. name_same p.at p.token)

version_agrees : Agrees (take_at as_version) unplaced_stamp
version_agrees = take_agrees as_version unplaced_stamp (λ p. version_same p.at p.token)

number_agrees : Agrees (take_at as_number) unplaced_stamp
number_agrees = take_agrees as_number unplaced_stamp (λ p. number_same p.at p.token)

soft_agrees : (w : SoftWord) → Agrees (take_at (as_soft w)) (λ _. 0)
soft_agrees w = take_agrees (as_soft w) (λ _. 0) (λ p. soft_same (is_soft w p.token) p.at)

bound_agrees : Agrees (take_at as_bound) unplaced_stamp
bound_agrees = take_agrees as_bound unplaced_stamp (λ p. bound_same p.at p.token)

moment_agrees : Agrees (take_at as_moment) same
moment_agrees = take_agrees as_moment same (λ p. option_same (as_moment p))

kind_agrees : Agrees (take_at as_kind) same
kind_agrees = take_agrees as_kind same (λ p. option_same (as_kind p))

agg_agrees : Agrees (take_at as_agg) same
agg_agrees = take_agrees as_agg same (λ p. option_same (as_agg p))

item_agrees : Agrees (take_at as_item) unplaced_item
item_agrees = take_agrees as_item unplaced_item (λ p. item_same p.at p.token)

constant_agrees : Agrees (take_at as_constant) (λ (x : Cell × ℕ). (x.0, 0))
constant_agrees = take_agrees as_constant (λ (x : Cell × ℕ). (x.0, 0)) (λ p. placed_same p.at (constant_by p.token))

cmp_agrees : Agrees (take_at as_cmp) (λ (x : Cmp × ℕ). (x.0, 0))
cmp_agrees = take_agrees as_cmp (λ (x : Cmp × ℕ). (x.0, 0)) (λ p. placed_same p.at (cmp_by p.token))

valid_word_agrees : Agrees (take_at as_valid) (λ _. 0)
valid_word_agrees = take_agrees as_valid (λ _. 0) (λ p. valid_same p.at p.token)

peeked : (o : Option ℕ) (ts : List Placed) → option_map (λ x. (x, zeros ts)) (option_map (λ _. 0) o) ≡ option_map (both (λ _. 0)) (option_map (λ x. (x, ts)) o)
peeked None ts = refl
peeked (Some x) ts = refl

valid_peek : (ts : List Placed) → peek_at as_valid (zeros ts) ≡ option_map (both (λ _. 0)) (peek_at as_valid ts)
unfolding peek_at
valid_peek [] = refl
valid_peek (p ∷ ts) = ap (option_map (λ x. (x, zeros ts))) (valid_same p.at p.token) ∙ peeked (as_valid p) ts

soft_peek : (w : SoftWord) (ts : List Placed) → peek_at (as_soft w) (zeros ts) ≡ option_map (both (λ _. 0)) (peek_at (as_soft w) ts)
unfolding peek_at
soft_peek w [] = refl
soft_peek w (p ∷ ts) = ap (option_map (λ x. (x, zeros ts))) (soft_same (is_soft w p.token) p.at) ∙ peeked (as_soft w p) ts

after_by : (b : Bool) (ts : List Placed) → cond b (Some (zeros ts)) None ≡ option_map zeros (cond b (Some ts) None)
after_by true ts = refl
after_by false ts = refl

after_agrees : (m : Terminal) (ts : List Placed) → after m (zeros ts) ≡ option_map zeros (after m ts)
unfolding after
after_agrees m [] = refl
after_agrees m (p ∷ ts) = after_by (is_fixed m p.token) ts

place_same : (ts : List Placed) → first_offset (zeros ts) ≡ option_map (λ _. 0) (first_offset ts)
place_same [] = refl
place_same (p ∷ ts) = refl

expect_agrees : (m : Terminal) (ts : List Placed) → expect m (zeros ts) ≡ changed zeros (expect m ts)
unfolding expect
expect_agrees m ts = choice zeros zeros (after m ts) (after m (zeros ts)) (Err (first_offset ts)) (Err (first_offset (zeros ts))) (λ rest. Ok rest) (λ rest. Ok rest) (after_agrees m ts) (ap Err (place_same ts)) (λ rest. refl)

last_agrees : (s : Statement) (ts : List Placed) → last_of (without_offsets s) (zeros ts) ≡ changed without_offsets (last_of s ts)
unfolding last_of
last_agrees s [] = refl
last_agrees s (p ∷ ts) = refl

ended_agrees : (s : Statement) (ts : List Placed) → statement_end (without_offsets s) (zeros ts) ≡ changed without_offsets (statement_end s ts)
unfolding statement_end
ended_agrees s ts = choice zeros without_offsets (after terminals.Semicolon ts) (after terminals.Semicolon (zeros ts)) (last_of s ts) (last_of (without_offsets s) (zeros ts)) (last_of s) (last_of (without_offsets s)) (after_agrees terminals.Semicolon ts) (last_agrees s ts) (λ rest. last_agrees s rest)

-- LISTS

in_front_agrees : {A : Type 0} (f : A → A) (x : A) (r s : Result (List A × List Placed) (Option ℕ)) → s ≡ changed (both (map f)) r → with_first (f x) s ≡ changed (both (map f)) (with_first x r)
in_front_agrees f x r s e = then (both (map f)) (both (map f)) r s (λ y. Ok (x ∷ y.0, y.1)) (λ y. Ok (f x ∷ y.0, y.1)) e (λ y. refl)

up_to_agrees : {A : Type 0} (m : Terminal) (one : Reads A) (f : A → A) → Agrees one f → (room : ℕ) → Agrees (up_to m one room) (map f)
unfolding up_to
up_to_agrees m one f h zero ts = refl
up_to_agrees m one f h (suc room) ts =
    choice zeros (both (map f)) (after m ts) (after m (zeros ts)) (Ok ([], ts)) (Ok ([], zeros ts)) (λ rest. one rest >>= λ x. with_first x.0 (up_to m one room x.1)) (λ rest. one rest >>= λ x. with_first x.0 (up_to m one room x.1)) (after_agrees m ts) refl (λ rest.
    then (both f) (both (map f)) (one rest) (one (zeros rest)) (λ x. with_first x.0 (up_to m one room x.1)) (λ x. with_first x.0 (up_to m one room x.1)) (h rest) (λ x.
    in_front_agrees f x.0 (up_to m one room x.1) (up_to m one room (zeros x.1)) (up_to_agrees m one f h room x.1)))

zeros_length : (ts : List Placed) → length (zeros ts) ≡ length ts
zeros_length [] = refl
zeros_length (p ∷ ts) = ap suc (zeros_length ts)

several_agrees : {A : Type 0} (m : Terminal) (one : Reads A) (f : A → A) → Agrees one f → Agrees (several m one) (map f)
unfolding several
several_agrees m one f h ts =
    then (both f) (both (map f)) (one ts) (one (zeros ts)) (λ x. with_first x.0 (further m one x.1)) (λ x. with_first x.0 (further m one x.1)) (h ts) (λ x.
    in_front_agrees f x.0 (further m one x.1) (further m one (zeros x.1)) (ap (λ n. up_to m one n (zeros x.1)) (zeros_length x.1) ∙ up_to_agrees m one f h (length x.1) x.1))

-- PRODUCTIONS

column_agrees : Agrees column_at unplaced_column
unfolding column_at
column_agrees ts =
    then (both unplaced_name) (both unplaced_column) (take_at as_name ts) _ _ _ (name_agrees ts) (λ x.
    then (both same) (both unplaced_column) (take_at as_kind x.1) _ (λ k. Ok (record { name = x.0; kind = k.0 }, k.1)) (λ k. Ok (record { name = unplaced_name x.0; kind = k.0 }, k.1)) (kind_agrees x.1) (λ k. refl))

columns_agrees : Agrees columns_at (map unplaced_column)
unfolding columns_at
columns_agrees ts =
    then (both unplaced_column) (both (map unplaced_column)) (column_at ts) _ (λ x. with_first x.0 (up_to terminals.Comma column_at 15 x.1)) (λ x. with_first x.0 (up_to terminals.Comma column_at 15 x.1)) (column_agrees ts) (λ x.
    in_front_agrees unplaced_column x.0 (up_to terminals.Comma column_at 15 x.1) (up_to terminals.Comma column_at 15 (zeros x.1)) (up_to_agrees terminals.Comma column_at unplaced_column column_agrees 15 x.1))

valid_agrees : Agrees valid_at same
unfolding valid_at
valid_agrees ts = choice zeros (both same) (after (terminals.Keyword words.Valid) ts) (after (terminals.Keyword words.Valid) (zeros ts)) (Ok (false, ts)) (Ok (false, zeros ts)) (λ rest. Ok (true, rest)) (λ rest. Ok (true, rest)) (after_agrees (terminals.Keyword words.Valid) ts) refl (λ rest. refl)

-- whether it is all, and the items
unplaced_asked : Bool × List Item → Bool × List Item
unplaced_asked x = (x.0, map unplaced_item x.1)

asked_agrees : Agrees asked_at unplaced_asked
unfolding asked_at unplaced_asked
asked_agrees ts =
    choice zeros (both unplaced_asked) (after terminals.Star ts) (after terminals.Star (zeros ts)) (items_at ts >>= λ x. Ok ((false, x.0), x.1)) (items_at (zeros ts) >>= λ x. Ok ((false, x.0), x.1)) (λ rest. Ok ((true, []), rest)) (λ rest. Ok ((true, []), rest)) (after_agrees terminals.Star ts)
    (then (both (map unplaced_item)) (both unplaced_asked) (items_at ts) (items_at (zeros ts)) (λ x. Ok ((false, x.0), x.1)) (λ x. Ok ((false, x.0), x.1)) (several_agrees terminals.Comma (take_at as_item) unplaced_item item_agrees ts) (λ x. refl))
    (λ rest. refl)

test_agrees : Agrees test_at unplaced_test
unfolding test_at
test_agrees ts =
    then (both unplaced_name) (both unplaced_test) (take_at as_name ts) _ _ _ (name_agrees ts) (λ x.
    then (both (λ (x : Cmp × ℕ). (x.0, 0))) (both unplaced_test) (take_at as_cmp x.1) _ _ _ (cmp_agrees x.1) (λ c.
    then (both (λ (x : Cell × ℕ). (x.0, 0))) (both unplaced_test) (take_at as_constant c.1) _ (λ v. Ok (record { column = x.0; cmp = c.0.0; cmp_at = c.0.1; value = v.0.0; value_at = v.0.1 }, v.1)) (λ v. Ok (record { column = unplaced_name x.0; cmp = c.0.0; cmp_at = 0; value = v.0.0; value_at = v.0.1 }, v.1)) (constant_agrees c.1) (λ v. refl)))

conj_agrees : Agrees conj_at (map unplaced_test)
conj_agrees = several_agrees (terminals.Keyword words.And) test_at unplaced_test test_agrees

where_agrees : Agrees where_at unplaced_pred
unfolding where_at
where_agrees ts =
    choice zeros (both unplaced_pred) (after (terminals.Keyword words.Where) ts) (after (terminals.Keyword words.Where) (zeros ts)) (Ok (record { any = [] }, ts)) (Ok (record { any = [] }, zeros ts)) (λ rest. several (terminals.Keyword words.Or) conj_at rest >>= λ any. Ok (record { any = any.0 }, any.1)) (λ rest. several (terminals.Keyword words.Or) conj_at rest >>= λ any. Ok (record { any = any.0 }, any.1)) (after_agrees (terminals.Keyword words.Where) ts) refl (λ rest.
    then (both (map (map unplaced_test))) (both unplaced_pred) (several (terminals.Keyword words.Or) conj_at rest) _ (λ any. Ok (record { any = any.0 }, any.1)) (λ any. Ok (record { any = any.0 }, any.1)) (several_agrees (terminals.Keyword words.Or) conj_at (map unplaced_test) conj_agrees rest) (λ any. refl))

valid_point_agrees : Agrees valid_point_at (option_map unplaced_point)
unfolding valid_point_at
valid_point_agrees ts =
    choice (both (λ _. 0)) (both (option_map unplaced_point)) (peek_at as_valid ts) (peek_at as_valid (zeros ts)) (Ok (None, ts)) (Ok (None, zeros ts)) _ _ (valid_peek ts) refl (λ valid.
    then zeros (both (option_map unplaced_point)) (expect (terminals.Keyword words.At) valid.1) _ _ _ (expect_agrees (terminals.Keyword words.At) valid.1) (λ rest.
    then (both same) (both (option_map unplaced_point)) (take_at as_moment rest) _ (λ value. Ok (Some (record { pos = valid.0; value = value.0 }), value.1)) (λ value. Ok (Some (record { pos = 0; value = value.0 }), value.1)) (moment_agrees rest) (λ value. refl)))

version_or_moment_agrees : Agrees version_or_moment_at unplaced_as_of
unfolding version_or_moment_at
version_or_moment_agrees ts =
    choice (both (λ _. 0)) (both unplaced_as_of) (peek_at (as_soft soft.Moment) ts) (peek_at (as_soft soft.Moment) (zeros ts)) (take_at as_version ts >>= λ s. Ok (as_ofs.Version s.0, s.1)) (take_at as_version (zeros ts) >>= λ s. Ok (as_ofs.Version s.0, s.1)) _ _ (soft_peek soft.Moment ts)
    (then (both unplaced_stamp) (both unplaced_as_of) (take_at as_version ts) _ (λ s. Ok (as_ofs.Version s.0, s.1)) (λ s. Ok (as_ofs.Version s.0, s.1)) (version_agrees ts) (λ s. refl))
    (λ word. then (both unplaced_stamp) (both unplaced_as_of) (take_at as_number word.1) _ (λ s. Ok (as_ofs.Moment s.0, s.1)) (λ s. Ok (as_ofs.Moment s.0, s.1)) (number_agrees word.1) (λ s. refl))

as_of_agrees : Agrees as_of_at (option_map unplaced_as_of)
unfolding as_of_at
as_of_agrees ts =
    choice zeros (both (option_map unplaced_as_of)) (after (terminals.Keyword words.As) ts) (after (terminals.Keyword words.As) (zeros ts)) (Ok (None, ts)) (Ok (None, zeros ts)) _ _ (after_agrees (terminals.Keyword words.As) ts) refl (λ rest.
    then zeros (both (option_map unplaced_as_of)) (expect (terminals.Keyword words.Of) rest) _ _ _ (expect_agrees (terminals.Keyword words.Of) rest) (λ next.
    then (both unplaced_as_of) (both (option_map unplaced_as_of)) (version_or_moment_at next) _ (λ x. Ok (Some x.0, x.1)) (λ x. Ok (Some x.0, x.1)) (version_or_moment_agrees next) (λ x. refl)))

versions_agrees : Agrees versions_at unplaced_over
unfolding versions_at
versions_agrees ts =
    then (both unplaced_stamp) (both unplaced_over) (take_at as_version ts) _ _ _ (version_agrees ts) (λ from.
    then zeros (both unplaced_over) (expect (terminals.Keyword words.To) from.1) _ _ _ (expect_agrees (terminals.Keyword words.To) from.1) (λ word.
    then (both unplaced_stamp) (both unplaced_over) (take_at as_version word) _ (λ to. Ok (overs.System from.0 to.0, to.1)) (λ to. Ok (overs.System (unplaced_stamp from.0) to.0, to.1)) (version_agrees word) (λ to. refl)))

system_agrees : Agrees system_at unplaced_over
unfolding system_at
system_agrees ts = choice zeros (both unplaced_over) (after (terminals.Keyword words.All) ts) (after (terminals.Keyword words.All) (zeros ts)) (versions_at ts) (versions_at (zeros ts)) (λ rest. Ok (overs.SystemAll, rest)) (λ rest. Ok (overs.SystemAll, rest)) (after_agrees (terminals.Keyword words.All) ts) (versions_agrees ts) (λ rest. refl)

moments_agrees : Agrees moments_at unplaced_over
unfolding moments_at
moments_agrees ts =
    then (both (λ _. 0)) (both unplaced_over) (take_at as_valid ts) _ _ _ (valid_word_agrees ts) (λ valid.
    then (both unplaced_stamp) (both unplaced_over) (take_at as_bound valid.1) _ _ _ (bound_agrees valid.1) (λ from.
    then zeros (both unplaced_over) (expect (terminals.Keyword words.To) from.1) _ _ _ (expect_agrees (terminals.Keyword words.To) from.1) (λ word.
    then (both unplaced_stamp) (both unplaced_over) (take_at as_bound word) _ _ _ (bound_agrees word) (λ to.
    then (both (option_map unplaced_as_of)) (both unplaced_over) (as_of_at to.1) _ (λ as_of. Ok (overs.Valid valid.0 from.0 to.0 as_of.0, as_of.1)) (λ as_of. Ok (overs.Valid 0 (unplaced_stamp from.0) (unplaced_stamp to.0) as_of.0, as_of.1)) (as_of_agrees to.1) (λ as_of. refl)))))

over_agrees : Agrees over_at unplaced_over
unfolding over_at
over_agrees ts =
    then zeros (both unplaced_over) (expect (terminals.Keyword words.Over) ts) _ _ _ (expect_agrees (terminals.Keyword words.Over) ts) (λ rest.
    choice zeros (both unplaced_over) (after (terminals.Keyword words.System) rest) (after (terminals.Keyword words.System) (zeros rest)) (moments_at rest) (moments_at (zeros rest)) system_at system_at (after_agrees (terminals.Keyword words.System) rest) (moments_agrees rest) system_agrees)

some_name_agrees : Agrees (λ ts. take_at as_name ts >>= λ name. Ok (Some name.0, name.1)) (option_map unplaced_name)
some_name_agrees ts = then (both unplaced_name) (both (option_map unplaced_name)) (take_at as_name ts) _ (λ name. Ok (Some name.0, name.1)) (λ name. Ok (Some name.0, name.1)) (name_agrees ts) (λ name. refl)

column_name_agrees : (k : AggKind) → Agrees (column_name_at k) (option_map unplaced_name)
unfolding column_name_at
column_name_agrees aggs.Count ts = refl
column_name_agrees aggs.Sum ts = some_name_agrees ts
column_name_agrees aggs.Avg ts = some_name_agrees ts
column_name_agrees aggs.Min ts = some_name_agrees ts
column_name_agrees aggs.Max ts = some_name_agrees ts

by_agrees : Agrees by_at (option_map unplaced_name)
unfolding by_at
by_agrees ts = choice zeros (both (option_map unplaced_name)) (after (terminals.Keyword words.By) ts) (after (terminals.Keyword words.By) (zeros ts)) (Ok (None, ts)) (Ok (None, zeros ts)) _ _ (after_agrees (terminals.Keyword words.By) ts) refl some_name_agrees

unplaced_side : Name × Pred → Name × Pred
unplaced_side x = (unplaced_name x.0, unplaced_pred x.1)

side_agrees : Agrees side_at unplaced_side
unfolding side_at unplaced_side
side_agrees ts =
    then (both unplaced_name) (both unplaced_side) (take_at as_name ts) _ _ _ (name_agrees ts) (λ table.
    then (both unplaced_pred) (both unplaced_side) (where_at table.1) _ (λ p. Ok ((table.0, p.0), p.1)) (λ p. Ok ((unplaced_name table.0, p.0), p.1)) (where_agrees table.1) (λ p. refl))

unplaced_pair : Name × Name → Name × Name
unplaced_pair x = (unplaced_name x.0, unplaced_name x.1)

on_agrees : Agrees on_at unplaced_pair
unfolding on_at unplaced_pair
on_agrees ts =
    then zeros (both unplaced_pair) (expect (terminals.Keyword words.On) ts) _ _ _ (expect_agrees (terminals.Keyword words.On) ts) (λ word.
    then (both unplaced_name) (both unplaced_pair) (take_at as_name word) _ _ _ (name_agrees word) (λ left.
    then zeros (both unplaced_pair) (expect terminals.Equal left.1) _ _ _ (expect_agrees terminals.Equal left.1) (λ equal.
    then (both unplaced_name) (both unplaced_pair) (take_at as_name equal) _ (λ right. Ok ((left.0, right.0), right.1)) (λ right. Ok ((unplaced_name left.0, right.0), right.1)) (name_agrees equal) (λ right. refl))))

-- STATEMENTS

abbrev AgreesWhole : (List Placed → Result Statement (Option ℕ)) → Type 0
AgreesWhole f = (ts : List Placed) → f (zeros ts) ≡ changed without_offsets (f ts)

create_agrees : AgreesWhole create_at
unfolding create_at
create_agrees ts =
    then zeros without_offsets (expect (terminals.Keyword words.Table) ts) _ _ _ (expect_agrees (terminals.Keyword words.Table) ts) (λ table.
    then (both unplaced_name) without_offsets (take_at as_name table) _ _ _ (name_agrees table) (λ name.
    then zeros without_offsets (expect terminals.Open name.1) _ _ _ (expect_agrees terminals.Open name.1) (λ first.
    then (both (map unplaced_column)) without_offsets (columns_at first) _ _ _ (columns_agrees first) (λ columns.
    then zeros without_offsets (expect terminals.Close columns.1) _ _ _ (expect_agrees terminals.Close columns.1) (λ close.
    then zeros without_offsets (expect (terminals.Keyword words.Key) close) _ _ _ (expect_agrees (terminals.Keyword words.Key) close) (λ word.
    then (both unplaced_name) without_offsets (take_at as_name word) _ _ _ (name_agrees word) (λ key.
    then (both same) without_offsets (valid_at key.1) _ (λ valid. statement_end (statements.Create (record { name = name.0; columns = columns.0; key = key.0; valid = valid.0 })) valid.1) (λ valid. statement_end (statements.Create (record { name = unplaced_name name.0; columns = map unplaced_column columns.0; key = unplaced_name key.0; valid = valid.0 })) valid.1) (valid_agrees key.1) (λ valid.
    ended_agrees (statements.Create (record { name = name.0; columns = columns.0; key = key.0; valid = valid.0 })) valid.1))))))))

put_agrees : AgreesWhole put_at
unfolding put_at
put_agrees ts = then (both unplaced_name) without_offsets (take_at as_name ts) _ (λ x. statement_end (statements.Put x.0) x.1) (λ x. statement_end (statements.Put x.0) x.1) (name_agrees ts) (λ x. ended_agrees (statements.Put x.0) x.1)

remove_agrees : AgreesWhole remove_at
unfolding remove_at
remove_agrees ts = then (both unplaced_name) without_offsets (take_at as_name ts) _ (λ x. statement_end (statements.Remove x.0) x.1) (λ x. statement_end (statements.Remove x.0) x.1) (name_agrees ts) (λ x. ended_agrees (statements.Remove x.0) x.1)

select_agrees : AgreesWhole parse_select
unfolding parse_select unplaced_asked
select_agrees ts =
    then (both unplaced_asked) without_offsets (asked_at ts) _ _ _ (asked_agrees ts) (λ asked.
    then zeros without_offsets (expect (terminals.Keyword words.From) asked.1) _ _ _ (expect_agrees (terminals.Keyword words.From) asked.1) (λ from.
    then (both unplaced_name) without_offsets (take_at as_name from) _ _ _ (name_agrees from) (λ table.
    then (both unplaced_pred) without_offsets (where_at table.1) _ _ _ (where_agrees table.1) (λ p.
    then (both (option_map unplaced_point)) without_offsets (valid_point_at p.1) _ _ _ (valid_point_agrees p.1) (λ valid.
    then (both (option_map unplaced_as_of)) without_offsets (as_of_at valid.1) _
    (λ as_of. statement_end (statements.Ask (queries.Select (record { all = asked.0.0; items = asked.0.1; table = table.0; pred = p.0; valid_at = valid.0; as_of = as_of.0 }))) as_of.1)
    (λ as_of. statement_end (statements.Ask (queries.Select (record { all = asked.0.0; items = map unplaced_item asked.0.1; table = unplaced_name table.0; pred = unplaced_pred p.0; valid_at = option_map unplaced_point valid.0; as_of = as_of.0 }))) as_of.1)
    (as_of_agrees valid.1) (λ as_of. ended_agrees (statements.Ask (queries.Select (record { all = asked.0.0; items = asked.0.1; table = table.0; pred = p.0; valid_at = valid.0; as_of = as_of.0 }))) as_of.1))))))

agg_agrees_whole : AgreesWhole agg_at
unfolding agg_at
agg_agrees_whole ts =
    then (both same) without_offsets (take_at as_agg ts) _ _ _ (agg_agrees ts) (λ kind.
    then (both (option_map unplaced_name)) without_offsets (column_name_at kind.0 kind.1) _ _ _ (column_name_agrees kind.0 kind.1) (λ column.
    then zeros without_offsets (expect (terminals.Keyword words.From) column.1) _ _ _ (expect_agrees (terminals.Keyword words.From) column.1) (λ from.
    then (both unplaced_name) without_offsets (take_at as_name from) _ _ _ (name_agrees from) (λ table.
    then (both unplaced_pred) without_offsets (where_at table.1) _ _ _ (where_agrees table.1) (λ p.
    then (both (option_map unplaced_name)) without_offsets (by_at p.1) _ _ _ (by_agrees p.1) (λ by.
    then (both unplaced_over) without_offsets (over_at by.1) _
    (λ over. statement_end (statements.Ask (queries.Agg (record { kind = kind.0; column = column.0; table = table.0; pred = p.0; by = by.0; over = over.0 }))) over.1)
    (λ over. statement_end (statements.Ask (queries.Agg (record { kind = kind.0; column = option_map unplaced_name column.0; table = unplaced_name table.0; pred = unplaced_pred p.0; by = option_map unplaced_name by.0; over = over.0 }))) over.1)
    (over_agrees by.1) (λ over. ended_agrees (statements.Ask (queries.Agg (record { kind = kind.0; column = column.0; table = table.0; pred = p.0; by = by.0; over = over.0 }))) over.1)))))))

join_agrees : AgreesWhole join_at
unfolding join_at unplaced_side unplaced_pair
join_agrees ts =
    then (both unplaced_side) without_offsets (side_at ts) _ _ _ (side_agrees ts) (λ left.
    then zeros without_offsets (expect (terminals.Keyword words.With) left.1) _ _ _ (expect_agrees (terminals.Keyword words.With) left.1) (λ word.
    then (both unplaced_side) without_offsets (side_at word) _ _ _ (side_agrees word) (λ right.
    then (both unplaced_pair) without_offsets (on_at right.1) _ _ _ (on_agrees right.1) (λ on.
    then (both unplaced_over) without_offsets (over_at on.1) _
    (λ over. statement_end (statements.Ask (queries.Join (record { left = left.0.0; left_pred = left.0.1; right = right.0.0; right_pred = right.0.1; left_on = on.0.0; right_on = on.0.1; over = over.0 }))) over.1)
    (λ over. statement_end (statements.Ask (queries.Join (record { left = unplaced_name left.0.0; left_pred = unplaced_pred left.0.1; right = unplaced_name right.0.0; right_pred = unplaced_pred right.0.1; left_on = unplaced_name on.0.0; right_on = unplaced_name on.0.1; over = over.0 }))) over.1)
    (over_agrees on.1) (λ over. ended_agrees (statements.Ask (queries.Join (record { left = left.0.0; left_pred = left.0.1; right = right.0.0; right_pred = right.0.1; left_on = on.0.0; right_on = on.0.1; over = over.0 }))) over.1)))))

moment_stated_agrees : AgreesWhole moment_stated_at
unfolding moment_stated_at
moment_stated_agrees ts = then (both unplaced_stamp) without_offsets (take_at as_number ts) _ (λ x. statement_end (statements.Moment x.0) x.1) (λ x. statement_end (statements.Moment x.0) x.1) (number_agrees ts) (λ x. ended_agrees (statements.Moment x.0) x.1)

forget_agrees : AgreesWhole forget_at
unfolding forget_at
forget_agrees ts =
    then (both unplaced_name) without_offsets (take_at as_name ts) _ _ _ (name_agrees ts) (λ table.
    then (both (λ _. 0)) without_offsets (take_at (as_soft soft.Before) table.1) _ _ _ (soft_agrees soft.Before table.1) (λ word.
    then (both unplaced_stamp) without_offsets (take_at as_version word.1) _ (λ x. statement_end (statements.Forget table.0 x.0) x.1) (λ x. statement_end (statements.Forget (unplaced_name table.0) x.0) x.1) (version_agrees word.1) (λ x. ended_agrees (statements.Forget table.0 x.0) x.1)))

sync_agrees : AgreesWhole sync_at
unfolding sync_at
sync_agrees ts = then (both unplaced_name) without_offsets (take_at as_name ts) _ (λ x. statement_end (statements.Sync x.0) x.1) (λ x. statement_end (statements.Sync x.0) x.1) (name_agrees ts) (λ x. ended_agrees (statements.Sync x.0) x.1)

agg_or_sync_agrees : AgreesWhole agg_or_sync_at
agg_or_sync_agrees ts = choice (both (λ _. 0)) without_offsets (peek_at (as_soft soft.Sync) ts) _ (agg_at ts) (agg_at (zeros ts)) (λ word. sync_at word.1) (λ word. sync_at word.1) (soft_peek soft.Sync ts) (agg_agrees_whole ts) (λ word. sync_agrees word.1)

agg_or_soft_agrees : AgreesWhole agg_or_soft_at
unfolding agg_or_soft_at
agg_or_soft_agrees ts =
    choice (both (λ _. 0)) without_offsets (peek_at (as_soft soft.Moment) ts) _ (agg_or_forget_at ts) (agg_or_forget_at (zeros ts)) (λ word. moment_stated_at word.1) (λ word. moment_stated_at word.1) (soft_peek soft.Moment ts)
    (choice (both (λ _. 0)) without_offsets (peek_at (as_soft soft.Forget) ts) _ (agg_or_sync_at ts) (agg_or_sync_at (zeros ts)) (λ word. forget_at word.1) (λ word. forget_at word.1) (soft_peek soft.Forget ts) (agg_or_sync_agrees ts) (λ word. forget_agrees word.1))
    (λ word. moment_stated_agrees word.1)

pub statement_agrees : (ts : List Placed) → statement_at (zeros ts) ≡ changed without_offsets (statement_at ts)
unfolding statement_at
statement_agrees ts =
    choice zeros without_offsets (after (terminals.Keyword words.Create) ts) _ (put_or_less ts) (put_or_less (zeros ts)) create_at create_at (after_agrees (terminals.Keyword words.Create) ts)
    (choice zeros without_offsets (after (terminals.Keyword words.Put) ts) _ (remove_or_less ts) (remove_or_less (zeros ts)) put_at put_at (after_agrees (terminals.Keyword words.Put) ts)
    (choice zeros without_offsets (after (terminals.Keyword words.Remove) ts) _ (select_or_less ts) (select_or_less (zeros ts)) remove_at remove_at (after_agrees (terminals.Keyword words.Remove) ts)
    (choice zeros without_offsets (after (terminals.Keyword words.Select) ts) _ (join_or_less ts) (join_or_less (zeros ts)) parse_select parse_select (after_agrees (terminals.Keyword words.Select) ts)
    (choice zeros without_offsets (after (terminals.Keyword words.Join) ts) _ (agg_or_soft_at ts) (agg_or_soft_at (zeros ts)) join_at join_at (after_agrees (terminals.Keyword words.Join) ts) (agg_or_soft_agrees ts) join_agrees) select_agrees) remove_agrees) put_agrees) create_agrees
