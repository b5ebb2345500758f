-- What is written of a statement spells it, but for its offsets.
use Rattle.std.proofs.Common.{◌≡◌, ℕ, ℤ, pos, negsuc, ◌+◌, ◌≤◌, Bool, true, false, cond, ◌&&◌, ◌||◌, List, [], ◌∷◌, ◌++◌, length, drop, map, Option, Some, None, Result, Ok, Err, refl, sym, ◌∙◌, ap, subst, append_assoc, append-nil, arith}
use Rattle.std.specs.Int.{IsNonNegative}
use Rattle.std.specs.List.{AllByRecursion}
use Rattle.std.specs.Option.{option_map}
use Rattle.std.specs.Ordering.{int_eq}
use Rattle.std.specs.Fmt.{signed_decimal}
use Rattle.std.proofs.lemmas.List.{map-append, length-map}
use Rattle.std.proofs.lemmas.Bool.Decides.{Decides-int_eq}
use Rattle.tl_types.specs.Plain as plain
use Rattle.tl_types.specs.declared.cells.Cell.{Cell}
use Rattle.tl_types.specs.declared.cells.Cell.TheVariants as cells
use Rattle.tl_query.specs.declared.terminals.Terminal.{Terminal}
use Rattle.tl_types.specs.declared.keywords.Keyword.TheVariants as words
use Rattle.tl_query.specs.declared.terminals.Terminal.TheVariants as terminals
use Rattle.tl_query.specs.declared.tokens.Token.{Token}
use Rattle.tl_query.specs.declared.tokens.Token.TheVariants.{Fixed, Word, Quoted, Stray}
use Rattle.tl_query.specs.declared.tokens.Placed.{Placed}
use Rattle.tl_query.specs.declared.scanning.Piece.{Piece}
use Rattle.tl_query.specs.declared.ast.Name.{Name}
use Rattle.tl_query.specs.declared.ast.AggKind.{AggKind}
use Rattle.tl_query.specs.declared.ast.AsOf.{AsOf}
use Rattle.tl_query.specs.declared.ast.AsOf.TheVariants as as_ofs
use Rattle.tl_query.specs.declared.ast.Over.{Over}
use Rattle.tl_query.specs.declared.ast.Over.TheVariants as overs
use Rattle.tl_query.specs.declared.ast.Test.{Test}
use Rattle.tl_query.specs.declared.ast.ValidPoint.{ValidPoint}
use Rattle.tl_query.specs.declared.ast.Item.{Item}
use Rattle.tl_query.specs.declared.ast.Item.TheVariants as items
use Rattle.tl_query.specs.declared.ast.Query.TheVariants as queries
use Rattle.tl_query.specs.declared.ast.Statement.{Statement}
use Rattle.tl_query.specs.declared.ast.Statement.TheVariants as statements
use Rattle.tl_query.specs.Terminals.{same_terminal, soft_spelling, spelling}
use Rattle.tl_query.specs.Scanning.{Tokens, tokens_before, placed_token, scan}
use Rattle.tl_query.specs.Grammar.{keyword, Part, terminal, terminal_at, said, identifier, version, moment, number, bound, constant, IsPart, Fits, IsStatement, IsSpelling, IsAsked, IsAggregate, agg_keyword, name_by, version_by, moment_by, number_by, bound_by, constant_by, each_after, separated, column_parts, valid_parts, item_parts, asked_parts, test_parts, conj_parts, any_parts, where_parts, valid_at_parts, version_or_moment_parts, as_of_parts, column_name_parts, by_parts, over_parts, statement_parts}
use Rattle.tl_query.specs.Parsed.{IsI64, IsCell, IsParsed}
use Rattle.tl_query.proofs.ReadParts.{IsReadPart, parts_of, whole_of}
use Rattle.tl_query.specs.Printing.{terminal_word, plain_word, word_of, Written, gap, put, write, nothing, text_of, unplaced_name, unplaced_stamp, unplaced_column, unplaced_item, unplaced_test, unplaced_point, unplaced_as_of, unplaced_over, without_offsets}
use Rattle.tl_query.specs.Reading.{statement_at}
use Rattle.tl_query.specs.Texts.{tokens_of, SpellsAgain}
use Rattle.tl_query.proofs.SameTerminals.{same_terminal_true}
use Rattle.tl_query.proofs.Turns.{blank_turn, piece_turn, read_within}
use Rattle.tl_query.proofs.Words.{IsSoft, Begins, cond_false, number_token, natural_begins, below_begins, text_begins, name_begins, soft_begins, is_spelled, open_begins, terminal_begins}
use Rattle.tl_query.proofs.Again.{statement_again}
use Rattle.tl_query.proofs.Deciding.{at_whole}
use Rattle.tl_query.proofs.Unplaced.{unplaced_token, zeros, changed, statement_agrees}

-- THE TOKENS OF PARTS

abbrev cell_token : Cell → Token
cell_token (cells.Int n) = number_token n
cell_token (cells.Text t) = Quoted t

abbrev bound_token : ℤ → Token
bound_token v = cond (int_eq v plain.forever) (Fixed (terminals.Keyword words.Forever)) (number_token v)

-- the token that is written of a part
abbrev token_of : Part → Token
token_of (terminal m) = Fixed m
token_of (terminal_at m at) = Fixed m
token_of (said w) = Word (soft_spelling w)
token_of (identifier n) = Word n.text
token_of (version s) = number_token s.value
token_of (moment v) = number_token v
token_of (number s) = number_token s.value
token_of (bound s) = bound_token s.value
token_of (constant c at) = cell_token c

-- whether it is a word, a number or a text
abbrev joins_of : Part → Bool
joins_of (terminal m) = is_spelled m
joins_of (terminal_at m at) = is_spelled m
joins_of _ = true

number_any : (v : ℤ) (z : List ℕ) → IsI64 v → IsSoft z → Begins (signed_decimal v) z (number_token v) true
number_any (pos n) z h s = natural_begins n z h s
number_any (negsuc n) z h s = below_begins n z h s

terminal_any : (m : Terminal) (z : List ℕ) → (same_terminal m terminals.Open ≡ false → IsSoft z) → Begins (spelling m) z (Fixed m) (is_spelled m)
terminal_any m z s = elim (same_terminal m terminals.Open) as (λ u. same_terminal m terminals.Open ≡ u → Begins (spelling m) z (Fixed m) (is_spelled m)) [
  | true ↦ λ e. subst (λ m. Begins (spelling m) z (Fixed m) (is_spelled m)) (sym (same_terminal_true m terminals.Open e)) (open_begins z)
  | false ↦ λ e. terminal_begins m z (s e)
] refl

constant_any : (c : Cell) (z : List ℕ) → IsCell c → IsSoft z → Begins (word_of (constant c 0)).text z (cell_token c) true
constant_any (cells.Int n) z h s = number_any n z h s
constant_any (cells.Text t) z h s = text_begins t z h s

bound_any : (v : ℤ) (z : List ℕ) (u : Bool) → IsI64 v → ((cond u (terminal_word (terminals.Keyword words.Forever)) (plain_word (signed_decimal v))).opens ≡ false → IsSoft z) → Begins (cond u (terminal_word (terminals.Keyword words.Forever)) (plain_word (signed_decimal v))).text z (cond u (Fixed (terminals.Keyword words.Forever)) (number_token v)) true
bound_any v z true h s = terminal_begins (terminals.Keyword words.Forever) z (s refl)
bound_any v z false h s = number_any v z h (s refl)

begins_of : (q : Part) → IsReadPart q → (z : List ℕ) → ((word_of q).opens ≡ false → IsSoft z) → Begins (word_of q).text z (token_of q) (joins_of q)
begins_of (terminal m) h z s = terminal_any m z s
begins_of (terminal_at m at) h z s = terminal_any m z s
begins_of (said w) h z s = soft_begins w z (s refl)
begins_of (identifier n) h z s = name_begins n.text z h (s refl)
begins_of (version v) h z s = number_any v.value z h.1 (s refl)
begins_of (moment v) h z s = number_any v z h (s refl)
begins_of (number v) h z s = number_any v.value z h (s refl)
begins_of (bound v) h z s = bound_any v.value z (int_eq v.value plain.forever) h s
begins_of (constant c at) h z s = constant_any c z h (s refl)

-- WHAT IS WRITTEN

-- what is written of parts after others
rest_of : Bool → List Part → List ℕ
rest_of tight [] = []
rest_of tight (q ∷ parts) = gap (tight || (word_of q).closes) ++ ((word_of q).text ++ rest_of (word_of q).opens parts)

written : (parts : List Part) (w : Written) → (write w parts).bytes ≡ w.bytes ++ rest_of w.tight parts
unfolding put rest_of
written [] w = sym (append-nil w.bytes)
written (q ∷ parts) w =
    written parts (put w (word_of q)) ∙ append_assoc w.bytes (gap (w.tight || (word_of q).closes) ++ (word_of q).text) (rest_of (word_of q).opens parts)
    ∙ ap (λ y. w.bytes ++ y) (append_assoc (gap (w.tight || (word_of q).closes)) (word_of q).text (rest_of (word_of q).opens parts))

soft_terminal : (m : Terminal) (z : List ℕ) → IsSoft (gap (false || (terminal_word m).closes) ++ (spelling m ++ z))
unfolding spelling
soft_terminal terminals.Close z = refl
soft_terminal terminals.Comma z = refl
soft_terminal _ z = refl

soft_bound : (v : ℤ) (u : Bool) (z : List ℕ) → IsSoft (gap (false || (cond u (terminal_word (terminals.Keyword words.Forever)) (plain_word (signed_decimal v))).closes) ++ z)
soft_bound v true z = refl
soft_bound v false z = refl

soft_rest : (parts : List Part) → IsSoft (rest_of false parts)
unfolding rest_of
soft_rest [] = tt
soft_rest (terminal m ∷ parts) = soft_terminal m (rest_of (same_terminal m terminals.Open) parts)
soft_rest (terminal_at m at ∷ parts) = soft_terminal m (rest_of (same_terminal m terminals.Open) parts)
soft_rest (said w ∷ parts) = refl
soft_rest (identifier n ∷ parts) = refl
soft_rest (version s ∷ parts) = refl
soft_rest (moment v ∷ parts) = refl
soft_rest (number s ∷ parts) = refl
soft_rest (bound s ∷ parts) = soft_bound s.value (int_eq s.value plain.forever) _
soft_rest (constant c at ∷ parts) = refl

-- tokens, but for their offsets
abbrev Like : List Part → List Placed → Type 0
Like [] [] = Unit {0}
Like [] (p ∷ ts) = ⊥
Like (q ∷ parts) [] = ⊥
Like (q ∷ parts) (p ∷ ts) = (p.token ≡ token_of q) × Like parts ts

record IsScan (parts : List Part) (read : Tokens) : Type 0 where
  whole : read.fault ≡ None
  like : Like parts read.tokens

-- `)` and `,` are no words
closes_terminal : (m : Terminal) → (terminal_word m).closes ≡ true → is_spelled m ≡ false
closes_terminal terminals.Close e = refl
closes_terminal terminals.Comma e = refl
closes_terminal _ e = absurd (cc)

closes_bound : (v : ℤ) (u : Bool) → (cond u (terminal_word (terminals.Keyword words.Forever)) (plain_word (signed_decimal v))).closes ≡ false
closes_bound v true = refl
closes_bound v false = refl

closes_no_join : (q : Part) → (word_of q).closes ≡ true → joins_of q ≡ false
closes_no_join (terminal m) e = closes_terminal m e
closes_no_join (terminal_at m at) e = closes_terminal m e
closes_no_join (said w) e = absurd (cc)
closes_no_join (identifier n) e = absurd (cc)
closes_no_join (version s) e = absurd (cc)
closes_no_join (moment v) e = absurd (cc)
closes_no_join (number s) e = absurd (cc)
closes_no_join (bound s) e = let f = closes_bound s.value (int_eq s.value plain.forever) in absurd (cc)
closes_no_join (constant c at) e = absurd (cc)

-- neither is `(`
opens_terminal : (m : Terminal) → (is_spelled m && same_terminal m terminals.Open) ≡ false
opens_terminal terminals.Open = refl
opens_terminal _ = refl

opens_bound : (v : ℤ) (u : Bool) → (cond u (terminal_word (terminals.Keyword words.Forever)) (plain_word (signed_decimal v))).opens ≡ false
opens_bound v true = refl
opens_bound v false = refl

joins_opens : (q : Part) → (joins_of q && (word_of q).opens) ≡ false
joins_opens (terminal m) = opens_terminal m
joins_opens (terminal_at m at) = opens_terminal m
joins_opens (said w) = refl
joins_opens (identifier n) = refl
joins_opens (version s) = refl
joins_opens (moment v) = refl
joins_opens (number s) = refl
joins_opens (bound s) = opens_bound s.value (int_eq s.value plain.forever)
joins_opens (constant c at) = refl

no_join : (q : Part) (tight joined : Bool) → (joined && tight) ≡ false → (tight || (word_of q).closes) ≡ true → (joined && joins_of q) ≡ false
no_join q tight false h e = refl
no_join q true true h e = absurd (cc)
no_join q false true h e = closes_no_join q e

prefix_dropped : (w z : List ℕ) → drop (length w) (w ++ z) ≡ z
prefix_dropped [] z = refl
prefix_dropped (x ∷ w) z = prefix_dropped w z

-- one token, and what follows it
one_scan : (q : Part) (parts : List Part) (z : List ℕ) → Begins (word_of q).text z (token_of q) (joins_of q) → ((at : ℕ) → IsScan parts (scan at (joins_of q) 0 z)) → (joined : Bool) (at : ℕ) → (joined && joins_of q) ≡ false → IsScan (q ∷ parts) (scan at joined 0 ((word_of q).text ++ z))
one_scan q parts z b others joined at apart =
    let p : Piece = record { token = token_of q; len = length (word_of q).text; joins = joins_of q } in
    let size = read_within at b.first b.others p (sym (b.piece at)) in
    let behind : drop p.len (b.first ∷ b.others) ≡ z = ap (drop p.len) (sym b.is) ∙ prefix_dropped (word_of q).text z in
    let turn = piece_turn [] at b.first joined b.others p b.visible (sym (b.piece at)) size.0 size.1 in
    let rest = others (at + p.len) in
    subst (λ y. IsScan (q ∷ parts) (scan at joined 0 y)) (sym b.is) (subst (λ (x : Tokens). IsScan (q ∷ parts) x) (sym (turn ∙ ap (λ y. tokens_before (placed_token at joined p ∷ []) (scan (at + p.len) p.joins 0 y)) behind))
    (record { whole = rest.whole; like = (cond_false (joined && joins_of q) Stray (token_of q) apart, rest.like) }))

scan_rest : (parts : List Part) → AllByRecursion IsReadPart parts → (tight joined : Bool) (at : ℕ) → (joined && tight) ≡ false → IsScan parts (scan at joined 0 (rest_of tight parts))
unfolding scan rest_of
scan_rest [] h tight joined at apart = record { whole = refl; like = tt }
scan_rest (q ∷ parts) h tight joined at apart =
    let z : List ℕ = rest_of (word_of q).opens parts in
    let b = begins_of q h.0 z (λ e. subst (λ u. IsSoft (rest_of u parts)) (sym e) (soft_rest parts)) in
    let others : (at : ℕ) → IsScan parts (scan at (joins_of q) 0 z) = λ at. scan_rest parts h.1 (word_of q).opens (joins_of q) at (joins_opens q) in
    elim (tight || (word_of q).closes) as (λ u. (tight || (word_of q).closes) ≡ u → IsScan (q ∷ parts) (scan at joined 0 (gap u ++ ((word_of q).text ++ z)))) [
      | true ↦ λ e. one_scan q parts z b others joined at (no_join q tight joined apart e)
      | false ↦ λ e. subst (λ (x : Tokens). IsScan (q ∷ parts) x) (sym (blank_turn [] at 32 joined ((word_of q).text ++ z) refl)) (one_scan q parts z b others false (at + 1) refl)
    ] refl

-- WITHOUT OFFSETS

abbrev bare : Part → Part
bare (terminal m) = terminal m
bare (terminal_at m at) = terminal_at m 0
bare (said w) = said w
bare (identifier n) = identifier (unplaced_name n)
bare (version s) = version (unplaced_stamp s)
bare (moment v) = moment v
bare (number s) = number (unplaced_stamp s)
bare (bound s) = bound (unplaced_stamp s)
bare (constant c at) = constant c 0

number_version : (v : ℤ) → IsNonNegative v → version_by 0 (number_token v) ≡ Some (record { value = v; at = 0 })
number_version (pos n) h = refl
number_version (negsuc n) h = absurd h

number_moment : (v : ℤ) → moment_by (number_token v) ≡ Some v
number_moment (pos n) = refl
number_moment (negsuc n) = refl

number_number : (v : ℤ) → number_by 0 (number_token v) ≡ Some (record { value = v; at = 0 })
number_number (pos n) = refl
number_number (negsuc n) = refl

number_bound : (v : ℤ) → bound_by 0 (number_token v) ≡ Some (record { value = v; at = 0 })
number_bound (pos n) = refl
number_bound (negsuc n) = refl

forever_bound : (v : ℤ) → v ≡ plain.forever → bound_by 0 (Fixed (terminals.Keyword words.Forever)) ≡ Some (record { value = v; at = 0 })
forever_bound v e = ap (λ v. Some (record { value = v; at = 0 })) (sym e)

bound_is : (v : ℤ) → bound_by 0 (bound_token v) ≡ Some (record { value = v; at = 0 })
bound_is v = elim (int_eq v plain.forever) as (λ u. int_eq v plain.forever ≡ u → bound_by 0 (cond u (Fixed (terminals.Keyword words.Forever)) (number_token v)) ≡ Some (record { value = v; at = 0 })) [ true ↦ λ e. forever_bound v ((Decides-int_eq v plain.forever).0 e) | false ↦ λ e. number_bound v ] refl

cell_is : (c : Cell) → constant_by (cell_token c) ≡ Some c
cell_is (cells.Int (pos n)) = refl
cell_is (cells.Int (negsuc n)) = refl
cell_is (cells.Text t) = refl

part_fits : (q : Part) (p : Placed) → IsReadPart q → p.token ≡ token_of q → IsPart (bare q) (unplaced_token p)
part_fits (terminal m) p h e = e
part_fits (terminal_at m at) p h e = ap (λ t. record { token = t; at = 0 }) e
part_fits (said w) p h e = e
part_fits (identifier n) p h e = ap (name_by 0) e
part_fits (version s) p h e = ap (version_by 0) e ∙ number_version s.value h.0
part_fits (moment v) p h e = ap moment_by e ∙ number_moment v
part_fits (number s) p h e = ap (number_by 0) e ∙ number_number s.value
part_fits (bound s) p h e = ap (bound_by 0) e ∙ bound_is s.value
part_fits (constant c at) p h e = (ap constant_by e ∙ cell_is c, refl)

like_fits : (parts : List Part) (ts : List Placed) → AllByRecursion IsReadPart parts → Like parts ts → Fits (map bare parts) (zeros ts)
like_fits [] [] h l = tt
like_fits [] (p ∷ ts) h l = absurd l
like_fits (q ∷ parts) [] h l = absurd l
like_fits (q ∷ parts) (p ∷ ts) h l = (part_fits q p h.0 l.0, like_fits parts ts h.1 l.1)

-- one after another
after_each : (a b c d : List Part) → a ≡ map bare b → c ≡ map bare d → a ++ c ≡ map bare (b ++ d)
after_each a b c d e f = ap (λ a. a ++ c) e ∙ ap (λ c. map bare b ++ c) f ∙ sym (map-append bare b d)

each_bare : {A : Type 0} (m : Terminal) (parts : A → List Part) (f : A → A) → ((x : A) → parts (f x) ≡ map bare (parts x)) → (xs : List A) → each_after m parts (map f xs) ≡ map bare (each_after m parts xs)
each_bare m parts f h [] = refl
each_bare m parts f h (x ∷ xs) = ap (λ y. terminal m ∷ y) (after_each (parts (f x)) (parts x) (each_after m parts (map f xs)) (each_after m parts xs) (h x) (each_bare m parts f h xs))

separated_bare : {A : Type 0} (m : Terminal) (parts : A → List Part) (f : A → A) → ((x : A) → parts (f x) ≡ map bare (parts x)) → (xs : List A) → separated m parts (map f xs) ≡ map bare (separated m parts xs)
separated_bare m parts f h [] = refl
separated_bare m parts f h (x ∷ xs) = after_each (parts (f x)) (parts x) (each_after m parts (map f xs)) (each_after m parts xs) (h x) (each_bare m parts f h xs)

valid_bare : (v : Bool) → valid_parts v ≡ map bare (valid_parts v)
valid_bare true = refl
valid_bare false = refl

item_bare : (x : Item) → item_parts (unplaced_item x) ≡ map bare (item_parts x)
item_bare (items.Column n) = refl
item_bare (items.ValidFrom at) = refl
item_bare (items.ValidTo at) = refl

asked_bare : (all : Bool) (xs : List Item) → asked_parts all (map unplaced_item xs) ≡ map bare (asked_parts all xs)
asked_bare true xs = refl
asked_bare false xs = separated_bare terminals.Comma item_parts unplaced_item item_bare xs

conj_bare : (tests : List Test) → conj_parts (map unplaced_test tests) ≡ map bare (conj_parts tests)
conj_bare tests = separated_bare (terminals.Keyword words.And) test_parts unplaced_test (λ t. refl) tests

any_bare : (any : List (List Test)) → any_parts (map (λ tests. map unplaced_test tests) any) ≡ map bare (any_parts any)
any_bare [] = refl
any_bare (tests ∷ any) = ap (λ y. keyword words.Where ∷ y) (separated_bare (terminals.Keyword words.Or) conj_parts (λ tests. map unplaced_test tests) conj_bare (tests ∷ any))

valid_at_bare : (o : Option ValidPoint) → valid_at_parts (option_map unplaced_point o) ≡ map bare (valid_at_parts o)
valid_at_bare None = refl
valid_at_bare (Some v) = refl

version_or_moment_bare : (x : AsOf) → version_or_moment_parts (unplaced_as_of x) ≡ map bare (version_or_moment_parts x)
version_or_moment_bare (as_ofs.Version s) = refl
version_or_moment_bare (as_ofs.Moment s) = refl

as_of_bare : (o : Option AsOf) → as_of_parts (option_map unplaced_as_of o) ≡ map bare (as_of_parts o)
as_of_bare None = refl
as_of_bare (Some x) = ap (λ y. keyword words.As ∷ keyword words.Of ∷ y) (version_or_moment_bare x)

column_name_bare : (o : Option Name) → column_name_parts (option_map unplaced_name o) ≡ map bare (column_name_parts o)
column_name_bare None = refl
column_name_bare (Some n) = refl

by_bare : (o : Option Name) → by_parts (option_map unplaced_name o) ≡ map bare (by_parts o)
by_bare None = refl
by_bare (Some n) = refl

over_bare : (o : Over) → over_parts (unplaced_over o) ≡ map bare (over_parts o)
over_bare overs.SystemAll = refl
over_bare (overs.System from to) = refl
over_bare (overs.Valid at from to as_of) = ap (λ y. keyword words.Over ∷ terminal_at (terminals.Keyword words.Valid) 0 ∷ bound (unplaced_stamp from) ∷ keyword words.To ∷ bound (unplaced_stamp to) ∷ y) (as_of_bare as_of)

statement_bare : (s : Statement) → statement_parts (without_offsets s) ≡ map bare (statement_parts s)
statement_bare (statements.Create f) =
    ap (λ y. keyword words.Create ∷ keyword words.Table ∷ identifier (unplaced_name f.name) ∷ terminal terminals.Open ∷ y)
    (after_each _ (separated terminals.Comma column_parts f.columns) _ (terminal terminals.Close ∷ keyword words.Key ∷ identifier f.key ∷ valid_parts f.valid) (separated_bare terminals.Comma column_parts unplaced_column (λ c. refl) f.columns)
    (ap (λ y. terminal terminals.Close ∷ keyword words.Key ∷ identifier (unplaced_name f.key) ∷ y) (valid_bare f.valid)))
statement_bare (statements.Put n) = refl
statement_bare (statements.Remove n) = refl
statement_bare (statements.Ask (queries.Select f)) =
    ap (λ y. keyword words.Select ∷ y)
    (after_each _ (asked_parts f.all f.items) _ (keyword words.From ∷ identifier f.table ∷ (where_parts f.pred ++ (valid_at_parts f.valid_at ++ as_of_parts f.as_of))) (asked_bare f.all f.items)
    (ap (λ y. keyword words.From ∷ identifier (unplaced_name f.table) ∷ y)
    (after_each _ (where_parts f.pred) _ (valid_at_parts f.valid_at ++ as_of_parts f.as_of) (any_bare f.pred.any) (after_each _ (valid_at_parts f.valid_at) _ (as_of_parts f.as_of) (valid_at_bare f.valid_at) (as_of_bare f.as_of)))))
statement_bare (statements.Ask (queries.Agg f)) =
    ap (λ y. keyword (agg_keyword f.kind) ∷ y)
    (after_each _ (column_name_parts f.column) _ (keyword words.From ∷ identifier f.table ∷ (where_parts f.pred ++ (by_parts f.by ++ over_parts f.over))) (column_name_bare f.column)
    (ap (λ y. keyword words.From ∷ identifier (unplaced_name f.table) ∷ y)
    (after_each _ (where_parts f.pred) _ (by_parts f.by ++ over_parts f.over) (any_bare f.pred.any) (after_each _ (by_parts f.by) _ (over_parts f.over) (by_bare f.by) (over_bare f.over)))))
statement_bare (statements.Ask (queries.Join f)) =
    ap (λ y. keyword words.Join ∷ identifier (unplaced_name f.left) ∷ y)
    (after_each _ (where_parts f.left_pred) _ (keyword words.With ∷ identifier f.right ∷ (where_parts f.right_pred ++ (keyword words.On ∷ identifier f.left_on ∷ terminal terminals.Equal ∷ identifier f.right_on ∷ over_parts f.over))) (any_bare f.left_pred.any)
    (ap (λ y. keyword words.With ∷ identifier (unplaced_name f.right) ∷ y)
    (after_each _ (where_parts f.right_pred) _ (keyword words.On ∷ identifier f.left_on ∷ terminal terminals.Equal ∷ identifier f.right_on ∷ over_parts f.over) (any_bare f.right_pred.any)
    (ap (λ y. keyword words.On ∷ identifier (unplaced_name f.left_on) ∷ terminal terminals.Equal ∷ identifier (unplaced_name f.right_on) ∷ y) (over_bare f.over)))))
statement_bare (statements.Moment s) = refl
statement_bare (statements.Forget n s) = refl
statement_bare (statements.Sync n) = refl

pred_unplaced : (any : List (List Test)) → AllByRecursion (λ tests. 1 ≤ length tests) any → AllByRecursion (λ tests. 1 ≤ length tests) (map (λ tests. map unplaced_test tests) any)
pred_unplaced [] h = tt
pred_unplaced (tests ∷ any) h = (omega (arith, length-map tests unplaced_test, h.0), pred_unplaced any h.1)

asked_unplaced : (all : Bool) (xs : List Item) → IsAsked all xs → IsAsked all (map unplaced_item xs)
asked_unplaced true xs h = ap (map unplaced_item) h
asked_unplaced false xs h = omega (arith, length-map xs unplaced_item, h)

aggregate_unplaced : (k : AggKind) (o : Option Name) → IsAggregate k o → IsAggregate k (option_map unplaced_name o)
aggregate_unplaced k None h = h
aggregate_unplaced k (Some n) h = h

statement_unplaced : (s : Statement) → IsStatement s → IsStatement (without_offsets s)
statement_unplaced (statements.Create f) h = record { some = omega (arith, length-map f.columns unplaced_column, h.some); few = omega (arith, length-map f.columns unplaced_column, h.few) }
statement_unplaced (statements.Put n) h = tt
statement_unplaced (statements.Remove n) h = tt
statement_unplaced (statements.Ask (queries.Select f)) h = record { asked = asked_unplaced f.all f.items h.asked; tested = pred_unplaced f.pred.any h.tested }
statement_unplaced (statements.Ask (queries.Agg f)) h = record { aggregate = aggregate_unplaced f.kind f.column h.aggregate; tested = pred_unplaced f.pred.any h.tested }
statement_unplaced (statements.Ask (queries.Join f)) h = record { left_tested = pred_unplaced f.left_pred.any h.left_tested; right_tested = pred_unplaced f.right_pred.any h.right_tested }
statement_unplaced (statements.Moment s) h = tt
statement_unplaced (statements.Forget n s) h = tt
statement_unplaced (statements.Sync n) h = tt

like_spelled : (s : Statement) (ts : List Placed) → IsParsed s → Like (statement_parts s) ts → IsSpelling (zeros ts) (without_offsets s)
like_spelled s ts h l = (statement_unplaced s (whole_of s h), (false, subst (λ parts. Fits parts (zeros ts)) (sym (append-nil (statement_parts (without_offsets s)) ∙ statement_bare s)) (like_fits (statement_parts s) ts (parts_of s h) l)))

again_by : (text : List ℕ) (s : Statement) → length text ≤ 65536 → (tokens_of text).fault ≡ None → (r : Result Statement (Option ℕ)) → statement_at (tokens_of text).tokens ≡ r → changed without_offsets r ≡ Ok (without_offsets s) → SpellsAgain text s
again_by text s short whole (Ok t) e h = record { read = t; spelled = record { short = short; whole = whole; spelled = at_whole (tokens_of text).tokens t e }; same = let k : without_offsets t ≡ without_offsets s = cc in k }
again_by text s short whole (Err o) e h = absurd (cc)

again_of : (s : Statement) (text : List ℕ) → IsParsed s → length text ≤ 65536 → IsScan (statement_parts s) (tokens_of text) → SpellsAgain text s
again_of s text h short k =
    let ts : List Placed = (tokens_of text).tokens in
    again_by text s short k.whole (statement_at ts) refl (sym (statement_agrees ts) ∙ statement_again (zeros ts) (without_offsets s) (like_spelled s ts h k.like))

-- what is written spells the statement again
pub printed_again : (s : Statement) → IsParsed s → length (text_of s) ≤ 65536 → SpellsAgain (text_of s) s
printed_again s h short =
    let e : text_of s ≡ rest_of true (statement_parts s) = written (statement_parts s) nothing in
    again_of s (text_of s) h short (subst (λ text. IsScan (statement_parts s) (scan 0 false 0 text)) (sym e) (scan_rest (statement_parts s) (parts_of s h) true false 0 refl))

pub text_again : (text : List ℕ) (s : Statement) → IsParsed s → text ≡ text_of s → length text ≤ 65536 → SpellsAgain text s
text_again text s h e short = subst (λ text. SpellsAgain text s) (sym e) (printed_again s h (subst (λ text. length text ≤ 65536) e short))
