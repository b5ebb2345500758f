-- What is read of a text is what it spells, or its fault, and nothing else is either.
use Rattle.std.proofs.Common.{◌≡◌, ℕ, ◌+◌, ◌<◌, ◌≤◌, ◌-◌, ◌^◌, ◌==◌, nat_le, take, zero, suc, Bool, true, false, cond, nat_lt, ◌⊎◌, inl, inr, List, [], ◌∷◌, ◌++◌, length, Option, Some, None, Result, Ok, Err, IfOk, IfSome, IfErr, refl, sym, ◌∙◌, ap, subst, append_assoc, append-nil, arith}
use Rattle.std.proofs.lemmas.Bool.{cases_lt}
use Rattle.std.proofs.lemmas.Bool.Decides.{nat_tests}
use Rattle.tl_query.specs.declared.tokens.Placed.{Placed}
use Rattle.tl_query.specs.declared.ast.Statement.{Statement}
use Rattle.tl_query.specs.declared.faults.TextFault.{TextFault}
use Rattle.tl_query.specs.declared.faults.TextFault.TheVariants.{BadByte, OpenText, NumberTooLarge, Unexpected, QueryTooLong, NoMemory}
use Rattle.std.specs.List.{prefix_len}
use Rattle.tl_types.specs.Names.{is_digit, begins_word}
use Rattle.tl_query.specs.declared.scanning.Piece.{Piece}
use Rattle.tl_query.specs.Scanning.{Tokens, scan, with_piece, is_blank, digits_value, piece_at, number_piece, negative_piece, quoted_piece, symbol_piece, closing_len, single_quotes, text_token}
use Rattle.tl_query.specs.Grammar.{IsSpelling, IsViable}
use Rattle.tl_query.specs.Reading.{first_offset, statement_at}
use Rattle.tl_query.specs.Texts.{tokens_of, Spells, IsRefused, EndsEarly, IsBroken, IsFault, outcome, text_read, Answers, HasOneMeaning}
use Rattle.tl_query.proofs.Laws.{StopsRight, Reads, shorter_viable}
use Rattle.tl_query.proofs.Parts.{statement_good}
use Rattle.tl_query.proofs.Again.{statement_again}

-- a token that is refused whatever follows makes the tokens not viable
not_viable : (prefix : List Placed) (p : Placed) → ((y : List Placed) (s : Statement) → statement_at (prefix ++ (p ∷ y)) ≡ Ok s → ⊥) → IsViable (prefix ++ (p ∷ [])) → ⊥
not_viable prefix p h v = h v.0 v.1 (statement_again (prefix ++ (p ∷ v.0)) v.1 (subst (λ w. IsSpelling w v.1) (append_assoc prefix (p ∷ []) v.0) v.2))

-- what is viable has viable fronts
prefix_viable : (ts prefix behind : List Placed) (p : Placed) → ts ≡ prefix ++ (p ∷ behind) → IsViable ts → IsViable (prefix ++ (p ∷ []))
prefix_viable ts prefix behind p e v = shorter_viable (prefix ++ (p ∷ [])) behind (subst (λ x. IsViable x) (e ∙ sym (append_assoc prefix (p ∷ []) behind)) v)

spelled_viable : (ts : List Placed) (s : Statement) → IsSpelling ts s → IsViable ts
spelled_viable ts s h = ([], s, subst (λ w. IsSpelling w s) (sym (append-nil ts)) h)

-- where two tokens of one list stand
abbrev Order : List Placed → Placed → List Placed → Placed → Type 0
Order a x c y = ((e : List Placed) × (c ≡ a ++ (x ∷ e))) ⊎ ((e : List Placed) × (a ≡ c ++ (y ∷ e))) ⊎ (x ≡ y)

later : (q r : Placed) (a c : List Placed) (x y : Placed) → q ≡ r → Order a x c y → Order (q ∷ a) x (r ∷ c) y
later q r a c x y e (inl h) = inl (h.0, let k = h.1 in cc)
later q r a c x y e (inr (inl h)) = inr (inl (h.0, let k = h.1 in cc))
later q r a c x y e (inr (inr h)) = inr (inr h)

order : (a b c d : List Placed) (x y : Placed) → a ++ (x ∷ b) ≡ c ++ (y ∷ d) → Order a x c y
order [] b [] d x y e = inr (inr (cc))
order [] b (r ∷ c) d x y e = inl (c, let h : x ≡ r = cc in cc)
order (q ∷ a) b [] d x y e = inr (inl (a, let h : q ≡ y = cc in cc))
order (q ∷ a) b (r ∷ c) d x y e = let h : q ≡ r = cc in let k : a ++ (x ∷ b) ≡ c ++ (y ∷ d) = cc in later q r a c x y h (order a b c d x y k)

empty_rest : (rest : List Placed) → first_offset rest ≡ None → rest ≡ []
empty_rest [] e = refl
empty_rest (p ∷ rest) e = absurd (cc)

viable_from : (ts : List Placed) → StopsRight [] statement_at ts None → IsViable ts
viable_from ts h = subst (λ x. IsViable x) (sym (h.parts ∙ ap (λ r. h.prefix ++ r) (empty_rest h.rest h.place) ∙ append-nil h.prefix)) h.viable

refused_at : (ts prefix rest : List Placed) (at : ℕ) → ts ≡ prefix ++ rest → first_offset rest ≡ Some at → IsViable prefix → ((p : Placed) (behind : List Placed) → rest ≡ p ∷ behind → (y : List Placed) (s : Statement) → statement_at (prefix ++ (p ∷ y)) ≡ Ok s → ⊥) → IsRefused ts at
refused_at ts prefix [] at e place v h = absurd (cc)
refused_at ts prefix (p ∷ behind) at e place v h = record { prefix = prefix; token = p; after = behind; parts = e; place = let k : Some p.at ≡ Some at = place in cc; viable = v; refused = not_viable prefix p (h p behind refl) }

refused_from : (ts : List Placed) (at : ℕ) → StopsRight [] statement_at ts (Some at) → IsRefused ts at
refused_from ts at h = refused_at ts h.prefix h.rest at h.parts h.place h.viable h.refused

-- where reading stopped
at_token : (ts : List Placed) (at : ℕ) → statement_at ts ≡ Err (Some at) → IsRefused ts at
at_token ts at e = refused_from ts at (subst (λ r. Reads [] statement_at ts r) e (statement_good (length ts) [] tt ts (omega arith)))

at_end : (ts : List Placed) → statement_at ts ≡ Err None → IsViable ts
at_end ts e = viable_from ts (subst (λ r. Reads [] statement_at ts r) e (statement_good (length ts) [] tt ts (omega arith)))

pub at_whole : (ts : List Placed) (s : Statement) → statement_at ts ≡ Ok s → IsSpelling ts s
at_whole ts s e = subst (λ r. Reads [] statement_at ts r) e (statement_good (length ts) [] tt ts (omega arith))

-- no token of viable tokens is refused
unrefused : (ts : List Placed) (at : ℕ) → IsViable ts → IsRefused ts at → ⊥
unrefused ts at v h = h.refused (prefix_viable ts h.prefix h.after h.token h.parts v)

same_by : (ts : List Placed) (m n : ℕ) (g : IsRefused ts m) (h : IsRefused ts n) → Order g.prefix g.token h.prefix h.token → m ≡ n
same_by ts m n g h (inl k) = absurd (g.refused (prefix_viable h.prefix g.prefix k.0 g.token k.1 h.viable))
same_by ts m n g h (inr (inl k)) = absurd (h.refused (prefix_viable g.prefix h.prefix k.0 h.token k.1 g.viable))
same_by ts m n g h (inr (inr k)) = sym g.place ∙ ap (λ p. p.at) k ∙ h.place

-- at most one token is refused first
same_refused : (ts : List Placed) (m n : ℕ) → IsRefused ts m → IsRefused ts n → m ≡ n
same_refused ts m n g h = same_by ts m n g h (order g.prefix g.after h.prefix h.after g.token h.token (sym g.parts ∙ h.parts))

reads_refused : (ts : List Placed) (at : ℕ) (r : Result Statement (Option ℕ)) → statement_at ts ≡ r → IsRefused ts at → r ≡ Err (Some at)
reads_refused ts at (Ok s) e h = absurd (unrefused ts at (spelled_viable ts s (at_whole ts s e)) h)
reads_refused ts at (Err None) e h = absurd (unrefused ts at (at_end ts e) h)
reads_refused ts at (Err (Some n)) e h = ap (λ k. Err (Some k)) (same_refused ts n at (at_token ts n e) h)

-- text_read of a text that isn't too long
read_short : (text : List ℕ) → length text ≤ 65536 → text_read text ≡ outcome (length text) (tokens_of text).fault (statement_at (tokens_of text).tokens)
unfolding text_read
read_short text h = let e : nat_lt 65536 (length text) ≡ false = grind (arith, nat_tests) in ap (λ b. cond b (Err QueryTooLong) (outcome (length text) (tokens_of text).fault (statement_at (tokens_of text).tokens))) e

pub read_long : (text : List ℕ) → 65536 < length text → text_read text ≡ Err QueryTooLong
unfolding text_read
read_long text h = let e : nat_lt 65536 (length text) ≡ true = grind (arith, nat_tests) in ap (λ b. cond b (Err QueryTooLong) (outcome (length text) (tokens_of text).fault (statement_at (tokens_of text).tokens))) e

-- what is spelled is read
pub spelled_read : (text : List ℕ) (s : Statement) → Spells text s → text_read text ≡ Ok s
spelled_read text s h = read_short text h.short ∙ ap (λ f. outcome (length text) f (statement_at (tokens_of text).tokens)) h.whole ∙ ap (outcome (length text) None) (statement_again (tokens_of text).tokens s h.spelled)

broken_by : (len : ℕ) (ts : List Placed) (fault : TextFault) (r : Result Statement (Option ℕ)) → statement_at ts ≡ r → IsViable ts → outcome len (Some fault) r ≡ Err fault
broken_by len ts fault (Ok s) e v = refl
broken_by len ts fault (Err None) e v = refl
broken_by len ts fault (Err (Some at)) e v = absurd (unrefused ts at v (at_token ts at e))

broken_read : (text : List ℕ) (fault : TextFault) → IsBroken text fault → text_read text ≡ Err fault
broken_read text fault h = read_short text h.short ∙ ap (λ f. outcome (length text) f (statement_at (tokens_of text).tokens)) h.first ∙ broken_by (length text) (tokens_of text).tokens fault (statement_at (tokens_of text).tokens) refl h.viable

early_by : (ts : List Placed) (r : Result Statement (Option ℕ)) → statement_at ts ≡ r → EndsEarly ts → r ≡ Err None
early_by ts (Ok s) e h = absurd (h.unspelled s (at_whole ts s e))
early_by ts (Err None) e h = refl
early_by ts (Err (Some at)) e h = absurd (unrefused ts at h.viable (at_token ts at e))

-- a fault is what is read
pub fault_read : (text : List ℕ) (e : TextFault) → IsFault text e → text_read text ≡ Err e
fault_read text (BadByte at) h = broken_read text (BadByte at) h
fault_read text (OpenText at) h = broken_read text (OpenText at) h
fault_read text (NumberTooLarge at) h = broken_read text (NumberTooLarge at) h
fault_read text (Unexpected at) (short, inl h) = read_short text short ∙ ap (outcome (length text) (tokens_of text).fault) (reads_refused (tokens_of text).tokens at (statement_at (tokens_of text).tokens) refl h)
fault_read text (Unexpected at) (short, inr h) = read_short text short ∙ ap (λ f. outcome (length text) f (statement_at (tokens_of text).tokens)) h.0 ∙ ap (outcome (length text) None) (early_by (tokens_of text).tokens (statement_at (tokens_of text).tokens) refl h.1) ∙ ap (λ n. Err (Unexpected n)) (sym h.2)
fault_read text QueryTooLong h = read_long text h
fault_read text NoMemory h = absurd h

read_by : (text : List ℕ) (r : Result Statement (Option ℕ)) (f : Option TextFault) (s : Statement) → statement_at (tokens_of text).tokens ≡ r → (tokens_of text).fault ≡ f → length text ≤ 65536 → outcome (length text) f r ≡ Ok s → Spells text s
read_by text (Ok t) None s e f short h = record { short = short; whole = f; spelled = let k : t ≡ s = cc in subst (λ x. IsSpelling (tokens_of text).tokens x) k (at_whole (tokens_of text).tokens t e) }
read_by text (Ok t) (Some g) s e f short h = absurd (cc)
read_by text (Err None) None s e f short h = absurd (cc)
read_by text (Err None) (Some g) s e f short h = absurd (cc)
read_by text (Err (Some at)) f s e g short h = absurd (cc)

length_cases : (text : List ℕ) → (65536 < length text) ⊎ (length text ≤ 65536)
length_cases text = cases_lt 65536 (length text)

read_spelled_at : (text : List ℕ) (s : Statement) → (65536 < length text) ⊎ (length text ≤ 65536) → text_read text ≡ Ok s → Spells text s
read_spelled_at text s (inl h) e = let k = read_long text h in absurd (cc)
read_spelled_at text s (inr h) e = read_by text (statement_at (tokens_of text).tokens) (tokens_of text).fault s refl refl h (sym (read_short text h) ∙ e)

-- what is read is spelled
pub read_spelled : (text : List ℕ) (s : Statement) → text_read text ≡ Ok s → Spells text s
read_spelled text s e = read_spelled_at text s (length_cases text) e

-- the faults at which there is no token
abbrev IsLexical : TextFault → Type 0
IsLexical (BadByte at) = Unit {0}
IsLexical (OpenText at) = Unit {0}
IsLexical (NumberTooLarge at) = Unit {0}
IsLexical (Unexpected at) = ⊥
IsLexical QueryTooLong = ⊥
IsLexical NoMemory = ⊥

broken_fault : (text : List ℕ) (g : TextFault) → IsLexical g → IsBroken text g → IsFault text g
broken_fault text (BadByte at) l h = h
broken_fault text (OpenText at) l h = h
broken_fault text (NumberTooLarge at) l h = h
broken_fault text (Unexpected at) l h = absurd l
broken_fault text QueryTooLong l h = absurd l
broken_fault text NoMemory l h = absurd l

err_one : (x y : TextFault) → ◌≡◌ {A = Result Statement TextFault} (Err x) (Err y) → x ≡ y
err_one x y h = cc

fault_by : (text : List ℕ) (r : Result Statement (Option ℕ)) (f : Option TextFault) (g : TextFault) → statement_at (tokens_of text).tokens ≡ r → (tokens_of text).fault ≡ f → IfSome f IsLexical → length text ≤ 65536 → outcome (length text) f r ≡ Err g → IsFault text g
fault_by text (Ok t) None g e f l short h = absurd (cc)
fault_by text (Ok t) (Some k) g e f l short h = subst (λ x. IsFault text x) (err_one _ _ h) (broken_fault text k l (record { short = short; first = f; viable = spelled_viable (tokens_of text).tokens t (at_whole (tokens_of text).tokens t e) }))
fault_by text (Err None) None g e f l short h = subst (λ x. IsFault text x) (err_one _ _ h) (short, inr (f, record { viable = at_end (tokens_of text).tokens e; unspelled = λ s k. let a = statement_again (tokens_of text).tokens s k in cc }, refl))
fault_by text (Err None) (Some k) g e f l short h = subst (λ x. IsFault text x) (err_one _ _ h) (broken_fault text k l (record { short = short; first = f; viable = at_end (tokens_of text).tokens e }))
fault_by text (Err (Some at)) f g e k l short h = subst (λ x. IsFault text x) (err_one _ _ h) (short, inl (at_token (tokens_of text).tokens at e))

lexical_if : {A : Type 0} (t : Bool) (x y : Result A TextFault) → IfErr x IsLexical → IfErr y IsLexical → IfErr (cond t x y) IsLexical
lexical_if true x y h k = h
lexical_if false x y h k = k

quoted_lexical : (at : ℕ) (bytes : List ℕ) → IfErr (quoted_piece at bytes) IsLexical
unfolding quoted_piece
quoted_lexical at bytes = elim (closing_len false bytes) as (λ o. IfErr {T = Piece} (elim o [ None ↦ Err (OpenText at) | Some n ↦ Ok (record { token = text_token (single_quotes false (take (n - 1) bytes)); len = n + 1; joins = true }) ]) IsLexical) [ None ↦ tt | Some n ↦ tt ]

piece_lexical : (at b : ℕ) (bytes : List ℕ) → IfErr (piece_at at b bytes) IsLexical
unfolding piece_at number_piece negative_piece symbol_piece
piece_lexical at b bytes =
    lexical_if (begins_word b) _ _ tt (lexical_if (is_digit b) _ _ (lexical_if (nat_lt (digits_value (take (prefix_len is_digit (b ∷ bytes)) (b ∷ bytes))) (2 ^ 63)) _ _ tt tt)
    (lexical_if (b == 45) _ _ (lexical_if (prefix_len is_digit bytes == 0) _ _ tt (lexical_if (nat_le (digits_value (take (prefix_len is_digit bytes) bytes)) (2 ^ 63)) _ _ tt tt))
    (lexical_if (b == 39) _ _ (quoted_lexical at bytes)
    (lexical_if (b == 40) _ _ tt (lexical_if (b == 41) _ _ tt (lexical_if (b == 44) _ _ tt (lexical_if (b == 59) _ _ tt (lexical_if (b == 42) _ _ tt (lexical_if (b == 61) _ _ tt (lexical_if (b == 60) _ _ tt (lexical_if (b == 62) _ _ tt tt)))))))))))

some_lexical : (t : Bool) (x y : Tokens) → IfSome x.fault IsLexical → IfSome y.fault IsLexical → IfSome (cond t x y).fault IsLexical
some_lexical true x y h k = h
some_lexical false x y h k = k

with_lexical : (at : ℕ) (joined : Bool) (r : Result Piece TextFault) (others : Bool → ℕ → Tokens) → IfErr r IsLexical → ((j : Bool) (n : ℕ) → IfSome (others j n).fault IsLexical) → IfSome (with_piece at joined r others).fault IsLexical
with_lexical at joined (Ok p) others h k = k p.joins p.len
with_lexical at joined (Err e) others h k = h

scan_lexical : (bytes : List ℕ) (skip at : ℕ) (joined : Bool) → IfSome (scan at joined skip bytes).fault IsLexical
unfolding scan
scan_lexical [] skip at joined = tt
scan_lexical (b ∷ bytes) (suc skip) at joined = scan_lexical bytes skip (at + 1) joined
scan_lexical (b ∷ bytes) zero at joined = some_lexical (is_blank b) _ _ (scan_lexical bytes 0 (at + 1) false) (with_lexical at joined (piece_at at b bytes) (λ joins len. scan (at + 1) joins (len - 1) bytes) (piece_lexical at b bytes) (λ j n. scan_lexical bytes (n - 1) (at + 1) j))

read_fault_at : (text : List ℕ) (e : TextFault) → (65536 < length text) ⊎ (length text ≤ 65536) → text_read text ≡ Err e → IsFault text e
read_fault_at text e (inl h) k = subst (λ x. IsFault text x) (err_one QueryTooLong e (sym (read_long text h) ∙ k)) h
read_fault_at text e (inr h) k = fault_by text (statement_at (tokens_of text).tokens) (tokens_of text).fault e refl refl (scan_lexical text 0 0 false) h (sym (read_short text h) ∙ k)

-- an error is a fault
pub read_fault : (text : List ℕ) (e : TextFault) → text_read text ≡ Err e → IsFault text e
read_fault text e h = read_fault_at text e (length_cases text) h

answer_err : (e : TextFault) (read : Result Statement TextFault) → Answers (Err e) read → (e ≡ NoMemory) ⊎ (read ≡ Err e)
answer_err (BadByte at) read h = inr h
answer_err (OpenText at) read h = inr h
answer_err (NumberTooLarge at) read h = inr h
answer_err (Unexpected at) read h = inr h
answer_err QueryTooLong read h = inr h
answer_err NoMemory read h = inl refl

pub found_of : (text : List ℕ) (r : Result Statement TextFault) → Answers r (text_read text) → IfOk r (λ s. Spells text s)
found_of text (Ok s) h = read_spelled text s h
found_of text (Err e) h = tt

fault_or : (text : List ℕ) (e : TextFault) → (e ≡ NoMemory) ⊎ (text_read text ≡ Err e) → (e ≡ NoMemory) ⊎ IsFault text e
fault_or text e (inl h) = inl h
fault_or text e (inr h) = inr (read_fault text e h)

pub fault_of : (text : List ℕ) (r : Result Statement TextFault) → Answers r (text_read text) → IfErr r (λ e. (e ≡ NoMemory) ⊎ IsFault text e)
fault_of text (Ok s) h = tt
fault_of text (Err e) h = fault_or text e (answer_err e (text_read text) h)

-- a text spells at most one statement
pub one_statement : (text : List ℕ) (s t : Statement) → Spells text s → Spells text t → s ≡ t
one_statement text s t h k = let e = spelled_read text s h in let f = spelled_read text t k in cc

-- a text has at most one fault
pub one_fault : (text : List ℕ) (e f : TextFault) → IsFault text e → IsFault text f → e ≡ f
one_fault text e f h k = err_one e f (sym (fault_read text e h) ∙ fault_read text f k)

-- a text that spells a statement has no fault
pub never_both : (text : List ℕ) (s : Statement) (e : TextFault) → Spells text s → IsFault text e → ⊥
never_both text s e h k = let m = spelled_read text s h in let n = fault_read text e k in absurd (cc)

either_by : (text : List ℕ) (r : Result Statement TextFault) → text_read text ≡ r → ((s : Statement) × Spells text s) ⊎ ((e : TextFault) × IsFault text e)
either_by text (Ok s) h = inl (s, read_spelled text s h)
either_by text (Err e) h = inr (e, read_fault text e h)

-- a text means one thing
pub one_meaning : (text : List ℕ) → HasOneMeaning text
one_meaning text = record {
  statement = one_statement text;
  fault = one_fault text;
  never_both = never_both text;
  either = either_by text (text_read text) refl;
}
