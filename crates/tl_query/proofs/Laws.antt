-- What holds of each reader of a statement's tokens: what it reads is spelled, and where it stops, the
-- tokens before are viable and the token there is refused, whatever follows it. A law speaks of at most so
-- many tokens, so that the law of a list can go by their number.
use Rattle.std.proofs.Common.{◌≡◌, ℕ, ◌≤◌, suc, Bool, true, false, cond, List, [], ◌∷◌, ◌++◌, length, Option, Some, None, Result, Ok, Err, refl, sym, ◌∙◌, ap, subst, append_assoc, append-nil, arith}
use Rattle.std.specs.Option.{option_map}
use Rattle.tl_query.specs.declared.terminals.Terminal.{Terminal}
use Rattle.tl_query.specs.declared.terminals.Terminal.TheVariants as terminals
use Rattle.tl_query.specs.declared.tokens.Token.TheVariants.{Fixed}
use Rattle.tl_query.specs.declared.tokens.Placed.{Placed}
use Rattle.tl_query.specs.declared.ast.Statement.{Statement}
use Rattle.tl_query.specs.Grammar.{Part, terminal, IsPart, Fits, IsStatement, IsSpelling, IsViable, statement_parts, end_parts}
use Rattle.tl_query.specs.Reading.{◌>>=◌, first_offset, is_fixed, after, expect, take_at, peek_at, last_of, statement_end, where_some}
use Rattle.tl_query.proofs.SameTerminals.{is_fixed_true}

abbrev pub Reader : Type 0
Reader = List Placed → Result Statement (Option ℕ)

pub record StopsRight (c : List Placed) (f : Reader) (ts : List Placed) (o : Option ℕ) : Type 0 where
  pub prefix : List Placed
  pub rest : List Placed
  pub parts : ts ≡ prefix ++ rest
  pub place : first_offset rest ≡ o
  pub viable : IsViable (c ++ prefix)
  pub refused : (p : Placed) (behind : List Placed) → rest ≡ p ∷ behind → (y : List Placed) (s : Statement) → f (prefix ++ (p ∷ y)) ≡ Ok s → ⊥

abbrev pub Reads : List Placed → Reader → List Placed → Result Statement (Option ℕ) → Type 0
Reads c f ts (Ok s) = IsSpelling (c ++ ts) s
Reads c f ts (Err o) = StopsRight c f ts o

-- after the tokens c, at these tokens
abbrev pub At : List Placed → Reader → List Placed → Type 0
At c f ts = Reads c f ts (f ts)

-- after tokens that are these parts, at n tokens or fewer
abbrev pub Good : ℕ → List Part → Reader → Type 0
Good n parts f = (c : List Placed) → Fits parts c → (ts : List Placed) → length ts ≤ n → At c f ts

-- parts and tokens, one after another
pub fits_append : (parts qs : List Part) (c d : List Placed) → Fits parts c → Fits qs d → Fits (parts ++ qs) (c ++ d)
fits_append [] qs [] d h k = k
fits_append [] qs (p ∷ c) d h k = absurd h
fits_append (q ∷ parts) qs [] d h k = absurd h
fits_append (q ∷ parts) qs (p ∷ c) d h k = (h.0, fits_append parts qs c d h.1 k)

-- one part more
pub fits_one : (parts : List Part) (q : Part) (c : List Placed) (p : Placed) → Fits parts c → IsPart q p → Fits (parts ++ (q ∷ [])) (c ++ (p ∷ []))
fits_one parts q c p h k = fits_append parts (q ∷ []) c (p ∷ []) h (k, tt)

at_by : (c : List Placed) (f : Reader) (ts : List Placed) (r : Result Statement (Option ℕ)) → f ts ≡ r → Reads c f ts r → At c f ts
at_by c f ts r e h = subst (λ x. Reads c f ts x) (sym e) h

reads_same : (c : List Placed) (f g : Reader) (ts : List Placed) (r : Result Statement (Option ℕ)) → ((y : List Placed) → f y ≡ g y) → Reads c g ts r → Reads c f ts r
reads_same c f g ts (Ok s) e h = h
reads_same c f g ts (Err o) e h = record { prefix = h.prefix; rest = h.rest; parts = h.parts; place = h.place; viable = h.viable; refused = λ p b k y s w. h.refused p b k y s (sym (e (h.prefix ++ (p ∷ y))) ∙ w) }

-- readers that agree
at_same : (c : List Placed) (f g : Reader) (ts : List Placed) → ((y : List Placed) → f y ≡ g y) → At c g ts → At c f ts
at_same c f g ts e h = at_by c f ts (g ts) (e ts) (reads_same c f g ts (g ts) e h)

pub good_by : (n : ℕ) (parts : List Part) (f g : Reader) → ((y : List Placed) → f y ≡ g y) → Good n parts g → Good n parts f
good_by n parts f g e h = λ c fits ts few. at_same c f g ts e (h c fits ts few)

pub good_at : (n : ℕ) (parts qs : List Part) (f : Reader) → parts ≡ qs → Good n parts f → Good n qs f
good_at n parts qs f e h = subst (λ x. Good n x f) e h

pub shorter_viable : (c d : List Placed) → IsViable (c ++ d) → IsViable c
shorter_viable c d h = (d ++ h.0, h.1, subst (λ x. IsSpelling x h.1) (append_assoc c d h.0) h.2)

none_behind : (prefix rest : List Placed) (p : Placed) (b : List Placed) → [] ≡ prefix ++ rest → rest ≡ p ∷ b → ⊥
none_behind [] rest p b e h = cc
none_behind (q ∷ prefix) rest p b e h = cc

viable_from : (c : List Placed) (f : Reader) (r : Result Statement (Option ℕ)) → Reads c f [] r → IsViable c
viable_from c f (Ok s) h = ([], s, h)
viable_from c f (Err o) h = shorter_viable c h.prefix h.viable

-- what a reader goes on from is viable
pub viable_of : (n : ℕ) (parts : List Part) (f : Reader) → Good n parts f → (c : List Placed) → Fits parts c → IsViable c
viable_of n parts f h c fits = viable_from c f (f []) (h c fits [] (omega arith))

-- the tokens before a part that may follow are viable
pub viable_before : (n : ℕ) (parts : List Part) (q : Part) (p : Placed) (f : Reader) → IsPart q p → Good n (parts ++ (q ∷ [])) f → (c : List Placed) → Fits parts c → IsViable c
viable_before n parts q p f is h c fits = shorter_viable c (p ∷ []) (viable_of n (parts ++ (q ∷ [])) f h (c ++ (p ∷ [])) (fits_one parts q c p fits is))

pub fail_at : (c : List Placed) (f : Reader) (p : Placed) (ts : List Placed) → ((y : List Placed) → f (p ∷ y) ≡ Err (Some p.at)) → IsViable c → At c f (p ∷ ts)
fail_at c f p ts e v = at_by c f (p ∷ ts) (Err (Some p.at)) (e ts) record { prefix = []; rest = p ∷ ts; parts = refl; place = refl; viable = subst (λ x. IsViable x) (sym (append-nil c)) v; refused = λ q b k y s w. let h = e y in cc }

pub end_at : (c : List Placed) (f : Reader) → f [] ≡ Err None → IsViable c → At c f []
end_at c f e v = at_by c f [] (Err None) e record { prefix = []; rest = []; parts = refl; place = refl; viable = subst (λ x. IsViable x) (sym (append-nil c)) v; refused = λ q b k y s w. cc }

done_at : (c : List Placed) (f : Reader) (ts : List Placed) (s : Statement) → f ts ≡ Ok s → IsSpelling (c ++ ts) s → At c f ts
done_at c f ts s e h = at_by c f ts (Ok s) e h

step_by : (c : List Placed) (f g : Reader) (p : Placed) (ts : List Placed) (r : Result Statement (Option ℕ)) → ((y : List Placed) → f (p ∷ y) ≡ g y) → Reads (c ++ (p ∷ [])) g ts r → Reads c f (p ∷ ts) r
step_by c f g p ts (Ok s) e h = subst (λ x. IsSpelling x s) (append_assoc c (p ∷ []) ts) h
step_by c f g p ts (Err o) e h = record { prefix = p ∷ h.prefix; rest = h.rest; parts = ap (λ x. p ∷ x) h.parts; place = h.place; viable = subst (λ x. IsViable x) (append_assoc c (p ∷ []) h.prefix) h.viable; refused = λ q b k y s w. h.refused q b k y s (sym (e (h.prefix ++ (q ∷ y))) ∙ w) }

-- one token is taken
step_at : (c : List Placed) (f g : Reader) (p : Placed) (ts : List Placed) → ((y : List Placed) → f (p ∷ y) ≡ g y) → At (c ++ (p ∷ [])) g ts → At c f (p ∷ ts)
step_at c f g p ts e h = at_by c f (p ∷ ts) (g ts) (e ts) (step_by c f g p ts (g ts) e h)

same_begun : (f g : Reader) (p : Placed) (ts prefix rest : List Placed) (q : Placed) (b y : List Placed) → ((z : List Placed) → f (p ∷ z) ≡ g (p ∷ z)) → p ∷ ts ≡ prefix ++ rest → rest ≡ q ∷ b → f (prefix ++ (q ∷ y)) ≡ g (prefix ++ (q ∷ y))
same_begun f g p ts [] rest q b y e h k = let w = e y in cc
same_begun f g p ts (x ∷ prefix) rest q b y e h k = let w = e (prefix ++ (q ∷ y)) in cc

pass_by : (c : List Placed) (f g : Reader) (p : Placed) (ts : List Placed) (r : Result Statement (Option ℕ)) → ((y : List Placed) → f (p ∷ y) ≡ g (p ∷ y)) → Reads c g (p ∷ ts) r → Reads c f (p ∷ ts) r
pass_by c f g p ts (Ok s) e h = h
pass_by c f g p ts (Err o) e h = record { prefix = h.prefix; rest = h.rest; parts = h.parts; place = h.place; viable = h.viable; refused = λ q b k y s w. h.refused q b k y s (sym (same_begun f g p ts h.prefix h.rest q b y e h.parts k) ∙ w) }

-- the token is left to another reader
pass_at : (c : List Placed) (f g : Reader) (p : Placed) (ts : List Placed) → ((y : List Placed) → f (p ∷ y) ≡ g (p ∷ y)) → At c g (p ∷ ts) → At c f (p ∷ ts)
pass_at c f g p ts e h = at_by c f (p ∷ ts) (g (p ∷ ts)) (e ts) (pass_by c f g p ts (g (p ∷ ts)) e h)

pass_end_by : (c : List Placed) (f g : Reader) (r : Result Statement (Option ℕ)) → Reads c g [] r → Reads c f [] r
pass_end_by c f g (Ok s) h = h
pass_end_by c f g (Err o) h = record { prefix = h.prefix; rest = h.rest; parts = h.parts; place = h.place; viable = h.viable; refused = λ q b k y s w. none_behind h.prefix h.rest q b h.parts k }

-- the end is left to another reader
pub pass_end : (c : List Placed) (f g : Reader) → f [] ≡ g [] → At c g [] → At c f []
pass_end c f g e h = at_by c f [] (g []) e (pass_end_by c f g (g []) h)

-- a token for each terminal
token_for : Terminal → Placed
token_for m = record { token = Fixed m; at = 0 }

is_token_for : (m : Terminal) → IsPart (terminal m) (token_for m)
unfolding token_for
is_token_for m = refl

-- a terminal that has to come
expect_terminal_at : (n : ℕ) (parts : List Part) (m : Terminal) (g : Reader) (c : List Placed) → Fits parts c → (p : Placed) (ts : List Placed) (b : Bool) → length (p ∷ ts) ≤ n → is_fixed m p.token ≡ b → Good n (parts ++ (terminal m ∷ [])) g → At c (λ ts. expect m ts >>= g) (p ∷ ts)
unfolding expect after
expect_terminal_at n parts m g c fits p ts true few e h = step_at c (λ ts. expect m ts >>= g) g p ts (λ y. ap (λ b. where_some (cond b (Some y) None) (Err (Some p.at)) (λ rest. Ok rest) >>= g) e) (h (c ++ (p ∷ [])) (fits_one parts (terminal m) c p fits (is_fixed_true m p.token e)) ts (omega arith))
expect_terminal_at n parts m g c fits p ts false few e h = fail_at c (λ ts. expect m ts >>= g) p ts (λ y. ap (λ b. where_some (cond b (Some y) None) (Err (Some p.at)) (λ rest. Ok rest) >>= g) e) (viable_before n parts (terminal m) (token_for m) g (is_token_for m) h c fits)

expect_at : (n : ℕ) (parts : List Part) (m : Terminal) (g : Reader) → Good n (parts ++ (terminal m ∷ [])) g → (c : List Placed) → Fits parts c → (ts : List Placed) → length ts ≤ n → At c (λ ts. expect m ts >>= g) ts
unfolding expect after
expect_at n parts m g h c fits [] few = end_at c (λ ts. expect m ts >>= g) refl (viable_before n parts (terminal m) (token_for m) g (is_token_for m) h c fits)
expect_at n parts m g h c fits (p ∷ ts) few = expect_terminal_at n parts m g c fits p ts (is_fixed m p.token) few refl h

pub expect_good : (n : ℕ) (parts : List Part) (m : Terminal) (g : Reader) → Good n (parts ++ (terminal m ∷ [])) g → Good n parts (λ ts. expect m ts >>= g)
expect_good n parts m g h = expect_at n parts m g h

-- what a token is: how it is taken, its part, and one that there is
pub record Takes (A : Type 0) (take : Placed → Option A) (part : A → Part) : Type 0 where
  pub is : (p : Placed) (x : A) → take p ≡ Some x → IsPart (part x) p
  pub some : A
  pub token : Placed
  pub there : IsPart (part some) token

-- a token that has to be something
taken_at : {A : Type 0} (take : Placed → Option A) (part : A → Part) → Takes A take part → (n : ℕ) (parts : List Part) (g : A × List Placed → Result Statement (Option ℕ)) → ((x : A) → Good n (parts ++ (part x ∷ [])) (λ ts. g (x, ts))) → (c : List Placed) → Fits parts c → (p : Placed) (ts : List Placed) → length (p ∷ ts) ≤ n → (o : Option A) → take p ≡ o → At c (λ ts. take_at take ts >>= g) (p ∷ ts)
unfolding take_at
taken_at take part of n parts g h c fits p ts few None e = fail_at c (λ ts. take_at take ts >>= g) p ts (λ y. ap (λ o. where_some o (Err (Some p.at)) (λ x. Ok (x, y)) >>= g) e) (viable_before n parts (part of.some) of.token (λ ts. g (of.some, ts)) of.there (h of.some) c fits)
taken_at take part of n parts g h c fits p ts few (Some x) e = step_at c (λ ts. take_at take ts >>= g) (λ ts. g (x, ts)) p ts (λ y. ap (λ o. where_some o (Err (Some p.at)) (λ x. Ok (x, y)) >>= g) e) (h x (c ++ (p ∷ [])) (fits_one parts (part x) c p fits (of.is p x e)) ts (omega arith))

take_good_at : {A : Type 0} (take : Placed → Option A) (part : A → Part) → Takes A take part → (n : ℕ) (parts : List Part) (g : A × List Placed → Result Statement (Option ℕ)) → ((x : A) → Good n (parts ++ (part x ∷ [])) (λ ts. g (x, ts))) → (c : List Placed) → Fits parts c → (ts : List Placed) → length ts ≤ n → At c (λ ts. take_at take ts >>= g) ts
unfolding take_at
take_good_at take part of n parts g h c fits [] few = end_at c (λ ts. take_at take ts >>= g) refl (viable_before n parts (part of.some) of.token (λ ts. g (of.some, ts)) of.there (h of.some) c fits)
take_good_at take part of n parts g h c fits (p ∷ ts) few = taken_at take part of n parts g h c fits p ts few (take p) refl

pub take_good : {A : Type 0} (take : Placed → Option A) (part : A → Part) → Takes A take part → (n : ℕ) (parts : List Part) (g : A × List Placed → Result Statement (Option ℕ)) → ((x : A) → Good n (parts ++ (part x ∷ [])) (λ ts. g (x, ts))) → Good n parts (λ ts. take_at take ts >>= g)
take_good take part of n parts g h = take_good_at take part of n parts g h

-- a token that may be something
peeked_at : {A : Type 0} (take : Placed → Option A) (part : A → Part) → Takes A take part → (n : ℕ) (parts : List Part) (f g : Reader) (h : A × List Placed → Result Statement (Option ℕ)) → ((y : List Placed) → f y ≡ where_some (peek_at take y) (g y) h) → ((x : A) → Good n (parts ++ (part x ∷ [])) (λ ts. h (x, ts))) → Good n parts g → (c : List Placed) → Fits parts c → (p : Placed) (ts : List Placed) → length (p ∷ ts) ≤ n → (o : Option A) → take p ≡ o → At c f (p ∷ ts)
unfolding peek_at
peeked_at take part of n parts f g h by hh hg c fits p ts few None e = pass_at c f g p ts (λ y. by (p ∷ y) ∙ ap (λ o. where_some (option_map (λ x. (x, y)) o) (g (p ∷ y)) h) e) (hg c fits (p ∷ ts) few)
peeked_at take part of n parts f g h by hh hg c fits p ts few (Some x) e = step_at c f (λ ts. h (x, ts)) p ts (λ y. by (p ∷ y) ∙ ap (λ o. where_some (option_map (λ x. (x, y)) o) (g (p ∷ y)) h) e) (hh x (c ++ (p ∷ [])) (fits_one parts (part x) c p fits (of.is p x e)) ts (omega arith))

peek_token_at : {A : Type 0} (take : Placed → Option A) (part : A → Part) → Takes A take part → (n : ℕ) (parts : List Part) (f g : Reader) (h : A × List Placed → Result Statement (Option ℕ)) → ((y : List Placed) → f y ≡ where_some (peek_at take y) (g y) h) → ((x : A) → Good n (parts ++ (part x ∷ [])) (λ ts. h (x, ts))) → Good n parts g → (c : List Placed) → Fits parts c → (ts : List Placed) → length ts ≤ n → At c f ts
unfolding peek_at
peek_token_at take part of n parts f g h by hh hg c fits [] few = pass_end c f g (by []) (hg c fits [] few)
peek_token_at take part of n parts f g h by hh hg c fits (p ∷ ts) few = peeked_at take part of n parts f g h by hh hg c fits p ts few (take p) refl

pub peek_token_good : {A : Type 0} (take : Placed → Option A) (part : A → Part) → Takes A take part → (n : ℕ) (parts : List Part) (f g : Reader) (h : A × List Placed → Result Statement (Option ℕ)) → ((y : List Placed) → f y ≡ where_some (peek_at take y) (g y) h) → ((x : A) → Good n (parts ++ (part x ∷ [])) (λ ts. h (x, ts))) → Good n parts g → Good n parts f
peek_token_good take part of n parts f g h by hh hg = peek_token_at take part of n parts f g h by hh hg

-- a terminal that may come, and what follows it, of which one token less is left
found_terminal_at : (k n : ℕ) (parts : List Part) (m : Terminal) (f g h : Reader) → ((y : List Placed) → f y ≡ where_some (after m y) (g y) h) → n ≤ suc k → Good k (parts ++ (terminal m ∷ [])) h → Good n parts g → (c : List Placed) → Fits parts c → (p : Placed) (ts : List Placed) → length (p ∷ ts) ≤ n → (b : Bool) → is_fixed m p.token ≡ b → At c f (p ∷ ts)
unfolding after
found_terminal_at k n parts m f g h by less hh hg c fits p ts few true e = step_at c f h p ts (λ y. by (p ∷ y) ∙ ap (λ b. where_some (cond b (Some y) None) (g (p ∷ y)) h) e) (hh (c ++ (p ∷ [])) (fits_one parts (terminal m) c p fits (is_fixed_true m p.token e)) ts (omega arith))
found_terminal_at k n parts m f g h by less hh hg c fits p ts few false e = pass_at c f g p ts (λ y. by (p ∷ y) ∙ ap (λ b. where_some (cond b (Some y) None) (g (p ∷ y)) h) e) (hg c fits (p ∷ ts) few)

peek_terminal_at : (k n : ℕ) (parts : List Part) (m : Terminal) (f g h : Reader) → ((y : List Placed) → f y ≡ where_some (after m y) (g y) h) → n ≤ suc k → Good k (parts ++ (terminal m ∷ [])) h → Good n parts g → (c : List Placed) → Fits parts c → (ts : List Placed) → length ts ≤ n → At c f ts
unfolding after
peek_terminal_at k n parts m f g h by less hh hg c fits [] few = pass_end c f g (by []) (hg c fits [] few)
peek_terminal_at k n parts m f g h by less hh hg c fits (p ∷ ts) few = found_terminal_at k n parts m f g h by less hh hg c fits p ts few (is_fixed m p.token) refl

pub peek_less_good : (k n : ℕ) (parts : List Part) (m : Terminal) (f g h : Reader) → ((y : List Placed) → f y ≡ where_some (after m y) (g y) h) → n ≤ suc k → Good k (parts ++ (terminal m ∷ [])) h → Good n parts g → Good n parts f
peek_less_good k n parts m f g h by less hh hg = peek_terminal_at k n parts m f g h by less hh hg

pub peek_good : (n : ℕ) (parts : List Part) (m : Terminal) (f g h : Reader) → ((y : List Placed) → f y ≡ where_some (after m y) (g y) h) → Good n (parts ++ (terminal m ∷ [])) h → Good n parts g → Good n parts f
peek_good n parts m f g h by hh hg = peek_less_good n n parts m f g h by (omega arith) hh hg

-- no token may be left
last_at : (n : ℕ) (parts : List Part) (s : Statement) → ((c : List Placed) → Fits parts c → IsSpelling c s) → (c : List Placed) → Fits parts c → (ts : List Placed) → length ts ≤ n → At c (λ ts. last_of s ts) ts
unfolding last_of
last_at n parts s h c fits [] few = done_at c (λ ts. last_of s ts) [] s refl (subst (λ x. IsSpelling x s) (sym (append-nil c)) (h c fits))
last_at n parts s h c fits (p ∷ ts) few = fail_at c (λ ts. last_of s ts) p ts (λ y. refl) ([], s, subst (λ x. IsSpelling x s) (sym (append-nil c)) (h c fits))

-- a `;` or nothing may be left
pub end_good : (n : ℕ) (parts : List Part) (s : Statement) → IsStatement s → parts ≡ statement_parts s → Good n parts (λ ts. statement_end s ts)
unfolding statement_end
end_good n parts s is e =
    peek_good n parts terminals.Semicolon (λ ts. statement_end s ts) (λ ts. last_of s ts) (λ ts. last_of s ts) (λ y. refl)
    (last_at n (parts ++ (terminal terminals.Semicolon ∷ [])) s (λ c fits. (is, (true, subst (λ x. Fits (x ++ end_parts true) c) e fits))))
    (last_at n parts s (λ c fits. (is, (false, subst (λ x. Fits x c) (e ∙ sym (append-nil (statement_parts s))) fits))))
