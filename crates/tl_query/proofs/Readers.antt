-- How one turn of a loop over things that are separated by a terminal goes on.
use Rattle.std.proofs.Common.{◌≡◌, ℕ, zero, suc, List, [], ◌∷◌, ◌++◌, Option, Some, None, Result, Ok, Err, refl, sym, ◌∙◌, ap, append_assoc}
use Rattle.tl_query.specs.declared.terminals.Terminal.{Terminal}
use Rattle.tl_types.specs.declared.keywords.Keyword.TheVariants as words
use Rattle.tl_query.specs.declared.terminals.Terminal.TheVariants as terminals
use Rattle.tl_query.specs.declared.tokens.Placed.{Placed}
use Rattle.tl_query.specs.declared.ast.Statement.{Statement}
use Rattle.tl_query.specs.declared.token_parsers.Stop.{Stop}
use Rattle.tl_query.specs.declared.token_parsers.Stop.TheVariants as stops
use Rattle.tl_query.specs.Reading.{◌>>=◌, Fails, IsStopAt, after, up_to, further, several, with_first, before, where_some, put_at, remove_at, parse_select, join_at, agg_or_soft_at}
use Rattle.tl_query.proofs.Lists.{Reads, Shrinks, further_is}

-- where one reader stops, so does one that begins with it
pub fails_through : (Y Z : Type 0) (e : Stop) (r : Result Y (Option ℕ)) (s : Result Z (Option ℕ)) → ((o : Option ℕ) → r ≡ Err o → s ≡ Err o) → Fails e r → Fails e s
fails_through Y Z stops.NoMemory r s f h = tt
fails_through Y Z stops.End r s f h = f None h
fails_through Y Z (stops.Token at) r s f h = f (Some at) h

pub fails_by : (Y : Type 0) (e : Stop) (o : Option ℕ) → IsStopAt e o → Fails {Y = Y} e (Err o)
fails_by Y stops.NoMemory o h = tt
fails_by Y stops.End o h = ap Err h
fails_by Y (stops.Token at) o h = ap Err h

-- what comes before, again before
before_again : {A : Type 0} (prefix : List A) (x : A) (read : Result (List A × List Placed) (Option ℕ)) → before prefix (with_first x read) ≡ before (prefix ++ (x ∷ [])) read
before_again prefix x (Ok y) = ap (λ z. Ok (z, y.1)) (sym (append_assoc prefix (x ∷ []) y.0))
before_again prefix x (Err e) = refl

one_before : {A : Type 0} (x : A) (read : Result (List A × List Placed) (Option ℕ)) → with_first x read ≡ before (x ∷ []) read
one_before x (Ok y) = refl
one_before x (Err e) = refl

-- a thing after a terminal, and those after it
abbrev next : {A : Type 0} → Reads A → Reads (List A) → Reads (List A)
next one more rest = one rest >>= λ x. with_first x.0 (more x.1)

turn_by : {A : Type 0} (m : Terminal) (one : Reads A) (more : Reads (List A)) (prefix : List A) (ts rest behind : List Placed) (x : A) → after m ts ≡ Some rest → one rest ≡ Ok (x, behind) → before prefix (where_some (after m ts) (Ok ([], ts)) (next one more)) ≡ before (prefix ++ (x ∷ [])) (more behind)
turn_by m one more prefix ts rest behind x e f = ap (λ o. before prefix (where_some o (Ok ([], ts)) (next one more))) e ∙ ap (λ r. before prefix (r >>= λ x. with_first x.0 (more x.1))) f ∙ before_again prefix x (more behind)

fails_turn : {A : Type 0} (m : Terminal) (one : Reads A) (more : Reads (List A)) (prefix : List A) (ts rest : List Placed) (o : Option ℕ) → after m ts ≡ Some rest → one rest ≡ Err o → before prefix (where_some (after m ts) (Ok ([], ts)) (next one more)) ≡ Err o
fails_turn m one more prefix ts rest o e f = ap (λ o. before prefix (where_some o (Ok ([], ts)) (next one more))) e ∙ ap (λ r. before prefix (r >>= λ x. with_first x.0 (more x.1))) f

ends_turn : {A : Type 0} (m : Terminal) (one : Reads A) (more : Reads (List A)) (prefix : List A) (ts : List Placed) → after m ts ≡ None → before prefix (where_some (after m ts) (Ok ([], ts)) (next one more)) ≡ Ok (prefix ++ [], ts)
ends_turn m one more prefix ts e = ap (λ o. before prefix (where_some o (Ok ([], ts)) (next one more))) e

room_turn_at : {A : Type 0} (m : Terminal) (one : Reads A) (prefix : List A) (room : ℕ) (ts rest behind : List Placed) (x : A) → after m ts ≡ Some rest → one rest ≡ Ok (x, behind) → before prefix (up_to m one (suc room) ts) ≡ before (prefix ++ (x ∷ [])) (up_to m one room behind)
unfolding up_to
room_turn_at m one prefix room ts rest behind x e f = turn_by m one (up_to m one room) prefix ts rest behind x e f

pub room_turn : {A : Type 0} (m : Terminal) (one : Reads A) (prefix : List A) (room left : ℕ) (ts rest behind : List Placed) (x : A) → room ≡ suc left → after m ts ≡ Some rest → one rest ≡ Ok (x, behind) → before prefix (up_to m one room ts) ≡ before (prefix ++ (x ∷ [])) (up_to m one left behind)
room_turn m one prefix room left ts rest behind x r e f = ap (λ n. before prefix (up_to m one n ts)) r ∙ room_turn_at m one prefix left ts rest behind x e f

room_fails_at : {A : Type 0} (m : Terminal) (one : Reads A) (prefix : List A) (room : ℕ) (ts rest : List Placed) (o : Option ℕ) → after m ts ≡ Some rest → one rest ≡ Err o → before prefix (up_to m one (suc room) ts) ≡ Err o
unfolding up_to
room_fails_at m one prefix room ts rest o e f = fails_turn m one (up_to m one room) prefix ts rest o e f

pub room_fails : {A : Type 0} (m : Terminal) (one : Reads A) (prefix : List A) (room left : ℕ) (ts rest : List Placed) (o : Option ℕ) → room ≡ suc left → after m ts ≡ Some rest → one rest ≡ Err o → before prefix (up_to m one room ts) ≡ Err o
room_fails m one prefix room left ts rest o r e f = ap (λ n. before prefix (up_to m one n ts)) r ∙ room_fails_at m one prefix left ts rest o e f

pub room_ends : {A : Type 0} (m : Terminal) (one : Reads A) (prefix : List A) (room : ℕ) (ts : List Placed) → after m ts ≡ None → before prefix (up_to m one room ts) ≡ Ok (prefix ++ [], ts)
unfolding up_to
room_ends m one prefix zero ts e = refl
room_ends m one prefix (suc room) ts e = ends_turn m one (up_to m one room) prefix ts e

-- no room is left
pub room_full : {A : Type 0} (m : Terminal) (one : Reads A) (prefix : List A) (room : ℕ) (ts : List Placed) → room ≡ 0 → before prefix (up_to m one room ts) ≡ Ok (prefix ++ [], ts)
unfolding up_to
room_full m one prefix room ts e = ap (λ n. before prefix (up_to m one n ts)) e

pub further_turn : {A : Type 0} (m : Terminal) (one : Reads A) → Shrinks one → (prefix : List A) (ts rest behind : List Placed) (x : A) → after m ts ≡ Some rest → one rest ≡ Ok (x, behind) → before prefix (further m one ts) ≡ before (prefix ++ (x ∷ [])) (further m one behind)
further_turn m one shr prefix ts rest behind x e f = ap (before prefix) (further_is m one shr ts) ∙ turn_by m one (further m one) prefix ts rest behind x e f

pub further_fails : {A : Type 0} (m : Terminal) (one : Reads A) → Shrinks one → (prefix : List A) (ts rest : List Placed) (o : Option ℕ) → after m ts ≡ Some rest → one rest ≡ Err o → before prefix (further m one ts) ≡ Err o
further_fails m one shr prefix ts rest o e f = ap (before prefix) (further_is m one shr ts) ∙ fails_turn m one (further m one) prefix ts rest o e f

pub further_ends : {A : Type 0} (m : Terminal) (one : Reads A) → Shrinks one → (prefix : List A) (ts : List Placed) → after m ts ≡ None → before prefix (further m one ts) ≡ Ok (prefix ++ [], ts)
further_ends m one shr prefix ts e = ap (before prefix) (further_is m one shr ts) ∙ ends_turn m one (further m one) prefix ts e

-- the first thing
pub first_of : {A : Type 0} (one : Reads A) (more : Reads (List A)) (ts behind : List Placed) (x : A) → one ts ≡ Ok (x, behind) → next one more ts ≡ before (x ∷ []) (more behind)
first_of one more ts behind x e = ap (λ r. r >>= λ x. with_first x.0 (more x.1)) e ∙ one_before x (more behind)

pub first_fails : {A : Type 0} (one : Reads A) (more : Reads (List A)) (ts : List Placed) (o : Option ℕ) → one ts ≡ Err o → next one more ts ≡ Err o
first_fails one more ts o e = ap (λ r. r >>= λ x. with_first x.0 (more x.1)) e

pub several_first : {A : Type 0} (m : Terminal) (one : Reads A) (ts behind : List Placed) (x : A) → one ts ≡ Ok (x, behind) → several m one ts ≡ before (x ∷ []) (further m one behind)
unfolding several
several_first m one ts behind x e = first_of one (further m one) ts behind x e

pub several_fails : {A : Type 0} (m : Terminal) (one : Reads A) (ts : List Placed) (o : Option ℕ) → one ts ≡ Err o → several m one ts ≡ Err o
unfolding several
several_fails m one ts o e = first_fails one (further m one) ts o e

-- the statements that are left where no CREATE comes, no PUT, no REMOVE, and no SELECT
abbrev pub join_or_less : List Placed → Result Statement (Option ℕ)
join_or_less ts = where_some (after (terminals.Keyword words.Join) ts) (agg_or_soft_at ts) join_at

abbrev pub select_or_less : List Placed → Result Statement (Option ℕ)
select_or_less ts = where_some (after (terminals.Keyword words.Select) ts) (join_or_less ts) parse_select

abbrev pub remove_or_less : List Placed → Result Statement (Option ℕ)
remove_or_less ts = where_some (after (terminals.Keyword words.Remove) ts) (select_or_less ts) remove_at

abbrev pub put_or_less : List Placed → Result Statement (Option ℕ)
put_or_less ts = where_some (after (terminals.Keyword words.Put) ts) (remove_or_less ts) put_at
