-- What is taken for a part is that part.
use Rattle.std.proofs.Common.{◌≡◌, ℕ, ℤ, pos, Bool, true, false, cond, [], ◌∷◌, Option, Some, None, refl, ◌∙◌, ap, subst}
use Rattle.std.specs.Option.{option_map}
use Rattle.tl_types.specs.declared.cells.Cell.{Cell}
use Rattle.tl_types.specs.declared.cells.Cell.TheVariants as cells
use Rattle.tl_types.specs.declared.cells.Cmp.{Cmp}
use Rattle.tl_types.specs.declared.cells.Cmp.TheVariants as cmps
use Rattle.tl_types.specs.declared.cells.ColumnKind.{ColumnKind}
use Rattle.tl_types.specs.declared.cells.ColumnKind.TheVariants as kinds
use Rattle.tl_query.specs.declared.terminals.Terminal.{Terminal}
use Rattle.tl_types.specs.declared.keywords.Keyword.TheVariants as words
use Rattle.tl_query.specs.declared.terminals.Terminal.TheVariants as terminals
use Rattle.tl_query.specs.declared.terminals.SoftWord.{SoftWord}
use Rattle.tl_query.specs.Terminals.{soft_spelling}
use Rattle.tl_types.proofs.FoundTables.{same_names}
use Rattle.tl_query.specs.declared.tokens.Token.{Token}
use Rattle.tl_query.specs.declared.tokens.Token.TheVariants.{Fixed, Word, Number}
use Rattle.tl_query.specs.declared.tokens.Placed.{Placed}
use Rattle.tl_query.specs.declared.ast.Name.{Name}
use Rattle.tl_query.specs.declared.ast.Stamp.{Stamp}
use Rattle.tl_query.specs.declared.ast.AggKind.{AggKind}
use Rattle.tl_query.specs.declared.ast.AggKind.TheVariants as aggs
use Rattle.tl_query.specs.declared.ast.Item.{Item}
use Rattle.tl_query.specs.declared.ast.Item.TheVariants as items
use Rattle.tl_query.specs.Grammar.{keyword, terminal_at, said, identifier, version, moment, number, bound, constant, IsPart, constant_by, kind_keyword, item_part, cmp_terminal, agg_keyword}
use Rattle.tl_query.specs.Reading.{as_name, as_version, as_moment, as_number, is_soft, as_soft, as_bound, as_constant, item_by, as_item, kind_by, as_kind, cmp_by, as_cmp, agg_by, as_agg, valid_by, as_valid}
use Rattle.tl_query.proofs.Laws.{Takes}

pub some_one : {A : Type 0} {x y : A} → Some x ≡ Some y → x ≡ y
some_one h = cc

-- the value and the offset that a pair was made of
paired : {A : Type 0} (at : ℕ) (o : Option A) (x : A × ℕ) → option_map (λ c. (c, at)) o ≡ Some x → (o ≡ Some x.0) × (at ≡ x.1)
paired at None x e = absurd (cc)
paired at (Some c) x e = let k = some_one e in (ap (λ y. Some y.0) k, ap (λ y. y.1) k)

a_name : Name
a_name = record { text = 97 ∷ []; at = 0 }

a_stamp : Stamp
a_stamp = record { value = pos 0; at = 0 }

pub name_takes : Takes Name as_name identifier
unfolding a_name
name_takes = record { is = λ p x e. e; some = a_name; token = record { token = Word (97 ∷ []); at = 0 }; there = refl }

pub version_takes : Takes Stamp as_version version
unfolding a_stamp
version_takes = record { is = λ p x e. e; some = a_stamp; token = record { token = Number (pos 0); at = 0 }; there = refl }

pub moment_takes : Takes ℤ as_moment moment
moment_takes = record { is = λ p x e. e; some = pos 0; token = record { token = Number (pos 0); at = 0 }; there = refl }

pub number_takes : Takes Stamp as_number number
unfolding a_stamp
number_takes = record { is = λ p x e. e; some = a_stamp; token = record { token = Number (pos 0); at = 0 }; there = refl }

-- a token that is taken for a word is it
pub is_soft_true : (w : SoftWord) (t : Token) → is_soft w t ≡ true → t ≡ Word (soft_spelling w)
is_soft_true w (Word name) e = ap Word (same_names name (soft_spelling w) e)
is_soft_true w _ e = absurd (cc)

test_of : (b : Bool) (n : ℕ) (x : ℕ) → cond b (Some n) None ≡ Some x → b ≡ true
test_of true n x e = refl
test_of false n x e = absurd (cc)

pub soft_takes : (w : SoftWord) → Takes ℕ (as_soft w) (λ _. said w)
soft_takes w = record { is = λ p x e. is_soft_true w p.token (test_of (is_soft w p.token) p.at x e); some = 0; token = record { token = Word (soft_spelling w); at = 0 }; there = refl }

pub bound_takes : Takes Stamp as_bound bound
unfolding a_stamp
bound_takes = record { is = λ p x e. e; some = a_stamp; token = record { token = Number (pos 0); at = 0 }; there = refl }

pub constant_takes : Takes (Cell × ℕ) as_constant (λ x. constant x.0 x.1)
constant_takes = record { is = λ p x e. paired p.at (constant_by p.token) x e; some = (cells.Int (pos 0), 0); token = record { token = Number (pos 0); at = 0 }; there = (refl, refl) }

item_is : (at : ℕ) (t : Token) (x : Item) → item_by at t ≡ Some x → IsPart (item_part x) (record { token = t; at = at })
item_is at (Word w) x e = subst (λ x. IsPart (item_part x) (record { token = Word w; at = at })) (some_one e) refl
item_is at (Fixed (terminals.Keyword words.ValidFrom)) x e = subst (λ x. IsPart (item_part x) (record { token = Fixed (terminals.Keyword words.ValidFrom); at = at })) (some_one e) refl
item_is at (Fixed (terminals.Keyword words.ValidTo)) x e = subst (λ x. IsPart (item_part x) (record { token = Fixed (terminals.Keyword words.ValidTo); at = at })) (some_one e) refl
item_is at _ x e = absurd (cc)

pub item_takes : Takes Item as_item item_part
item_takes = record { is = λ p x e. item_is p.at p.token x e; some = items.ValidFrom 0; token = record { token = Fixed (terminals.Keyword words.ValidFrom); at = 0 }; there = refl }

kind_is : (t : Token) (k : ColumnKind) → kind_by t ≡ Some k → t ≡ Fixed (terminals.Keyword (kind_keyword k))
kind_is (Fixed (terminals.Keyword words.Int)) k e = ap (λ k. Fixed (terminals.Keyword (kind_keyword k))) (some_one e)
kind_is (Fixed (terminals.Keyword words.Text)) k e = ap (λ k. Fixed (terminals.Keyword (kind_keyword k))) (some_one e)
kind_is _ k e = absurd (cc)

pub kind_takes : Takes ColumnKind as_kind (λ k. keyword (kind_keyword k))
kind_takes = record { is = λ p k e. kind_is p.token k e; some = kinds.IntKind; token = record { token = Fixed (terminals.Keyword words.Int); at = 0 }; there = refl }

cmp_is : (t : Token) (c : Cmp) → cmp_by t ≡ Some c → t ≡ Fixed (cmp_terminal c)
cmp_is (Fixed terminals.Equal) c e = ap (λ c. Fixed (cmp_terminal c)) (some_one e)
cmp_is (Fixed terminals.Unequal) c e = ap (λ c. Fixed (cmp_terminal c)) (some_one e)
cmp_is (Fixed terminals.Less) c e = ap (λ c. Fixed (cmp_terminal c)) (some_one e)
cmp_is (Fixed terminals.AtMost) c e = ap (λ c. Fixed (cmp_terminal c)) (some_one e)
cmp_is (Fixed terminals.Greater) c e = ap (λ c. Fixed (cmp_terminal c)) (some_one e)
cmp_is (Fixed terminals.AtLeast) c e = ap (λ c. Fixed (cmp_terminal c)) (some_one e)
cmp_is _ c e = absurd (cc)

-- a token and its offset
put_at : (p : Placed) (m : Terminal) (at : ℕ) → p.token ≡ Fixed m → p.at ≡ at → p ≡ record { token = Fixed m; at = at }
put_at p m at e h = ap (λ t. record { token = t; at = p.at }) e ∙ ap (λ n. record { token = Fixed m; at = n }) h

pub cmp_takes : Takes (Cmp × ℕ) as_cmp (λ x. terminal_at (cmp_terminal x.0) x.1)
cmp_takes = record { is = λ p x e. let k = paired p.at (cmp_by p.token) x e in put_at p (cmp_terminal x.0) x.1 (cmp_is p.token x.0 k.0) k.1; some = (cmps.Eq, 0); token = record { token = Fixed terminals.Equal; at = 0 }; there = refl }

agg_is : (t : Token) (k : AggKind) → agg_by t ≡ Some k → t ≡ Fixed (terminals.Keyword (agg_keyword k))
agg_is (Fixed (terminals.Keyword words.Count)) k e = ap (λ k. Fixed (terminals.Keyword (agg_keyword k))) (some_one e)
agg_is (Fixed (terminals.Keyword words.Sum)) k e = ap (λ k. Fixed (terminals.Keyword (agg_keyword k))) (some_one e)
agg_is (Fixed (terminals.Keyword words.Avg)) k e = ap (λ k. Fixed (terminals.Keyword (agg_keyword k))) (some_one e)
agg_is (Fixed (terminals.Keyword words.Min)) k e = ap (λ k. Fixed (terminals.Keyword (agg_keyword k))) (some_one e)
agg_is (Fixed (terminals.Keyword words.Max)) k e = ap (λ k. Fixed (terminals.Keyword (agg_keyword k))) (some_one e)
agg_is _ k e = absurd (cc)

pub agg_takes : Takes AggKind as_agg (λ k. keyword (agg_keyword k))
agg_takes = record { is = λ p k e. agg_is p.token k e; some = aggs.Count; token = record { token = Fixed (terminals.Keyword words.Count); at = 0 }; there = refl }

placed_token : Token → ℕ → Placed
placed_token t at = record { token = t; at = at }

valid_is : (at : ℕ) (t : Token) (v : ℕ) → valid_by at t ≡ Some v → ◌≡◌ {A = Placed} (record { token = t; at = at }) (record { token = Fixed (terminals.Keyword words.Valid); at = v })
unfolding placed_token
valid_is at (Fixed (terminals.Keyword words.Valid)) v e = ap (λ (n : ℕ). placed_token (Fixed (terminals.Keyword words.Valid)) n) (some_one e)
valid_is at _ v e = absurd (cc)

pub valid_takes : Takes ℕ as_valid (terminal_at (terminals.Keyword words.Valid))
valid_takes = record { is = λ p v e. valid_is p.at p.token v e; some = 0; token = record { token = Fixed (terminals.Keyword words.Valid); at = 0 }; there = refl }
