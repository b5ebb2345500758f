-- The law of each part of the grammar: after the tokens of the parts in prefix, what follows is read right.
use Rattle.std.proofs.Common.{◌≡◌, ℕ, ◌≤◌, Bool, true, false, List, [], ◌∷◌, ◌++◌, length, Option, Some, None, Result, Ok, Err, refl, sym, ◌∙◌, ap, append_assoc, append-nil, arith}
use Rattle.std.specs.List.{AllByRecursion}
use Rattle.tl_types.specs.declared.keywords.Keyword.TheVariants as words
use Rattle.tl_query.specs.declared.terminals.Terminal.TheVariants as terminals
use Rattle.tl_query.specs.declared.terminals.SoftWord.TheVariants as soft
use Rattle.tl_query.specs.declared.tokens.Placed.{Placed}
use Rattle.tl_query.specs.declared.ast.Name.{Name}
use Rattle.tl_query.specs.declared.ast.Stamp.{Stamp}
use Rattle.tl_query.specs.declared.ast.ColumnForm.{ColumnForm}
use Rattle.tl_query.specs.declared.ast.CreateForm.{CreateForm}
use Rattle.tl_query.specs.declared.ast.SelectForm.{SelectForm}
use Rattle.tl_query.specs.declared.ast.AggForm.{AggForm}
use Rattle.tl_query.specs.declared.ast.AggKind.{AggKind}
use Rattle.tl_query.specs.declared.ast.AggKind.TheVariants as aggs
use Rattle.tl_query.specs.declared.ast.JoinForm.{JoinForm}
use Rattle.tl_query.specs.declared.ast.AsOf.TheVariants as as_ofs
use Rattle.tl_query.specs.declared.ast.Over.{Over}
use Rattle.tl_query.specs.declared.ast.Over.TheVariants as overs
use Rattle.tl_query.specs.declared.ast.Pred.{Pred}
use Rattle.tl_query.specs.declared.ast.Test.{Test}
use Rattle.tl_query.specs.declared.ast.ValidPoint.{ValidPoint}
use Rattle.tl_query.specs.declared.ast.Item.{Item}
use Rattle.tl_query.specs.declared.ast.Query.TheVariants as queries
use Rattle.tl_query.specs.declared.ast.Statement.{Statement}
use Rattle.tl_query.specs.declared.ast.Statement.TheVariants as statements
use Rattle.tl_query.specs.Grammar.{keyword, Part, terminal, terminal_at, said, identifier, version, moment, number, bound, constant, IsAsked, IsPred, IsAggregate, kind_keyword, cmp_terminal, agg_keyword, item_part, column_parts, valid_parts, create_parts, item_parts, asked_parts, test_parts, conj_parts, where_parts, valid_at_parts, version_or_moment_parts, as_of_parts, select_parts, column_name_parts, by_parts, over_parts, agg_parts, join_parts, separated}
use Rattle.tl_query.specs.Reading.{◌>>=◌, after, expect, as_name, as_version, as_moment, as_number, as_soft, as_bound, as_constant, as_item, as_kind, as_cmp, as_agg, as_valid, take_at, peek_at, statement_end, where_some, several, column_at, columns_at, valid_at, create_at, put_at, remove_at, items_at, asked_at, test_at, conj_at, where_at, valid_point_at, version_or_moment_at, as_of_at, moment_stated_at, forget_at, sync_at, agg_or_sync_at, agg_or_forget_at, agg_or_soft_at, parse_select, versions_at, system_at, moments_at, over_at, column_name_at, by_at, agg_at, side_at, on_at, join_at, statement_at}
use Rattle.tl_query.proofs.Laws.{Good, Takes, good_by, good_at, expect_good, take_good, peek_good, peek_token_good, end_good}
use Rattle.tl_query.proofs.Takers.{name_takes, version_takes, moment_takes, number_takes, soft_takes, bound_takes, constant_takes, item_takes, kind_takes, cmp_takes, agg_takes, valid_takes}
use Rattle.tl_query.proofs.Lists.{Shrinks, Law, regroup, where_then, several_good, first_good, ok_then, take_shrinks, several_shrinks}
use Rattle.tl_query.proofs.Readers.{join_or_less, select_or_less, remove_or_less, put_or_less}

-- no test of a value
abbrev pub Any : {A : Type 0} → A → Type 0
Any x = Unit {0}

-- the same, in what follows
pub then_same : {A B : Type 0} (r : Result A (Option ℕ)) (f g : A → Result B (Option ℕ)) → ((x : A) → f x ≡ g x) → r >>= f ≡ r >>= g
then_same (Ok x) f g h = h x
then_same (Err e) f g h = refl

-- a choice whose second part agrees
where_same : {A B : Type 0} (o : Option A) (x : B) (f k : A → B) → ((a : A) → f a ≡ k a) → where_some o x f ≡ where_some o x k
where_same None x f k e = refl
where_same (Some a) x f k e = e a

take_law : {A : Type 0} (take : Placed → Option A) (part : A → Part) → Takes A take part → Law Any (take_at take) (λ x. part x ∷ [])
take_law take part of n prefix g h = take_good take part of n prefix g (λ x. h x tt)

column_law : Law Any column_at column_parts
unfolding column_at
column_law n prefix g h =
    let column : Name → _ → ColumnForm = λ name kind. record { name = name; kind = kind } in
    good_by n prefix (λ ts. column_at ts >>= g) (λ ts. take_at as_name ts >>= λ x. take_at as_kind x.1 >>= λ k. g (column x.0 k.0, k.1))
    (λ ts. regroup (take_at as_name ts) _ g ∙ then_same (take_at as_name ts) _ _ (λ x. regroup (take_at as_kind x.1) _ g))
    (take_good as_name identifier name_takes n prefix _ (λ name. take_good as_kind (λ k. keyword (kind_keyword k)) kind_takes n (prefix ++ (identifier name ∷ [])) _ (λ kind.
    good_at n (prefix ++ column_parts (column name kind)) ((prefix ++ (identifier name ∷ [])) ++ (keyword (kind_keyword kind) ∷ [])) (λ ts. g (column name kind, ts)) (simp append_assoc) (h (column name kind) tt))))

columns_law : (n : ℕ) (prefix : List Part) (g : List ColumnForm × List Placed → Result Statement (Option ℕ)) → ((cs : List ColumnForm) → 1 ≤ length cs → length cs ≤ 16 → Good n (prefix ++ separated terminals.Comma column_parts cs) (λ ts. g (cs, ts))) → Good n prefix (λ ts. columns_at ts >>= g)
unfolding columns_at
columns_law n prefix g h = first_good Any terminals.Comma column_at column_parts column_law 15 n prefix g h

-- a word that may come, with nothing after it
valid_law : Law Any valid_at valid_parts
unfolding valid_at
valid_law n prefix g h =
    peek_good n prefix (terminals.Keyword words.Valid) (λ ts. valid_at ts >>= g) (λ ts. g (false, ts)) (λ rest. g (true, rest)) (λ y. where_then (after (terminals.Keyword words.Valid) y) (Ok (false, y)) (λ rest. Ok (true, rest)) g) (h true tt)
    (good_at n (prefix ++ []) prefix (λ ts. g (false, ts)) (append-nil prefix) (h false tt))

items_law : Law (λ xs. (1 ≤ length xs) × AllByRecursion Any xs) items_at (separated terminals.Comma item_parts)
items_law = several_good Any terminals.Comma (take_at as_item) item_parts (take_law as_item item_part item_takes) (take_shrinks as_item)

asked_law : Law (λ x. IsAsked x.0 x.1) asked_at (λ x. asked_parts x.0 x.1)
unfolding asked_at
asked_law n prefix g h =
    peek_good n prefix terminals.Star (λ ts. asked_at ts >>= g) (λ ts. items_at ts >>= λ x. g ((false, x.0), x.1)) (λ rest. g ((true, []), rest))
    (λ y. where_then (after terminals.Star y) (items_at y >>= λ x. Ok ((false, x.0), x.1)) (λ rest. Ok ((true, []), rest)) g ∙ ap (λ r. where_some (after terminals.Star y) r (λ rest. g ((true, []), rest))) (regroup (items_at y) (λ x. Ok ((false, x.0), x.1)) g))
    (h (true, []) refl)
    (items_law n prefix (λ x. g ((false, x.0), x.1)) (λ xs some. h (false, xs) some.0))

test_law : Law Any test_at test_parts
unfolding test_at
test_law n prefix g h =
    let test : Name → _ → _ → Test = λ column cmp value. record { column = column; cmp = cmp.0; cmp_at = cmp.1; value = value.0; value_at = value.1 } in
    good_by n prefix (λ ts. test_at ts >>= g) (λ ts. take_at as_name ts >>= λ x. take_at as_cmp x.1 >>= λ c. take_at as_constant c.1 >>= λ v. g (test x.0 c.0 v.0, v.1))
    (λ ts. regroup (take_at as_name ts) _ g ∙ then_same (take_at as_name ts) _ _ (λ x. regroup (take_at as_cmp x.1) _ g ∙ then_same (take_at as_cmp x.1) _ _ (λ c. regroup (take_at as_constant c.1) _ g)))
    (take_good as_name identifier name_takes n prefix _ (λ column. take_good as_cmp (λ x. terminal_at (cmp_terminal x.0) x.1) cmp_takes n (prefix ++ (identifier column ∷ [])) _ (λ cmp.
    take_good as_constant (λ x. constant x.0 x.1) constant_takes n ((prefix ++ (identifier column ∷ [])) ++ (terminal_at (cmp_terminal cmp.0) cmp.1 ∷ [])) _ (λ value.
    good_at n (prefix ++ test_parts (test column cmp value)) (((prefix ++ (identifier column ∷ [])) ++ (terminal_at (cmp_terminal cmp.0) cmp.1 ∷ [])) ++ (constant value.0 value.1 ∷ [])) (λ ts. g (test column cmp value, ts)) (simp append_assoc) (h (test column cmp value) tt)))))

pub test_shrinks : Shrinks test_at
unfolding test_at
test_shrinks ts =
    ok_then (λ x. length x.1 ≤ length ts) (λ x. length x.1 ≤ length ts) (take_at as_name ts) _ (take_shrinks as_name ts) (λ x h.
    ok_then (λ c. length c.1 ≤ length x.1) (λ c. length c.1 ≤ length ts) (take_at as_cmp x.1) _ (take_shrinks as_cmp x.1) (λ c k.
    ok_then (λ v. length v.1 ≤ length c.1) (λ v. length v.1 ≤ length ts) (take_at as_constant c.1) _ (take_shrinks as_constant c.1) (λ v l. omega arith)))

pub conj_shrinks : Shrinks conj_at
conj_shrinks = several_shrinks (terminals.Keyword words.And) test_at test_shrinks

conj_law : Law (λ tests. 1 ≤ length tests) conj_at conj_parts
conj_law n prefix g h = several_good Any (terminals.Keyword words.And) test_at test_parts test_law test_shrinks n prefix g (λ tests some. h tests some.0)

pred : List (List Test) → Pred
pred any = record { any = any }

where_law : Law IsPred where_at where_parts
unfolding where_at pred
where_law n prefix g h =
    peek_good n prefix (terminals.Keyword words.Where) (λ ts. where_at ts >>= g) (λ ts. g (pred [], ts)) (λ rest. several (terminals.Keyword words.Or) conj_at rest >>= λ any. g (pred any.0, any.1))
    (λ y. where_then (after (terminals.Keyword words.Where) y) (Ok (pred [], y)) (λ rest. several (terminals.Keyword words.Or) conj_at rest >>= λ any. Ok (pred any.0, any.1)) g ∙ where_same (after (terminals.Keyword words.Where) y) (g (pred [], y)) _ _ (λ rest. regroup (several (terminals.Keyword words.Or) conj_at rest) _ g))
    (several_good (λ tests. 1 ≤ length tests) (terminals.Keyword words.Or) conj_at conj_parts conj_law conj_shrinks n (prefix ++ (keyword words.Where ∷ [])) (λ any. g (pred any.0, any.1)) (λ any good. behind_where any good.0 good.1))
    (good_at n (prefix ++ []) prefix (λ ts. g (pred [], ts)) (append-nil prefix) (h (pred []) tt)) where
      behind_where : (any : List (List Test)) → 1 ≤ length any → AllByRecursion (λ tests. 1 ≤ length tests) any → Good n ((prefix ++ (keyword words.Where ∷ [])) ++ separated (terminals.Keyword words.Or) conj_parts any) (λ ts. g (pred any, ts))
      behind_where [] some good = absurd (omega arith)
      behind_where (tests ∷ any) some good = good_at n (prefix ++ where_parts (pred (tests ∷ any))) ((prefix ++ (keyword words.Where ∷ [])) ++ separated (terminals.Keyword words.Or) conj_parts (tests ∷ any)) (λ ts. g (pred (tests ∷ any), ts)) (simp append_assoc) (h (pred (tests ∷ any)) good)

valid_point_law : Law Any valid_point_at valid_at_parts
unfolding valid_point_at
valid_point_law n prefix g h =
    let point : ℕ → _ → Option ValidPoint = λ pos value. Some (record { pos = pos; value = value }) in
    peek_token_good as_valid (terminal_at (terminals.Keyword words.Valid)) valid_takes n prefix (λ ts. valid_point_at ts >>= g) (λ ts. g (None, ts)) (λ valid. expect (terminals.Keyword words.At) valid.1 >>= λ rest. take_at as_moment rest >>= λ value. g (point valid.0 value.0, value.1))
    (λ y. where_then (peek_at as_valid y) (Ok (None, y)) _ g ∙ where_same (peek_at as_valid y) (g (None, y)) _ _ (λ valid. regroup (expect (terminals.Keyword words.At) valid.1) _ g ∙ then_same (expect (terminals.Keyword words.At) valid.1) _ _ (λ rest. regroup (take_at as_moment rest) _ g)))
    (λ pos. expect_good n (prefix ++ (terminal_at (terminals.Keyword words.Valid) pos ∷ [])) (terminals.Keyword words.At) _ (take_good as_moment moment moment_takes n ((prefix ++ (terminal_at (terminals.Keyword words.Valid) pos ∷ [])) ++ (keyword words.At ∷ [])) _ (λ value.
    good_at n (prefix ++ valid_at_parts (point pos value)) (((prefix ++ (terminal_at (terminals.Keyword words.Valid) pos ∷ [])) ++ (keyword words.At ∷ [])) ++ (moment value ∷ [])) (λ ts. g (point pos value, ts)) (simp append_assoc) (h (point pos value) tt))))
    (good_at n (prefix ++ []) prefix (λ ts. g (None, ts)) (append-nil prefix) (h None tt))

version_or_moment_law : Law Any version_or_moment_at version_or_moment_parts
unfolding version_or_moment_at
version_or_moment_law n prefix g h =
    peek_token_good (as_soft soft.Moment) (λ _. said soft.Moment) (soft_takes soft.Moment) n prefix (λ ts. version_or_moment_at ts >>= g) (λ ts. take_at as_version ts >>= λ s. g (as_ofs.Version s.0, s.1)) (λ word. take_at as_number word.1 >>= λ s. g (as_ofs.Moment s.0, s.1))
    (λ y. where_then (peek_at (as_soft soft.Moment) y) (take_at as_version y >>= λ s. Ok (as_ofs.Version s.0, s.1)) (λ word. take_at as_number word.1 >>= λ s. Ok (as_ofs.Moment s.0, s.1)) g
    ∙ ap (λ r. where_some (peek_at (as_soft soft.Moment) y) r (λ word. (take_at as_number word.1 >>= λ s. Ok (as_ofs.Moment s.0, s.1)) >>= g)) (regroup (take_at as_version y) (λ s. Ok (as_ofs.Version s.0, s.1)) g)
    ∙ where_same (peek_at (as_soft soft.Moment) y) (take_at as_version y >>= λ s. g (as_ofs.Version s.0, s.1)) _ _ (λ word. regroup (take_at as_number word.1) (λ s. Ok (as_ofs.Moment s.0, s.1)) g))
    (λ at. take_good as_number number number_takes n (prefix ++ (said soft.Moment ∷ [])) _ (λ s.
    good_at n (prefix ++ version_or_moment_parts (as_ofs.Moment s)) ((prefix ++ (said soft.Moment ∷ [])) ++ (number s ∷ [])) (λ ts. g (as_ofs.Moment s, ts)) (simp append_assoc) (h (as_ofs.Moment s) tt)))
    (take_good as_version version version_takes n prefix _ (λ s. h (as_ofs.Version s) tt))

as_of_law : Law Any as_of_at as_of_parts
unfolding as_of_at
as_of_law n prefix g h =
    peek_good n prefix (terminals.Keyword words.As) (λ ts. as_of_at ts >>= g) (λ ts. g (None, ts)) (λ rest. expect (terminals.Keyword words.Of) rest >>= λ next. version_or_moment_at next >>= λ x. g (Some x.0, x.1))
    (λ y. where_then (after (terminals.Keyword words.As) y) (Ok (None, y)) _ g ∙ where_same (after (terminals.Keyword words.As) y) (g (None, y)) _ _ (λ rest. regroup (expect (terminals.Keyword words.Of) rest) _ g ∙ then_same (expect (terminals.Keyword words.Of) rest) _ _ (λ next. regroup (version_or_moment_at next) _ g)))
    (expect_good n (prefix ++ (keyword words.As ∷ [])) (terminals.Keyword words.Of) _ (version_or_moment_law n ((prefix ++ (keyword words.As ∷ [])) ++ (keyword words.Of ∷ [])) (λ x. g (Some x.0, x.1)) (λ x any.
    good_at n (prefix ++ as_of_parts (Some x)) (((prefix ++ (keyword words.As ∷ [])) ++ (keyword words.Of ∷ [])) ++ version_or_moment_parts x) (λ ts. g (Some x, ts)) (simp append_assoc) (h (Some x) tt))))
    (good_at n (prefix ++ []) prefix (λ ts. g (None, ts)) (append-nil prefix) (h None tt))

-- the parts of a range after OVER
abbrev range_parts : Over → List Part
range_parts overs.SystemAll = keyword words.System ∷ keyword words.All ∷ []
range_parts (overs.System from to) = keyword words.System ∷ version from ∷ keyword words.To ∷ version to ∷ []
range_parts (overs.Valid at from to as_of) = terminal_at (terminals.Keyword words.Valid) at ∷ bound from ∷ keyword words.To ∷ bound to ∷ as_of_parts as_of

versions_good : (n : ℕ) (prefix : List Part) (g : Over × List Placed → Result Statement (Option ℕ)) → ((o : Over) → Good n (prefix ++ range_parts o) (λ ts. g (o, ts))) → Good n (prefix ++ (keyword words.System ∷ [])) (λ ts. versions_at ts >>= g)
unfolding versions_at
versions_good n prefix g h =
    let c : List Part = prefix ++ (keyword words.System ∷ []) in
    good_by n c (λ ts. versions_at ts >>= g) (λ ts. take_at as_version ts >>= λ from. expect (terminals.Keyword words.To) from.1 >>= λ word. take_at as_version word >>= λ to. g (overs.System from.0 to.0, to.1))
    (λ ts. regroup (take_at as_version ts) _ g ∙ then_same (take_at as_version ts) _ _ (λ from. regroup (expect (terminals.Keyword words.To) from.1) _ g ∙ then_same (expect (terminals.Keyword words.To) from.1) _ _ (λ word. regroup (take_at as_version word) _ g)))
    (take_good as_version version version_takes n c _ (λ from. expect_good n (c ++ (version from ∷ [])) (terminals.Keyword words.To) _ (take_good as_version version version_takes n ((c ++ (version from ∷ [])) ++ (keyword words.To ∷ [])) _ (λ to.
    good_at n (prefix ++ range_parts (overs.System from to)) (((c ++ (version from ∷ [])) ++ (keyword words.To ∷ [])) ++ (version to ∷ [])) (λ ts. g (overs.System from to, ts)) (simp append_assoc) (h (overs.System from to))))))

system_good : (n : ℕ) (prefix : List Part) (g : Over × List Placed → Result Statement (Option ℕ)) → ((o : Over) → Good n (prefix ++ range_parts o) (λ ts. g (o, ts))) → Good n (prefix ++ (keyword words.System ∷ [])) (λ ts. system_at ts >>= g)
unfolding system_at
system_good n prefix g h =
    let c : List Part = prefix ++ (keyword words.System ∷ []) in
    peek_good n c (terminals.Keyword words.All) (λ ts. system_at ts >>= g) (λ ts. versions_at ts >>= g) (λ rest. g (overs.SystemAll, rest)) (λ y. where_then (after (terminals.Keyword words.All) y) (versions_at y) (λ rest. Ok (overs.SystemAll, rest)) g)
    (good_at n (prefix ++ range_parts overs.SystemAll) (c ++ (keyword words.All ∷ [])) (λ ts. g (overs.SystemAll, ts)) (simp append_assoc) (h overs.SystemAll))
    (versions_good n prefix g h)

moments_good : (n : ℕ) (prefix : List Part) (g : Over × List Placed → Result Statement (Option ℕ)) → ((o : Over) → Good n (prefix ++ range_parts o) (λ ts. g (o, ts))) → Good n prefix (λ ts. moments_at ts >>= g)
unfolding moments_at
moments_good n prefix g h =
    let c : ℕ → List Part = λ at. prefix ++ (terminal_at (terminals.Keyword words.Valid) at ∷ []) in
    let d : ℕ → Stamp → List Part = λ at from. c at ++ (bound from ∷ []) in
    let e : ℕ → Stamp → Stamp → List Part = λ at from to. (d at from ++ (keyword words.To ∷ [])) ++ (bound to ∷ []) in
    good_by n prefix (λ ts. moments_at ts >>= g) (λ ts. take_at as_valid ts >>= λ valid. take_at as_bound valid.1 >>= λ from. expect (terminals.Keyword words.To) from.1 >>= λ word. take_at as_bound word >>= λ to. as_of_at to.1 >>= λ as_of. g (overs.Valid valid.0 from.0 to.0 as_of.0, as_of.1))
    (λ ts. regroup (take_at as_valid ts) _ g ∙ then_same (take_at as_valid ts) _ _ (λ valid. regroup (take_at as_bound valid.1) _ g ∙ then_same (take_at as_bound valid.1) _ _ (λ from. regroup (expect (terminals.Keyword words.To) from.1) _ g ∙ then_same (expect (terminals.Keyword words.To) from.1) _ _ (λ word.
    regroup (take_at as_bound word) _ g ∙ then_same (take_at as_bound word) _ _ (λ to. regroup (as_of_at to.1) _ g)))))
    (take_good as_valid (terminal_at (terminals.Keyword words.Valid)) valid_takes n prefix _ (λ at. take_good as_bound bound bound_takes n (c at) _ (λ from. expect_good n (d at from) (terminals.Keyword words.To) _ (take_good as_bound bound bound_takes n (d at from ++ (keyword words.To ∷ [])) _ (λ to.
    as_of_law n (e at from to) (λ x. g (overs.Valid at from to x.0, x.1)) (λ as_of any.
    good_at n (prefix ++ range_parts (overs.Valid at from to as_of)) (e at from to ++ as_of_parts as_of) (λ ts. g (overs.Valid at from to as_of, ts)) (simp append_assoc) (h (overs.Valid at from to as_of))))))))

over_behind : (o : Over) → keyword words.Over ∷ range_parts o ≡ over_parts o
over_behind overs.SystemAll = refl
over_behind (overs.System from to) = refl
over_behind (overs.Valid at from to as_of) = refl

over_law : Law Any over_at over_parts
unfolding over_at
over_law n prefix g h =
    let c : List Part = prefix ++ (keyword words.Over ∷ []) in
    let behind : (o : Over) → Good n (c ++ range_parts o) (λ ts. g (o, ts)) = λ o. good_at n (prefix ++ over_parts o) (c ++ range_parts o) (λ ts. g (o, ts)) (ap (λ p. prefix ++ p) (sym (over_behind o)) ∙ sym (append_assoc prefix (keyword words.Over ∷ []) (range_parts o))) (h o tt) in
    good_by n prefix (λ ts. over_at ts >>= g) (λ ts. expect (terminals.Keyword words.Over) ts >>= λ rest. where_some (after (terminals.Keyword words.System) rest) (moments_at rest >>= g) (λ more. system_at more >>= g))
    (λ ts. regroup (expect (terminals.Keyword words.Over) ts) _ g ∙ then_same (expect (terminals.Keyword words.Over) ts) _ _ (λ rest. where_then (after (terminals.Keyword words.System) rest) (moments_at rest) system_at g))
    (expect_good n prefix (terminals.Keyword words.Over) _ (peek_good n c (terminals.Keyword words.System) _ (λ ts. moments_at ts >>= g) (λ ts. system_at ts >>= g) (λ y. refl) (system_good n c g behind) (moments_good n c g behind)))

-- a name that has to come, as the column of an aggregate
some_name : (n : ℕ) (prefix : List Part) (g : Option Name × List Placed → Result Statement (Option ℕ)) → ((name : Name) → Good n (prefix ++ (identifier name ∷ [])) (λ ts. g (Some name, ts))) → Good n prefix (λ ts. (take_at as_name ts >>= λ name. Ok (Some name.0, name.1)) >>= g)
some_name n prefix g h = good_by n prefix _ (λ ts. take_at as_name ts >>= λ name. g (Some name.0, name.1)) (λ ts. regroup (take_at as_name ts) (λ name. Ok (Some name.0, name.1)) g) (take_good as_name identifier name_takes n prefix _ h)

column_name_law : (kind : AggKind) → Law (IsAggregate kind) (column_name_at kind) column_name_parts
unfolding column_name_at
column_name_law aggs.Count n prefix g h = good_at n (prefix ++ []) prefix (λ ts. g (None, ts)) (append-nil prefix) (h None refl)
column_name_law aggs.Sum n prefix g h = some_name n prefix g (λ name. h (Some name) refl)
column_name_law aggs.Avg n prefix g h = some_name n prefix g (λ name. h (Some name) refl)
column_name_law aggs.Min n prefix g h = some_name n prefix g (λ name. h (Some name) refl)
column_name_law aggs.Max n prefix g h = some_name n prefix g (λ name. h (Some name) refl)

by_law : Law Any by_at by_parts
unfolding by_at
by_law n prefix g h =
    peek_good n prefix (terminals.Keyword words.By) (λ ts. by_at ts >>= g) (λ ts. g (None, ts)) (λ rest. (take_at as_name rest >>= λ name. Ok (Some name.0, name.1)) >>= g)
    (λ y. where_then (after (terminals.Keyword words.By) y) (Ok (None, y)) _ g)
    (some_name n (prefix ++ (keyword words.By ∷ [])) g (λ name. good_at n (prefix ++ by_parts (Some name)) ((prefix ++ (keyword words.By ∷ [])) ++ (identifier name ∷ [])) (λ ts. g (Some name, ts)) (simp append_assoc) (h (Some name) tt)))
    (good_at n (prefix ++ []) prefix (λ ts. g (None, ts)) (append-nil prefix) (h None tt))

side_law : Law (λ x. IsPred x.1) side_at (λ x. identifier x.0 ∷ where_parts x.1)
unfolding side_at
side_law n prefix g h =
    good_by n prefix (λ ts. side_at ts >>= g) (λ ts. take_at as_name ts >>= λ table. where_at table.1 >>= λ p. g ((table.0, p.0), p.1))
    (λ ts. regroup (take_at as_name ts) _ g ∙ then_same (take_at as_name ts) _ _ (λ table. regroup (where_at table.1) _ g))
    (take_good as_name identifier name_takes n prefix _ (λ table. where_law n (prefix ++ (identifier table ∷ [])) (λ p. g ((table, p.0), p.1)) (λ p is.
    good_at n (prefix ++ (identifier table ∷ where_parts p)) ((prefix ++ (identifier table ∷ [])) ++ where_parts p) (λ ts. g ((table, p), ts)) (sym (append_assoc prefix (identifier table ∷ []) (where_parts p))) (h (table, p) is))))

on_law : Law Any on_at (λ x. keyword words.On ∷ identifier x.0 ∷ terminal terminals.Equal ∷ identifier x.1 ∷ [])
unfolding on_at
on_law n prefix g h =
    let c : List Part = prefix ++ (keyword words.On ∷ []) in
    good_by n prefix (λ ts. on_at ts >>= g) (λ ts. expect (terminals.Keyword words.On) ts >>= λ word. take_at as_name word >>= λ left. expect terminals.Equal left.1 >>= λ equal. take_at as_name equal >>= λ right. g ((left.0, right.0), right.1))
    (λ ts. regroup (expect (terminals.Keyword words.On) ts) _ g ∙ then_same (expect (terminals.Keyword words.On) ts) _ _ (λ word. regroup (take_at as_name word) _ g ∙ then_same (take_at as_name word) _ _ (λ left. regroup (expect terminals.Equal left.1) _ g ∙ then_same (expect terminals.Equal left.1) _ _ (λ equal. regroup (take_at as_name equal) _ g))))
    (expect_good n prefix (terminals.Keyword words.On) _ (take_good as_name identifier name_takes n c _ (λ left. expect_good n (c ++ (identifier left ∷ [])) terminals.Equal _ (take_good as_name identifier name_takes n ((c ++ (identifier left ∷ [])) ++ (terminal terminals.Equal ∷ [])) _ (λ right.
    good_at n (prefix ++ (keyword words.On ∷ identifier left ∷ terminal terminals.Equal ∷ identifier right ∷ [])) (((c ++ (identifier left ∷ [])) ++ (terminal terminals.Equal ∷ [])) ++ (identifier right ∷ [])) (λ ts. g ((left, right), ts)) (simp append_assoc) (h (left, right) tt))))))

put_good : (n : ℕ) → Good n (keyword words.Put ∷ []) put_at
unfolding put_at
put_good n = take_good as_name identifier name_takes n (keyword words.Put ∷ []) (λ x. statement_end (statements.Put x.0) x.1) (λ name. end_good n (keyword words.Put ∷ identifier name ∷ []) (statements.Put name) tt refl)

remove_good : (n : ℕ) → Good n (keyword words.Remove ∷ []) remove_at
unfolding remove_at
remove_good n = take_good as_name identifier name_takes n (keyword words.Remove ∷ []) (λ x. statement_end (statements.Remove x.0) x.1) (λ name. end_good n (keyword words.Remove ∷ identifier name ∷ []) (statements.Remove name) tt refl)

create_good : (n : ℕ) → Good n (keyword words.Create ∷ []) create_at
unfolding create_at
create_good n =
    let word : List Part = keyword words.Create ∷ [] in
    let table : List Part = word ++ (keyword words.Table ∷ []) in
    let called : Name → List Part = λ name. table ++ (identifier name ∷ []) in
    let opened : Name → List Part = λ name. called name ++ (terminal terminals.Open ∷ []) in
    let listed : Name → List ColumnForm → List Part = λ name columns. opened name ++ separated terminals.Comma column_parts columns in
    let closed : Name → List ColumnForm → List Part = λ name columns. listed name columns ++ (terminal terminals.Close ∷ []) in
    let keyed : Name → List ColumnForm → List Part = λ name columns. closed name columns ++ (keyword words.Key ∷ []) in
    expect_good n word (terminals.Keyword words.Table) _ (take_good as_name identifier name_takes n table _ (λ name. expect_good n (called name) terminals.Open _ (columns_law n (opened name) _ (λ columns some few.
    expect_good n (listed name columns) terminals.Close _ (expect_good n (closed name columns) (terminals.Keyword words.Key) _ (take_good as_name identifier name_takes n (keyed name columns) _ (λ key. valid_law n (keyed name columns ++ (identifier key ∷ [])) _ (λ valid any.
    let form : CreateForm = record { name = name; columns = columns; key = key; valid = valid } in
    end_good n ((keyed name columns ++ (identifier key ∷ [])) ++ valid_parts valid) (statements.Create form) (record { some = some; few = few }) (create_spelled form))))))))) where
      create_spelled : (f : CreateForm) → (((((keyword words.Create ∷ keyword words.Table ∷ identifier f.name ∷ terminal terminals.Open ∷ []) ++ separated terminals.Comma column_parts f.columns) ++ (terminal terminals.Close ∷ [])) ++ (keyword words.Key ∷ [])) ++ (identifier f.key ∷ [])) ++ valid_parts f.valid ≡ create_parts f
      create_spelled f = simp append_assoc

select_spelled : (f : SelectForm) → ((((((keyword words.Select ∷ []) ++ asked_parts f.all f.items) ++ (keyword words.From ∷ [])) ++ (identifier f.table ∷ [])) ++ where_parts f.pred) ++ valid_at_parts f.valid_at) ++ as_of_parts f.as_of ≡ select_parts f
select_spelled f = simp append_assoc

select_good : (n : ℕ) → Good n (keyword words.Select ∷ []) parse_select
unfolding parse_select
select_good n =
    let word : List Part = keyword words.Select ∷ [] in
    let listed : Bool × List Item → List Part = λ asked. word ++ asked_parts asked.0 asked.1 in
    let from : Bool × List Item → List Part = λ asked. listed asked ++ (keyword words.From ∷ []) in
    let called : Bool × List Item → Name → List Part = λ asked table. from asked ++ (identifier table ∷ []) in
    let tested : Bool × List Item → Name → Pred → List Part = λ asked table p. called asked table ++ where_parts p in
    let timed : Bool × List Item → Name → Pred → Option ValidPoint → List Part = λ asked table p v. tested asked table p ++ valid_at_parts v in
    asked_law n word _ (λ asked is. expect_good n (listed asked) (terminals.Keyword words.From) _ (take_good as_name identifier name_takes n (from asked) _ (λ table. where_law n (called asked table) _ (λ p good. valid_point_law n (tested asked table p) _ (λ valid any. as_of_law n (timed asked table p valid) _ (λ as_of all.
    let form : SelectForm = record { all = asked.0; items = asked.1; table = table; pred = p; valid_at = valid; as_of = as_of } in
    end_good n (timed asked table p valid ++ as_of_parts as_of) (statements.Ask (queries.Select form)) (record { asked = is; tested = good }) (select_spelled form)))))))

agg_spelled : (f : AggForm) → ((((((keyword (agg_keyword f.kind) ∷ []) ++ column_name_parts f.column) ++ (keyword words.From ∷ [])) ++ (identifier f.table ∷ [])) ++ where_parts f.pred) ++ by_parts f.by) ++ over_parts f.over ≡ agg_parts f
agg_spelled f = simp append_assoc

agg_good : (n : ℕ) → Good n [] agg_at
unfolding agg_at
agg_good n =
    let word : AggKind → List Part = λ kind. keyword (agg_keyword kind) ∷ [] in
    let over : AggKind → Option Name → List Part = λ kind column. word kind ++ column_name_parts column in
    let from : AggKind → Option Name → List Part = λ kind column. over kind column ++ (keyword words.From ∷ []) in
    let called : AggKind → Option Name → Name → List Part = λ kind column table. from kind column ++ (identifier table ∷ []) in
    let tested : AggKind → Option Name → Name → Pred → List Part = λ kind column table p. called kind column table ++ where_parts p in
    let grouped : AggKind → Option Name → Name → Pred → Option Name → List Part = λ kind column table p by. tested kind column table p ++ by_parts by in
    take_good as_agg (λ k. keyword (agg_keyword k)) agg_takes n [] _ (λ kind. column_name_law kind n (word kind) _ (λ column is. expect_good n (over kind column) (terminals.Keyword words.From) _ (take_good as_name identifier name_takes n (from kind column) _ (λ table.
    where_law n (called kind column table) _ (λ p good. by_law n (tested kind column table p) _ (λ by any. over_law n (grouped kind column table p by) _ (λ range all.
    let form : AggForm = record { kind = kind; column = column; table = table; pred = p; by = by; over = range } in
    end_good n (grouped kind column table p by ++ over_parts range) (statements.Ask (queries.Agg form)) (record { aggregate = is; tested = good }) (agg_spelled form))))))))

join_spelled : (f : JoinForm) → (((((keyword words.Join ∷ []) ++ (identifier f.left ∷ where_parts f.left_pred)) ++ (keyword words.With ∷ [])) ++ (identifier f.right ∷ where_parts f.right_pred)) ++ (keyword words.On ∷ identifier f.left_on ∷ terminal terminals.Equal ∷ identifier f.right_on ∷ [])) ++ over_parts f.over ≡ join_parts f
join_spelled f = simp append_assoc

join_good : (n : ℕ) → Good n (keyword words.Join ∷ []) join_at
unfolding join_at
join_good n =
    let word : List Part = keyword words.Join ∷ [] in
    let lefts : Name × Pred → List Part = λ left. word ++ (identifier left.0 ∷ where_parts left.1) in
    let with_ : Name × Pred → List Part = λ left. lefts left ++ (keyword words.With ∷ []) in
    let rights : Name × Pred → Name × Pred → List Part = λ left right. with_ left ++ (identifier right.0 ∷ where_parts right.1) in
    let on : Name × Pred → Name × Pred → Name × Name → List Part = λ left right names. rights left right ++ (keyword words.On ∷ identifier names.0 ∷ terminal terminals.Equal ∷ identifier names.1 ∷ []) in
    side_law n word _ (λ left good. expect_good n (lefts left) (terminals.Keyword words.With) _ (side_law n (with_ left) _ (λ right fine. on_law n (rights left right) _ (λ names any. over_law n (on left right names) _ (λ range all.
    let form : JoinForm = record { left = left.0; left_pred = left.1; right = right.0; right_pred = right.1; left_on = names.0; right_on = names.1; over = range } in
    end_good n (on left right names ++ over_parts range) (statements.Ask (queries.Join form)) (record { left_tested = good; right_tested = fine }) (join_spelled form))))))

moment_stated_good : (n : ℕ) → Good n (said soft.Moment ∷ []) moment_stated_at
unfolding moment_stated_at
moment_stated_good n = take_good as_number number number_takes n (said soft.Moment ∷ []) (λ x. statement_end (statements.Moment x.0) x.1) (λ s. end_good n (said soft.Moment ∷ number s ∷ []) (statements.Moment s) tt refl)

forget_good : (n : ℕ) → Good n (said soft.Forget ∷ []) forget_at
unfolding forget_at
forget_good n =
    take_good as_name identifier name_takes n (said soft.Forget ∷ []) _ (λ table. take_good (as_soft soft.Before) (λ _. said soft.Before) (soft_takes soft.Before) n (said soft.Forget ∷ identifier table ∷ []) _ (λ word.
    take_good as_version version version_takes n (said soft.Forget ∷ identifier table ∷ said soft.Before ∷ []) (λ x. statement_end (statements.Forget table x.0) x.1) (λ s.
    end_good n (said soft.Forget ∷ identifier table ∷ said soft.Before ∷ version s ∷ []) (statements.Forget table s) tt refl)))

sync_good : (n : ℕ) → Good n (said soft.Sync ∷ []) sync_at
unfolding sync_at
sync_good n = take_good as_name identifier name_takes n (said soft.Sync ∷ []) (λ x. statement_end (statements.Sync x.0) x.1) (λ name. end_good n (said soft.Sync ∷ identifier name ∷ []) (statements.Sync name) tt refl)

agg_or_sync_good : (n : ℕ) → Good n [] agg_or_sync_at
agg_or_sync_good n = peek_token_good (as_soft soft.Sync) (λ _. said soft.Sync) (soft_takes soft.Sync) n [] agg_or_sync_at agg_at (λ word. sync_at word.1) (λ y. refl) (λ at. sync_good n) (agg_good n)

agg_or_soft_good : (n : ℕ) → Good n [] agg_or_soft_at
unfolding agg_or_soft_at
agg_or_soft_good n =
    peek_token_good (as_soft soft.Moment) (λ _. said soft.Moment) (soft_takes soft.Moment) n [] agg_or_soft_at agg_or_forget_at (λ word. moment_stated_at word.1) (λ y. refl) (λ at. moment_stated_good n)
    (peek_token_good (as_soft soft.Forget) (λ _. said soft.Forget) (soft_takes soft.Forget) n [] agg_or_forget_at agg_or_sync_at (λ word. forget_at word.1) (λ y. refl) (λ at. forget_good n) (agg_or_sync_good n))

pub statement_good : (n : ℕ) → Good n [] statement_at
unfolding statement_at
statement_good n =
    peek_good n [] (terminals.Keyword words.Create) statement_at put_or_less create_at (λ y. refl) (create_good n)
    (peek_good n [] (terminals.Keyword words.Put) put_or_less remove_or_less put_at (λ y. refl) (put_good n)
    (peek_good n [] (terminals.Keyword words.Remove) remove_or_less select_or_less remove_at (λ y. refl) (remove_good n)
    (peek_good n [] (terminals.Keyword words.Select) select_or_less join_or_less parse_select (λ y. refl) (select_good n)
    (peek_good n [] (terminals.Keyword words.Join) join_or_less agg_or_soft_at join_at (λ y. refl) (join_good n) (agg_or_soft_good n)))))
