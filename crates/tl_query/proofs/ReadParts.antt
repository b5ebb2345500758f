-- A statement that a text spells is one whose parts a text can say, and the other way round.
use Rattle.std.proofs.Common.{◌≡◌, ◌≤◌, Bool, true, false, ◌&&◌, List, [], ◌∷◌, ◌++◌, length, Option, Some, None, IfSome, refl}
use Rattle.std.specs.List.{AllByRecursion, list_all}
use Rattle.std.specs.Option.{ForSome}
use Rattle.tl_types.specs.Names.{is_name}
use Rattle.tl_types.specs.declared.keywords.Keyword.TheVariants as words
use Rattle.tl_query.specs.declared.terminals.Terminal.{Terminal}
use Rattle.tl_query.specs.declared.terminals.Terminal.TheVariants as terminals
use Rattle.tl_query.specs.declared.ast.Name.{Name}
use Rattle.tl_query.specs.declared.ast.ColumnForm.{ColumnForm}
use Rattle.tl_query.specs.declared.ast.AsOf.{AsOf}
use Rattle.tl_query.specs.declared.ast.AsOf.TheVariants as as_ofs
use Rattle.tl_query.specs.declared.ast.Over.{Over}
use Rattle.tl_query.specs.declared.ast.Over.TheVariants as overs
use Rattle.tl_query.specs.declared.ast.Pred.{Pred}
use Rattle.tl_query.specs.declared.ast.Test.{Test}
use Rattle.tl_query.specs.declared.ast.ValidPoint.{ValidPoint}
use Rattle.tl_query.specs.declared.ast.Item.{Item}
use Rattle.tl_query.specs.declared.ast.Item.TheVariants as items
use Rattle.tl_query.specs.declared.ast.Query.TheVariants as queries
use Rattle.tl_query.specs.declared.ast.Statement.{Statement}
use Rattle.tl_query.specs.declared.ast.Statement.TheVariants as statements
use Rattle.tl_query.specs.Grammar.{keyword, Part, terminal, terminal_at, said, identifier, version, moment, number, bound, constant, each_after, separated, column_parts, valid_parts, item_parts, IsAsked, IsPred, asked_parts, test_parts, conj_parts, any_parts, where_parts, valid_at_parts, version_or_moment_parts, as_of_parts, column_name_parts, by_parts, over_parts, statement_parts, IsStatement}
use Rattle.tl_query.specs.Parsed.{IsNamed, IsVersion, IsGiven, IsI64, IsGivenI64, IsCell, IsItem, IsTest, HasTests, HasVersions, HasNumbers, IsParsed}

-- what one token of a text can say
abbrev pub IsReadPart : Part → Type 0
IsReadPart (terminal m) = Unit {0}
IsReadPart (terminal_at m at) = Unit {0}
IsReadPart (said w) = Unit {0}
IsReadPart (identifier n) = IsNamed n
IsReadPart (version s) = IsVersion s × IsI64 s.value
IsReadPart (moment v) = IsI64 v
IsReadPart (number s) = IsI64 s.value
IsReadPart (bound s) = IsI64 s.value
IsReadPart (constant c at) = IsCell c

abbrev Read : List Part → Type 0
Read parts = AllByRecursion IsReadPart parts

pub split : (xs ys : List Part) → Read (xs ++ ys) → Read xs × Read ys
split [] ys h = (tt, h)
split (x ∷ xs) ys h = let k = split xs ys h.1 in ((h.0, k.0), k.1)

join : (xs ys : List Part) → Read xs → Read ys → Read (xs ++ ys)
join [] ys h k = k
join (x ∷ xs) ys h k = (h.0, join xs ys h.1 k)

-- FROM PARTS TO STATEMENTS

each_read : {A : Type 0} (P : A → Type 0) (m : Terminal) (parts : A → List Part) → ((x : A) → Read (parts x) → P x) → (xs : List A) → Read (each_after m parts xs) → AllByRecursion P xs
each_read P m parts from [] h = tt
each_read P m parts from (x ∷ xs) h = let k = split (parts x) (each_after m parts xs) h.1 in (from x k.0, each_read P m parts from xs k.1)

list_read : {A : Type 0} (P : A → Type 0) (m : Terminal) (parts : A → List Part) → ((x : A) → Read (parts x) → P x) → (xs : List A) → Read (separated m parts xs) → AllByRecursion P xs
list_read P m parts from [] h = tt
list_read P m parts from (x ∷ xs) h = let k = split (parts x) (each_after m parts xs) h in (from x k.0, each_read P m parts from xs k.1)

item_read : (x : Item) → Read (item_parts x) → IsItem x
item_read (items.Column n) h = h.0
item_read (items.ValidFrom at) h = tt
item_read (items.ValidTo at) h = tt

asked_read : (all : Bool) (xs : List Item) → IsAsked all xs → Read (asked_parts all xs) → AllByRecursion IsItem xs
asked_read true [] is h = tt
asked_read true (x ∷ xs) is h = absurd (cc)
asked_read false xs is h = list_read IsItem terminals.Comma item_parts item_read xs h

test_read : (t : Test) → Read (test_parts t) → IsTest t
test_read t h = record { column = h.0; value = h.1.1.0 }

tests_read : (any : List (List Test)) → Read (any_parts any) → AllByRecursion (λ tests. AllByRecursion IsTest tests) any
tests_read [] h = tt
tests_read (tests ∷ any) h = list_read (λ tests. AllByRecursion IsTest tests) (terminals.Keyword words.Or) conj_parts (λ tests k. list_read IsTest (terminals.Keyword words.And) test_parts test_read tests k) (tests ∷ any) h.1

both_all : (any : List (List Test)) → AllByRecursion (λ tests. 1 ≤ length tests) any → AllByRecursion (λ tests. AllByRecursion IsTest tests) any → AllByRecursion (λ tests. (1 ≤ length tests) × AllByRecursion IsTest tests) any
both_all [] h k = tt
both_all (tests ∷ any) h k = ((h.0, k.0), both_all any h.1 k.1)

pred_read : (p : Pred) → IsPred p → Read (where_parts p) → HasTests p
pred_read p is h = both_all p.any is (tests_read p.any h)

columns_read : (cs : List ColumnForm) → AllByRecursion (λ c. IsNamed c.name) cs → list_all (λ c. is_name c.name.text) cs ≡ true
columns_read [] h = refl
columns_read (c ∷ cs) h = let first = h.0 in let others = columns_read cs h.1 in rw first others

point_read : (o : Option ValidPoint) → Read (valid_at_parts o) → IfSome o (λ v. IsI64 v.value)
point_read None h = tt
point_read (Some v) h = h.1.1.0

given_read : (x : AsOf) → Read (version_or_moment_parts x) → IsGiven x
given_read (as_ofs.Version s) h = h.0.0
given_read (as_ofs.Moment s) h = tt

given_i64_read : (x : AsOf) → Read (version_or_moment_parts x) → IsGivenI64 x
given_i64_read (as_ofs.Version s) h = h.0.1
given_i64_read (as_ofs.Moment s) h = h.1.0

version_read : (o : Option AsOf) → Read (as_of_parts o) → ForSome o IsGiven
version_read None h = λ x e. absurd (cc)
version_read (Some s) h = λ x e. let same : s ≡ x = cc in rw (← same) (given_read s h.1.1)

number_read : (o : Option AsOf) → Read (as_of_parts o) → IfSome o IsGivenI64
number_read None h = tt
number_read (Some s) h = given_i64_read s h.1.1

column_name_read : (o : Option Name) → Read (column_name_parts o) → IfSome o IsNamed
column_name_read None h = tt
column_name_read (Some n) h = h.0

by_read : (o : Option Name) → Read (by_parts o) → IfSome o IsNamed
by_read None h = tt
by_read (Some n) h = h.1.0

over_read : (o : Over) → Read (over_parts o) → HasVersions o × HasNumbers o
over_read overs.SystemAll h = (tt, tt)
over_read (overs.System from to) h = ((h.1.1.0.0, h.1.1.1.1.0.0), (h.1.1.0.1, h.1.1.1.1.0.1))
over_read (overs.Valid at from to as_of) h = (version_read as_of h.1.1.1.1.1, (h.1.1.0, h.1.1.1.1.0, number_read as_of h.1.1.1.1.1))

pub parsed_from : (s : Statement) → IsStatement s → Read (statement_parts s) → IsParsed s
parsed_from (statements.Create f) is h =
    let columns = split (separated terminals.Comma column_parts f.columns) (terminal terminals.Close ∷ keyword words.Key ∷ identifier f.key ∷ valid_parts f.valid) h.1.1.1.1 in
    let named_columns = columns_read f.columns (list_read (λ c. IsNamed c.name) terminals.Comma column_parts (λ c k. k.0) f.columns columns.0) in
    (record { name = h.1.1.0; columns = named_columns; few = is.few }, record { some = is.some; key = columns.1.1.1.0 })
parsed_from (statements.Put n) is h = h.1.0
parsed_from (statements.Remove n) is h = h.1.0
parsed_from (statements.Sync n) is h = h.1.0
parsed_from (statements.Ask (queries.Select f)) is h =
    let asked = split (asked_parts f.all f.items) (keyword words.From ∷ identifier f.table ∷ (where_parts f.pred ++ (valid_at_parts f.valid_at ++ as_of_parts f.as_of))) h.1 in
    let tested = split (where_parts f.pred) (valid_at_parts f.valid_at ++ as_of_parts f.as_of) asked.1.1.1 in
    let timed = split (valid_at_parts f.valid_at) (as_of_parts f.as_of) tested.1 in (
      version_read f.as_of timed.1,
      record {
        asked = is.asked;
        items = asked_read f.all f.items is.asked asked.0;
        table = asked.1.1.0;
        tests = pred_read f.pred is.tested tested.0;
        valid_at = point_read f.valid_at timed.0;
        as_of = number_read f.as_of timed.1;
      },
    )
parsed_from (statements.Ask (queries.Agg f)) is h =
    let column = split (column_name_parts f.column) (keyword words.From ∷ identifier f.table ∷ (where_parts f.pred ++ (by_parts f.by ++ over_parts f.over))) h.1 in
    let tested = split (where_parts f.pred) (by_parts f.by ++ over_parts f.over) column.1.1.1 in
    let grouped = split (by_parts f.by) (over_parts f.over) tested.1 in
    let over = over_read f.over grouped.1 in (
      (is.aggregate, over.0),
      record {
        column = column_name_read f.column column.0;
        table = column.1.1.0;
        tests = pred_read f.pred is.tested tested.0;
        by = by_read f.by grouped.0;
        over = over.1;
      },
    )
parsed_from (statements.Ask (queries.Join f)) is h =
    let left = split (where_parts f.left_pred) (keyword words.With ∷ identifier f.right ∷ (where_parts f.right_pred ++ (keyword words.On ∷ identifier f.left_on ∷ terminal terminals.Equal ∷ identifier f.right_on ∷ over_parts f.over))) h.1.1 in
    let right = split (where_parts f.right_pred) (keyword words.On ∷ identifier f.left_on ∷ terminal terminals.Equal ∷ identifier f.right_on ∷ over_parts f.over) left.1.1.1 in
    let over = over_read f.over right.1.1.1.1.1 in (
      over.0,
      record {
        left = h.1.0;
        left_tests = pred_read f.left_pred is.left_tested left.0;
        right = left.1.1.0;
        right_tests = pred_read f.right_pred is.right_tested right.0;
        left_on = right.1.1.0;
        right_on = right.1.1.1.1.0;
        over = over.1;
      },
    )
parsed_from (statements.Moment s) is h = h.1.0
parsed_from (statements.Forget n s) is h = (h.1.0, h.1.1.1.0.0, h.1.1.1.0.1)

-- FROM STATEMENTS TO PARTS

each_parts : {A : Type 0} (P : A → Type 0) (m : Terminal) (parts : A → List Part) → ((x : A) → P x → Read (parts x)) → (xs : List A) → AllByRecursion P xs → Read (each_after m parts xs)
each_parts P m parts from [] h = tt
each_parts P m parts from (x ∷ xs) h = (tt, join (parts x) (each_after m parts xs) (from x h.0) (each_parts P m parts from xs h.1))

list_parts : {A : Type 0} (P : A → Type 0) (m : Terminal) (parts : A → List Part) → ((x : A) → P x → Read (parts x)) → (xs : List A) → AllByRecursion P xs → Read (separated m parts xs)
list_parts P m parts from [] h = tt
list_parts P m parts from (x ∷ xs) h = join (parts x) (each_after m parts xs) (from x h.0) (each_parts P m parts from xs h.1)

item_said : (x : Item) → IsItem x → Read (item_parts x)
item_said (items.Column n) h = (h, tt)
item_said (items.ValidFrom at) h = (tt, tt)
item_said (items.ValidTo at) h = (tt, tt)

asked_said : (all : Bool) (xs : List Item) → AllByRecursion IsItem xs → Read (asked_parts all xs)
asked_said true xs h = (tt, tt)
asked_said false xs h = list_parts IsItem terminals.Comma item_parts item_said xs h

test_said : (t : Test) → IsTest t → Read (test_parts t)
test_said t h = (h.column, (tt, (h.value, tt)))

conj_said : (tests : List Test) → (1 ≤ length tests) × AllByRecursion IsTest tests → Read (conj_parts tests)
conj_said tests h = list_parts IsTest (terminals.Keyword words.And) test_parts test_said tests h.1

any_said : (any : List (List Test)) → AllByRecursion (λ tests. (1 ≤ length tests) × AllByRecursion IsTest tests) any → Read (any_parts any)
any_said [] h = tt
any_said (tests ∷ any) h = (tt, list_parts (λ tests. (1 ≤ length tests) × AllByRecursion IsTest tests) (terminals.Keyword words.Or) conj_parts conj_said (tests ∷ any) h)

pred_said : (p : Pred) → HasTests p → Read (where_parts p)
pred_said p h = any_said p.any h

column_list : (cs : List ColumnForm) → list_all (λ c. is_name c.name.text) cs ≡ true → AllByRecursion (λ c. IsNamed c.name) cs
column_list [] h = tt
column_list (c ∷ cs) h = let k = both (is_name c.name.text) (list_all (λ c. is_name c.name.text) cs) h in (k.0, column_list cs k.1) where
  both : (a b : Bool) → (a && b) ≡ true → (a ≡ true) × (b ≡ true)
  both true b e = (refl, e)
  both false b e = absurd (cc)

valid_said : (v : Bool) → Read (valid_parts v)
valid_said true = (tt, tt)
valid_said false = tt

point_said : (o : Option ValidPoint) → IfSome o (λ v. IsI64 v.value) → Read (valid_at_parts o)
point_said None h = tt
point_said (Some v) h = (tt, (tt, (h, tt)))

given_said : (x : AsOf) → IsGiven x → IsGivenI64 x → Read (version_or_moment_parts x)
given_said (as_ofs.Version s) h k = ((h, k), tt)
given_said (as_ofs.Moment s) h k = (tt, (k, tt))

as_of_said : (o : Option AsOf) → ForSome o IsGiven → IfSome o IsGivenI64 → Read (as_of_parts o)
as_of_said None h k = tt
as_of_said (Some s) h k = (tt, (tt, given_said s (h s refl) k))

column_name_said : (o : Option Name) → IfSome o IsNamed → Read (column_name_parts o)
column_name_said None h = tt
column_name_said (Some n) h = (h, tt)

by_said : (o : Option Name) → IfSome o IsNamed → Read (by_parts o)
by_said None h = tt
by_said (Some n) h = (tt, (h, tt))

over_said : (o : Over) → HasVersions o → HasNumbers o → Read (over_parts o)
over_said overs.SystemAll h k = (tt, (tt, (tt, tt)))
over_said (overs.System from to) h k = (tt, (tt, ((h.0, k.0), (tt, ((h.1, k.1), tt)))))
over_said (overs.Valid at from to as_of) h k = (tt, (tt, (k.0, (tt, (k.1, as_of_said as_of h k.2)))))

pub parts_of : (s : Statement) → IsParsed s → AllByRecursion IsReadPart (statement_parts s)
parts_of (statements.Create f) h =
    let columns = list_parts (λ c. IsNamed c.name) terminals.Comma column_parts (λ c k. (k, (tt, tt))) f.columns (column_list f.columns h.0.columns) in
    (tt, (tt, (h.0.name, (tt, join (separated terminals.Comma column_parts f.columns) (terminal terminals.Close ∷ keyword words.Key ∷ identifier f.key ∷ valid_parts f.valid) columns (tt, (tt, (h.1.key, valid_said f.valid)))))))
parts_of (statements.Put n) h = (tt, (h, tt))
parts_of (statements.Remove n) h = (tt, (h, tt))
parts_of (statements.Sync n) h = (tt, (h, tt))
parts_of (statements.Ask (queries.Select f)) h =
    let timed = join (valid_at_parts f.valid_at) (as_of_parts f.as_of) (point_said f.valid_at h.1.valid_at) (as_of_said f.as_of h.0 h.1.as_of) in
    let tested = join (where_parts f.pred) (valid_at_parts f.valid_at ++ as_of_parts f.as_of) (pred_said f.pred h.1.tests) timed in
    (tt, join (asked_parts f.all f.items) (keyword words.From ∷ identifier f.table ∷ (where_parts f.pred ++ (valid_at_parts f.valid_at ++ as_of_parts f.as_of))) (asked_said f.all f.items h.1.items) (tt, (h.1.table, tested)))
parts_of (statements.Ask (queries.Agg f)) h =
    let grouped = join (by_parts f.by) (over_parts f.over) (by_said f.by h.1.by) (over_said f.over h.0.1 h.1.over) in
    let tested = join (where_parts f.pred) (by_parts f.by ++ over_parts f.over) (pred_said f.pred h.1.tests) grouped in
    (tt, join (column_name_parts f.column) (keyword words.From ∷ identifier f.table ∷ (where_parts f.pred ++ (by_parts f.by ++ over_parts f.over))) (column_name_said f.column h.1.column) (tt, (h.1.table, tested)))
parts_of (statements.Ask (queries.Join f)) h =
    let on : Read (keyword words.On ∷ identifier f.left_on ∷ terminal terminals.Equal ∷ identifier f.right_on ∷ over_parts f.over) = (tt, (h.1.left_on, (tt, (h.1.right_on, over_said f.over h.0 h.1.over)))) in
    let right = join (where_parts f.right_pred) (keyword words.On ∷ identifier f.left_on ∷ terminal terminals.Equal ∷ identifier f.right_on ∷ over_parts f.over) (pred_said f.right_pred h.1.right_tests) on in
    let left = join (where_parts f.left_pred) (keyword words.With ∷ identifier f.right ∷ (where_parts f.right_pred ++ (keyword words.On ∷ identifier f.left_on ∷ terminal terminals.Equal ∷ identifier f.right_on ∷ over_parts f.over))) (pred_said f.left_pred h.1.left_tests) (tt, (h.1.right, right)) in
    (tt, (h.1.left, left))
parts_of (statements.Moment s) h = (tt, (h, tt))
parts_of (statements.Forget n s) h = (tt, (h.0, (tt, ((h.1, h.2), tt))))

some_tests : (any : List (List Test)) → AllByRecursion (λ tests. (1 ≤ length tests) × AllByRecursion IsTest tests) any → AllByRecursion (λ tests. 1 ≤ length tests) any
some_tests [] h = tt
some_tests (tests ∷ any) h = (h.0.0, some_tests any h.1)

pub whole_of : (s : Statement) → IsParsed s → IsStatement s
whole_of (statements.Create f) h = record { some = h.1.some; few = h.0.few }
whole_of (statements.Put n) h = tt
whole_of (statements.Remove n) h = tt
whole_of (statements.Sync n) h = tt
whole_of (statements.Ask (queries.Select f)) h = record { asked = h.1.asked; tested = some_tests f.pred.any h.1.tests }
whole_of (statements.Ask (queries.Agg f)) h = record { aggregate = h.0.0; tested = some_tests f.pred.any h.1.tests }
whole_of (statements.Ask (queries.Join f)) h = record { left_tested = some_tests f.left_pred.any h.1.left_tests; right_tested = some_tests f.right_pred.any h.1.right_tests }
whole_of (statements.Moment s) h = tt
whole_of (statements.Forget n s) h = tt
