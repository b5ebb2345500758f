-- The journal of a worked history, computed: a table of employees, two rows put, one of them
-- changed, the other removed, and put again; then a moment, and a floor.
use Rattle.std.proofs.Common.{◌≡◌, ℕ, ◌+◌, List, [], ◌∷◌, ◌++◌, length, take, refl}
use Rattle.std.specs.Prelude.{codes, pos}
use Rattle.tl_types.specs.declared.commits.Commit.{Commit}
use Rattle.tl_types.specs.declared.commits.Body.TheVariants as body
use Rattle.tl_record.specs.Spelling.{spelling}
use Rattle.tl_record.proofs.Examples.{employees, row, change}
use Rattle.tl_journal.specs.Image.{header, size_of, body_of}

abbrev created : Commit
created = record { author = 0; body = body.Create employees }

abbrev history : List Commit
history =
    created ∷ change [] (row 1 (codes "ops") 100 ∷ row 2 (codes "dev") 50 ∷ [])
    ∷ change (0 ∷ []) (row 1 (codes "ops") 150 ∷ []) ∷ change (1 ∷ []) []
    ∷ change [] (row 2 (codes "dev") 50 ∷ []) ∷ []

-- the open gates with their records
abbrev fronts : List Commit → List ℕ
fronts [] = []
fronts (c ∷ cs) = 1 ∷ (spelling c ++ fronts cs)

whole : length ((header ++ fronts history) ++ 0 ∷ []) ≡ 221
whole = refl

second_gate : 16 + size_of (take 1 history) ≡ 44
second_gate = refl

third_gate : 16 + size_of (take 2 history) ≡ 112
third_gate = refl

fourth_gate : 16 + size_of (take 3 history) ≡ 158
fourth_gate = refl

fifth_gate : 16 + size_of (take 4 history) ≡ 178
fifth_gate = refl

last_gate : 16 + size_of history ≡ 220
last_gate = refl

-- the body of the whole history as a group, and of its first commit alone
group_body : length (body_of history) ≡ 204
group_body = refl

one_body : body_of (take 1 history) ≡ spelling created ++ 0 ∷ []
one_body = refl

-- behind an open gate it is the history's journal
group_image : header ++ 1 ∷ body_of history ≡ (header ++ fronts history) ++ 0 ∷ []
group_image = refl

-- the same with a moment and a floor behind it

abbrev later : List Commit
later =
    history ++ record { author = 0; body = body.Moment (pos 1000) }
    ∷ record { author = 0; body = body.Forget 0 3 } ∷ []

with_both : length ((header ++ fronts later) ++ 0 ∷ []) ≡ 247
with_both = refl

behind_the_moment : 16 + size_of (take 6 later) ≡ 234
behind_the_moment = refl
