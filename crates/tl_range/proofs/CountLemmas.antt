-- How many versions with marks are inside a range.
use Rattle.std.proofs.Common.{◌≡◌, ℕ, suc, ◌<◌, Bool, true, false, ◌&&◌, cond, nat_lt, List, [], ◌∷◌, length, refl, ap, ◌∙◌, arith}
use Rattle.std.specs.List.{filter, AllByRecursion}
use Rattle.std.proofs.lemmas.Bool.Decides.{nat_tests}
use Rattle.tl_types.specs.Checkpoints.{Checkpoint}
use Rattle.tl_types.proofs.Lists.{and_left}
use Rattle.tl_ckpt.specs.Marks.{ClimbStrictly}
use Rattle.tl_range.specs.Dividing.{inside, is_inside}

abbrev AllAfter : ℕ → List Checkpoint → Type 0
AllAfter low marks = AllByRecursion (λ (mark : Checkpoint). low < mark.version) marks

after_less : (low high : ℕ) (marks : List Checkpoint) → low < high → AllAfter high marks → AllAfter low marks
after_less low high [] l all = tt
after_less low high (mark ∷ marks) l all = let a = all.0 in let b : low < mark.version = omega arith in (b, after_less low high marks l all.1)

both_after : (a b version before : ℕ) → a < version → b < version → (nat_lt a version && nat_lt version before) ≡ (nat_lt b version && nat_lt version before)
both_after a b version before l h = grind (arith, nat_tests)

-- where all marks are after two versions, the same are inside from either on
inside_low : (a b before : ℕ) (marks : List Checkpoint) → AllAfter a marks → AllAfter b marks → inside a before marks ≡ inside b before marks
inside_low a b before [] l h = refl
inside_low a b before (mark ∷ marks) l h =
    ap (λ t. cond t (mark.version ∷ inside mark.version before marks) (inside a before marks)) (both_after a b mark.version before l.0 h.0)
    ∙ ap (λ xs. cond (nat_lt b mark.version && nat_lt mark.version before) (mark.version ∷ inside mark.version before marks) xs) (inside_low a b before marks l.1 h.1)

pub inside_count : (from to : ℕ) (marks : List Checkpoint) → ClimbStrictly marks → length (inside from to marks) ≡ length (filter (is_inside from to) marks)
inside_count from to [] up = refl
inside_count from to (mark ∷ marks) up = by_test (nat_lt from mark.version && nat_lt mark.version to) refl (inside_count from to marks up.1) where
  by_test : (b : Bool) → (nat_lt from mark.version && nat_lt mark.version to) ≡ b → length (inside from to marks) ≡ length (filter (is_inside from to) marks)
      → length (cond b (mark.version ∷ inside mark.version to marks) (inside from to marks)) ≡ length (cond b (mark ∷ filter (is_inside from to) marks) (filter (is_inside from to) marks))
  by_test true e h =
      let low : from < mark.version = let a = and_left (nat_lt from mark.version) (nat_lt mark.version to) e in grind (arith, nat_tests) in
      ap suc (ap length (inside_low mark.version from to marks up.0 (after_less from mark.version marks low up.0)) ∙ h)
  by_test false e h = h
