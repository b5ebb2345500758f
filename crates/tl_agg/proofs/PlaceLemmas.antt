-- Groups that stand at the numbers of their values.
use Rattle.std.proofs.Common.{◌≡◌, ℕ, ◌+◌, ◌<◌, ◌≤◌, Bool, true, false, cond, List, [], ◌∷◌, ◌++◌, length, Option, Some, None, refl, sym, ap, ◌∙◌, subst, ℤ}
use Rattle.std.specs.Prelude.{slice_set}
use Rattle.std.specs.Map.{lookup}
use Rattle.tl_types.specs.declared.cells.Cell.{Cell}
use Rattle.tl_types.specs.History.{same_cell}
use Rattle.tl_query.specs.declared.ast.AggKind.{AggKind}
use Rattle.tl_keys.specs.Keys.{number_in, AreApart, KeepsNumbers}
use Rattle.tl_keys.specs.Numbered.{AreNumbered}
use Rattle.tl_keys.proofs.NumberedLemmas.{had_item, new_item, same_item, moved_item}
use Rattle.tl_agg.specs.Groups.{State, IsNone, IsOne, Moves}
use Rattle.tl_agg.specs.Scans.{Groups, group_of, HasPlace, MovesAt}

-- A VALUE THAT GETS A NUMBER

-- it had one
pub had_place : (old new : Groups) (value : Cell) (kind : AggKind) (since n : ℕ) → AreNumbered old.keys old.by → AreApart new.keys → number_in new.keys value ≡ Some n → n < length old.by → new.keys ≡ old.keys → new.by ≡ old.by → HasPlace old new value kind since n
had_place old new value kind since n are apart number l keys by =
    let h = had_item old.keys new.keys old.by new.by value n are apart number l keys by in
    record { group = h.0; there = h.1; one = subst (λ o. IsOne o kind since h.0) (sym h.2) refl; numbered = h.3; others = h.4 }

-- it had none
pub new_place : (old new : Groups) (value : Cell) (kind : AggKind) (since n : ℕ) (group : State) → AreNumbered old.keys old.by → AreApart new.keys → KeepsNumbers old.keys new.keys → number_in new.keys value ≡ Some n → length old.by ≤ n → new.keys.count ≤ old.keys.count + 1
    → new.by ≡ old.by ++ (value, group) ∷ [] → IsNone group kind true since → HasPlace old new value kind since n
new_place old new value kind since n group are apart keeps number l few by none =
    let h = new_item old.keys new.keys old.by new.by value n group are apart keeps number l few by in
    record { group = group; there = h.0; one = subst (λ o. IsOne o kind since group) (sym h.1) none; numbered = h.2; others = h.3 }

-- A NUMBER COMES OR GOES

-- the group of a value that was given a number is changed
pub moved_place : (old middle new : Groups) (value : Cell) (kind : AggKind) (since n at : ℕ) (opens : Bool) (number : ℤ) (p : HasPlace old middle value kind since n) (m : MovesAt middle.by new.by n at opens number)
    → new.keys ≡ middle.keys → Moves p.group m.moved at opens number × (AreNumbered new.keys new.by × ((x : Cell) → group_of new x ≡ cond (same_cell x value) (Some m.moved) (group_of old x)))
moved_place old middle new value kind since n at opens number p m keys =
    let is = same_item middle.by n m.value value m.group p.group m.was p.there in
    let now : new.by ≡ slice_set middle.by n (value, m.moved) = m.now ∙ ap (λ v. slice_set middle.by n (v, m.moved)) is.0 in
    let h = moved_item middle.keys new.keys old.by middle.by new.by value n p.group m.moved p.numbered p.there p.others keys now in
    let moves : Moves p.group m.moved at opens number = subst (λ (g : State). Moves g m.moved at opens number) is.1 m.moves in
    (moves, (h.0, h.1))

-- THE GROUPS BY THEIR VALUES

-- what is found in one list, or else in another
abbrev pub or_else : Option State → Option State → Option State
or_else None o = o
or_else (Some group) o = Some group

pub last_taken : (x : Cell) (front : List (Cell × State)) (e : Cell × State) (o : Option State) → or_else (lookup (same_cell x) (front ++ e ∷ [])) o ≡ or_else (lookup (same_cell x) front) (cond (same_cell x e.0) (Some e.1) o)
last_taken x [] e o = by_test (same_cell x e.0) where
  by_test : (b : Bool) → or_else (cond b (Some e.1) None) o ≡ cond b (Some e.1) o
  by_test true = refl
  by_test false = refl
last_taken x (f ∷ front) e o = by_test (same_cell x f.0) (last_taken x front e o) where
  by_test : (b : Bool) → or_else (lookup (same_cell x) (front ++ e ∷ [])) o ≡ or_else (lookup (same_cell x) front) (cond (same_cell x e.0) (Some e.1) o)
      → or_else (cond b (Some f.1) (lookup (same_cell x) (front ++ e ∷ []))) o ≡ or_else (cond b (Some f.1) (lookup (same_cell x) front)) (cond (same_cell x e.0) (Some e.1) o)
  by_test true h = refl
  by_test false h = h

-- a value with its group
abbrev item : Cell → State → Cell × State
item value group = (value, group)

pub one_taken : (all groups front sorted new : List (Cell × State)) (e : Cell × State) (value : Cell) (group : State) → ((x : Cell) → or_else (lookup (same_cell x) groups) (lookup (same_cell x) sorted) ≡ lookup (same_cell x) all) → groups ≡ front ++ e ∷ [] → item value group ≡ e
    → ((x : Cell) → lookup (same_cell x) new ≡ cond (same_cell x value) (Some group) (lookup (same_cell x) sorted)) → (x : Cell) → or_else (lookup (same_cell x) front) (lookup (same_cell x) new) ≡ lookup (same_cell x) all
one_taken all groups front sorted new e value group before last is put x =
    ap (or_else (lookup (same_cell x) front)) (put x ∙ ap (λ (y : Cell × State). cond (same_cell x y.0) (Some y.1) (lookup (same_cell x) sorted)) is)
    ∙ sym (last_taken x front e (lookup (same_cell x) sorted))
    ∙ ap (λ xs. or_else (lookup (same_cell x) xs) (lookup (same_cell x) sorted)) (sym last)
    ∙ before x
