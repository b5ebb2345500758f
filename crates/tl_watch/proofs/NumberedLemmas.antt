-- Groups that stand at the numbers of their values.
use Rattle.std.proofs.Common.{◌≡◌, ℕ, ◌+◌, ◌<◌, ◌≤◌, ℤ, [], ◌∷◌, ◌++◌, length, Option, Some, None, refl, sym, ap, ◌∙◌, subst}
use Rattle.std.specs.Prelude.{slice_set}
use Rattle.tl_types.specs.declared.cells.Cell.{Cell}
use Rattle.tl_query.specs.declared.ast.AggKind.{AggKind}
use Rattle.tl_keys.specs.Keys.{number_in, AreApart, KeepsNumbers}
use Rattle.tl_keys.specs.Numbered.{AreNumbered}
use Rattle.tl_keys.proofs.NumberedLemmas.{had_item, new_item, same_item, moved_item}
use Rattle.tl_running.specs.Standing.{Kept, StandsFor, HasRoom, Enters}
use Rattle.tl_watch.specs.Groups.{group_of, IsOne, HasRoomAt}
use Rattle.tl_watch.specs.States.{State}
use Rattle.tl_watch.specs.Gathering.{GatheringOf, HasPlace, CanEnterAt, EntersAt, Gathers}
use Rattle.tl_watch.proofs.PlaceLemmas.{none_room}

-- A VALUE THAT GETS A NUMBER

-- it had one
pub had_place : (old new : GatheringOf) (value : Cell) (n : ℕ) → AreNumbered old.keys old.state.groups → AreApart new.keys → number_in new.keys value ≡ Some n → n < length old.state.groups → new.keys ≡ old.keys → new.state ≡ old.state → new.kind ≡ old.kind → HasPlace old new value n
had_place old new value n are apart number l keys state kind =
    let h = had_item old.keys new.keys old.state.groups new.state.groups value n are apart number l keys (ap (λ (s : State). s.groups) state) in
    record { kept = h.0; kind = kind; there = h.1; one = subst (λ o. IsOne o old.kind h.0) (sym h.2) refl; numbered = h.3; others = h.4 }

-- it had none
pub new_place : (old new : GatheringOf) (value : Cell) (n : ℕ) (group : Kept) → AreNumbered old.keys old.state.groups → AreApart new.keys → KeepsNumbers old.keys new.keys → number_in new.keys value ≡ Some n → length old.state.groups ≤ n → new.keys.count ≤ old.keys.count + 1
    → new.state.groups ≡ old.state.groups ++ (value, group) ∷ [] → new.kind ≡ old.kind → group.kind ≡ old.kind → ((column : Option ℕ) → StandsFor group column []) → HasPlace old new value n
new_place old new value n group are apart keeps number l few by kind group_kind none =
    let h = new_item old.keys new.keys old.state.groups new.state.groups value n group are apart keeps number l few by in
    record { kept = group; kind = kind; there = h.0; one = subst (λ o. IsOne o old.kind group) (sym h.1) (group_kind, none); numbered = h.2; others = h.3 }

-- A NUMBER COMES

one_room : (found : Option Kept) (k : AggKind) (kept : Kept) → IsOne found k kept → HasRoomAt found → HasRoom kept
one_room None k kept one room = none_room kept one.1
one_room (Some f) k kept one room = subst HasRoom (sym one) room

-- there is room in the group with the number of a value
pub place_room : (old new : GatheringOf) (value : Cell) (n : ℕ) → HasPlace old new value n → HasRoomAt (group_of old.state.groups value) → CanEnterAt new.state.groups n
place_room old new value n p room = record { value = value; kept = p.kept; there = p.there; room = one_room (group_of old.state.groups value) old.kind p.kept p.one room }

-- a number comes into the group of a value
pub entered : (old middle new : GatheringOf) (value : Cell) (n : ℕ) (number : ℤ) → HasPlace old middle value n → EntersAt middle.state.groups new.state.groups n number → new.keys ≡ middle.keys → new.kind ≡ middle.kind → Gathers (Some value) old new number
entered old middle new value n number p m keys kind =
    let is = same_item middle.state.groups n m.value value m.was p.kept m.there p.there in
    let now : new.state.groups ≡ slice_set middle.state.groups n (value, m.now) = m.puts ∙ ap (λ v. slice_set middle.state.groups n (v, m.now)) is.0 in
    let h = moved_item middle.keys new.keys old.state.groups middle.state.groups new.state.groups value n p.kept m.now p.numbered p.there p.others keys now in
    record {
      kind = kind ∙ p.kind;
      numbered = h.0;
      comes = record {
        was = p.kept;
        now = m.now;
        one = p.one;
        enters = subst (λ (g : Kept). Enters g m.now number) is.1 m.enters;
        groups = h.1;
      };
    }
