-- The events of valid time at a version, from a mark or from the first event.
use Rattle.std.proofs.Common.{◌≡◌, ℕ, ◌+◌, ◌<◌, true, false, ◌&&◌, nat_le, nat_lt, List, [], ◌∷◌, refl, sym, ap, ◌∙◌, arith}
use Rattle.std.specs.List.{filter, enumerate_from}
use Rattle.std.proofs.lemmas.Bool.Decides.{nat_tests}
use Rattle.tl_types.specs.Plain as plain
use Rattle.tl_types.specs.declared.events.ValidEvent.{ValidEvent}
use Rattle.tl_types.specs.History.{is_visible}
use Rattle.tl_types.specs.Checkpoints.{in_order, ends_of_rows, valid_events_in}
use Rattle.tl_types.specs.WellFormed.{AreWellFormed}
use Rattle.tl_ckpt.specs.Valid.{Rises, merged}
use Rattle.tl_ckpt.specs.Choices.{Choice, chosen}
use Rattle.tl_ckpt.proofs.ChoiceLemmas.{chosen_all}
use Rattle.tl_ckpt.proofs.RunLemmas.{merged_none}

-- no row stands at version 0
none_from : (last n : ℕ) (rows : List plain.Row) → AreWellFormed last rows → filter (λ (r : ℕ × plain.Row). is_visible 0 r.1) (enumerate_from n rows) ≡ []
none_from last n [] h = refl
none_from last n (r ∷ rows) h =
    let e : is_visible 0 r ≡ false = first r.from r.to h.0.begins in
    rw e (none_from last (n + 1) rows h.1) where
      first : (from to : ℕ) → 0 < from → (nat_le from 0 && nat_lt 0 to) ≡ false
      first from to l = grind (arith, nat_tests)

none_valid : (last : ℕ) (rows : List plain.Row) → AreWellFormed last rows → valid_events_in rows 0 ≡ []
none_valid last rows h = ap (λ rs. in_order (ends_of_rows rs)) (none_from last 0 rows h)

-- the changes since version 0 are the events
pub all_changes : (choice : Choice) (last version : ℕ) (rows : List plain.Row) (changes : List ValidEvent) → AreWellFormed last rows → Rises changes → merged (chosen choice (valid_events_in rows 0)) changes ≡ chosen choice (valid_events_in rows version) → changes ≡ chosen choice (valid_events_in rows version)
all_changes choice last version rows changes formed up lead = sym (merged_none changes up) ∙ ap (λ es. merged (chosen choice es) changes) (sym (none_valid last rows formed)) ∙ lead

-- and put into no events they are these
pub put_into_none : (choice : Choice) (none changes events all : List ValidEvent) → choice.all ≡ true → none ≡ [] → Rises changes → changes ≡ chosen choice all → events ≡ merged none changes → events ≡ all
put_into_none choice none changes events all every none_is up is made = made ∙ ap (λ es. merged es changes) none_is ∙ merged_none changes up ∙ is ∙ chosen_all choice all every

-- the changes of all rows from a mark's version, put into the mark's events
pub from_mark : (choice : Choice) (mine events changes all : List ValidEvent) → choice.all ≡ true → merged (chosen choice mine) changes ≡ chosen choice all → events ≡ merged mine changes → events ≡ all
from_mark choice mine events changes all every lead made = made ∙ ap (λ es. merged es changes) (sym (chosen_all choice mine every)) ∙ lead ∙ chosen_all choice all every
