use Rattle.std.proofs.Common.{◌≡◌, ◌&&◌, ℤ, cond, Some, subst, to_z, of_z, w64, rules}
use Rattle.std.specs.Ordering.{int_eq}
use Rattle.std.proofs.lemmas.Int.{to_z-of_z}
use Rattle.tl_types.specs.declared.cells.Cell.{Cell}
use Rattle.tl_types.specs.History.{same_cell}
use Rattle.tl_batch.specs.Syncing.{place_at}
use Rattle.tl_batch.proofs.StartLemmas.{place_put}
use Rattle.tl_batch.proofs.line_places.LinePlaces.put.Goals as goal

pub returns : goal.returns
returns c =
    subst (λ f. (x : Cell) (t : ℤ) → place_at x t c.insert.new.self.entries ≡ cond (same_cell x c.args.key.now && int_eq t f) (Some c.args.place) (place_at x t c.args.self.now)) (to_z-of_z w64 c.args.from (search rules))
    (place_put c.args.key.now c.in_ok-key.key (to_z w64 (of_z w64 c.args.from)) c.args.place c.self.inside.places.entries c.args.self.now c.insert.new.self.entries c.in_ok-key.ensures.cases c.self.view_is c.in_ok-insert.ensures.updates.0)
