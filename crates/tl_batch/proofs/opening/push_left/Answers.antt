use Rattle.std.proofs.Common.{Some, ap, ◌∙◌}
use Rattle.tl_batch.specs.Covers.{is_covered}
use Rattle.tl_batch.specs.Pieces.{periods_with}
use Rattle.tl_batch.proofs.OpeningLemmas.{left_here}
use Rattle.tl_batch.proofs.opening.push_left.Goals as goal

pub returns : goal.returns
returns g c = λ lines held. left_here c.args.table.now.schema lines c.args.table.now.rows c.args.row c.in_ok-key.key c.args.opens.now.items c.push_rest.new.opens.items c.requires.valid c.requires.row c.in_ok-key.ensures
    (λ r there. c.in_ok-push_rest.ensures r there (periods_with (Some c.in_ok-key.key) lines) (held.full c.in_ok-key.key) (λ t. ap (is_covered t) c.moments-moments.ensures ∙ held.same c.in_ok-key.key t))
