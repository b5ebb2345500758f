use Rattle.std.proofs.Common.{Some, subst, sym, ap, ◌∙◌}
use Rattle.tl_batch.specs.Covers.{StandIn, is_covered}
use Rattle.tl_batch.specs.Pieces.{periods_with}
use Rattle.tl_batch.proofs.KeyLemmas.{key_affected, keys_affected}
use Rattle.tl_batch.proofs.affected.affected_rows.Goals as goal

pub keys-preserved : goal.keys-preserved
keys-preserved g c =
    let each = subst (StandIn c.args.periods.now) c.in-Some.ensures.steps c.keys.invariant.each in
    record {
      each = each.1;
      affected = λ lines held. key_affected c.args.table.now.schema c.args.table.now.rows lines (c.in-Some.key.now, c.in-Some.moments.now) c.args.periods.now c.keys.entries c.next.new.self c.keys.affected c.add_rows.new.affected c.requires.valid c.in-Some.ensures.steps (c.keys.invariant.affected lines held)
          (c.in_ok-add_rows.ensures (periods_with (Some c.in-Some.key.now) lines) (held.full c.in-Some.key.now) (λ t. ap (is_covered t) (sym each.0) ∙ held.same c.in-Some.key.now t));
    }

pub returns : goal.returns
returns g c = λ lines held. keys_affected c.args.table.now.schema c.args.table.now.rows lines c.args.periods.now c.keys.entries c.keys.affected c.requires.valid held c.in_default.ensures.steps.0 (c.keys.invariant.affected lines held)
