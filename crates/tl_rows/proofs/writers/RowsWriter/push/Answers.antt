use Rattle.std.proofs.Common.{◌∷◌, [], arith, length-append}
use Rattle.tl_rows.specs.Fields.{field_shown}
use Rattle.tl_rows.proofs.RowLemmas.{behind_more, cut_more, ends_more}
use Rattle.tl_rows.proofs.writers.RowsWriter.push.Goals as goal

pub invariant_of-self-2 : goal.invariant_of-self-2
invariant_of-self-2 c =
    let s = c.self.inside in
    rw c.in_ok-push.ensures.ok (ends_more 0 s.ends.items _ _ (omega (arith, length-append s.fields (field_shown c.args.field ∷ []))) c.self.invariant)

pub returns-clause-rows : goal.returns-clause-rows
returns-clause-rows c = rw (← c.self.view_is, c.in_ok-push.ensures.ok) (cut_more c.self.inside.ends.items c.self.inside.fields _ c.self.invariant)

pub returns-clause-row : goal.returns-clause-row
returns-clause-row c = rw (← c.self.view_is, c.in_ok-push.ensures.ok) (behind_more c.self.inside.ends.items c.self.inside.fields _ c.self.invariant)
