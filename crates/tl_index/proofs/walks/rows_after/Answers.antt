use Rattle.std.proofs.Common.{arith, ◌∙◌}
use Rattle.tl_types.proofs.EventLemmas.{place_grows}
use Rattle.tl_index.specs.Tables.{rows_in}
use Rattle.tl_index.proofs.walks.rows_after.Goals as goal

pub returns-in_err-set-clause-steps : goal.returns-in_err-set-clause-steps
returns-in_err-set-clause-steps g c =
    let grows = place_grows (rows_in c.args.table.now) c.args.mark.now.version c.args.version c.requires.before in
    omega (arith, grows)

pub rows_walked-requires-clause-start : goal.rows_walked-requires-clause-start
rows_walked-requires-clause-start g c = record { base = c.args.mark.now.version; not_after = c.requires.before; set_is = c.in_ok-set.ensures.set; place_is = c.place.ensures ∙ c.marked_rows.ensures.place }

pub returns-clause-steps : goal.returns-clause-steps
returns-clause-steps g c =
    let walked = c.rows_walked.ensures.steps in
    omega (arith, walked, c.place.ensures, c.marked_rows.ensures.place)
