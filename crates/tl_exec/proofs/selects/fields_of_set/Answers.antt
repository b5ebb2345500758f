use Rattle.std.proofs.Common.{◌+◌, length, ap, ◌∙◌, arith}
use Rattle.tl_types.specs.declared.answers.Answer.{Answer}
use Rattle.tl_types.specs.History.{database_of, rows_of}
use Rattle.tl_exec.specs.Shown.{rows_in_set}
use Rattle.tl_exec.proofs.ShownLemmas.{row_there, shown_more, shown_all, count_to, count_more, count_within, member_steps, steps_within, steps_to_end}
use Rattle.tl_exec.proofs.selects.fields_of_set.Goals as goal

pub members-preserved : goal.members-preserved
members-preserved g c =
    let rows = rows_of (database_of c.args.asked.store.now) c.args.asked.table in
    let set = c.args.set.now in
    let next = c.in-Some.ensures.found in
    let inside = next.inside in
    let there = row_there rows c.in-Some.row (let e = c.requires.rows in omega arith) in
    record {
      within = omega arith;
      rows = shown_more c.args.asked.items.now c.args.asked.valid_at set rows c.members.from c.in-Some.row there.0 c.members.rows.rows c.add_row.new.rows.rows
          next.not_below next.least next.member there.1 c.members.invariant.rows (c.in_ok-seen.ensures.value there.0 there.1);
      between = c.in_ok-seen.ensures.between;
      word = c.in_ok-seen.ensures.tells;
      steps = member_steps c.args.steps.now c.members.steps c.next.new.steps c.add_row.new.steps c.members.from c.in-Some.row (length c.args.asked.items.now)
          (count_to set rows c.members.from) (count_to set rows (c.in-Some.row + 1)) c.members.invariant.steps c.in-Some.ensures.steps_found c.add_row.ensures.steps
          (count_more set rows c.members.from c.in-Some.row there.0 next.not_below next.least next.member there.1);
    }

pub returns-in_err-seen-clause-steps : goal.returns-in_err-seen-clause-steps
returns-in_err-seen-clause-steps g c =
    let rows = rows_of (database_of c.args.asked.store.now) c.args.asked.table in
    let set = c.args.set.now in
    let next = c.in-Some.ensures.found in
    let inside = next.inside in
    let there = row_there rows c.in-Some.row (let e = c.requires.rows in omega arith) in
    steps_within c.args.steps.now c.add_row.new.steps c.in-Some.row (length set) (length c.args.asked.items.now) (count_to set rows (c.in-Some.row + 1)) (length (rows_in_set set rows))
    (member_steps c.args.steps.now c.members.steps c.next.new.steps c.add_row.new.steps c.members.from c.in-Some.row (length c.args.asked.items.now)
    (count_to set rows c.members.from) (count_to set rows (c.in-Some.row + 1)) c.members.invariant.steps c.in-Some.ensures.steps_found c.add_row.ensures.steps
    (count_more set rows c.members.from c.in-Some.row there.0 next.not_below next.least next.member there.1))
    inside (count_within set rows (c.in-Some.row + 1))

pub returns-clause-rows : goal.returns-clause-rows
returns-clause-rows g c =
    ap (λ (a : Answer). a.rows) c.finish.ensures
    ∙ shown_all c.args.asked.items.now c.args.asked.valid_at c.args.set.now (rows_of (database_of c.args.asked.store.now) c.args.asked.table) c.members.from c.members.rows.rows
    c.members.invariant.within c.in_default.ensures.none c.members.invariant.rows

pub returns-clause-steps : goal.returns-clause-steps
returns-clause-steps g c =
    let rows = rows_of (database_of c.args.asked.store.now) c.args.asked.table in
    let set = c.args.set.now in
    steps_to_end c.args.steps.now c.members.steps c.next.new.steps c.members.from (length set) (length c.args.asked.items.now) (count_to set rows c.members.from) (length (rows_in_set set rows))
    c.members.invariant.steps c.in_default.ensures.steps_none c.members.invariant.within (count_within set rows c.members.from)
