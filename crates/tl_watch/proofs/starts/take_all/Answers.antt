use Rattle.std.proofs.Common.{◌+◌, ◌<◌, length, sym, arith, subst}
use Rattle.tl_types.specs.History.{rows_of}
use Rattle.tl_store.specs.Reading.{columns_of}
use Rattle.tl_agg.proofs.StartLemmas.{next_size, size_below}
use Rattle.tl_watch.specs.Reading.{IsWithin}
use Rattle.tl_watch.proofs.StartLemmas.{next_within}
use Rattle.tl_watch.proofs.GatherLemmas.{gathering_taking, gathering_more, gathering_all}
use Rattle.tl_watch.proofs.starts.take_all.Goals as goal

pub take_in-requires-clause-column : goal.take_in-requires-clause-column
take_in-requires-clause-column g c = subst (λ t. IsWithin c.args.plan.now.by (length (columns_of c.args.reader.now.table.db t))) (sym c.requires.plan.table) c.requires.ready.by

pub take_in-requires-clause-row : goal.take_in-requires-clause-row
take_in-requires-clause-row g c =
    subst (λ t. c.in-Some.id < length (rows_of c.args.reader.now.table.db t)) (sym c.requires.plan.table)
    (next_within c.args.plan.now c.args.reader.now.table.db c.args.set.now c.members.from c.in-Some.id c.requires.ready c.in-Some.ensures.found)

pub take_in-requires-clause-taking : goal.take_in-requires-clause-taking
take_in-requires-clause-taking g c =
    gathering_taking c.args.plan.now c.args.reader.now c.args.set.now c.members.from c.in-Some.id c.members.gathering c.requires.plan c.requires.ready c.in-Some.ensures.found c.members.invariant.gathers

pub returns-in_err-take_in-clause-steps : goal.returns-in_err-take_in-clause-steps
returns-in_err-take_in-clause-steps g c =
    let next = c.in-Some.ensures.found in
    let inside = next.inside in
    let more = next_size c.args.set.now c.members.from c.in-Some.id next in
    let most = size_below (c.in-Some.id + 1) c.args.set.now in
    let s = c.members.invariant.steps in
    let t = c.in-Some.ensures.steps_found in
    let u = c.take_in.ensures.steps in
    omega arith

pub members-preserved : goal.members-preserved
members-preserved g c =
    let next = c.in-Some.ensures.found in
    let inside = next.inside in
    let more = next_size c.args.set.now c.members.from c.in-Some.id next in
    let s = c.members.invariant.steps in
    let t = c.in-Some.ensures.steps_found in
    let u = c.take_in.ensures.steps in record {
      within = omega arith;
      gathers = gathering_more c.args.plan.now c.args.reader.now c.args.set.now c.members.from c.in-Some.id c.members.gathering c.take_in.new.gathering c.requires.plan c.requires.ready next c.members.invariant.gathers c.in_ok-take_in.ensures.gathers;
      steps = omega arith;
    }

pub returns-clause-gathers : goal.returns-clause-gathers
returns-clause-gathers g c = gathering_all c.args.plan.now c.args.reader.now c.args.set.now c.members.from c.members.gathering c.members.invariant.within c.in_default.ensures.none c.members.invariant.gathers

pub returns-clause-steps : goal.returns-clause-steps
returns-clause-steps g c =
    let most = size_below c.members.from c.args.set.now in
    let s = c.members.invariant.steps in
    let w = c.members.invariant.within in
    let t = c.in_default.ensures.steps_none in
    omega arith
