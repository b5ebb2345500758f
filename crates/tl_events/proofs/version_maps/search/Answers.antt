use Rattle.std.proofs.Common.{◌≡◌, ◌+◌, ◌-◌, ◌/◌, refl, arith, length}
use Rattle.std.specs.Prelude.{slice_get, Some}
use Rattle.std.proofs.lemmas.Option.{slice_get_read}
use Rattle.tl_events.proofs.SearchLemmas.{half_digits, front_more, back_more, end_so_far, end_when_split}
use Rattle.tl_events.proofs.version_maps.search.Goals as goal

pub halving-preserved-then-entry-version : goal.halving-preserved-then-entry-version
halving-preserved-then-entry-version g c =
    let entries = c.args.entries.now in
    let middle = c.halving.low + (c.halving.high - c.halving.low) / 2 in
    let is : slice_get entries middle ≡ Some c.at-entry.result.now = slice_get_read entries (length entries) middle c.at-entry.result.now refl (omega arith) c.at-entry.ensures.item in
    let fewer = half_digits (c.halving.high - (middle + 1)) (c.halving.high - c.halving.low) (omega arith) (omega arith) in
    let tick = c.at-entry.ensures.steps in record {
      ordered = omega arith;
      within = c.halving.invariant.within;
      front = front_more entries c.args.version middle c.at-entry.result.now c.requires is c.if-entry-version.true;
      back = c.halving.invariant.back;
      end = end_so_far entries c.args.version middle c.at-entry.result.now is c.if-entry-version.true;
      steps = omega arith;
    }

pub halving-preserved : goal.halving-preserved
halving-preserved g c =
    let entries = c.args.entries.now in
    let middle = c.halving.low + (c.halving.high - c.halving.low) / 2 in
    let is : slice_get entries middle ≡ Some c.at-entry.result.now = slice_get_read entries (length entries) middle c.at-entry.result.now refl (omega arith) c.at-entry.ensures.item in
    let fewer = half_digits (middle - c.halving.low) (c.halving.high - c.halving.low) (omega arith) (omega arith) in
    let tick = c.at-entry.ensures.steps in record {
      ordered = omega arith;
      within = omega arith;
      front = c.halving.invariant.front;
      back = back_more entries c.args.version middle c.at-entry.result.now c.requires is c.if-entry-version.false;
      end = c.halving.invariant.end;
      steps = omega arith;
    }

pub returns-clause-end : goal.returns-clause-end
returns-clause-end g c =
    let ordered = c.halving.invariant.ordered in
    let within = c.halving.invariant.within in
    end_when_split c.args.entries.now c.args.version c.halving.low c.halving.end (record {
      within = omega arith;
      front = c.halving.invariant.front;
      back = λ i entry high here. c.halving.invariant.back i entry (omega arith) here;
    }) c.halving.invariant.end
