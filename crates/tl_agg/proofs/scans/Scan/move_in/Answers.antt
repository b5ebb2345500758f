use Rattle.std.proofs.Common.{rules, w64, SFits, ap, arith, subst, length}
use Rattle.std.proofs.lemmas.Int.{to_z-of_z}
use Rattle.tl_store.specs.Reading.{cell_shown}
use Rattle.tl_index.specs.Tables.{rows_in}
use Rattle.tl_agg.specs.Scans.{ScanOf, IsScan, HasPlace, MovesAt}
use Rattle.tl_agg.proofs.StepLemmas.{ready_numbered, can_take_in, takes_in}
use Rattle.tl_agg.proofs.scans.Scan.move_in.Goals as goal

pub number-requires-clause-numbered : goal.number-requires-clause-numbered
number-requires-clause-numbered g c = ready_numbered c.args.self.now c.args.by c.args.at c.args.event c.args.groups.now c.requires.by c.requires.ready

pub change_at-requires : goal.change_at-requires
change_at-requires g c =
    let fits : SFits w64 c.number_in-number.result = search rules in
    let whole = to_z-of_z w64 c.number_in-number.result fits in
    let table = ap (λ (s : ScanOf). length (rows_in s.table)) c.self.view_is in
    let n = c.rows.ensures.number in
    let m = c.rows.ensures.few in
    let is = subst IsScan c.self.view_is c.self.invariant.is_scan in
    let has = c.key_in-value.ensures.key in
    let place = subst (λ (s : ScanOf). HasPlace c.args.groups.now c.number.new.self (cell_shown c.key_in-value.result) s.plan.kind s.from c.in_ok-n.n) c.self.view_is c.in_ok-n.ensures in
    rw whole (can_take_in c.args.self.now c.args.by c.args.at c.args.event c.args.groups.now c.number.new.self (cell_shown c.key_in-value.result) c.in_ok-n.n c.requires.by is (omega arith) c.requires.kept has place c.requires.ready c.number_in-number.result c.number_in-number.ensures.number)

pub returns-clause-takes : goal.returns-clause-takes
returns-clause-takes g c =
    let fits : SFits w64 c.number_in-number.result = search rules in
    let whole = to_z-of_z w64 c.number_in-number.result fits in
    let is = subst IsScan c.self.view_is c.self.invariant.is_scan in
    let has = c.key_in-value.ensures.key in
    let place = subst (λ (s : ScanOf). HasPlace c.args.groups.now c.number.new.self (cell_shown c.key_in-value.result) s.plan.kind s.from c.in_ok-n.n) c.self.view_is c.in_ok-n.ensures in
    let moved = subst (λ n. MovesAt c.number.new.self.by c.change_at.new.self.by c.in_ok-n.n c.args.at c.args.event.opens n) whole c.in_ok-change_at.ensures.moves in
    takes_in c.args.self.now c.args.by c.args.at c.args.event c.args.groups.now c.number.new.self c.change_at.new.self (cell_shown c.key_in-value.result) c.in_ok-n.n c.number_in-number.result c.requires.by is c.requires.kept has place c.number_in-number.ensures.number c.number_in-number.ensures.short c.in_ok-change_at.ensures.keys moved
