use Rattle.std.proofs.Common.{◌≡◌, ◌+◌, ◌-◌, length, true, false, ap, ◌∙◌, arith, rules, w64, SFits}
use Rattle.std.proofs.lemmas.Int.{to_z-of_z}
use Rattle.tl_running.specs.Touching.{last_goes_on}
use Rattle.tl_running.proofs.TouchLemmas.{goes_on, begins, ends_some}
use Rattle.tl_running.proofs.touching.add_touching.Goals as goal

pub returns-then-last_goes_on : goal.returns-then-last_goes_on
returns-then-last_goes_on c =
    let fits : SFits w64 c.args.stretch.to = search rules in
    let whole = to_z-of_z w64 c.args.stretch.to fits in
    let same : last_goes_on c.args.runs.now.items c.args.stretch ≡ true = cc (c.last_goes_on.ensures, c.as_slice.ensures.value, c.if-last_goes_on.true) in
    let len = c.len-last.ensures in
    let value = c.index_mut.ensures.value in
    let some = ends_some c.args.runs.now.items c.args.stretch same in
    let long = ap length c.as_slice.ensures.value in
    let last : c.len-last.result - 1 + 1 ≡ length c.args.runs.now.items = omega (arith, c.as_slice.ensures.len) in
    rw whole (goes_on c.args.runs.now.items c.args.stretch c.index_mut.result.now (c.len-last.result - 1) same last value)

pub returns-in_ok-push : goal.returns-in_ok-push
returns-in_ok-push c =
    let other : last_goes_on c.args.runs.now.items c.args.stretch ≡ false = cc (c.last_goes_on.ensures, c.as_slice.ensures.value, c.if-last_goes_on.false) in
    c.in_ok-push.ensures.items ∙ begins c.args.runs.now.items c.args.stretch other
