use Rattle.std.proofs.Common.{◌≡◌, ◌-◌, ◌∙◌, Some, ap, sym, arith, length, rules, w64, SFits}
use Rattle.std.proofs.lemmas.Int.{to_z-of_z}
use Rattle.tl_store.proofs.StampLemmas.{last_none, last_shown, read_stamp}
use Rattle.tl_store.proofs.stamps.Stamps.last_moment.Goals as goal

pub returns-then-count-eq0 : goal.returns-then-count-eq0
returns-then-count-eq0 c =
    let long : length c.self.inside.list ≡ length c.args.self.now = ap length c.self.view_is in
    sym (last_none c.args.self.now (omega (arith, c.len-count.ensures, long)))

pub returns : goal.returns
returns c =
    let long : length c.self.inside.list ≡ length c.args.self.now = ap length c.self.view_is in
    let here = read_stamp c.self.inside.list c.args.self.now (c.len-count.result - 1) c.at.result.now c.self.view_is (omega (arith, c.len-count.ensures, long)) c.at.ensures in
    let fits : SFits w64 c.moment.result = search rules in
    ap Some (to_z-of_z w64 c.moment.result fits ∙ c.moment.ensures) ∙ sym (last_shown c.args.self.now (c.len-count.result - 1) c.at.result.now here (omega (arith, c.len-count.ensures, long)))
