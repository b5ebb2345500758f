use Rattle.std.proofs.Common.{◌≡◌, length, ap, ◌∙◌}
use Rattle.tl_core.specs.World.{World}
use Rattle.tl_core.proofs.KeptLemmas.{begin_is}
use Rattle.tl_core.proofs.worlds.World.begin.Goals as goal

pub returns-clause-value : goal.returns-clause-value
returns-clause-value c =
    let seen : c.len-seen.result ≡ length c.args.self.now.entries = c.len-seen.ensures.number ∙ ap (λ (w : World). length w.entries) c.self.view_is in
    begin_is c.args.self.now c.put_pass.new.self c.args.pass c.len-seen.result c.args.table c.requires.pass seen c.put_pass.ensures
