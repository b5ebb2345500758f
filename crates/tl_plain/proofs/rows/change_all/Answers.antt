use Rattle.std.proofs.Common.{arith}
use Rattle.std.proofs.lemmas.Grind.{common_steps}
use Rattle.tl_plain.proofs.Ending.{change_is}
use Rattle.tl_plain.proofs.rows.change_all.Goals as goal

pub end_all-requires : goal.end_all-requires
end_all-requires c = λ k d h.
    let within = c.requires k d in
    grind (arith, common_steps)

pub returns-clause-ok : goal.returns-clause-ok
returns-clause-ok c =
    change_is c.args.version c.closes.result.now c.args.change.now.closes c.args.rows.now.items c.append.new.self.items c.end_all.new.rows.items c.in_ok-opened.opened.items c.args.change.now.opens c.opens.result.now c.end_all.ensures c.in_ok-append.ensures.items c.in_ok-opened.ensures c.opens.ensures.value c.closes.ensures.value c.requires
