use Rattle.tl_core.proofs.KeptLemmas.{appended_is_kept}
use Rattle.tl_core.proofs.worlds.World.append.Goals as goal

pub invariant_of-self-2 : goal.invariant_of-self-2
invariant_of-self-2 c =
    appended_is_kept c.self.inside.entries c.push.new.self c.self.inside.passes.items c.self.inside.store c.self.inside.broken c.is_break-broken.result c.args.self.now c.args.entry c.self.invariant c.self.view_is c.requires.may c.requires.other c.is_break-broken.ensures c.in_ok-push.ensures.ok

pub returns-clause-legal : goal.returns-clause-legal
returns-clause-legal c =
    (appended_is_kept c.self.inside.entries c.push.new.self c.self.inside.passes.items c.self.inside.store c.self.inside.broken c.is_break-broken.result c.args.self.now c.args.entry c.self.invariant c.self.view_is c.requires.may c.requires.other c.is_break-broken.ensures c.in_ok-push.ensures.ok).legal
