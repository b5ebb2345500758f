use Rattle.tl_core.proofs.KeptLemmas.{published_is_kept}
use Rattle.tl_core.proofs.worlds.World.publish.Goals as goal

pub invariant_of-self-2 : goal.invariant_of-self-2
invariant_of-self-2 c =
    published_is_kept c.self.inside.entries c.push.new.self c.self.inside.passes.items c.self.inside.store c.in_ok-store.store c.self.inside.broken c.args.self.now c.args.commit c.self.invariant c.self.view_is c.requires c.in_ok-store.ensures c.in_ok-push.ensures.ok

pub returns-clause-legal : goal.returns-clause-legal
returns-clause-legal c =
    (published_is_kept c.self.inside.entries c.push.new.self c.self.inside.passes.items c.self.inside.store c.in_ok-store.store c.self.inside.broken c.args.self.now c.args.commit c.self.invariant c.self.view_is c.requires c.in_ok-store.ensures c.in_ok-push.ensures.ok).legal
