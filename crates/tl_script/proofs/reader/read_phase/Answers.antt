use Rattle.std.proofs.Common.{ap}
use Rattle.tl_script.proofs.BetweenLemmas.{between_named, named_at, grows_at}
use Rattle.tl_script.proofs.reader.read_phase.Goals as goal

pub returns-in-Ok-true-clause-named : goal.returns-in-Ok-true-clause-named
returns-in-Ok-true-clause-named g c =
    let named = c.in-Ok-true.ensures.named (between_named c.args.phase.now c.requires.between) in
    named_at _ c.count_go.new.self.jobs.items _ c.count_go.new.self.names (ap (λ v. v.items) c.count_go.ensures.jobs) c.count_go.ensures.names named.jobs

pub returns-in-Ok-clause-named : goal.returns-in-Ok-clause-named
returns-in-Ok-clause-named g c = c.in-Ok.ensures.named (c.in-Ok-false.ensures.named (between_named c.args.phase.now c.requires.between))

pub returns-in-Ok-clause-grown : goal.returns-in-Ok-clause-grown
returns-in-Ok-clause-grown g c =
    grows_at _ _ _ c.in-Ok-false.ensures.before (c.in-Ok.ensures.grown (c.in-Ok-false.ensures.named (between_named c.args.phase.now c.requires.between)))
