use Rattle.tl_agg.specs.Scans.{set_after}
use Rattle.tl_agg.proofs.StepLemmas.{all_advanced}
use Rattle.tl_agg.proofs.scans.Scan.run_all.Goals as goal

pub count_run-count-requires-clause-run : goal.count_run-count-requires-clause-run
count_run-count-requires-clause-run g c =
    let made = all_advanced c.args.self.now c.args.at (set_after c.args.self.now.table c.args.place) c.args.groups.now c.advance.new.self c.requires.single c.in_ok-advance.ensures c.requires.run.tracks in
    record { single = c.requires.single; are = c.requires.run.are; tracks = made.0; since = made.1 }

pub sum_run-requires-clause-run : goal.sum_run-requires-clause-run
sum_run-requires-clause-run g c =
    let made = all_advanced c.args.self.now c.args.at (set_after c.args.self.now.table c.args.place) c.args.groups.now c.advance.new.self c.requires.single c.in_ok-advance.ensures c.requires.run.tracks in
    record { single = c.requires.single; are = c.requires.run.are; tracks = made.0; since = made.1 }
