use Rattle.tl_agg.specs.Scans.{set_after}
use Rattle.tl_agg.proofs.ExtremeLemmas.{extreme_advanced}
use Rattle.tl_agg.proofs.scans.Scan.take_version.Goals as goal

pub take_events-requires-clause-tracks : goal.take_events-requires-clause-tracks
take_events-requires-clause-tracks g c =
    let made = extreme_advanced c.args.self.now (set_after c.args.self.now.table c.args.from) c.args.at c.args.extremes.now c.advance.new.self c.requires.scan c.in_ok-advance.ensures c.requires.tracks in
    record { tracks = made.0; since = made.1 }
