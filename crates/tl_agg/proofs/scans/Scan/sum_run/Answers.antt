use Rattle.std.proofs.Common.{◌+◌, ◌<◌, ◌≤◌, ◌^◌, length, rules, sym, subst}
use Rattle.tl_index.specs.Tables.{rows_in}
use Rattle.tl_agg.specs.Scans.{ScanOf, set_after}
use Rattle.tl_agg.specs.Tallies.{count_with}
use Rattle.tl_agg.proofs.TallyLemmas.{few_rows, tally_room}
use Rattle.tl_agg.proofs.scans.Scan.sum_run.Goals as goal

pub count-count-requires-clause-fits : goal.count-count-requires-clause-fits
count-count-requires-clause-fits g c =
    let few = subst (λ (s : ScanOf). length (rows_in s.table) ≤ 16777216) c.self.view_is (few_rows (rows_in c.self.inside.table) c.rows.result c.rows.ensures.number c.rows.ensures.few) in
    let small : c.tally_run-tally.result.kept < 2 ^ 64 = search rules in
    subst (λ n. count_with n c.tally_run-tally.result < 4294967296) (sym c.count.ensures)
    (tally_room c.args.self.now (set_after c.args.self.now.table (c.args.place + length c.args.events.now)) c.args.at c.args.groups.now c.args.groups.now.all.running.count (length c.args.events.now) c.tally_run-tally.result c.requires.run.single few c.tally_run-tally.ensures.tally small c.tally_run-tally.ensures.tracks).0

pub total-requires-clause-wide : goal.total-requires-clause-wide
total-requires-clause-wide g c =
    let few = subst (λ (s : ScanOf). length (rows_in s.table) ≤ 16777216) c.self.view_is (few_rows (rows_in c.self.inside.table) c.rows.result c.rows.ensures.number c.rows.ensures.few) in
    let small : c.tally_run-tally.result.kept < 2 ^ 64 = search rules in
    (tally_room c.args.self.now (set_after c.args.self.now.table (c.args.place + length c.args.events.now)) c.args.at c.args.groups.now c.args.groups.now.all.running.count (length c.args.events.now) c.tally_run-tally.result c.requires.run.single few c.tally_run-tally.ensures.tally small c.tally_run-tally.ensures.tracks).1
