use Rattle.std.proofs.Common.{length, ap, ◌∙◌, arith}
use Rattle.std.proofs.lemmas.List.{length-map}
use Rattle.tl_types.specs.Entries.{commits_of}
use Rattle.tl_types.specs.History.{database_of, rows_of, is_visible}
use Rattle.tl_exec.proofs.PieceLemmas.{both_are}
use Rattle.tl_exec.proofs.aggregates.start_set.Goals as goal

pub meet-requires-clause-few : goal.meet-requires-clause-few
meet-requires-clause-few g c =
    let rows = rows_of (database_of (commits_of c.args.snapshot.now)) c.args.table in
    let e = ap length c.in_ok-set.ensures.set ∙ length-map rows (is_visible c.args.version) in
    let k = c.requires.keep in
    let few = c.requires.few in
    omega arith

pub returns-clause-set : goal.returns-clause-set
returns-clause-set g c =
    let rows = rows_of (database_of (commits_of c.args.snapshot.now)) c.args.table in
    both_are (is_visible c.args.version) rows c.args.keep.now c.in_ok-set.set c.meet.new.set c.in_ok-set.ensures.set c.requires.keep c.meet.ensures.rows c.meet.ensures.members
