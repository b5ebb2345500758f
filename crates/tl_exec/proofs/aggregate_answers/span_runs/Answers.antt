use Rattle.std.proofs.Common.{rules, subst, SFits, w64}
use Rattle.std.proofs.lemmas.Int.{to_z-of_z}
use Rattle.tl_types.specs.Entries.{commits_of}
use Rattle.tl_types.specs.History.{database_of}
use Rattle.tl_exec.specs.Moments.{IsAggFor}
use Rattle.tl_exec.proofs.AggTypedLemmas.{asked_typed, asked_at}
use Rattle.tl_exec.proofs.aggregate_answers.span_runs.Goals as goal

pub range_runs-requires-clause-asked : goal.range_runs-requires-clause-asked
range_runs-requires-clause-asked g c κs within =
    let db = database_of (commits_of c.args.snapshot.now) in
    asked_typed db c.args.asked.plan c.args.asked.pred.now c.in-System.from c.in-System.to
    (subst (IsAggFor db c.args.asked.plan c.args.asked.pred.now) c.in-System.is c.requires.typed)

pub moment_runs-requires : goal.moment_runs-requires
moment_runs-requires g c =
    let db = database_of (commits_of c.args.snapshot.now) in
    let first : SFits w64 c.in-Valid.from = search rules in
    let last : SFits w64 c.in-Valid.to = search rules in
    record {
      asked = rw (to_z-of_z w64 c.in-Valid.from first, to_z-of_z w64 c.in-Valid.to last)
          (asked_at db c.args.asked.plan c.args.asked.pred.now c.in-Valid.version c.in-Valid.from c.in-Valid.to
          (subst (IsAggFor db c.args.asked.plan c.args.asked.pred.now) c.in-Valid.is c.requires.typed));
    }
