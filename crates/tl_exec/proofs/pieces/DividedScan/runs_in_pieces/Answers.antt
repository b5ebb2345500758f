use Rattle.std.proofs.Common.{ap, subst}
use Rattle.tl_running.specs.Standing.{Suits}
use Rattle.tl_exec.specs.Pieces.{DividedScanOf}
use Rattle.tl_types.specs.Entries.{commits_of}
use Rattle.tl_types.specs.History.{database_of, rows_of}
use Rattle.tl_range.specs.Dividing.{Follow}
use Rattle.tl_exec.proofs.PieceLemmas.{ends_within, if_ok_put}
use Rattle.tl_exec.proofs.pieces.DividedScan.runs_in_pieces.Goals as goal

pub returns : goal.returns
returns g c =
    let scan = c.args.self.now in
    let rows = rows_of (database_of (commits_of scan.entries)) scan.plan.table in
    let suits : Suits scan.plan.kind scan.plan.column rows = subst (λ (s : DividedScanOf). Suits s.plan.kind s.plan.column (rows_of (database_of (commits_of s.entries)) s.plan.table)) c.self.view_is c.self.invariant.suits in
    let cover : Follow c.args.from scan.to c.in_ok-divided.divided = subst (λ to. Follow c.args.from to c.in_ok-divided.divided) (ap (λ s. s.to) c.self.view_is) c.in_ok-divided.ensures.cover in
    if_ok_put c.in_ok-parts.parts c.put_together.result scan.plan rows scan.keep c.args.from scan.to c.in_ok-divided.divided suits cover
    (record {
      many = c.in_ok-parts.ensures.len;
      each = λ i piece part there is. c.in_ok-parts.ensures.each i piece part there is (ends_within c.args.from scan.to c.in_ok-divided.divided i piece cover there).1;
    })
    c.put_together.ensures
