use Rattle.std.proofs.Common.{rules, ◌≡◌, ◌∷◌, Err, arith}
use Rattle.csv.specs.Records.{fields_of}
use Rattle.tl_csv.specs.Block.{line_of}
use Rattle.tl_csv.specs.BlockRecords.{block_left}
use Rattle.tl_csv.proofs.FaultLemmas.{line_fault, then_step}
use Rattle.tl_csv.proofs.SeparatorLemmas.{kept_on}
use Rattle.tl_csv.proofs.batches.lines_of.Goals as goal

pub records-preserved : goal.records-preserved
records-preserved c =
    let found : block_left c.records.records ≡ fields_of c.next.new.row ∷ block_left c.next.new.self = search rules in
    let step = then_step (line_of c.args.limits.now c.args.layout.now) c.records.lines.rows.items c.push_line.new.lines.rows.items (fields_of c.next.new.row) (block_left c.records.records) (block_left c.next.new.self) _ found c.in_ok-push_line.ensures.line c.records.invariant.rows in
    record {
      rows = step.0;
      few = (let n = step.1 in let m = c.in_ok-push_line.ensures.within in omega (arith, n, m));
      kept = kept_on c.args.records.now c.records.records c.next.new.self c.records.invariant.kept (search rules);
    }

pub returns-in_err-push_line-clause-lines : goal.returns-in_err-push_line-clause-lines
returns-in_err-push_line-clause-lines c =
    let found : block_left c.records.records ≡ fields_of c.next.new.row ∷ block_left c.next.new.self = search rules in
    let same : c.from_residual-in_err-push_line.result ≡ Err c.in_err-push_line.field-0.0 = search rules in
    rw same (line_fault (line_of c.args.limits.now c.args.layout.now) c.records.lines.rows.items (fields_of c.next.new.row) (block_left c.records.records) (block_left c.next.new.self) _ c.in_err-push_line.field-0.0 found c.in_err-push_line.ensures.line c.records.invariant.rows)
