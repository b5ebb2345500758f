use Rattle.std.proofs.Common.{◌≡◌, ◌++◌, ◌∙◌, arith}
use Rattle.tl_csv.specs.Sample.{id_of, line_text, value_of}
use Rattle.tl_csv.proofs.SampleLemmas.{one_line}
use Rattle.tl_csv.proofs.samples.put_lines.Goals as goal

pub lines-preserved : goal.lines-preserved
lines-preserved c =
    let next = c.next-value.ensures in
    let draw = c.lines.draw in
    let put : c.put_line.new.out.items ≡ c.lines.out.items ++ line_text (id_of draw.count) (value_of draw.start draw.count) = rw (c.id_of-id.ensures, next.value) at c.in_ok-put_line.ensures in
    record {
      lines = rw (next.start, next.count) (one_line draw.start draw.count c.args.to c.lines.out.items c.put_line.new.out.items _ c.lines-test.true put c.lines.invariant.lines);
      within = omega (arith, next.count, c.lines-test.true);
      start = next.start ∙ c.lines.invariant.start;
    }
