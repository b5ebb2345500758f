use Rattle.std.proofs.Common.{◌≡◌, Some, refl, rules, w64, SFits, subst, sym, ap, ◌∙◌}
use Rattle.std.proofs.lemmas.Int.{to_z-of_z}
use Rattle.tl_bits.specs.Sets.{is_member}
use Rattle.tl_agg.specs.Scans.{ScanOf}
use Rattle.tl_index.specs.Tables.{rows_in}
use Rattle.tl_agg.specs.Tallies.{tally_moved}
use Rattle.tl_agg.proofs.NumberLemmas.{column_tells}
use Rattle.tl_agg.proofs.TallyLemmas.{tallies_kept}
use Rattle.tl_agg.proofs.scans.Scan.tally_event.Goals as goal

pub returns-then-is_kept-clause-tallies : goal.returns-then-is_kept-clause-tallies
returns-then-is_kept-clause-tallies g c =
    let fits : SFits w64 c.at-number.result = search rules in
    let whole = to_z-of_z w64 c.at-number.result fits in
    let keep = ap (λ (s : ScanOf). is_member s.keep c.args.event.row) c.self.view_is in
    let s = c.args.self.now in
    tallies_kept (is_member c.args.self.now.keep c.args.event.row) s c.args.event c.args.tally c.moved.result (sym keep ∙ sym c.test-is_kept.ensures.member ∙ c.if-is_kept.true) (record {
      number = c.at-number.result;
      told = column_tells s.plan.kind (rows_in s.table) c.args.event.row s.plan.column (Some c.args.cells.now) c.args.cells.now c.at-number.result c.requires.cells refl c.at-number.ensures.value;
      short = search rules;
      moved = subst (λ n. c.moved.result ≡ tally_moved c.args.event.opens n c.args.tally) whole c.moved.ensures;
    })
