use Rattle.std.proofs.Common.{◌≡◌, ◌≤◌, length, rules, arith, Ok}
use Rattle.csv.specs.Records.{fields_of}
use Rattle.tl_csv.specs.Faults.{each_from}
use Rattle.tl_csv.specs.Header.{kind_at, period_at, place_at}
use Rattle.tl_csv.proofs.LayoutLemmas.{few_places, is_layout}
use Rattle.tl_csv.proofs.headers.layout_of.Goals as goal

pub period_at-requires : goal.period_at-requires
period_at-requires c =
    let placed : each_from (place_at (fields_of c.args.header.now)) 0 c.columns_of.result.now ≡ Ok c.in_ok-columns.columns = search rules in
    let few : length c.in_ok-columns.columns ≤ 16 = few_places (fields_of c.args.header.now) c.columns_of.result.now c.in_ok-columns.columns c.columns_of.ensures.few placed in
    omega (arith, c.len.ensures.number, few)

pub new-requires : goal.new-requires
new-requires c =
    let known : each_from (kind_at c.args.schema.now c.args.kind (fields_of c.args.header.now)) 0 (fields_of c.args.header.now) ≡ Ok c.in_ok-kinds.kinds = search rules in
    let placed : each_from (place_at (fields_of c.args.header.now)) 0 c.columns_of.result.now ≡ Ok c.in_ok-columns.columns = search rules in
    let timed : period_at (fields_of c.args.header.now) (length c.in_ok-columns.columns) c.args.schema.now.valid ≡ Ok c.in_ok-period.period = search rules in
    is_layout (fields_of c.args.header.now) (kind_at c.args.schema.now c.args.kind (fields_of c.args.header.now)) c.columns_of.result.now c.args.schema.now.valid c.in_ok-kinds.kinds c.in_ok-columns.columns c.in_ok-period.period c.columns_of.ensures.some c.columns_of.ensures.few c.columns_of.ensures.distinct known placed timed
