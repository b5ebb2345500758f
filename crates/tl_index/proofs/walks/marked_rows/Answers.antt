use Rattle.std.proofs.Common.{◌≡◌, ◌-◌, ◌++◌, Bool, false, List, length, replicate, arith}
use Rattle.std.proofs.lemmas.Result.{IfOk-weaker}
use Rattle.tl_types.specs.Walks.{standing}
use Rattle.tl_index.specs.Tables.{rows_in}
use Rattle.tl_index.proofs.WalkLemmas.{says, mark_grown}
use Rattle.tl_index.proofs.walks.marked_rows.Goals as goal

pub grown-requires : goal.grown-requires
grown-requires c =
    let few = (says c.args.table.now.db c.args.mark.now c.args.table.now.number c.rows-2.ensures.there c.requires).begun in
    omega (arith, few)

pub returns-clause-place : goal.returns-clause-place
returns-clause-place c = (says c.args.table.now.db c.args.mark.now c.args.table.now.number c.rows-2.ensures.there c.requires).place

pub returns-clause-set : goal.returns-clause-set
returns-clause-set c =
    let told = says c.args.table.now.db c.args.mark.now c.args.table.now.number c.rows-2.ensures.there c.requires in
    let set = c.rows.result.now in
    IfOk-weaker c.grown.result (λ (g : List Bool). g ≡ set ++ replicate (c.rows-2.result - length set) false) (λ (g : List Bool). g ≡ standing (rows_in c.args.table.now) c.args.mark.now.version)
    (λ g is. mark_grown set g (rows_in c.args.table.now) c.rows-2.result c.args.mark.now told c.rows-2.ensures.number c.rows.ensures.ids c.rows.ensures.begun is) c.grown.ensures
