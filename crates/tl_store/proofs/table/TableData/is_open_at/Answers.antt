use Rattle.std.proofs.Common.{ap, sym, ◌∙◌, arith, ltb, ◌≡◌, false}
use Rattle.std.proofs.lemmas.Bool.Decides.{nat_tests}
use Rattle.tl_types.specs.History.{is_open_at}
use Rattle.tl_store.specs.Kept.{Kept}
use Rattle.tl_store.proofs.RowLemmas.{open_in, open_past}
use Rattle.tl_store.proofs.table.TableData.is_open_at.Goals as goal

pub returns-then-id-len : goal.returns-then-id-len
returns-then-id-len c =
    let t = c.self.inside in
    sym (open_in t.columns.items t.periods 0 t.from t.to c.args.id c.at.result.now c.self.invariant.even (omega arith) c.at.ensures)
    ∙ ap (λ (k : Kept). is_open_at k.rows c.args.id) c.self.view_is

pub returns-else-id-len : goal.returns-else-id-len
returns-else-id-len c =
    let t = c.self.inside in
    let past = open_past t.columns.items t.periods 0 t.from t.to c.args.id c.self.invariant.even (omega arith) in
    let none : ltb c.args.id c.len.result ≡ false = grind (arith, nat_tests) in
    none ∙ sym past ∙ ap (λ (k : Kept). is_open_at k.rows c.args.id) c.self.view_is
