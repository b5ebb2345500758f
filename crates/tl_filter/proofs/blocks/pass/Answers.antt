use Rattle.std.proofs.Common.{◌≡◌, length, map, arith, subst}
use Rattle.std.specs.List.{list_any}
use Rattle.tl_query.specs.Passing.{passes_all}
use Rattle.tl_filter.specs.Words.{AreNarrowed}
use Rattle.std.proofs.lemmas.Bool.Decides.{nat_tests}
use Rattle.tl_types.specs.History.{database_of, rows_of}
use Rattle.tl_filter.proofs.SelectLemmas.{all_pass, some_pass}
use Rattle.tl_filter.proofs.blocks.pass.Goals as goal

pub returns-then-is_empty-clause-bits : goal.returns-then-is_empty-clause-bits
returns-then-is_empty-clause-bits g c =
    let e : length c.args.pred.now.any ≡ 0 = let f = c.is_empty.ensures in let h = c.if-is_empty.true in grind (arith, nat_tests) in
    all_pass c.args.pred.now (rows_of (database_of c.args.store.now) c.args.block.table) c.args.block.first c.args.base.now c.args.done.now c.join.new.words
    e c.requires.none c.requires.long c.join.ensures c.requires.inside

pub returns-else-is_empty-clause-bits : goal.returns-else-is_empty-clause-bits
returns-else-is_empty-clause-bits g c =
    some_pass c.args.pred.now (rows_of (database_of c.args.store.now) c.args.block.table) c.args.block.first c.args.base.now c.pass_lists.new.done
    (λ e. let f = c.is_empty.ensures in let h = c.if-is_empty.false in grind (arith, nat_tests))
    (subst (λ ls. AreNarrowed (map (λ r. list_any (passes_all r) ls) (rows_of (database_of c.args.store.now) c.args.block.table)) c.args.block.first c.args.base.now c.pass_lists.new.done)
    c.as_slice.ensures c.pass_lists.ensures.bits)
