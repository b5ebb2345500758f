use Rattle.std.proofs.Common.{◌≡◌, ◌-◌, ◌≤◌, vec_len}
use Rattle.tl_query.specs.declared.terminals.Terminal.TheVariants as terminals
use Rattle.tl_query.specs.Reading.{columns_at, column_at, up_to, before}
use Rattle.tl_query.proofs.grammar.columns_at.Given as goal

abbrev pub invariant-loop-rest : goal.invariant-loop-rest
invariant-loop-rest l = record {
  some : 1 ≤ vec_len l.columns;
  few : vec_len l.columns ≤ 16;
  read : columns_at l.tokens ≡ before l.columns.items (up_to terminals.Comma column_at (16 - vec_len l.columns) l.rest);
}

abbrev pub decreases-loop-rest : goal.decreases-loop-rest
decreases-loop-rest l = 16 - vec_len l.columns
