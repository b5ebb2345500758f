use Rattle.std.proofs.Common.{◌≡◌, ◌∙◌, sym, ap, suc, ◌+◌, ◌-◌, Ok, [], ◌∷◌, ◌++◌, append-nil, arith, vec_len}
use Rattle.std.proofs.lemmas.Grind.{common_steps}
use Rattle.std.proofs.lemmas.Result.{err_from_is_err_and}
use Rattle.tl_query.specs.declared.terminals.Terminal.TheVariants as terminals
use Rattle.tl_query.specs.Reading.{columns_at, column_at}
use Rattle.tl_query.proofs.Readers.{fails_through, room_turn, room_fails, room_ends, room_full}
use Rattle.tl_query.proofs.grammar.columns_at.Goals as goal
use Rattle.tl_query.proofs.grammar.columns_at.Goals.{else-loop-rest-test, then-loop-rest-test+in_default}

pub returns-in_err-column : goal.returns-in_err-column
returns-in_err-column c =
    let p = err_from_is_err_and c.from_residual-in_err-column.result c.from_residual-in_err-column.ensures.1 in
    let room : 16 - vec_len c.loop-rest.columns ≡ suc (15 - vec_len c.loop-rest.columns) = omega arith in
    rw (p.1, p.2) (fails_through _ _ c.in_err-column.field-0.0 (column_at c.in-Some.next.now) (columns_at c.args.tokens.now)
    (λ o h. c.loop-rest.invariant.read ∙ room_fails terminals.Comma column_at c.loop-rest.columns.items (16 - vec_len c.loop-rest.columns) (15 - vec_len c.loop-rest.columns) c.loop-rest.rest.now c.in-Some.next.now o room c.in-Some.ensures.value h) c.in_err-column.ensures)

pub loop-rest-preserved : goal.loop-rest-preserved
loop-rest-preserved c =
    let e : c.push-in-loop-rest.new.self.items ≡ c.loop-rest.columns.items ++ (c.in_ok-column.column ∷ []) = grind (arith, common_steps) in
    let n : vec_len c.push-in-loop-rest.new.self ≡ vec_len c.loop-rest.columns + 1 = grind (arith, common_steps) in
    let room : 16 - vec_len c.loop-rest.columns ≡ suc (16 - vec_len c.push-in-loop-rest.new.self) = omega arith in
    record {
      some = omega arith;
      few = omega arith;
      read = rw e (c.loop-rest.invariant.read ∙ room_turn terminals.Comma column_at c.loop-rest.columns.items (16 - vec_len c.loop-rest.columns) (16 - vec_len c.push-in-loop-rest.new.self) c.loop-rest.rest.now c.in-Some.next.now c.in_ok-column.left.now c.in_ok-column.column room c.in-Some.ensures.value c.in_ok-column.ensures);
    }

pub returns : goal.returns
returns c = elim c.loop-rest-test.branch [
  | else-loop-rest-test w ↦ c.loop-rest.invariant.read ∙ room_full terminals.Comma column_at c.loop-rest.columns.items (16 - vec_len c.loop-rest.columns) c.loop-rest.rest.now (omega arith) ∙ ap (λ xs. Ok (xs, c.loop-rest.rest.now)) (append-nil c.loop-rest.columns.items ∙ sym c.from_vec.ensures)
  | then-loop-rest-test+in_default w ↦ c.loop-rest.invariant.read ∙ room_ends terminals.Comma column_at c.loop-rest.columns.items (16 - vec_len c.loop-rest.columns) c.loop-rest.rest.now w.in_default.ensures.value ∙ ap (λ xs. Ok (xs, c.loop-rest.rest.now)) (append-nil c.loop-rest.columns.items ∙ sym c.from_vec.ensures)
]
