use Rattle.std.proofs.Common.{◌≡◌, ◌≤◌, length, ◌∙◌, sym, ap, Ok, [], ◌∷◌, ◌++◌, append-nil, arith}
use Rattle.std.proofs.lemmas.Grind.{common_steps}
use Rattle.std.proofs.lemmas.Result.{err_from_is_err_and}
use Rattle.tl_types.specs.declared.keywords.Keyword.TheVariants as words
use Rattle.tl_query.specs.declared.terminals.Terminal.TheVariants as terminals
use Rattle.tl_query.specs.Reading.{several, conj_at}
use Rattle.tl_query.proofs.Parts.{conj_shrinks}
use Rattle.tl_query.proofs.Lists.{shrunk}
use Rattle.tl_query.proofs.Readers.{fails_through, further_turn, further_fails, further_ends, several_first, several_fails}
use Rattle.tl_query.proofs.clauses.any_at.Goals as goal

pub returns-in_err-first : goal.returns-in_err-first
returns-in_err-first c = let p = err_from_is_err_and c.from_residual.result c.from_residual.ensures.1 in rw (p.1, p.2) (fails_through _ _ c.in_err-first.field-0.0 (conj_at c.args.tokens.now) (several (terminals.Keyword words.Or) conj_at c.args.tokens.now) (λ o h. several_fails (terminals.Keyword words.Or) conj_at _ o h) c.in_err-first.ensures)

pub returns-in_err-tests : goal.returns-in_err-tests
returns-in_err-tests c = let p = err_from_is_err_and c.from_residual-in_err-tests.result c.from_residual-in_err-tests.ensures.1 in rw (p.1, p.2) (fails_through _ _ c.in_err-tests.field-0.0 (conj_at c.in-Some.next.now) (several (terminals.Keyword words.Or) conj_at c.args.tokens.now) (λ o h. c.loop-next.invariant ∙ further_fails (terminals.Keyword words.Or) conj_at conj_shrinks c.loop-next.any.items c.loop-next.rest.now c.in-Some.next.now o c.in-Some.ensures.value h) c.in_err-tests.ensures)

pub loop-next-init : goal.loop-next-init
loop-next-init c = let e : c.push.new.self.items ≡ c.in_ok-first.first ∷ [] = grind (arith, common_steps) in rw e (several_first (terminals.Keyword words.Or) conj_at c.args.tokens.now c.in_ok-first.rest.now c.in_ok-first.first c.in_ok-first.ensures)

pub loop-next-preserved : goal.loop-next-preserved
loop-next-preserved c = let e : c.push-in-Some.new.self.items ≡ c.loop-next.any.items ++ (c.in_ok-tests.tests ∷ []) = grind (arith, common_steps) in rw e (c.loop-next.invariant ∙ further_turn (terminals.Keyword words.Or) conj_at conj_shrinks c.loop-next.any.items c.loop-next.rest.now c.in-Some.next.now c.in_ok-tests.left.now c.in_ok-tests.tests c.in-Some.ensures.value c.in_ok-tests.ensures)

pub returns : goal.returns
returns c = c.loop-next.invariant ∙ further_ends (terminals.Keyword words.Or) conj_at conj_shrinks c.loop-next.any.items c.loop-next.rest.now c.in_default.ensures.value ∙ ap (λ xs. Ok (xs, c.loop-next.rest.now)) (append-nil _ ∙ sym c.from_vec.ensures)

pub loop-next-smaller : goal.loop-next-smaller
loop-next-smaller c =
    let few : length c.in_ok-tests.left.now ≤ length c.in-Some.next.now = shrunk conj_at conj_shrinks c.in-Some.next.now c.in_ok-tests.left.now c.in_ok-tests.tests c.in_ok-tests.ensures in
    omega (arith, c.in-Some.ensures.shorter)
