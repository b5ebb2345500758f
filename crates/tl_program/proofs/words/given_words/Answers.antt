use Rattle.std.proofs.Common.{◌≡◌, List, ℕ, slice_get, IfSome, subst}
use Rattle.std.specs.declared.option.Option.{Option}
use Rattle.tl_program.proofs.WordLemmas.{word_more}
use Rattle.tl_program.proofs.words.given_words.Goals as goal

pub loop-number-preserved : goal.loop-number-preserved
loop-number-preserved g c =
    let told = g.W.Words.words c.args.words.now in
    word_more told c.loop-number.number c.loop-number.all.items c.push.new.self.items c.in-Some.word c.loop-number.invariant
    (subst (λ (o : Option (List ℕ)). IfSome told (λ given. slice_get given c.loop-number.number ≡ o)) c.in-Some.is c.in_ok-word.ensures) c.in_ok-push.ensures.items
