use Rattle.std.proofs.Common.{◌≡◌, take, IfSome}
use Rattle.tl_program.proofs.words.given_words.Given as goal

-- the first words are these
abbrev pub invariant-loop-number : goal.invariant-loop-number
invariant-loop-number g l =
    IfSome (g.W.Words.words l.words) (λ given. take l.number given ≡ l.all.items)
