use Rattle.std.proofs.Common.{◌≡◌, ℕ, ◌+◌, List, length, drop, ap, ◌∙◌, arith}
use Rattle.tl_record.specs.Spelling.{spelling}
use Rattle.tl_journal.proofs.found.FoundCommits.record_behind.Goals as goal

next_place : (at next : ℕ) (r : List ℕ) → next ≡ at + (1 + length r) → next ≡ at + 1 + length r
next_place at next r is = omega (arith, is)

pub returns : goal.returns
returns g c = rw (← c.self.view_is) (λ commit has.
    c.bytes_between.ensures (spelling commit) (drop c.self.inside.at c.self.inside.image.items)
    (ap (λ l. drop (c.args.at + 1) l) c.deref.ensures.value ∙ has.behind)
    (next_place c.args.at c.self.inside.at (spelling commit) has.next_is))
