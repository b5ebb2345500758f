use Rattle.std.proofs.Common.{ap, ◌∙◌, w64}
use Rattle.std.proofs.lemmas.Int.{to_z-of_z}
use Rattle.tl_keys.specs.Keys.{KeyNumbers, int_number}
use Rattle.tl_keys.proofs.KeyLemmas.{int_apart}
use Rattle.tl_keys.proofs.keys.Keys.give_int.Goals as goal

pub returns-clause-apart : goal.returns-clause-apart
returns-clause-apart c = int_apart _ _ _ _ _ c.args.key c.self.view_is c.requires.apart (ap (λ (k : KeyNumbers). int_number k.ints c.args.key) c.self.view_is ∙ c.requires.none) (rw (to_z-of_z w64 c.args.key c.ranges.key) at c.in_ok-insert.ensures.ok)
