use Rattle.std.proofs.Common.{sym}
use Rattle.tl_keys.proofs.KeyLemmas.{text_apart, text_kept}
use Rattle.tl_keys.proofs.keys.Keys.number_text.Goals as goal

pub returns-clause-apart : goal.returns-clause-apart
returns-clause-apart c = text_apart _ _ _ _ _ c.args.key c.self.view_is c.requires.apart (sym c.in_default.ensures) c.in_ok-insert.ensures.ok

pub returns-clause-kept : goal.returns-clause-kept
returns-clause-kept c = text_kept _ _ _ _ _ c.args.key c.self.view_is c.requires.apart (sym c.in_default.ensures) c.in_ok-insert.ensures.ok
