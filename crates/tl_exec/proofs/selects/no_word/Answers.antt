use Rattle.std.proofs.Common.{refl}
use Rattle.tl_types.specs.History.{database_of}
use Rattle.tl_exec.proofs.ShownLemmas.{none_tells}
use Rattle.tl_exec.proofs.selects.no_word.Goals as goal

pub returns : goal.returns
returns c = none_tells (database_of c.args.asked.store.now) c.args.asked.table c.args.asked.valid_at 4294967295 0 c.requires refl
