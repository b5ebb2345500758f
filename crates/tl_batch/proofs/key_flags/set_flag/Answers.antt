use Rattle.tl_batch.proofs.FlagLemmas.{flag_here, flag_kept}
use Rattle.tl_batch.proofs.key_flags.set_flag.Goals as goal

pub returns-clause-here : goal.returns-clause-here
returns-clause-here c = flag_here c.args.flags.now c.args.number c.requires

pub returns-clause-kept : goal.returns-clause-kept
returns-clause-kept c = λ n. flag_kept c.args.flags.now c.args.number n c.requires
