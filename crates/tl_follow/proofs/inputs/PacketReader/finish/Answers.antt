use Rattle.tl_types.specs.Entries.{commits_of}
use Rattle.tl_follow.proofs.ReaderLemmas.{cut_input, follows_whole, stuck_whole}
use Rattle.tl_follow.proofs.inputs.PacketReader.finish.Goals as goal

pub returns-clause-ok : goal.returns-clause-ok
returns-clause-ok c = λ limits start bytes h.
    follows_whole c.follow.result limits (commits_of start) start bytes c.args.self h c.requires.short c.if-self.false (c.follow.ensures.ok limits start h.packets h.taken)

pub returns-clause-next : goal.returns-clause-next
returns-clause-next c = λ limits start bytes h. c.follow.ensures.next limits start h.packets h.taken

pub returns-clause-bad : goal.returns-clause-bad
returns-clause-bad c = λ limits start bytes h.
    stuck_whole c.follow.result limits (commits_of start) start bytes c.args.self h c.requires.short c.if-self.false (c.follow.ensures.stuck limits start h.packets h.taken)

pub returns-then-self-clause-bad : goal.returns-then-self-clause-bad
returns-then-self-clause-bad c = λ limits start bytes h. cut_input limits (commits_of start) start bytes c.args.self h c.requires.short c.if-self.true
