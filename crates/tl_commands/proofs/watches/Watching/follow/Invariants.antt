-- The steps are counted in a ledger of their own.
use Rattle.tl_commands.proofs.watches.Watching.follow.Given as goal

abbrev pub ghosts-follow_by : goal.ghosts-follow_by
ghosts-follow_by a = record { name = a.blank.name; parts = a.blank.parts }
