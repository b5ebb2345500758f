-- The steps are counted in a ledger of their own.
use Rattle.tl_commands.proofs.watches.Watching.begin.Given as goal

abbrev pub ghosts-begin_by : goal.ghosts-begin_by
ghosts-begin_by a = record { name = a.blank.name; parts = a.blank.parts }
