use Rattle.std.proofs.Common.{is_some}
use Rattle.tl_commands.proofs.runs.run.Given as goal

-- the engine is named after its opening
abbrev pub ghosts-run_opened-J-Ledger : goal.ghosts-run_opened-J-Ledger
ghosts-run_opened-J-Ledger g a =
    record { name = a.attached.opening.ledger; parts = a.attached.opening.parts }

abbrev pub ghosts-run_opened-J-Named : goal.ghosts-run_opened-J-Named
ghosts-run_opened-J-Named g a =
    record {
      table = a.attached.opening.table;
      first_entries = a.attached.opening.history.entries;
      first_count = a.attached.opening.history.first_count;
      limits = a.attached.opening.history.limits;
      told = is_some (g.D.Disk.reads a.attached.begun.value);
    }
