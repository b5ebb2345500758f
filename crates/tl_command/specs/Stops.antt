-- Why no further phase is run.
use Rattle.tl_script.specs.declared.phases.NextError.{NextError}
use Rattle.tl_script.specs.declared.phases.NextError.TheVariants as next
use Rattle.tl_command.specs.declared.stops.Stop.{Stop}
use Rattle.tl_command.specs.declared.stops.Stop.TheVariants as stop

-- why the phases stop where no further one is read, for this cause
abbrev pub stop_for : NextError → Stop
stop_for next.NoMemory = stop.NoMemory
stop_for (next.Source faults) = stop.Source faults
stop_for (next.Fault f) = stop.Fault f
