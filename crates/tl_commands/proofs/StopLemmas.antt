-- Where the phases stopped: what is known of the turns may be said otherwise.
use Rattle.std.proofs.Common.{ℕ, Bool, true, List, [], ◌∷◌, ◌++◌, Some, None}
use Rattle.tl_script.specs.Script.{ScriptReading}
use Rattle.tl_jobs.specs.Turns.{Turn}
use Rattle.tl_command.specs.declared.stops.Stop.{Stop}
use Rattle.tl_command.specs.declared.stops.Stop.TheVariants as stop
use Rattle.tl_script.specs.declared.jobs.ScriptFault.{ScriptFault}
use Rattle.std.specs.declared.option.Option.{Option}
use Rattle.tl_command.specs.Outside.{Streams}
use Rattle.tl_commands.specs.Stopping.{RunsAll, RunStops}

all_as : (P Q : List (List Turn) → Type 0) (reads : List ℕ → ScriptReading) (fault : Option ScriptFault) (before after : Streams) → ((turns : List (List Turn)) → P turns → Q turns) → RunsAll P reads fault before after → RunsAll Q reads fault before after
all_as P Q reads fault before after f h =
    record { script = h.script; told = h.told; fault_is = h.fault_is; whole = h.whole; turns = h.turns; answers = h.answers; ran = f h.turns h.ran; written = h.written; source_sure = h.source_sure; sink_sure = h.sink_sure }

-- what is known of the turns, by what follows from it
pub stops_as : (P Q : List (List Turn) → Type 0) (reads : Bool → List ℕ → ScriptReading) (why : Stop) (before after : Streams) → ((turns : List (List Turn)) → P turns → Q turns) → RunStops P reads why before after → RunStops Q reads why before after
stops_as P Q reads stop.Ended before after f h = all_as P Q (reads true) None before after f h
stops_as P Q reads (stop.Fault e) before after f h = all_as P Q (reads true) (Some e) before after f h
stops_as P Q reads (stop.Source n) before after f (h, count) =
    (record { taken = h.taken; order = h.order; rose = h.rose; faultless = h.faultless; turns = h.turns; answers = h.answers; ran = f h.turns h.ran; written = h.written; sink_sure = h.sink_sure }, count)
stops_as P Q reads (stop.Sink n) before after f (h, count) =
    (record { script = h.script; told = h.told; turns = h.turns; last = h.last; later = h.later; answers = h.answers; ran = f (h.turns ++ h.last ∷ []) h.ran; rose = h.rose; some = h.some; written = h.written; source_sure = h.source_sure }, count)
stops_as P Q reads stop.NoMemory before after f h =
    record { script = h.script; told = h.told; turns = h.turns; last = h.last; later = h.later; answers = h.answers; fronts = h.fronts; ran = f (h.turns ++ h.last ∷ []) h.ran; written = h.written; source_sure = h.source_sure; sink_sure = h.sink_sure }
