-- How a run ends: the exit status, and the line that is written last.
use Rattle.std.specs.Prelude.{ℕ, List, [], ◌++◌, codes}
use Rattle.std.specs.Fmt.{decimal}
use Rattle.tl_jobs.specs.declared.replies.Refusal.{Refusal}
use Rattle.tl_jobs.specs.Replies.{refusal_words}
use Rattle.tl_script.specs.declared.jobs.ScriptFault.{ScriptFault}
use Rattle.tl_script.specs.declared.jobs.ScriptFault.TheVariants as fault
use Rattle.tl_command.specs.declared.statuses.Status.{Status}
use Rattle.tl_command.specs.declared.statuses.Status.TheVariants as status

-- the exit status
abbrev pub exit_status : Status → ℕ
exit_status status.Done = 0
exit_status status.NoMemory = 1
exit_status status.Usage = 2
exit_status (status.SourceFault faults) = 3
exit_status (status.SinkFault faults) = 4
exit_status (status.DiskFault faults) = 5
exit_status (status.ScriptFault fault) = 6
exit_status (status.NotInitialised len) = 7
exit_status (status.AlreadyInitialised len) = 8
exit_status (status.Damaged at) = 9
exit_status (status.PacketFault at) = 10
exit_status (status.WatchFault f) = 11
exit_status (status.StatementRefused number) = 12

-- the words of a script's fault
abbrev pub script_fault_words : ScriptFault → List ℕ
script_fault_words (fault.PhasesFull line) = codes "PhasesFull " ++ decimal line
script_fault_words (fault.LineTooLong line) = codes "LineTooLong " ++ decimal line
script_fault_words (fault.PhaseTooLong line) = codes "PhaseTooLong " ++ decimal line
script_fault_words (fault.NotUtf8 line) = codes "NotUtf8 " ++ decimal line
script_fault_words (fault.NoSession line) = codes "NoSession " ++ decimal line
script_fault_words (fault.SessionsFull line) = codes "SessionsFull " ++ decimal line
script_fault_words (fault.BlockOpen line) = codes "BlockOpen " ++ decimal line

-- the line of a script with a fault
abbrev pub script_line : ScriptFault → List ℕ
script_line f = codes "! script " ++ (script_fault_words f ++ codes "\n")

-- the line of a text that was to name what is watched, with a fault
abbrev pub watch_line : Refusal → List ℕ
watch_line f = codes "! watch " ++ (refusal_words f ++ codes "\n")

-- the line that is written last; where all went well, memory ran out or the sink failed there is
-- none
abbrev pub closing_line : Status → List ℕ
closing_line status.Done = []
closing_line status.NoMemory = []
closing_line status.Usage = codes "! usage\n"
closing_line (status.SourceFault faults) = codes "! source\n"
closing_line (status.SinkFault faults) = []
closing_line (status.DiskFault faults) = codes "! device\n"
closing_line (status.ScriptFault f) = script_line f
closing_line (status.NotInitialised len) =
    codes "! journal NotInitialised " ++ (decimal len ++ codes "\n")
closing_line (status.AlreadyInitialised len) =
    codes "! journal AlreadyInitialised " ++ (decimal len ++ codes "\n")
closing_line (status.Damaged at) = codes "! journal Damaged " ++ (decimal at ++ codes "\n")
closing_line (status.PacketFault at) = codes "! packet " ++ (decimal at ++ codes "\n")
closing_line (status.WatchFault f) = watch_line f
closing_line (status.StatementRefused number) =
    codes "! refused " ++ (decimal number ++ codes "\n")
