-- What a run leaves outside, and why it ended. By status, what says it here, and which field of
-- `RunTells` (Headline.antt) says what a run over a journal printed and keeps then. Of `group`,
-- `transact`, `ship`, `follow` and `watch` their own definitions say it all.
--
--   status              here                                                       in `RunTells`
--   Done                `OpenedEnds`: `ends.why` is Ended, no break; `MakesJournal`;   done
--                       `SampleEnds`
--   NoMemory            `Ends`, left; `EndsRefused` and `MakingFails` with NoMemory;   no_memory
--                       `OpenedEnds`: `ends.why` is NoMemory; `SampleEnds`; or no
--                       memory for a closing line
--   Usage               `EndsBy None`                                                  -
--   SourceFault         `OpenedEnds`: `ends.why` is Source                             source_fault
--   SinkFault           `OpenedEnds`: `ends.why` is Sink; or the closing line,         sink_fault
--                       `SinkFails`
--   DiskFault           `EndsRefused` and `MakingFails` with Device; `OpenedEnds`:     disk_fault
--                       a break
--   ScriptFault         `OpenedEnds`: `ends.why` is Fault                              script_fault
--   NotInitialised      `EndsRefused` with NotInitialised                              -
--   AlreadyInitialised  `MakingFails` with AlreadyInitialised                          -
--   Damaged             `EndsRefused` with Damaged                                     -
use Rattle.std.specs.Prelude.{◌⊎◌, ℕ, List, [], Some, None}
use Rattle.std.specs.declared.option.Option.{Option}
use Rattle.tl_command.specs.declared.statuses.Status.{Status}
use Rattle.tl_command.specs.declared.statuses.Status.TheVariants as status
use Rattle.tl_program.specs.declared.commands.Command.{Command}
use Rattle.tl_program.specs.declared.commands.Command.TheVariants as command
use Rattle.tl_program.specs.Commands.{command_of}
use Rattle.tl_commands.specs.Runs.{put_text, RunEnds, SampleEnds}
use Rattle.tl_command.specs.Coming.{script_reads, block_reads}
use Rattle.tl_commands.specs.Sample.{sample_reading}
use Rattle.tl_commands.specs.Grouping.{GroupEnds, TransactEnds}
use Rattle.tl_commands.specs.Watching.{WatchEnds}
use Rattle.tl_commands.specs.Shipping.{ShipEnds}
use Rattle.tl_commands.specs.Following.{FollowEnds}
use Rattle.tl_command.specs.Outside.{Outside, IsUnread, DiskAsBefore}
use Rattle.tl_command.specs.Closing.{Closes, EndsSilent, InitEnds}

-- why the program ended so, and what it left outside, by what its words ask for
abbrev pub EndsBy : Option Command → Outside → Outside → Status → Type 0
EndsBy None before after ended =
    IsUnread before after × Closes [] status.Usage before.written after.written before.sink_faults
    after.sink_faults ended
EndsBy (Some command.Init) before after ended =
    IsUnread before after × InitEnds before after ended
EndsBy (Some command.Run) before after ended = RunEnds script_reads before after ended
EndsBy (Some (command.Load table)) before after ended =
    RunEnds (block_reads (put_text table)) before after ended
EndsBy (Some (command.Sample lines start)) before after ended =
    IsUnread before after × SampleEnds (sample_reading lines start) before.written after.written
    before.sink_faults after.sink_faults ended
EndsBy (Some command.Group) before after ended = GroupEnds script_reads before after ended
EndsBy (Some (command.Ship from to)) before after ended =
    IsUnread before after × ShipEnds from to before after ended
EndsBy (Some command.Follow) before after ended = FollowEnds before after ended
EndsBy (Some (command.Watch text)) before after ended =
    WatchEnds text script_reads before after ended
EndsBy (Some command.Transact) before after ended = TransactEnds script_reads before after ended

-- the same of the words
abbrev pub Ends : List (List ℕ) → Outside → Outside → Status → Type 0
Ends words before after ended =
    (EndsSilent status.NoMemory before after ended × IsUnread before after
    × DiskAsBefore before after)
    ⊎ EndsBy (command_of words) before after ended
