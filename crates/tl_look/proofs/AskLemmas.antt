-- The asking of queries is done where no count of faults rises, unless memory runs out.
use Rattle.std.proofs.Common.{◌≡◌, ◌∙◌, ℕ, Bool, true, false, List, None, Some, IfSome, inl, inr, ap, sym, subst}
use Rattle.std.specs.declared.option.Option.{Option}
use Rattle.tl_device.specs.Known.{Rose}
use Rattle.tl_journal.specs.declared.faults.JournalFault.{JournalFault}
use Rattle.tl_script.specs.Script.{ScriptReading}
use Rattle.tl_jobs.specs.Turns.{Turn}
use Rattle.tl_command.specs.declared.statuses.Status.{Status}
use Rattle.tl_command.specs.declared.statuses.Status.TheVariants as status
use Rattle.tl_command.specs.declared.stops.Stop.{Stop}
use Rattle.tl_command.specs.declared.stops.Stop.TheVariants as stop
use Rattle.tl_command.specs.Closing.{Writes, ClosesAfter, EndsFor, EndsRefused}
use Rattle.tl_command.specs.Coming.{script_reads}
use Rattle.tl_command.specs.Outside.{Outside, Streams, streams_of}
use Rattle.tl_command.specs.Status.{closing_line}
use Rattle.tl_commands.specs.Runs.{PhasesEnd}
use Rattle.tl_commands.specs.Stopping.{RunStops}
use Rattle.tl_commands.proofs.RunEndLemmas.{only_memory}
use Rattle.tl_program.specs.Headline.{IsDoneOrNoMemory, StaysSure, IsHonest, RunCompletes}
use Rattle.tl_program.proofs.TopLemmas.{told_script}
use Rattle.tl_asking.specs.Answers.{AreAnswered}
use Rattle.tl_asking.specs.Asking.{AskEnds}

-- a text whose sink does not fail
writes_complete : (bytes : List ℕ) (old new : Option (List ℕ)) (before after : ℕ) (ended : Status) → Writes bytes status.Done old new before after ended → (Rose before after → ⊥) → IsDoneOrNoMemory ended
writes_complete bytes old new before after ended (inl done) sink = inl done.0
writes_complete bytes old new before after ended (inr (inl none)) sink = inr none.0
writes_complete bytes old new before after ended (inr (inr failed)) sink = absurd (sink failed.1)

refused_complete : (before after : Outside) (ended : Status) → EndsRefused before after ended → IsHonest before → StaysSure before after → IsDoneOrNoMemory ended
refused_complete before after ended h honest sure =
    let memory = only_memory h.fault before.disk_faults after.disk_faults h.counts sure.disk (h.honest honest.image honest.commits honest.told honest.stands honest.fitting) in
    inr (subst (λ (f : JournalFault). EndsFor f before.written after.written before.sink_faults after.sink_faults ended) memory h.ends).0

-- phases in which no fault is read are all answered
phases_complete : (Ran : List (List Turn) → Type 0) (reads : Bool → List ℕ → ScriptReading) (before after : Streams) (ended : Status) → PhasesEnd Ran reads false 0 before after ended
    → ((script : List ℕ) → IfSome before.left (λ l. l ≡ script) → (reads true script).fault ≡ None) → (Rose before.source_faults after.source_faults → ⊥) → (Rose before.sink_faults after.sink_faults → ⊥) → IsDoneOrNoMemory ended
phases_complete Ran reads before after ended h faultless source sink = by_why h.why h.stops h.closes where
  sink_from : h.at.sink_faults ≡ before.sink_faults → Rose h.at.sink_faults after.sink_faults → ⊥
  sink_from e rose = sink (subst (λ (n : ℕ). Rose n after.sink_faults) e rose)

  by_why : (why : Stop) → RunStops Ran reads why before h.at → ClosesAfter why false 0 h.at.written after.written h.at.sink_faults after.sink_faults ended → IsDoneOrNoMemory ended
  by_why stop.Ended stops closes = writes_complete (closing_line status.Done) h.at.written after.written h.at.sink_faults after.sink_faults ended closes (sink_from stops.sink_sure)
  by_why (stop.Fault f) stops closes = absurd (let e : None ≡ Some f = sym (faultless stops.script stops.told) ∙ stops.fault_is in cc)
  by_why (stop.Source n) stops closes = absurd (source (subst (λ (n : ℕ). Rose before.source_faults n) (sym h.source_same) stops.0.rose))
  by_why (stop.Sink n) stops closes = absurd (sink (subst (λ (n : ℕ). Rose before.sink_faults n) (sym closes.2) stops.0.rose))
  by_why stop.NoMemory stops closes = inr closes.0

pub ask_complete : (before after : Outside) (ended : Status) → AskEnds script_reads before after ended → RunCompletes script_reads before after ended
ask_complete before after ended (inl refused) = λ honest faultless sure. refused_complete before after ended refused honest sure
ask_complete before after ended (inr (opening, h)) = λ honest faultless sure.
    phases_complete (AreAnswered opening) script_reads (streams_of before) (streams_of after) ended h.ends
    (λ script told. ap (λ s. (script_reads true s).fault) (sym (told_script before.left script faultless.script faultless.told told)) ∙ faultless.whole)
    sure.source sure.sink
