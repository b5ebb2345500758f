-- What a run that is done, or that a break came into, printed and keeps.
use Rattle.std.proofs.Common.{◌≡◌, ℕ, ◌+◌, Bool, true, false, List, [], ◌∷◌, ◌++◌, map, Some, None, is_some, IfSome, refl, ap, subst, sym, ◌∙◌, inl, inr, append-nil}
use Rattle.std.specs.declared.option.Option.{Option}
use Rattle.tl_types.specs.declared.commits.Commit.{Commit}
use Rattle.tl_device.specs.Known.{append_known, prepend_known, Rose}
use Rattle.tl_script.specs.declared.jobs.ScriptFault.{ScriptFault}
use Rattle.tl_script.specs.Script.{ScriptReading, Job as ScriptJob}
use Rattle.tl_script.specs.Taking.{IsAtEnd}
use Rattle.tl_jobs.specs.Turns.{Turn, all_turns, Each}
use Rattle.tl_jobs.specs.Play.{AreLone, AreOfOne, AreLonePhases}
use Rattle.tl_jobs.specs.Written.{all_jobs, jobs_of, transcript_bytes}
use Rattle.tl_journal.specs.Answers.{CountsFaults}
use Rattle.tl_journal.specs.declared.faults.JournalFault.{JournalFault}
use Rattle.tl_journal.specs.declared.faults.JournalFault.TheVariants as journal
use Rattle.tl_command.specs.declared.statuses.Status.{Status}
use Rattle.tl_command.specs.declared.statuses.Status.TheVariants as status
use Rattle.tl_command.specs.declared.stops.Stop.{Stop}
use Rattle.tl_command.specs.declared.stops.Stop.TheVariants as stop
use Rattle.tl_program.specs.declared.commands.Command.{Command}
use Rattle.tl_program.specs.declared.commands.Command.TheVariants as command
use Rattle.tl_command.specs.Status.{closing_line}
use Rattle.tl_commands.specs.Runs.{put_text, SampleEnds, sink_alone, Told, OpenedEnds, RunEnds}
use Rattle.tl_command.specs.Coming.{script_reads, block_reads}
use Rattle.tl_command.specs.Jobs.{phases_asked}
use Rattle.tl_commands.specs.Sample.{puts_from, blocks_of, sample_reading}
use Rattle.tl_command.specs.Closing.{status_for, wanted_by, Writes, EndsFor, EndsRefused, ClosesAfter}
use Rattle.tl_program.specs.Ending.{EndsBy}
use Rattle.tl_program.specs.Headline.{PrintsPlay, PrintsTranscript, PrintsAll, PrintsBreak, PrintsToFault, PrintsClosed, RunTells, RunHeadline, HeadlineBy}
use Rattle.tl_command.specs.Outside.{Outside, streams_of, HoldsJournal}
use Rattle.tl_commands.specs.Stopping.{RunsAll, RunStops}
use Rattle.tl_program.proofs.CutLemmas.{refused_sink, refused_memory, nothing_done, sink_cuts, memory_cuts}
use Rattle.tl_command.proofs.BytesLemmas.{written_more}
use Rattle.tl_program.proofs.TopLemmas.{told_script}

-- what was written where the run ended as it was to: neither memory nor the sink ends a run so
all_written : (bytes : List ℕ) (wanted seen : Status) (old new : Option (List ℕ)) (before after : ℕ) (ended : Status) → Writes bytes wanted old new before after ended → ended ≡ seen → (seen ≡ status.NoMemory → ⊥) → ((n : ℕ) → seen ≡ status.SinkFault n → ⊥) → (ended ≡ wanted) × (new ≡ append_known old bytes)
all_written bytes wanted seen old new before after ended (inl h) e memory sink = (h.0, h.1)
all_written bytes wanted seen old new before after ended (inr (inl h)) e memory sink = absurd (memory (sym e ∙ h.0))
all_written bytes wanted seen old new before after ended (inr (inr h)) e memory sink = absurd (sink after (sym e ∙ h.0))

no_memory_done : status.Done ≡ status.NoMemory → ⊥
no_memory_done h = cc

no_sink_done : (n : ℕ) → status.Done ≡ status.SinkFault n → ⊥
no_sink_done n h = cc

no_memory_device : (faults : ℕ) → status.DiskFault faults ≡ status.NoMemory → ⊥
no_memory_device faults h = cc

no_sink_device : (faults n : ℕ) → status.DiskFault faults ≡ status.SinkFault n → ⊥
no_sink_device faults n h = cc

-- A JOURNAL THAT IS NOT OPENED

refused_not_done : (fault : JournalFault) (old new : Option (List ℕ)) (before after : ℕ) (ended : Status) → EndsFor fault old new before after ended → ended ≡ status.Done → ⊥
refused_not_done journal.NoMemory old new before after ended h e = let f : status.Done ≡ status.NoMemory = sym e ∙ h.0 in cc
refused_not_done (journal.Device faults) old new before after ended h e =
    let w = all_written (closing_line (status.DiskFault faults)) (status.DiskFault faults) status.Done old new before after ended h e no_memory_done no_sink_done in
    let f : status.Done ≡ status.DiskFault faults = sym e ∙ w.0 in cc
refused_not_done (journal.NotInitialised len) old new before after ended h e =
    let w = all_written (closing_line (status.NotInitialised len)) (status.NotInitialised len) status.Done old new before after ended h e no_memory_done no_sink_done in
    let f : status.Done ≡ status.NotInitialised len = sym e ∙ w.0 in cc
refused_not_done (journal.AlreadyInitialised len) old new before after ended h e =
    let w = all_written (closing_line (status.AlreadyInitialised len)) (status.AlreadyInitialised len) status.Done old new before after ended h e no_memory_done no_sink_done in
    let f : status.Done ≡ status.AlreadyInitialised len = sym e ∙ w.0 in cc
refused_not_done (journal.Damaged at) old new before after ended h e =
    let w = all_written (closing_line (status.Damaged at)) (status.Damaged at) status.Done old new before after ended h e no_memory_done no_sink_done in
    let f : status.Done ≡ status.Damaged at = sym e ∙ w.0 in cc

refused_device : (fault : JournalFault) (old new : Option (List ℕ)) (before after : ℕ) (ended : Status) (faults : ℕ) → EndsFor fault old new before after ended → ended ≡ status.DiskFault faults → new ≡ append_known old (closing_line ended)
refused_device journal.NoMemory old new before after ended faults h e = absurd (let f : status.DiskFault faults ≡ status.NoMemory = sym e ∙ h.0 in cc)
refused_device (journal.Device n) old new before after ended faults h e =
    let w = all_written (closing_line (status.DiskFault n)) (status.DiskFault n) (status.DiskFault faults) old new before after ended h e (no_memory_device faults) (no_sink_device faults) in
    w.1 ∙ ap (λ s. append_known old (closing_line s)) (sym w.0)
refused_device (journal.NotInitialised len) old new before after ended faults h e =
    let w = all_written (closing_line (status.NotInitialised len)) (status.NotInitialised len) (status.DiskFault faults) old new before after ended h e (no_memory_device faults) (no_sink_device faults) in
    w.1 ∙ ap (λ s. append_known old (closing_line s)) (sym w.0)
refused_device (journal.AlreadyInitialised len) old new before after ended faults h e =
    let w = all_written (closing_line (status.AlreadyInitialised len)) (status.AlreadyInitialised len) (status.DiskFault faults) old new before after ended h e (no_memory_device faults) (no_sink_device faults) in
    w.1 ∙ ap (λ s. append_known old (closing_line s)) (sym w.0)
refused_device (journal.Damaged at) old new before after ended faults h e =
    let w = all_written (closing_line (status.Damaged at)) (status.Damaged at) (status.DiskFault faults) old new before after ended h e (no_memory_device faults) (no_sink_device faults) in
    w.1 ∙ ap (λ s. append_known old (closing_line s)) (sym w.0)

-- a closing line that no fault of a journal gives
refused_other : (fault : JournalFault) (seen : Status) (old new : Option (List ℕ)) (before after : ℕ) (ended : Status) → EndsFor fault old new before after ended → ended ≡ seen → (seen ≡ status.NoMemory → ⊥) → ((n : ℕ) → seen ≡ status.SinkFault n → ⊥) → seen ≡ status_for fault
refused_other journal.NoMemory seen old new before after ended h e memory sink = absurd (memory (sym e ∙ h.0))
refused_other (journal.Device n) seen old new before after ended h e memory sink = sym e ∙ (all_written (closing_line (status.DiskFault n)) (status.DiskFault n) seen old new before after ended h e memory sink).0
refused_other (journal.NotInitialised len) seen old new before after ended h e memory sink = sym e ∙ (all_written (closing_line (status.NotInitialised len)) (status.NotInitialised len) seen old new before after ended h e memory sink).0
refused_other (journal.AlreadyInitialised len) seen old new before after ended h e memory sink = sym e ∙ (all_written (closing_line (status.AlreadyInitialised len)) (status.AlreadyInitialised len) seen old new before after ended h e memory sink).0
refused_other (journal.Damaged at) seen old new before after ended h e memory sink = sym e ∙ (all_written (closing_line (status.Damaged at)) (status.Damaged at) seen old new before after ended h e memory sink).0

-- the disk's count rose where a journal was not opened for it
refused_rose : (fault : JournalFault) (old new : Option (List ℕ)) (before after : ℕ) (ended : Status) (first now faults : ℕ) → EndsFor fault old new before after ended → CountsFaults fault first now → ended ≡ status.DiskFault faults → Rose first now
refused_rose (journal.Device n) old new before after ended first now faults h counts e = counts.1
refused_rose journal.NoMemory old new before after ended first now faults h counts e = absurd (let f : status.DiskFault faults ≡ status.NoMemory = sym e ∙ h.0 in cc)
refused_rose (journal.NotInitialised len) old new before after ended first now faults h counts e =
    absurd (let f = refused_other (journal.NotInitialised len) (status.DiskFault faults) old new before after ended h e (no_memory_device faults) (no_sink_device faults) in cc)
refused_rose (journal.AlreadyInitialised len) old new before after ended first now faults h counts e =
    absurd (let f = refused_other (journal.AlreadyInitialised len) (status.DiskFault faults) old new before after ended h e (no_memory_device faults) (no_sink_device faults) in cc)
refused_rose (journal.Damaged at) old new before after ended first now faults h counts e =
    absurd (let f = refused_other (journal.Damaged at) (status.DiskFault faults) old new before after ended h e (no_memory_device faults) (no_sink_device faults) in cc)

no_journal_script : (fault : JournalFault) (f : ScriptFault) → status.ScriptFault f ≡ status_for fault → ⊥
no_journal_script journal.NoMemory f e = cc
no_journal_script (journal.Device n) f e = cc
no_journal_script (journal.NotInitialised len) f e = cc
no_journal_script (journal.AlreadyInitialised len) f e = cc
no_journal_script (journal.Damaged at) f e = cc

no_journal_source : (fault : JournalFault) (n : ℕ) → status.SourceFault n ≡ status_for fault → ⊥
no_journal_source journal.NoMemory n e = cc
no_journal_source (journal.Device m) n e = cc
no_journal_source (journal.NotInitialised len) n e = cc
no_journal_source (journal.AlreadyInitialised len) n e = cc
no_journal_source (journal.Damaged at) n e = cc

refused_tells : (reads : Bool → List ℕ → ScriptReading) (script : List ℕ) (opening : List Commit) (before after : Outside) (ended : Status) → EndsRefused before after ended → RunTells reads script opening before after ended
refused_tells reads script opening before after ended h =
    record {
      done = λ e. absurd (refused_not_done h.fault before.written after.written before.sink_faults after.sink_faults ended h.ends e);
      disk_fault = λ faults e. inl (record { rose = refused_rose h.fault before.written after.written before.sink_faults after.sink_faults ended before.disk_faults after.disk_faults faults h.ends h.counts e; unread = h.unread; written = refused_device h.fault before.written after.written before.sink_faults after.sink_faults ended faults h.ends e; keeps = h.keeps });
      script_fault = λ f e. absurd (no_journal_script h.fault f (refused_other h.fault (status.ScriptFault f) before.written after.written before.sink_faults after.sink_faults ended h.ends e (λ x. cc) (λ n x. cc)));
      sink_fault = λ faults e. refused_sink reads script opening before after ended faults h e;
      no_memory = λ e. refused_memory reads script opening before after ended h e;
      source_fault = λ faults e. absurd (no_journal_source h.fault faults (refused_other h.fault (status.SourceFault faults) before.written after.written before.sink_faults after.sink_faults ended h.ends e (λ x. cc) (λ n x. cc)));
    }

-- A JOURNAL THAT IS OPENED

-- how a run is to end, by why its phases stopped
abbrev wanted_of : Stop → Bool → ℕ → Status
wanted_of stop.Ended broke faults = wanted_by broke faults
wanted_of (stop.Fault f) broke faults = status.ScriptFault f
wanted_of (stop.Source n) broke faults = status.SourceFault n
wanted_of (stop.Sink n) broke faults = status.SinkFault n
wanted_of stop.NoMemory broke faults = status.NoMemory

-- what was written behind the replies where the run ended as it was to
closed_as : (why : Stop) (broke : Bool) (faults : ℕ) (seen : Status) (old new : Option (List ℕ)) (before after : ℕ) (ended : Status) → ClosesAfter why broke faults old new before after ended → ended ≡ seen → (seen ≡ status.NoMemory → ⊥) → ((n : ℕ) → seen ≡ status.SinkFault n → ⊥) → (seen ≡ wanted_of why broke faults) × (new ≡ append_known old (closing_line seen))
closed_as stop.Ended broke faults seen old new before after ended h e memory sink =
    let w = all_written (closing_line (wanted_by broke faults)) (wanted_by broke faults) seen old new before after ended h e memory sink in
    let is : seen ≡ wanted_by broke faults = sym e ∙ w.0 in (is, w.1 ∙ ap (λ s. append_known old (closing_line s)) (sym is))
closed_as (stop.Fault f) broke faults seen old new before after ended h e memory sink =
    let w = all_written (closing_line (status.ScriptFault f)) (status.ScriptFault f) seen old new before after ended h e memory sink in
    let is : seen ≡ status.ScriptFault f = sym e ∙ w.0 in (is, w.1 ∙ ap (λ s. append_known old (closing_line s)) (sym is))
closed_as (stop.Source n) broke faults seen old new before after ended h e memory sink =
    let w = all_written (closing_line (status.SourceFault n)) (status.SourceFault n) seen old new before after ended h e memory sink in
    let is : seen ≡ status.SourceFault n = sym e ∙ w.0 in (is, w.1 ∙ ap (λ s. append_known old (closing_line s)) (sym is))
closed_as (stop.Sink n) broke faults seen old new before after ended h e memory sink = absurd (sink n (sym e ∙ h.0))
closed_as stop.NoMemory broke faults seen old new before after ended h e memory sink = absurd (memory (sym e ∙ h.0))

-- the turns of a phase of one session's jobs
lone_turns : (s : ℕ) (ts : List Turn) → AreOfOne s (jobs_of ts) → Each (λ t. t.job.session ≡ s) ts
lone_turns s [] h = tt
lone_turns s (t ∷ ts) h = (h.0, lone_turns s ts h.1)

lone_phases : (turns : List (List Turn)) → AreLonePhases (map jobs_of turns) → AreLone turns
lone_phases [] h = tt
lone_phases (q ∷ turns) h = ((h.0.0, lone_turns h.0.0 q h.0.1), lone_phases turns h.1)

jobs_on : (xs ys : List Turn) → jobs_of (xs ++ ys) ≡ jobs_of xs ++ jobs_of ys
jobs_on [] ys = refl
jobs_on (t ∷ ts) ys = ap (λ js. t.job ∷ js) (jobs_on ts ys)

all_jobs_of : (turns : List (List Turn)) → jobs_of (all_turns turns) ≡ all_jobs (map jobs_of turns)
all_jobs_of [] = refl
all_jobs_of (q ∷ turns) = jobs_on q (all_turns turns) ∙ ap (λ js. jobs_of q ++ js) (all_jobs_of turns)

-- a transcript was printed
prints : (reading : ScriptReading) (opening all : List Commit) (broke : Option Commit) (closing : Status) (before after : Outside) (at : Option (List ℕ)) (turns : List (List Turn)) → map jobs_of turns ≡ phases_asked reading.phases → Told opening all broke turns
    → at ≡ append_known before.written (transcript_bytes reading.names turns) → after.written ≡ append_known at (closing_line closing) → HoldsJournal all broke before after → PrintsTranscript reading opening all broke closing before after
prints reading opening all broke closing before after at turns answers told first then_ holds =
    record {
      bytes = transcript_bytes reading.names turns;
      begins = told.begins;
      transcript = (turns, answers, told.transcript, refl);
      written = written_more before.written at after.written (transcript_bytes reading.names turns) (closing_line closing) first then_;
      holds = holds;
      play = λ none lone. (
        all_turns turns,
        all_jobs_of turns ∙ ap all_jobs answers,
        told.play none (lone_phases turns (subst AreLonePhases (sym answers) lone)),
        refl,
      );
    }

some_broke : (o : Option Commit) (faults count : ℕ) → status.DiskFault faults ≡ wanted_by (is_some o) count → (c : Commit) × (o ≡ Some c)
some_broke None faults count e = absurd (cc)
some_broke (Some c) faults count e = (c, refl)

none_broke : (o : Option Commit) (count : ℕ) → status.Done ≡ wanted_by (is_some o) count → o ≡ None
none_broke None count e = refl
none_broke (Some c) count e = absurd (cc)

not_wanted : (b : Bool) (count : ℕ) (f : ScriptFault) → status.ScriptFault f ≡ wanted_by b count → ⊥
not_wanted true count f e = cc
not_wanted false count f e = cc

not_wanted_source : (b : Bool) (count n : ℕ) → status.SourceFault n ≡ wanted_by b count → ⊥
not_wanted_source true count n e = cc
not_wanted_source false count n e = cc

-- of a source that told its bytes, none are left
nothing_left : (left : Option (List ℕ)) (taken script : List ℕ) → Some script ≡ prepend_known taken left → IsAtEnd left → left ≡ Some []
nothing_left None taken script order none = absurd (cc)
nothing_left (Some l) taken script order none = ap Some none

-- the run of a script that the source told
module _ (reads : Bool → List ℕ → ScriptReading) (script : List ℕ) (opening : List Commit) (before after : Outside) (ended : Status) (told : before.left ≡ Some script) (h : OpenedEnds reads opening before after ended) where
  abbrev Own : List (List Turn) → Type 0
  Own = Told opening h.all h.broke

  abbrev At : Stop → Type 0
  At why = RunStops Own reads why (streams_of before) h.ends.at

  abbrev Ends_ : Stop → Type 0
  Ends_ why = ClosesAfter why (is_some h.broke) after.disk_faults h.ends.at.written after.written h.ends.at.sink_faults after.sink_faults ended

  same_script : (own : List ℕ) → IfSome before.left (λ l. l ≡ own) → own ≡ script
  same_script own t = sym (told_script before.left own script told t)

  all_prints : (fault : Option ScriptFault) (closing : Status) (r : RunsAll Own (reads true) fault (streams_of before) h.ends.at) → after.written ≡ append_known h.ends.at.written (closing_line closing) → PrintsTranscript (reads true script) opening h.all h.broke closing before after
  all_prints fault closing r line =
      subst (λ (s : List ℕ). PrintsTranscript (reads true s) opening h.all h.broke closing before after) (same_script r.script r.told)
      (prints (reads true r.script) opening h.all h.broke closing before after h.ends.at.written r.turns r.answers r.ran r.written line h.holds)

  all_fault : (fault : Option ScriptFault) (r : RunsAll Own (reads true) fault (streams_of before) h.ends.at) → (reads true script).fault ≡ fault
  all_fault fault r = subst (λ (s : List ℕ). (reads true s).fault ≡ fault) (same_script r.script r.told) r.fault_is

  at_end : (r : RunsAll Own (reads true) None (streams_of before) h.ends.at) → after.left ≡ Some []
  at_end r = h.ends.left_same ∙ nothing_left h.ends.at.left r.script script (sym told ∙ (r.whole refl).1) (r.whole refl).0

  pub done_tells : ended ≡ status.Done → PrintsAll (reads true script) opening before after
  done_tells e = by_why h.ends.why h.ends.stops h.ends.closes where
    by_why : (why : Stop) → At why → Ends_ why → PrintsAll (reads true script) opening before after
    by_why stop.Ended stops closes =
        let w = closed_as stop.Ended (is_some h.broke) after.disk_faults status.Done h.ends.at.written after.written h.ends.at.sink_faults after.sink_faults ended closes e no_memory_done no_sink_done in
        record { faultless = all_fault None stops; read = at_end stops; all = h.all; prints = subst (λ (o : Option Commit). PrintsTranscript (reads true script) opening h.all o status.Done before after) (none_broke h.broke after.disk_faults w.0) (all_prints None status.Done stops w.1) }
    by_why (stop.Fault f) stops closes =
        let w = closed_as (stop.Fault f) (is_some h.broke) after.disk_faults status.Done h.ends.at.written after.written h.ends.at.sink_faults after.sink_faults ended closes e no_memory_done no_sink_done in absurd (let x = w.0 in cc)
    by_why (stop.Source n) stops closes =
        let w = closed_as (stop.Source n) (is_some h.broke) after.disk_faults status.Done h.ends.at.written after.written h.ends.at.sink_faults after.sink_faults ended closes e no_memory_done no_sink_done in absurd (let x = w.0 in cc)
    by_why (stop.Sink n) stops closes = absurd (no_sink_done n (sym e ∙ closes.0))
    by_why stop.NoMemory stops closes = absurd (no_memory_done (sym e ∙ closes.0))

  pub device_tells : (faults : ℕ) → ended ≡ status.DiskFault faults → PrintsBreak (reads true script) opening ended before after
  device_tells faults e = by_why h.ends.why h.ends.stops h.ends.closes where
    by_why : (why : Stop) → At why → Ends_ why → PrintsBreak (reads true script) opening ended before after
    by_why stop.Ended stops closes =
        let w = closed_as stop.Ended (is_some h.broke) after.disk_faults (status.DiskFault faults) h.ends.at.written after.written h.ends.at.sink_faults after.sink_faults ended closes e (no_memory_device faults) (no_sink_device faults) in
        let c = some_broke h.broke faults after.disk_faults w.0 in
        record { faultless = all_fault None stops; read = at_end stops; all = h.all; broke = c.0; prints = subst (λ (o : Option Commit). PrintsTranscript (reads true script) opening h.all o ended before after) c.1 (subst (λ (s : Status). PrintsTranscript (reads true script) opening h.all h.broke s before after) (sym e) (all_prints None (status.DiskFault faults) stops w.1)) }
    by_why (stop.Fault f) stops closes =
        let w = closed_as (stop.Fault f) (is_some h.broke) after.disk_faults (status.DiskFault faults) h.ends.at.written after.written h.ends.at.sink_faults after.sink_faults ended closes e (no_memory_device faults) (no_sink_device faults) in absurd (let x = w.0 in cc)
    by_why (stop.Source n) stops closes =
        let w = closed_as (stop.Source n) (is_some h.broke) after.disk_faults (status.DiskFault faults) h.ends.at.written after.written h.ends.at.sink_faults after.sink_faults ended closes e (no_memory_device faults) (no_sink_device faults) in absurd (let x = w.0 in cc)
    by_why (stop.Sink n) stops closes = absurd (no_sink_device faults n (sym e ∙ closes.0))
    by_why stop.NoMemory stops closes = absurd (no_memory_device faults (sym e ∙ closes.0))

  pub fault_tells : (f : ScriptFault) → ended ≡ status.ScriptFault f → PrintsToFault (reads true script) f opening before after
  fault_tells f e = by_why h.ends.why h.ends.stops h.ends.closes where
    by_why : (why : Stop) → At why → Ends_ why → PrintsToFault (reads true script) f opening before after
    by_why stop.Ended stops closes =
        let w = closed_as stop.Ended (is_some h.broke) after.disk_faults (status.ScriptFault f) h.ends.at.written after.written h.ends.at.sink_faults after.sink_faults ended closes e (λ x. cc) (λ n x. cc) in absurd (not_wanted (is_some h.broke) after.disk_faults f w.0)
    by_why (stop.Fault g) stops closes =
        let w = closed_as (stop.Fault g) (is_some h.broke) after.disk_faults (status.ScriptFault f) h.ends.at.written after.written h.ends.at.sink_faults after.sink_faults ended closes e (λ x. cc) (λ n x. cc) in
        let same : g ≡ f = let x = w.0 in cc in
        record { fault_is = all_fault (Some g) stops ∙ ap Some same; all = h.all; broke = h.broke; prints = all_prints (Some g) (status.ScriptFault f) stops w.1 }
    by_why (stop.Source n) stops closes =
        let w = closed_as (stop.Source n) (is_some h.broke) after.disk_faults (status.ScriptFault f) h.ends.at.written after.written h.ends.at.sink_faults after.sink_faults ended closes e (λ x. cc) (λ m x. cc) in absurd (let x = w.0 in cc)
    by_why (stop.Sink n) stops closes = absurd (let x : status.ScriptFault f ≡ status.SinkFault n = sym e ∙ closes.0 in cc)
    by_why stop.NoMemory stops closes = absurd (let x : status.ScriptFault f ≡ status.NoMemory = sym e ∙ closes.0 in cc)

  pub source_tells : (faults : ℕ) → ended ≡ status.SourceFault faults → PrintsClosed (reads false) opening ended before after
  source_tells faults e = by_why h.ends.why h.ends.stops h.ends.closes where
    by_why : (why : Stop) → At why → Ends_ why → PrintsClosed (reads false) opening ended before after
    by_why stop.Ended stops closes =
        let w = closed_as stop.Ended (is_some h.broke) after.disk_faults (status.SourceFault faults) h.ends.at.written after.written h.ends.at.sink_faults after.sink_faults ended closes e (λ x. cc) (λ n x. cc) in absurd (not_wanted_source (is_some h.broke) after.disk_faults faults w.0)
    by_why (stop.Fault g) stops closes =
        let w = closed_as (stop.Fault g) (is_some h.broke) after.disk_faults (status.SourceFault faults) h.ends.at.written after.written h.ends.at.sink_faults after.sink_faults ended closes e (λ x. cc) (λ n x. cc) in absurd (let x = w.0 in cc)
    by_why (stop.Source n) (stops, count) closes =
        let w = closed_as (stop.Source n) (is_some h.broke) after.disk_faults (status.SourceFault faults) h.ends.at.written after.written h.ends.at.sink_faults after.sink_faults ended closes e (λ x. cc) (λ m x. cc) in
        record {
          rose = subst (λ (m : ℕ). Rose before.source_faults m) (sym h.ends.source_same) stops.rose;
          taken = stops.taken;
          order = stops.order ∙ ap (prepend_known stops.taken) (sym h.ends.left_same);
          faultless = stops.faultless;
          all = h.all;
          broke = h.broke;
          prints = subst (λ (s : Status). PrintsTranscript (reads false stops.taken) opening h.all h.broke s before after) (sym e) (prints (reads false stops.taken) opening h.all h.broke (status.SourceFault faults) before after h.ends.at.written stops.turns stops.answers stops.ran stops.written w.1 h.holds);
        }
    by_why (stop.Sink n) stops closes = absurd (let x : status.SourceFault faults ≡ status.SinkFault n = sym e ∙ closes.0 in cc)
    by_why stop.NoMemory stops closes = absurd (let x : status.SourceFault faults ≡ status.NoMemory = sym e ∙ closes.0 in cc)

opened_tells : (reads : Bool → List ℕ → ScriptReading) (script : List ℕ) (opening : List Commit) (before after : Outside) (ended : Status) → before.left ≡ Some script → OpenedEnds reads opening before after ended → RunTells reads script opening before after ended
opened_tells reads script opening before after ended told h =
    record {
      done = done_tells reads script opening before after ended told h;
      disk_fault = λ faults e. inr (device_tells reads script opening before after ended told h faults e);
      script_fault = fault_tells reads script opening before after ended told h;
      source_fault = source_tells reads script opening before after ended told h;
      sink_fault = sink_cuts reads script opening before after ended told h;
      no_memory = memory_cuts reads script opening before after ended told h;
    }

run_tells : (reads : Bool → List ℕ → ScriptReading) (before after : Outside) (ended : Status) → RunEnds reads before after ended → RunHeadline reads before after ended
run_tells reads before after ended (inl refused) = λ script image opening told is stands. refused_tells reads script opening before after ended refused
run_tells reads before after ended (inr (own, h)) = λ script image opening told is stands.
    subst (λ (cs : List Commit). RunTells reads script cs before after ended) (sym ((h.opens.stands image is).only opening stands)) (opened_tells reads script own before after ended told h)

-- all jobs of a sample are of its one session
puts_lone : (number : ℕ) (blocks : List (List ℕ)) (more : List (List ScriptJob)) → AreLonePhases (phases_asked more) → AreLonePhases (phases_asked (puts_from number blocks ++ more))
puts_lone number [] more h = h
puts_lone number (block ∷ blocks) more h = ((0, (refl, tt)), puts_lone (number + 1) blocks more h)

sample_lone : (lines start : ℕ) → AreLonePhases (phases_asked (sample_reading lines start).phases)
sample_lone lines start = ((0, (refl, tt)), puts_lone 2 (blocks_of lines start) _ ((0, (refl, (refl, (refl, tt)))), tt))

-- a sample that is done printed its jobs done one after the other
sample_tells : (reading : ScriptReading) (old new : Option (List ℕ)) (before after : ℕ) (ended : Status) → AreLonePhases (phases_asked reading.phases) → SampleEnds reading old new before after ended → ended ≡ status.Done → PrintsPlay reading old new
sample_tells reading old new before after ended lone (inl h) e = absurd (no_memory_done (sym e ∙ h.0))
sample_tells reading old new before after ended lone (inr (all, h)) e = by_why h.why h.stops h.closes where
  by_why : (why : Stop) → RunStops (Told [] all None) (λ whole bytes. reading) why (sink_alone old before) h.at → ClosesAfter why false 0 h.at.written new h.at.sink_faults after ended → PrintsPlay reading old new
  by_why stop.Ended stops closes =
      let w = closed_as stop.Ended false 0 status.Done h.at.written new h.at.sink_faults after ended closes e no_memory_done no_sink_done in
      record {
        bytes = transcript_bytes reading.names stops.turns;
        all = all;
        play = (
          all_turns stops.turns,
          all_jobs_of stops.turns ∙ ap all_jobs stops.answers,
          stops.ran.play refl (lone_phases stops.turns (subst AreLonePhases (sym stops.answers) lone)),
          refl,
        );
        written = written_more old h.at.written new (transcript_bytes reading.names stops.turns) [] stops.written w.1 ∙ ap (append_known old) (append-nil (transcript_bytes reading.names stops.turns));
      }
  by_why (stop.Fault f) stops closes =
      let w = closed_as (stop.Fault f) false 0 status.Done h.at.written new h.at.sink_faults after ended closes e no_memory_done no_sink_done in absurd (let x = w.0 in cc)
  by_why (stop.Source n) stops closes =
      let w = closed_as (stop.Source n) false 0 status.Done h.at.written new h.at.sink_faults after ended closes e no_memory_done no_sink_done in absurd (let x = w.0 in cc)
  by_why (stop.Sink n) stops closes = absurd (no_sink_done n (sym e ∙ closes.0))
  by_why stop.NoMemory stops closes = absurd (no_memory_done (sym e ∙ closes.0))

-- a run that is out of memory before it begins does nothing
silent_tells : (reads : Bool → List ℕ → ScriptReading) (script : List ℕ) (opening : List Commit) (before : Outside) (ended : Status) → ended ≡ status.NoMemory → RunTells reads script opening before before ended
silent_tells reads script opening before ended is =
    record {
      done = λ e. absurd (no_memory_done (sym e ∙ is));
      disk_fault = λ faults e. absurd (no_memory_device faults (sym e ∙ is));
      script_fault = λ f e. absurd (let x : status.ScriptFault f ≡ status.NoMemory = sym e ∙ is in cc);
      source_fault = λ faults e. absurd (let x : status.SourceFault faults ≡ status.NoMemory = sym e ∙ is in cc);
      sink_fault = λ faults e. absurd (let x : status.SinkFault faults ≡ status.NoMemory = sym e ∙ is in cc);
      no_memory = λ e. nothing_done reads script opening before;
    }

-- what a command came to
pub command_tells : (c : Option Command) (before after : Outside) (ended : Status) → EndsBy c before after ended → HeadlineBy c before after ended
command_tells None before after ended h = tt
command_tells (Some command.Init) before after ended h = tt
command_tells (Some command.Run) before after ended h = run_tells script_reads before after ended h
command_tells (Some (command.Load table)) before after ended h = run_tells (block_reads (put_text table)) before after ended h
command_tells (Some (command.Sample lines start)) before after ended h = λ e. sample_tells (sample_reading lines start) before.written after.written before.sink_faults after.sink_faults ended (sample_lone lines start) h.1 e
command_tells (Some command.Group) before after ended h = tt
command_tells (Some (command.Ship from to)) before after ended h = tt
command_tells (Some command.Follow) before after ended h = tt
command_tells (Some (command.Watch text)) before after ended h = tt
command_tells (Some command.Transact) before after ended h = tt

-- out of memory
pub memory_tells : (c : Option Command) (before : Outside) (ended : Status) → ended ≡ status.NoMemory → HeadlineBy c before before ended
memory_tells None before ended e = tt
memory_tells (Some command.Init) before ended e = tt
memory_tells (Some command.Run) before ended e = λ script image opening told reads stands. silent_tells script_reads script opening before ended e
memory_tells (Some (command.Load table)) before ended e = λ script image opening told reads stands. silent_tells (block_reads (put_text table)) script opening before ended e
memory_tells (Some (command.Sample lines start)) before ended e = λ done. absurd (no_memory_done (sym done ∙ e))
memory_tells (Some command.Group) before ended e = tt
memory_tells (Some (command.Ship from to)) before ended e = tt
memory_tells (Some command.Follow) before ended e = tt
memory_tells (Some (command.Watch text)) before ended e = tt
memory_tells (Some command.Transact) before ended e = tt
