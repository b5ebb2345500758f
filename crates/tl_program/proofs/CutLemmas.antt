-- What a run printed of a transcript that the sink or memory cut short.
use Rattle.std.proofs.Common.{◌≡◌, ℕ, Bool, true, false, List, [], take, map, Some, None, is_some, IfSome, refl, ap, subst, sym, ◌∙◌, inl, inr}
use Rattle.std.specs.declared.option.Option.{Option}
use Rattle.tl_types.specs.declared.commits.Commit.{Commit}
use Rattle.tl_device.specs.Known.{append_known, prepend_known, Rose}
use Rattle.tl_script.specs.declared.jobs.ScriptFault.{ScriptFault}
use Rattle.tl_script.specs.Script.{ScriptReading}
use Rattle.tl_jobs.specs.Turns.{Turn}
use Rattle.tl_jobs.specs.Written.{jobs_of, transcript_bytes}
use Rattle.tl_journal.specs.declared.faults.JournalFault.{JournalFault}
use Rattle.tl_journal.specs.declared.faults.JournalFault.TheVariants as journal
use Rattle.tl_command.specs.declared.statuses.Status.{Status}
use Rattle.tl_command.specs.declared.statuses.Status.TheVariants as status
use Rattle.tl_command.specs.declared.stops.Stop.{Stop}
use Rattle.tl_command.specs.declared.stops.Stop.TheVariants as stop
use Rattle.tl_command.specs.Status.{closing_line}
use Rattle.tl_command.specs.Jobs.{phases_asked}
use Rattle.tl_command.specs.Closing.{Closes, EndsFor, EndsRefused, ClosesAfter, status_for, wanted_by}
use Rattle.tl_commands.specs.Runs.{Told, OpenedEnds}
use Rattle.tl_program.specs.Headline.{CutsReplies, CutsClosing, CutsClosed, CutsBySink, StopsInPhase, CutsByMemory, wanted_for}
use Rattle.tl_command.specs.Outside.{Outside, streams_of, HoldsJournal}
use Rattle.tl_commands.specs.Stopping.{RunsAll, RunStops}
use Rattle.tl_command.proofs.BytesLemmas.{written_more, written_none}
use Rattle.tl_program.proofs.TopLemmas.{told_script}

-- THE CLOSING LINE

-- where the sink failed at the closing line, some first bytes of it were written
sunk : (wanted : Status) (old new : Option (List ℕ)) (before after : ℕ) (ended : Status) (faults : ℕ) → Closes [] wanted old new before after ended → ended ≡ status.SinkFault faults → ((n : ℕ) → wanted ≡ status.SinkFault n → ⊥) → Rose before after × ((n : ℕ) × (new ≡ append_known old (take n (closing_line wanted))))
sunk wanted old new before after ended faults (inl h) e other = absurd (other faults (sym h.0 ∙ e))
sunk wanted old new before after ended faults (inr (inl h)) e other = absurd (let x : status.SinkFault faults ≡ status.NoMemory = sym e ∙ h.0 in cc)
sunk wanted old new before after ended faults (inr (inr h)) e other = (h.1, h.2)

-- where memory ran out for it, nothing of it was
starved : (wanted : Status) (old new : Option (List ℕ)) (before after : ℕ) (ended : Status) → Closes [] wanted old new before after ended → ended ≡ status.NoMemory → (wanted ≡ status.NoMemory → ⊥) → new ≡ old
starved wanted old new before after ended (inl h) e other = absurd (other (sym h.0 ∙ e))
starved wanted old new before after ended (inr (inl h)) e other = h.1
starved wanted old new before after ended (inr (inr h)) e other = absurd (let x : status.NoMemory ≡ status.SinkFault after = sym e ∙ h.0 in cc)

no_sink_wanted : (broke : Bool) (count n : ℕ) → wanted_by broke count ≡ status.SinkFault n → ⊥
no_sink_wanted true count n e = cc
no_sink_wanted false count n e = cc

no_memory_wanted : (broke : Bool) (count : ℕ) → wanted_by broke count ≡ status.NoMemory → ⊥
no_memory_wanted true count e = cc
no_memory_wanted false count e = cc

-- A JOURNAL THAT IS NOT OPENED

refused_sunk : (fault : JournalFault) (old new : Option (List ℕ)) (before after : ℕ) (ended : Status) (faults : ℕ) → EndsFor fault old new before after ended → ended ≡ status.SinkFault faults → Rose before after × ((n : ℕ) × (new ≡ append_known old (take n (closing_line (status_for fault)))))
refused_sunk journal.NoMemory old new before after ended faults h e = absurd (let x : status.SinkFault faults ≡ status.NoMemory = sym e ∙ h.0 in cc)
refused_sunk (journal.Device n) old new before after ended faults h e = sunk (status.DiskFault n) old new before after ended faults h e (λ m x. cc)
refused_sunk (journal.NotInitialised n) old new before after ended faults h e = sunk (status.NotInitialised n) old new before after ended faults h e (λ m x. cc)
refused_sunk (journal.AlreadyInitialised n) old new before after ended faults h e = sunk (status.AlreadyInitialised n) old new before after ended faults h e (λ m x. cc)
refused_sunk (journal.Damaged n) old new before after ended faults h e = sunk (status.Damaged n) old new before after ended faults h e (λ m x. cc)

refused_starved : (fault : JournalFault) (old new : Option (List ℕ)) (before after : ℕ) (ended : Status) → EndsFor fault old new before after ended → ended ≡ status.NoMemory → new ≡ old
refused_starved journal.NoMemory old new before after ended h e = h.1
refused_starved (journal.Device n) old new before after ended h e = starved (status.DiskFault n) old new before after ended h e (λ x. cc)
refused_starved (journal.NotInitialised n) old new before after ended h e = starved (status.NotInitialised n) old new before after ended h e (λ x. cc)
refused_starved (journal.AlreadyInitialised n) old new before after ended h e = starved (status.AlreadyInitialised n) old new before after ended h e (λ x. cc)
refused_starved (journal.Damaged n) old new before after ended h e = starved (status.Damaged n) old new before after ended h e (λ x. cc)

pub refused_sink : (reads : Bool → List ℕ → ScriptReading) (script : List ℕ) (opening : List Commit) (before after : Outside) (ended : Status) (faults : ℕ) → EndsRefused before after ended → ended ≡ status.SinkFault faults → Rose before.sink_faults after.sink_faults × CutsBySink reads script opening before after
refused_sink reads script opening before after ended faults h e =
    let w = refused_sunk h.fault before.written after.written before.sink_faults after.sink_faults ended faults h.ends e in
    (w.0, inl (record { fault = h.fault; refused = h.refused; counts = h.counts; unread = h.unread; keeps = h.keeps; some = w.1.0; written = w.1.1 }))

pub refused_memory : (reads : Bool → List ℕ → ScriptReading) (script : List ℕ) (opening : List Commit) (before after : Outside) (ended : Status) → EndsRefused before after ended → ended ≡ status.NoMemory → CutsByMemory reads script opening before after
refused_memory reads script opening before after ended h e =
    inl (record {
      unread = h.unread;
      written = refused_starved h.fault before.written after.written before.sink_faults after.sink_faults ended h.ends e;
      keeps = h.keeps;
    })

-- memory ran out before anything was done
pub nothing_done : (reads : Bool → List ℕ → ScriptReading) (script : List ℕ) (opening : List Commit) (before : Outside) → CutsByMemory reads script opening before before
nothing_done reads script opening before =
    inl (record {
      unread = (refl, refl);
      written = refl;
      keeps = record { same_or_trimmed = λ b told. (b, told, inl refl); leaves = λ b cs told stands c left. inl left };
    })

-- A JOURNAL THAT IS OPENED

-- the replies of all phases that are read, and some first bytes of the closing line
cut_closing : (reading : ScriptReading) (closing : Option Commit → Status) (opening all : List Commit) (broke : Option Commit) (before after : Outside) (at : Option (List ℕ)) (turns : List (List Turn)) (n : ℕ) → map jobs_of turns ≡ phases_asked reading.phases → Told opening all broke turns → at ≡ append_known before.written (transcript_bytes reading.names turns)
    → after.written ≡ append_known at (take n (closing_line (closing broke))) → HoldsJournal all broke before after → CutsClosing reading closing opening before after
cut_closing reading closing opening all broke before after at turns n answers told first then_ holds =
    record {
      bytes = transcript_bytes reading.names turns;
      all = all;
      broke = broke;
      begins = told.begins;
      transcript = (turns, answers, told.transcript, refl);
      some = n;
      written = written_more before.written at after.written (transcript_bytes reading.names turns) (take n (closing_line (closing broke))) first then_;
      holds = holds;
    }

module _ (reads : Bool → List ℕ → ScriptReading) (script : List ℕ) (opening : List Commit) (before after : Outside) (ended : Status) (told : before.left ≡ Some script) (h : OpenedEnds reads opening before after ended) where
  abbrev Own : List (List Turn) → Type 0
  Own = Told opening h.all h.broke

  abbrev At : Stop → Type 0
  At why = RunStops Own reads why (streams_of before) h.ends.at

  abbrev ClosesAt : Stop → Type 0
  ClosesAt why = ClosesAfter why (is_some h.broke) after.disk_faults h.ends.at.written after.written h.ends.at.sink_faults after.sink_faults ended

  same_script : (own : List ℕ) → IfSome before.left (λ l. l ≡ own) → own ≡ script
  same_script own t = sym (told_script before.left own script told t)

  rose_from : h.ends.at.sink_faults ≡ before.sink_faults → Rose h.ends.at.sink_faults after.sink_faults → Rose before.sink_faults after.sink_faults
  rose_from same rose = subst (λ (m : ℕ). Rose m after.sink_faults) same rose

  -- all phases, or those before a fault, were run
  all_closing : (fault : Option ScriptFault) (closing : Option Commit → Status) (n : ℕ) (r : RunsAll Own (reads true) fault (streams_of before) h.ends.at) → after.written ≡ append_known h.ends.at.written (take n (closing_line (closing h.broke))) → CutsClosing (reads true script) closing opening before after
  all_closing fault closing n r line =
      subst (λ (s : List ℕ). CutsClosing (reads true s) closing opening before after) (same_script r.script r.told)
      (cut_closing (reads true r.script) closing opening h.all h.broke before after h.ends.at.written r.turns n r.answers r.ran r.written line h.holds)

  all_fault : (fault : Option ScriptFault) (r : RunsAll Own (reads true) fault (streams_of before) h.ends.at) → (reads true script).fault ≡ fault
  all_fault fault r = subst (λ (s : List ℕ). (reads true s).fault ≡ fault) (same_script r.script r.told) r.fault_is

  -- the source failed
  closed_closing : (n : ℕ) (closing : Option Commit → Status) (k : ℕ) → At (stop.Source n) → after.written ≡ append_known h.ends.at.written (take k (closing_line (closing h.broke))) → CutsClosed (reads false) closing opening before after
  closed_closing n closing k (stops, count) line =
      record {
        rose = subst (λ (m : ℕ). Rose before.source_faults m) (sym h.ends.source_same) stops.rose;
        taken = stops.taken;
        order = stops.order ∙ ap (prepend_known stops.taken) (sym h.ends.left_same);
        faultless = stops.faultless;
        cuts = cut_closing (reads false stops.taken) closing opening h.all h.broke before after h.ends.at.written stops.turns k stops.answers stops.ran stops.written line h.holds;
      }

  pub sink_cuts : (faults : ℕ) → ended ≡ status.SinkFault faults → Rose before.sink_faults after.sink_faults × CutsBySink reads script opening before after
  sink_cuts faults e = by_why h.ends.why h.ends.stops h.ends.closes where
    of_all : (fault : Option ScriptFault) → RunsAll Own (reads true) fault (streams_of before) h.ends.at → Closes [] (wanted_for fault after.disk_faults h.broke) h.ends.at.written after.written h.ends.at.sink_faults after.sink_faults ended → ((n : ℕ) → wanted_for fault after.disk_faults h.broke ≡ status.SinkFault n → ⊥) → Rose before.sink_faults after.sink_faults × CutsBySink reads script opening before after
    of_all fault r closes other =
        let w = sunk (wanted_for fault after.disk_faults h.broke) h.ends.at.written after.written h.ends.at.sink_faults after.sink_faults ended faults closes e other in
        let cuts = subst (λ (f : Option ScriptFault). CutsClosing (reads true script) (wanted_for f after.disk_faults) opening before after) (sym (all_fault fault r)) (all_closing fault (wanted_for fault after.disk_faults) w.1.0 r w.1.1) in
        (rose_from r.sink_sure w.0, inr (inr (inl cuts)))

    by_why : (why : Stop) → At why → ClosesAt why → Rose before.sink_faults after.sink_faults × CutsBySink reads script opening before after
    by_why stop.Ended stops closes = of_all None stops closes (no_sink_wanted (is_some h.broke) after.disk_faults)
    by_why (stop.Fault f) stops closes = of_all (Some f) stops closes (λ n x. cc)
    by_why (stop.Source n) (stops, count) closes =
        let w = sunk (status.SourceFault n) h.ends.at.written after.written h.ends.at.sink_faults after.sink_faults ended faults closes e (λ m x. cc) in
        let same : n ≡ after.source_faults = count ∙ sym h.ends.source_same in
        let line = subst (λ (m : ℕ). after.written ≡ append_known h.ends.at.written (take w.1.0 (closing_line (status.SourceFault m)))) same w.1.1 in
        (rose_from stops.sink_sure w.0, inr (inr (inr (closed_closing n (λ broke. status.SourceFault after.source_faults) w.1.0 (stops, count) line))))
    by_why (stop.Sink n) (stops, count) closes =
        let cuts : CutsReplies (reads true stops.script) opening before after = record {
          turns = stops.turns;
          last = stops.last;
          later = stops.later;
          answers = stops.answers;
          all = h.all;
          broke = h.broke;
          begins = stops.ran.begins;
          transcript = stops.ran.transcript;
          some = stops.some;
          written = closes.1 ∙ stops.written;
          holds = h.holds;
        } in
        (subst (λ (m : ℕ). Rose before.sink_faults m) (sym closes.2) stops.rose, inr (inl (subst (λ (s : List ℕ). CutsReplies (reads true s) opening before after) (same_script stops.script stops.told) cuts)))
    by_why stop.NoMemory stops closes = absurd (let x : status.SinkFault faults ≡ status.NoMemory = sym e ∙ closes.0 in cc)

  nothing_more : after.written ≡ h.ends.at.written → after.written ≡ append_known h.ends.at.written (take 0 (closing_line status.NoMemory))
  nothing_more same = same ∙ written_none h.ends.at.written

  pub memory_cuts : ended ≡ status.NoMemory → CutsByMemory reads script opening before after
  memory_cuts e = by_why h.ends.why h.ends.stops h.ends.closes where
    of_all : (fault : Option ScriptFault) (wanted : Status) → RunsAll Own (reads true) fault (streams_of before) h.ends.at → Closes [] wanted h.ends.at.written after.written h.ends.at.sink_faults after.sink_faults ended → (wanted ≡ status.NoMemory → ⊥) → CutsByMemory reads script opening before after
    of_all fault wanted r closes other =
        let same = starved wanted h.ends.at.written after.written h.ends.at.sink_faults after.sink_faults ended closes e other in
        inr (inr (inl (all_closing fault (λ broke. status.NoMemory) 0 r (nothing_more same))))

    by_why : (why : Stop) → At why → ClosesAt why → CutsByMemory reads script opening before after
    by_why stop.Ended stops closes = of_all None (wanted_by (is_some h.broke) after.disk_faults) stops closes (no_memory_wanted (is_some h.broke) after.disk_faults)
    by_why (stop.Fault f) stops closes = of_all (Some f) (status.ScriptFault f) stops closes (λ x. cc)
    by_why (stop.Source n) stops closes =
        let same = starved (status.SourceFault n) h.ends.at.written after.written h.ends.at.sink_faults after.sink_faults ended closes e (λ x. cc) in
        inr (inr (inr (closed_closing n (λ broke. status.NoMemory) 0 stops (nothing_more same))))
    by_why (stop.Sink n) stops closes = absurd (let x : status.NoMemory ≡ status.SinkFault n = sym e ∙ closes.0 in cc)
    by_why stop.NoMemory stops closes =
        let cuts : StopsInPhase (reads true stops.script) opening before after = record {
          turns = stops.turns;
          last = stops.last;
          later = stops.later;
          answers = stops.answers;
          fronts = stops.fronts;
          all = h.all;
          broke = h.broke;
          begins = stops.ran.begins;
          transcript = stops.ran.transcript;
          written = closes.1 ∙ stops.written;
          holds = h.holds;
        } in
        inr (inl (subst (λ (s : List ℕ). StopsInPhase (reads true s) opening before after) (same_script stops.script stops.told) cuts))
