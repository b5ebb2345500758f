-- How a run ends, and when it is done.
use Rattle.std.proofs.Common.{◌≡◌, ℕ, Bool, true, false, ◌≤◌, List, [], length, Some, None, Result, Ok, is_some, IfSome, ◌⊎◌, ◌<◌, refl, ap, subst, sym, ◌∙◌, inl, inr, arith}
use Rattle.std.specs.declared.option.Option.{Option}
use Rattle.tl_types.specs.declared.commits.Commit.{Commit}
use Rattle.tl_types.specs.Limits.{standard_limits}
use Rattle.tl_device.specs.Known.{Rose}
use Rattle.tl_script.specs.declared.jobs.ScriptFault.{ScriptFault}
use Rattle.tl_script.specs.Script.{ScriptReading}
use Rattle.tl_jobs.specs.Turns.{Turn}
use Rattle.tl_journal.specs.Answers.{CountsFaults, IsTooLong}
use Rattle.tl_journal.specs.declared.faults.JournalFault.{JournalFault}
use Rattle.tl_journal.specs.declared.faults.JournalFault.TheVariants as journal
use Rattle.tl_command.specs.declared.statuses.Status.{Status}
use Rattle.tl_command.specs.declared.statuses.Status.TheVariants as status
use Rattle.tl_program.specs.declared.commands.Command.{Command}
use Rattle.tl_program.specs.declared.commands.Command.TheVariants as command
use Rattle.tl_command.specs.declared.stops.Stop.{Stop}
use Rattle.tl_command.specs.declared.stops.Stop.TheVariants as stop
use Rattle.tl_commands.specs.Runs.{put_text, Told, PhasesEnd, RunEnds, sink_alone, SampleEnds}
use Rattle.tl_command.specs.Status.{closing_line}
use Rattle.tl_command.specs.Coming.{script_reads, block_reads}
use Rattle.tl_commands.specs.Sample.{sample_reading}
use Rattle.tl_commands.specs.Stopping.{RunStops}
use Rattle.tl_command.specs.Closing.{wanted_by, Writes, ClosesAfter, EndsFor, EndsRefused, NotMadeBy, InitEnds}
use Rattle.tl_program.specs.Ending.{EndsBy}
use Rattle.tl_program.specs.Headline.{AcceptsAll, IsDoneOrNoMemory, StaysSure, IsHonest, IsFaultless, IsFollowed, NamesPlan, RefusesFirst, RunCompletes, CompletesBy, TransactCompletes}
use Rattle.tl_command.specs.Outside.{Outside, Streams, streams_of}
use Rattle.tl_follow.specs.Inputs.{IsInput, input_fault, input_limit}
use Rattle.tl_follow.specs.Shipping.{shipment}
use Rattle.tl_follow.proofs.InputLemmas.{one_input}
use Rattle.tl_csv.proofs.NumberLemmas.{lt_true}
use Rattle.tl_commands.specs.Grouping.{GroupEnds, GroupEndsBy, Plays, TransactEnds, WhyGivenUp}
use Rattle.tl_commands.specs.Leaving.{CutsGivenUp, LeavesBy}
use Rattle.tl_commands.specs.Playing.{HasFault, ScriptToRefusal}
use Rattle.tl_commands.specs.Watching.{WatchEnds, WatchEndsBy}
use Rattle.tl_jobs.specs.declared.replies.Refusal.{Refusal}
use Rattle.tl_watch.specs.declared.plans.WatchPlan.{WatchPlan}
use Rattle.tl_commands.specs.Plans.{plan_reading}
use Rattle.tl_commands.specs.Shipping.{ShipEnds}
use Rattle.tl_commands.specs.Following.{FollowEnds, FollowEndsBy, Follows, HasInputFault, WhyFollowFails}
use Rattle.tl_commands.proofs.RunEndLemmas.{no_rise, no_break, only_memory}

-- COMPLETENESS

-- a text whose sink does not fail
writes_complete : (bytes : List ℕ) (wanted : Status) (old new : Option (List ℕ)) (before after : ℕ) (ended : Status) → wanted ≡ status.Done → Writes bytes wanted old new before after ended → (Rose before after → ⊥) → IsDoneOrNoMemory ended
writes_complete bytes wanted old new before after ended w (inl done) sink = inl (done.0 ∙ w)
writes_complete bytes wanted old new before after ended w (inr (inl none)) sink = inr none.0
writes_complete bytes wanted old new before after ended w (inr (inr failed)) sink = absurd (sink failed.1)

-- a journal that is honest is refused for memory alone
refused_memory : (before after : Outside) (ended : Status) → EndsRefused before after ended → IsHonest before → StaysSure before after → ended ≡ status.NoMemory
refused_memory before after ended h honest sure =
    let memory = only_memory h.fault before.disk_faults after.disk_faults h.counts sure.disk (h.honest honest.image honest.commits honest.told honest.stands honest.fitting) in
    (subst (λ (f : JournalFault). EndsFor f before.written after.written before.sink_faults after.sink_faults ended) memory h.ends).0

refused_complete : (before after : Outside) (ended : Status) → EndsRefused before after ended → IsHonest before → StaysSure before after → IsDoneOrNoMemory ended
refused_complete before after ended h honest sure = inr (refused_memory before after ended h honest sure)

pub told_script : (left : Option (List ℕ)) (script own : List ℕ) → left ≡ Some own → IfSome left (λ l. l ≡ script) → own ≡ script
told_script None script own e told = absurd (cc)
told_script (Some l) script own e told = let same : l ≡ own = cc in sym same ∙ told

-- phases in which no fault is read are all run where no count rises
phases_complete : (Ran : List (List Turn) → Type 0) (reads : Bool → List ℕ → ScriptReading) (broke : Bool) (faults : ℕ) (before after : Streams) (ended : Status) → PhasesEnd Ran reads broke faults before after ended
    → ((script : List ℕ) → IfSome before.left (λ l. l ≡ script) → (reads true script).fault ≡ None) → broke ≡ false → (Rose before.source_faults after.source_faults → ⊥) → (Rose before.sink_faults after.sink_faults → ⊥) → IsDoneOrNoMemory ended
phases_complete Ran reads broke faults before after ended h faultless unbroken source sink = by_why h.why h.stops h.closes where
  sink_from : h.at.sink_faults ≡ before.sink_faults → Rose h.at.sink_faults after.sink_faults → ⊥
  sink_from e rose = sink (subst (λ (n : ℕ). Rose n after.sink_faults) e rose)

  by_why : (why : Stop) → RunStops Ran reads why before h.at → ClosesAfter why broke faults h.at.written after.written h.at.sink_faults after.sink_faults ended → IsDoneOrNoMemory ended
  by_why stop.Ended stops closes =
      writes_complete (closing_line (wanted_by broke faults)) (wanted_by broke faults) h.at.written after.written h.at.sink_faults after.sink_faults ended (ap (λ b. wanted_by b faults) unbroken) closes (sink_from stops.sink_sure)
  by_why (stop.Fault f) stops closes = absurd (let e : None ≡ Some f = sym (faultless stops.script stops.told) ∙ stops.fault_is in cc)
  by_why (stop.Source n) stops closes = absurd (source (subst (λ (n : ℕ). Rose before.source_faults n) (sym h.source_same) stops.0.rose))
  by_why (stop.Sink n) stops closes = absurd (sink (subst (λ (n : ℕ). Rose before.sink_faults n) (sym closes.2) stops.0.rose))
  by_why stop.NoMemory stops closes = inr closes.0

run_complete : (reads : Bool → List ℕ → ScriptReading) (before after : Outside) (ended : Status) → RunEnds reads before after ended → RunCompletes reads before after ended
run_complete reads before after ended (inl refused) = λ honest faultless sure. refused_complete before after ended refused honest sure
run_complete reads before after ended (inr (opening, h)) = λ honest faultless sure.
    phases_complete (Told opening h.all h.broke) reads (is_some h.broke) after.disk_faults (streams_of before) (streams_of after) ended h.ends
    (λ script told. ap (λ s. (reads true s).fault) (sym (told_script before.left script faultless.script faultless.told told)) ∙ faultless.whole)
    (ap is_some (no_break h.broke before.disk_faults after.disk_faults h.holds.counts sure.disk)) sure.source sure.sink

sample_complete : (lines start : ℕ) (before after : Outside) (ended : Status) → SampleEnds (sample_reading lines start) before.written after.written before.sink_faults after.sink_faults ended → StaysSure before after → IsDoneOrNoMemory ended
sample_complete lines start before after ended (inl none) sure = inr none.0
sample_complete lines start before after ended (inr (all, h)) sure =
    phases_complete (Told [] all None) (λ whole bytes. sample_reading lines start) false 0 (sink_alone before.written before.sink_faults) (sink_alone after.written after.sink_faults) ended h (λ script told. refl) refl no_rise sure.sink

-- a short disk is not too long
made_complete : (fault : JournalFault) (before after : Outside) (ended : Status) (b : List ℕ) → NotMadeBy fault before after → CountsFaults fault before.disk_faults after.disk_faults → EndsFor fault before.written after.written before.sink_faults after.sink_faults ended → before.reads ≡ Some b → length b ≤ 17 → (Rose before.disk_faults after.disk_faults → ⊥) → IsDoneOrNoMemory ended
made_complete journal.NoMemory before after ended b refused counts ends told short sure = inr ends.0
made_complete (journal.Device faults) before after ended b refused counts ends told short sure = absurd (sure counts.1)
made_complete (journal.NotInitialised len) before after ended b refused counts ends told short sure = absurd refused
made_complete (journal.AlreadyInitialised len) before after ended b refused counts ends told short sure =
    let long = subst (λ (o : Option (List ℕ)). IfSome o (IsTooLong len)) told refused.1 in absurd (omega (arith, long.0, long.1, short))
made_complete (journal.Damaged at) before after ended b refused counts ends told short sure = absurd refused

init_complete : (before after : Outside) (ended : Status) → InitEnds before after ended → (b : List ℕ) → before.reads ≡ Some b → length b ≤ 17 → StaysSure before after → IsDoneOrNoMemory ended
init_complete before after ended (inl made) b told short sure = inl made.ends.0
init_complete before after ended (inr failed) b told short sure = made_complete failed.fault before after ended b failed.refused failed.counts failed.ends told short sure.disk

-- GROUPS AND PACKETS

-- the sink failed
sink_rose : (What : List Commit → List ℕ → Type 0) (Why : Status → Type 0) (opening : List Commit) (before after : Outside) (n : ℕ) → LeavesBy What opening before after (status.SinkFault n) ⊎ ((n ≡ after.sink_faults) × CutsGivenUp Why opening before after) → Rose before.sink_faults after.sink_faults
sink_rose What Why opening before after n (inl (same, inl h)) = h.prints.0
sink_rose What Why opening before after n (inl (same, inr h)) = h.prints.0
sink_rose What Why opening before after n (inr (same, h)) = h.prints.0

-- the sink failed at what a group writes
group_rose : (stops : Bool) (plan : Option WatchPlan) (opening : List Commit) (before after : Outside) (n : ℕ) → GroupEndsBy stops plan script_reads opening before after (status.SinkFault n) → Rose before.sink_faults after.sink_faults
group_rose stops plan opening before after n (inl h) = sink_rose (λ all text. Plays stops plan script_reads opening all text before after) (WhyGivenUp stops script_reads opening before after) opening before after n (inl h)
group_rose stops plan opening before after n (inr (same, inl h)) = h.prints.0
group_rose stops plan opening before after n (inr (same, inr h)) = h.1.prints.0

-- no fault is read of a faultless script
no_fault : (stops : Bool) (opening : List Commit) (before : Outside) (f : ScriptFault) → HasFault stops (script_reads true) opening f before.left → IsFaultless script_reads before → ⊥
no_fault stops opening before f h faultless =
    let own : h.script ≡ faultless.script = sym (told_script before.left h.script faultless.script faultless.told h.told) in
    absurd (let e : None ≡ Some f = sym faultless.whole ∙ (ap (λ s. (script_reads true s).fault) (sym own) ∙ h.is) in cc)

-- a group that was opened, with a script in which no fault is read
group_opened : (plan : Option WatchPlan) (opening : List Commit) (before after : Outside) (ended : Status) → GroupEndsBy false plan script_reads opening before after ended → IsFaultless script_reads before → StaysSure before after → IsDoneOrNoMemory ended
group_opened plan opening before after status.Done h faultless sure = inl refl
group_opened plan opening before after status.NoMemory h faultless sure = inr refl
group_opened plan opening before after status.Usage h faultless sure = absurd h
group_opened plan opening before after (status.SourceFault n) h faultless sure = absurd (sure.source h.0.1)
group_opened plan opening before after (status.SinkFault n) h faultless sure = absurd (sure.sink (group_rose false plan opening before after n h))
group_opened plan opening before after (status.DiskFault n) h faultless sure = absurd (sure.disk h.1.holds.rose)
group_opened plan opening before after (status.ScriptFault f) h faultless sure = absurd (no_fault false opening before f h.0.0 faultless)
group_opened plan opening before after (status.NotInitialised len) h faultless sure = absurd h
group_opened plan opening before after (status.AlreadyInitialised len) h faultless sure = absurd h
group_opened plan opening before after (status.Damaged at) h faultless sure = absurd h
group_opened plan opening before after (status.PacketFault at) h faultless sure = absurd h
group_opened plan opening before after (status.WatchFault f) h faultless sure = absurd h
group_opened plan opening before after (status.StatementRefused n) h faultless sure = absurd h.plays

group_complete : (before after : Outside) (ended : Status) → GroupEnds script_reads before after ended → RunCompletes script_reads before after ended
group_complete before after ended (inl refused) = λ honest faultless sure. refused_complete before after ended refused honest sure
group_complete before after ended (inr (opening, h)) = λ honest faultless sure. group_opened None opening before after ended h.ends faultless sure

-- what a transaction comes to that was opened, with a script in which no fault is read
abbrev TransactIs : ScriptReading → List Commit → Status → Type 0
TransactIs reading opening ended =
    ((ended ≡ status.Done) × AcceptsAll reading opening)
    ⊎ ((ended ≡ status.NoMemory) ⊎ ((number : ℕ) × (ended ≡ status.StatementRefused number) × RefusesFirst reading opening number))

-- all of a script was done
accepts_all : (opening all : List Commit) (text : List ℕ) (before after : Outside) (faultless : IsFaultless script_reads before) → Plays true None script_reads opening all text before after → AcceptsAll (script_reads true faultless.script) opening
accepts_all opening all text before after faultless (plays, sure) =
    let own : plays.script ≡ faultless.script = sym (told_script before.left plays.script faultless.script faultless.told plays.told) in
    subst (λ (s : List ℕ). AcceptsAll (script_reads true s) opening) own (record {
      turns = plays.play.0;
      all = all;
      jobs = plays.play.1;
      play = plays.play.2;
      accepted = plays.play.3;
    })

-- or up to a statement that is refused
refuses_first : (opening : List Commit) (text : List ℕ) (number : ℕ) (before after : Outside) (faultless : IsFaultless script_reads before) → ScriptToRefusal None script_reads opening text number before.left after.left → RefusesFirst (script_reads true faultless.script) opening number
refuses_first opening text number before after faultless plays =
    let own : plays.script ≡ faultless.script = sym (told_script before.left plays.script faultless.script faultless.told plays.told) in
    subst (λ (s : List ℕ). RefusesFirst (script_reads true s) opening number) own (record {
      turns = plays.turns;
      all = plays.all;
      later = plays.later;
      jobs = sym plays.jobs;
      play = plays.play;
      refusal = plays.refusal;
      counted = plays.counted;
    })

transact_opened : (opening : List Commit) (before after : Outside) (ended : Status) → GroupEndsBy true None script_reads opening before after ended → (faultless : IsFaultless script_reads before) → StaysSure before after → TransactIs (script_reads true faultless.script) opening ended
transact_opened opening before after status.Done h faultless sure = inl (refl, accepts_all opening h.all h.text before after faultless h.what)
transact_opened opening before after status.NoMemory h faultless sure = inr (inl refl)
transact_opened opening before after status.Usage h faultless sure = absurd h
transact_opened opening before after (status.SourceFault n) h faultless sure = absurd (sure.source h.0.1)
transact_opened opening before after (status.SinkFault n) h faultless sure = absurd (sure.sink (group_rose true None opening before after n h))
transact_opened opening before after (status.DiskFault n) h faultless sure = absurd (sure.disk h.1.holds.rose)
transact_opened opening before after (status.ScriptFault f) h faultless sure = absurd (no_fault true opening before f h.0.0 faultless)
transact_opened opening before after (status.NotInitialised len) h faultless sure = absurd h
transact_opened opening before after (status.AlreadyInitialised len) h faultless sure = absurd h
transact_opened opening before after (status.Damaged at) h faultless sure = absurd h
transact_opened opening before after (status.PacketFault at) h faultless sure = absurd h
transact_opened opening before after (status.WatchFault f) h faultless sure = absurd h
transact_opened opening before after (status.StatementRefused n) h faultless sure = inr (inr (n, refl, refuses_first opening h.text n before after faultless h.plays))

transact_complete : (before after : Outside) (ended : Status) → TransactEnds script_reads before after ended → TransactCompletes script_reads before after ended
transact_complete before after ended (inl refused) = λ honest faultless sure. inr (inl (refused_memory before after ended refused honest sure))
transact_complete before after ended (inr (opening, h)) = λ honest faultless sure.
    let same : honest.commits ≡ opening = (h.opens.stands honest.image honest.told).only honest.commits honest.stands in
    subst (λ (cs : List Commit). TransactIs (script_reads true faultless.script) cs ended) (sym same) (transact_opened opening before after ended h.ends faultless sure)

watch_complete : (text : List ℕ) (before after : Outside) (ended : Status) → WatchEnds text script_reads before after ended → (honest : IsHonest before) → NamesPlan text honest.commits → IsFaultless script_reads before → StaysSure before after → IsDoneOrNoMemory ended
watch_complete text before after ended (inl refused) honest names faultless sure = refused_complete before after ended refused honest sure
watch_complete text before after ended (inr (opening, h)) honest (plan, names) faultless sure =
    let same : honest.commits ≡ opening = (h.opens.stands honest.image honest.told).only honest.commits honest.stands in
    let is : plan_reading opening text ≡ Ok plan = subst (λ (cs : List Commit). plan_reading cs text ≡ Ok plan) same names in
    group_opened (Some plan) opening before after ended (subst (λ (r : Result WatchPlan Refusal). WatchEndsBy r script_reads opening before after ended) is h.ends) faultless sure

ship_complete : (from to : ℕ) (before after : Outside) (ended : Status) → ShipEnds from to before after ended → IsHonest before → StaysSure before after → IsDoneOrNoMemory ended
ship_complete from to before after ended (inl refused) honest sure = refused_complete before after ended refused honest sure
ship_complete from to before after ended (inr (opening, h)) honest sure =
    writes_complete (shipment from to opening) status.Done before.written after.written before.sink_faults after.sink_faults ended refl h.writes sure.sink

-- packets that are followed to their end have no fault
no_input_fault : (start : List Commit) (at : ℕ) (before : Outside) → IsFollowed start before → HasInputFault start at before.left → ⊥
no_input_fault start at before followed (inl (is, long)) =
    let much : input_limit < length followed.input = subst (λ (o : Option (List ℕ)). IfSome o (λ l. input_limit < length l)) followed.told long in
    let fault : input_fault standard_limits start followed.input followed.packets [] ≡ Some input_limit = rw (lt_true input_limit (length followed.input) much) refl in
    absurd (let e : None ≡ Some input_limit = sym followed.faultless ∙ fault in cc)
no_input_fault start at before followed (inr (bytes, packets, rest, told, input, fault)) =
    let same : followed.input ≡ bytes = told_script before.left bytes followed.input followed.told told in
    let one = one_input followed.input followed.packets packets [] rest followed.whole (subst (λ (b : List ℕ). IsInput b packets rest) (sym same) input) in
    let there : input_fault standard_limits start followed.input followed.packets [] ≡ Some at =
    ap (λ b. input_fault standard_limits start b followed.packets []) same ∙ (ap (λ ps. input_fault standard_limits start bytes ps []) one.0 ∙ (ap (input_fault standard_limits start bytes packets) one.1 ∙ fault)) in
    absurd (let e : None ≡ Some at = sym followed.faultless ∙ there in cc)

follow_opened : (opening : List Commit) (before after : Outside) (ended : Status) → FollowEndsBy opening before after ended → IsFollowed opening before → StaysSure before after → IsDoneOrNoMemory ended
follow_opened opening before after status.Done h followed sure = inl refl
follow_opened opening before after status.NoMemory h followed sure = inr refl
follow_opened opening before after status.Usage h followed sure = absurd h
follow_opened opening before after (status.SourceFault n) h followed sure = absurd (sure.source h.1)
follow_opened opening before after (status.SinkFault n) h followed sure = absurd (sure.sink (sink_rose (λ all text. Follows opening all text before after) (WhyFollowFails opening before.left before.source_faults after.source_faults) opening before after n h))
follow_opened opening before after (status.DiskFault n) h followed sure = absurd (sure.disk h.1.holds.rose)
follow_opened opening before after (status.ScriptFault f) h followed sure = absurd h
follow_opened opening before after (status.NotInitialised len) h followed sure = absurd h
follow_opened opening before after (status.AlreadyInitialised len) h followed sure = absurd h
follow_opened opening before after (status.Damaged at) h followed sure = absurd h
follow_opened opening before after (status.PacketFault at) h followed sure = absurd (no_input_fault opening at before followed h.0)
follow_opened opening before after (status.WatchFault f) h followed sure = absurd h
follow_opened opening before after (status.StatementRefused n) h followed sure = absurd h

follow_complete : (before after : Outside) (ended : Status) → FollowEnds before after ended → (honest : IsHonest before) → IsFollowed honest.commits before → StaysSure before after → IsDoneOrNoMemory ended
follow_complete before after ended (inl refused) honest followed sure = refused_complete before after ended refused honest sure
follow_complete before after ended (inr (opening, h)) honest followed sure =
    follow_opened opening before after ended h.ends (subst (λ (cs : List Commit). IsFollowed cs before) ((h.opens.stands honest.image honest.told).only honest.commits honest.stands) followed) sure

-- what a command came to
pub command_completes : (c : Option Command) (before after : Outside) (ended : Status) → EndsBy c before after ended → CompletesBy c before after ended
command_completes None before after ended h = tt
command_completes (Some command.Init) before after ended h = λ b told short sure. init_complete before after ended h.1 b told short sure
command_completes (Some command.Run) before after ended h = run_complete script_reads before after ended h
command_completes (Some (command.Load table)) before after ended h = run_complete (block_reads (put_text table)) before after ended h
command_completes (Some (command.Sample lines start)) before after ended h = λ sure. sample_complete lines start before after ended h.1 sure
command_completes (Some command.Group) before after ended h = group_complete before after ended h
command_completes (Some (command.Ship from to)) before after ended h = λ honest sure. ship_complete from to before after ended h.1 honest sure
command_completes (Some command.Follow) before after ended h = λ honest followed sure. follow_complete before after ended h honest followed sure
command_completes (Some (command.Watch text)) before after ended h = λ honest names faultless sure. watch_complete text before after ended h honest names faultless sure
command_completes (Some command.Transact) before after ended h = transact_complete before after ended h

-- out of memory
pub memory_completes : (c : Option Command) (before after : Outside) (ended : Status) → ended ≡ status.NoMemory → CompletesBy c before after ended
memory_completes None before after ended e = tt
memory_completes (Some command.Init) before after ended e = λ b told short sure. inr e
memory_completes (Some command.Run) before after ended e = λ honest faultless sure. inr e
memory_completes (Some (command.Load table)) before after ended e = λ honest faultless sure. inr e
memory_completes (Some (command.Sample lines start)) before after ended e = λ sure. inr e
memory_completes (Some command.Group) before after ended e = λ honest faultless sure. inr e
memory_completes (Some (command.Ship from to)) before after ended e = λ honest sure. inr e
memory_completes (Some command.Follow) before after ended e = λ honest followed sure. inr e
memory_completes (Some (command.Watch text)) before after ended e = λ honest names faultless sure. inr e
memory_completes (Some command.Transact) before after ended e = λ honest faultless sure. inr (inl e)
