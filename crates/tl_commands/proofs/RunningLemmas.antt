-- The running of phases, one after the other.
use Rattle.std.proofs.Common.{◌≡◌, inl, inr, ℕ, zero, suc, ◌+◌, ◌<◌, ◌==◌, Bool, true, false, List, [], ◌∷◌, ◌++◌, length, take, map, get_or, All, Option, Some, None, Result, Ok, Err, refl, sym, ap, ◌∙◌, subst, arith, append_assoc, append-nil, length-append}
use Rattle.std.proofs.lemmas.List.{append-nil, length-map, length-take-le, map-append, take_more}
use mathlib.Core.List.{IsPrefix}
use Rattle.tl_types.specs.declared.commits.Entry.{Entry}
use Rattle.tl_device.specs.Known.{append_known, prepend_known, Rose}
use Rattle.tl_device.proofs.Known.{read_more}
use Rattle.tl_script.specs.declared.jobs.ScriptFault.{ScriptFault}
use Rattle.tl_script.specs.declared.phases.NextError.{NextError}
use Rattle.tl_script.specs.declared.phases.NextError.TheVariants as next
use Rattle.tl_script.specs.declared.phases.Phase.{Phase}
use Rattle.tl_script.specs.Script.{Job as ScriptJob, ScriptReading}
use Rattle.tl_script.specs.Phases.{no_phase, no_phase_but}
use Rattle.tl_script.specs.Reader.{with_phases, Grows, NextFaults}
use Rattle.tl_jobs.specs.declared.replies.Reply.{Reply}
use Rattle.tl_jobs.specs.declared.jobs.LentJob.{LentJob}
use Rattle.tl_jobs.specs.Jobs.{Job, job_of}
use Rattle.tl_session.specs.Plain as plain
use Rattle.tl_jobs.specs.Replies.{reply_bytes}
use Rattle.tl_jobs.specs.Turns.{Turn, meant, of_session, all_turns, Each, EachOfAll}
use Rattle.tl_session.specs.Promises.{Chain, tally, weight}
use Rattle.tl_session.specs.Phases.{own_jobs, replies_of, TakesTurns, RunsPhase, RunsFronts, HaveRun}
use Rattle.tl_jobs.specs.Written.{turn_bytes, turns_bytes, transcript_bytes, jobs_of}
use Rattle.tl_session.proofs.EntryLemmas.{begins_itself}
use Rattle.tl_session.proofs.PromiseLemmas.{run_more}
use Rattle.tl_command.specs.declared.stops.Stop.{Stop}
use Rattle.tl_command.specs.declared.stops.Stop.TheVariants as stop
use Rattle.tl_command.specs.Coming.{Coming, BringsPhase, BringsNoMore, BringsFault, AnswersComing, ReadsOn, HasNotBegun}
use Rattle.tl_command.specs.Jobs.{asked, phases_asked}
use Rattle.tl_command.specs.Outside.{Streams}
use Rattle.tl_commands.specs.Running.{Advances, RunsWhole, RunsUnwritten, RunsShort, RunsAndWrites, Progress, GoesOn, TakesOnePhase, replies_bytes}
use Rattle.tl_command.specs.Writing.{WritesBytes}
use Rattle.tl_commands.specs.Stopping.{RunsAll, StopsAtSource, StopsAtSink, AreFronts, StopsShort}
use Rattle.tl_command.specs.Stops.{stop_for}
use Rattle.tl_command.proofs.BytesLemmas.{Inside, turns_on, same_turns, each_grows, turns_inside, written_more, written_none}
use Rattle.tl_command.proofs.LentLemmas.{sessions_lent}
use Rattle.tl_command.proofs.ComingLemmas.{rest_of, whole_told, all_told, none_come, one_more_come, at_the_end, all_read, fault_read, closed_read, so_far_read}

-- WHAT SESSIONS SAY

-- a phase more
pub have_run_more : (opening : List Entry) (turns : List (List Turn)) (last : List Turn) (old new : plain.SharedAccess) → HaveRun opening turns old.seen old.amount → Advances last old new → HaveRun opening (turns ++ last ∷ []) new.seen new.amount
have_run_more opening turns last old new ran on =
    run_more opening turns last (record old { table = new.table; count = new.count }) new ran
    (record { table = refl; parts = on.parts; count = refl; later = on.later; chains = on.chains; amount = on.amount })

-- no turn is taken
no_turn : (shared : plain.SharedAccess) → Advances [] shared shared
no_turn shared =
    record { parts = refl; later = begins_itself shared.seen; chains = λ s. begins_itself shared.seen; amount = omega arith }

-- a phase was taken
pub took_phase : (old new : Coming) (before after : Option (List ℕ)) (phase : Phase) (why : Option Stop) → AnswersComing old before (Ok (Some phase)) new after → TakesOnePhase old new before after why
took_phase old new before after phase (Some stop) a = tt
took_phase old new before after phase None a = (by_test old.at_end refl, (a.taken, phase.jobs.items, a.order, a.says)) where
  by_test : (t : Bool) → old.at_end ≡ t → old.at_end ≡ false
  by_test false e = e
  by_test true e = absurd (let f = (a.idle e).1 in cc)

-- BYTES

pub transcript_more : (names : List (List ℕ)) (phases : List (List Turn)) (phase : List Turn) → transcript_bytes names (phases ++ phase ∷ []) ≡ transcript_bytes names phases ++ turns_bytes names phase
transcript_more names [] phase = ap (turns_bytes names) (append-nil phase)
transcript_more names (q ∷ phases) phase =
    turns_on names q (all_turns (phases ++ phase ∷ []))
    ∙ (ap (λ b. turns_bytes names q ++ b) (transcript_more names phases phase)
    ∙ (sym (append_assoc (turns_bytes names q) (transcript_bytes names phases) (turns_bytes names phase))
    ∙ ap (λ b. b ++ turns_bytes names phase) (sym (turns_on names q (all_turns phases)))))

-- the sessions' names stay where they are
pub same_transcript : (old new : List (List ℕ)) (phases : List (List Turn)) → Grows old new → EachOfAll (Inside (length old)) phases → transcript_bytes old phases ≡ transcript_bytes new phases
same_transcript old new [] g e = refl
same_transcript old new (q ∷ phases) g e =
    turns_on old q (all_turns phases)
    ∙ (ap (λ b. b ++ transcript_bytes old phases) (same_turns old new q g e.0)
    ∙ (ap (λ b. turns_bytes new q ++ b) (same_transcript old new phases g e.1) ∙ sym (turns_on new q (all_turns phases))))

all_grow : (old new : List (List ℕ)) (phases : List (List Turn)) → Grows old new → EachOfAll (Inside (length old)) phases → EachOfAll (Inside (length new)) phases
all_grow old new [] g e = tt
all_grow old new (q ∷ phases) g e = (each_grows old new q g e.0, all_grow old new phases g e.1)

all_more : (n : ℕ) (phases : List (List Turn)) (phase : List Turn) → EachOfAll (Inside n) phases → Each (Inside n) phase → EachOfAll (Inside n) (phases ++ phase ∷ [])
all_more n [] phase e f = (f, tt)
all_more n (q ∷ phases) phase e f = (e.0, all_more n phases phase e.1 f)

-- STEPS

phases_more : (phases : List (List ScriptJob)) (jobs : List ScriptJob) (turns : List (List Turn)) (last : List Turn) → map jobs_of turns ≡ phases_asked phases → jobs_of last ≡ map asked jobs → map jobs_of (turns ++ last ∷ []) ≡ phases_asked (phases ++ jobs ∷ [])
phases_more phases jobs turns last e f =
    map-append jobs_of turns (last ∷ [])
    ∙ (ap (λ l. l ++ jobs_of last ∷ []) e
    ∙ (ap (λ j. phases_asked phases ++ j ∷ []) f ∙ sym (map-append (λ js. map asked js) phases (jobs ∷ []))))

-- a phase was run, and its replies are written
pub one_more_run : (first : Coming) (opening : List Entry) (begun : Streams) (old new : Coming) (before after : plain.SharedAccess) (at end : Streams) (taken : List ℕ) (jobs : List ScriptJob)
    → Progress first opening begun old before at → at.left ≡ prepend_known taken end.left → (old.at_end ≡ true → ⊥) → BringsPhase old taken jobs new end.left
    → end.source_faults ≡ at.source_faults → RunsWhole new.names (map asked jobs) before after at.written end.written at.sink_faults end.sink_faults → Progress first opening begun new after end
one_more_run first opening begun old new before after at end taken jobs p order live gives sure ran =
    record {
      bytes = p.bytes ++ taken;
      phases = p.phases ++ jobs ∷ [];
      come = one_more_come first begun.left p.bytes p.phases old at.left taken jobs new end.left p.come order live gives;
      live = gives.live;
      parts = ran.advances.parts ∙ p.parts;
      turns = p.turns ++ ran.turns ∷ [];
      answers = phases_more p.phases jobs p.turns ran.turns p.answers ran.these;
      inside = all_more (length new.names) p.turns ran.turns (all_grow old.names new.names p.turns gives.names p.inside) (turns_inside (length new.names) jobs ran.turns gives.sessions ran.these);
      ran = have_run_more opening p.turns ran.turns before after p.ran ran.advances;
      written =
          written_more begun.written at.written end.written (transcript_bytes new.names p.turns) (turns_bytes new.names ran.turns) (p.written ∙ ap (append_known begun.written) (same_transcript old.names new.names p.turns gives.names p.inside)) ran.written
          ∙ ap (append_known begun.written) (sym (transcript_more new.names p.turns ran.turns));
      source_sure = sure ∙ p.source_sure;
      sink_sure = ran.sure ∙ p.sink_sure;
    }

-- how the phases of what is read stand to those that have come
asked_then : (phases : List (List ScriptJob)) (reading more : ScriptReading) → reading ≡ with_phases phases more → phases_asked reading.phases ≡ phases_asked phases ++ phases_asked more.phases
asked_then phases reading more e = ap (λ (r : ScriptReading). phases_asked r.phases) e ∙ map-append (λ js. map asked js) phases more.phases

-- all phases of what is read have come
asked_all : (phases : List (List ScriptJob)) (reading more : ScriptReading) → reading ≡ with_phases phases more → more.phases ≡ [] → phases_asked reading.phases ≡ phases_asked phases
asked_all phases reading more e none = asked_then phases reading more e ∙ (ap (λ ps. phases_asked phases ++ phases_asked ps) none ∙ append-nil (phases_asked phases))

-- the same turns under the names of what is read
written_named : (begun at : Option (List ℕ)) (names more : List (List ℕ)) (turns : List (List Turn)) → at ≡ append_known begun (transcript_bytes names turns) → more ≡ names → at ≡ append_known begun (transcript_bytes more turns)
written_named begun at names more turns e same = e ∙ ap (λ n. append_known begun (transcript_bytes n turns)) (sym same)

-- none of the jobs of the next phase was answered
none_answered : (later : List (List Job)) → AreFronts [] later
none_answered [] = refl
none_answered (jobs ∷ later) = λ s. (own_jobs s jobs, refl)

-- the same turns under names of which those are the first
written_grown : (begun at : Option (List ℕ)) (names more : List (List ℕ)) (turns : List (List Turn)) → at ≡ append_known begun (transcript_bytes names turns) → Grows names more → EachOfAll (Inside (length names)) turns → at ≡ append_known begun (transcript_bytes more turns)
written_grown begun at names more turns e g inside = e ∙ ap (append_known begun) (same_transcript names more turns g inside)

-- no phase comes any more
pub all_run : (first : Coming) (opening : List Entry) (begun : Streams) (old : Coming) (shared : plain.SharedAccess) (at end : Streams) (taken : List ℕ)
    → Progress first opening begun old shared at → at.left ≡ prepend_known taken end.left → (old.at_end ≡ true → taken ≡ []) → BringsNoMore old taken end.left
    → end.source_faults ≡ at.source_faults → end.written ≡ at.written → end.sink_faults ≡ at.sink_faults
    → RunsAll (λ turns. HaveRun opening turns shared.seen shared.amount) (first.reads true) None begun end
all_run first opening begun old shared at end taken p order idle gives source written sink =
    let read = all_read first begun.left p.bytes p.phases old at.left taken end.left p.come idle gives in
    let none = at_the_end first begun.left p.bytes p.phases old at.left taken end.left p.come order idle gives in
    record {
      script = p.bytes ++ taken;
      told = all_told begun.left end.left (p.bytes ++ taken) (read_more begun.left at.left end.left p.bytes taken (p.bytes ++ taken) p.come.order order refl) none;
      fault_is = ap (λ (r : ScriptReading). r.fault) read;
      whole = λ e. (none, read_more begun.left at.left end.left p.bytes taken (p.bytes ++ taken) p.come.order order refl);
      turns = p.turns;
      answers = p.answers ∙ sym (asked_all p.phases (first.reads true (p.bytes ++ taken)) (no_phase old.names) read refl);
      ran = p.ran;
      written = written_named begun.written end.written old.names (first.reads true (p.bytes ++ taken)).names p.turns (written ∙ p.written) (ap (λ (r : ScriptReading). r.names) read);
      source_sure = source ∙ p.source_sure;
      sink_sure = sink ∙ p.sink_sure;
    }

-- the next phase has a fault
pub faulty_run : (first : Coming) (opening : List Entry) (begun : Streams) (old : Coming) (shared : plain.SharedAccess) (at end : Streams) (taken : List ℕ) (f : ScriptFault)
    → Progress first opening begun old shared at → at.left ≡ prepend_known taken end.left → (old.at_end ≡ true → ⊥) → BringsFault old taken f end.left
    → end.source_faults ≡ at.source_faults → end.written ≡ at.written → end.sink_faults ≡ at.sink_faults
    → RunsAll (λ turns. HaveRun opening turns shared.seen shared.amount) (first.reads true) (Some f) begun end
faulty_run first opening begun old shared at end taken f p order live faulty source written sink =
    let read = fault_read first begun.left p.bytes p.phases old at.left taken f end.left p.come live faulty in
    let script = (p.bytes ++ taken) ++ rest_of end.left in
    record {
      script = script;
      told = whole_told begun.left end.left (p.bytes ++ taken) (read_more begun.left at.left end.left p.bytes taken (p.bytes ++ taken) p.come.order order refl);
      fault_is = ap (λ (r : ScriptReading). r.fault) read;
      whole = λ e. absurd (cc);
      turns = p.turns;
      answers = p.answers ∙ sym (asked_all p.phases (first.reads true script) (no_phase_but old.names f) read refl);
      ran = p.ran;
      written = written_named begun.written end.written old.names (first.reads true script).names p.turns (written ∙ p.written) (ap (λ (r : ScriptReading). r.names) read);
      source_sure = source ∙ p.source_sure;
      sink_sure = sink ∙ p.sink_sure;
    }

-- the source failed
pub failed_run : (first : Coming) (opening : List Entry) (begun : Streams) (old : Coming) (shared : plain.SharedAccess) (at end : Streams) (taken : List ℕ)
    → Progress first opening begun old shared at → at.left ≡ prepend_known taken end.left → (old.at_end ≡ true → ⊥) → old.reads false taken ≡ no_phase old.names
    → Rose at.source_faults end.source_faults → end.written ≡ at.written → end.sink_faults ≡ at.sink_faults
    → StopsAtSource (λ turns. HaveRun opening turns shared.seen shared.amount) (first.reads false) begun end
failed_run first opening begun old shared at end taken p order live none rose written sink =
    let read = closed_read first begun.left p.bytes p.phases old at.left taken p.come live none in
    record {
      taken = p.bytes ++ taken;
      order = read_more begun.left at.left end.left p.bytes taken (p.bytes ++ taken) p.come.order order refl;
      rose = subst (λ (n : ℕ). Rose n end.source_faults) p.source_sure rose;
      faultless = ap (λ (r : ScriptReading). r.fault) read;
      turns = p.turns;
      answers = p.answers ∙ sym (asked_all p.phases (first.reads false (p.bytes ++ taken)) (no_phase old.names) read refl);
      ran = p.ran;
      written = written_named begun.written end.written old.names (first.reads false (p.bytes ++ taken)).names p.turns (written ∙ p.written) (ap (λ (r : ScriptReading). r.names) read);
      sink_sure = sink ∙ p.sink_sure;
    }

-- memory ran out before a phase was run
pub short_run : (first : Coming) (opening : List Entry) (begun : Streams) (old : Coming) (shared : plain.SharedAccess) (at end : Streams) (taken : List ℕ)
    → Progress first opening begun old shared at → at.left ≡ prepend_known taken end.left → (old.at_end ≡ true → ⊥)
    → end.source_faults ≡ at.source_faults → end.written ≡ at.written → end.sink_faults ≡ at.sink_faults
    → StopsShort (λ turns. HaveRun opening turns shared.seen shared.amount) (first.reads true) begun end
short_run first opening begun old shared at end taken p order live source written sink =
    let reads = ahead p.come.reads in
    let script = (p.bytes ++ taken) ++ rest_of end.left in
    record {
      script = script;
      told = whole_told begun.left end.left (p.bytes ++ taken) (read_more begun.left at.left end.left p.bytes taken (p.bytes ++ taken) p.come.order order refl);
      turns = p.turns;
      last = [];
      later = phases_asked (old.reads true (taken ++ rest_of end.left)).phases;
      answers = asked_then p.phases (first.reads true script) (old.reads true (taken ++ rest_of end.left)) reads ∙ ap (λ l. l ++ phases_asked (old.reads true (taken ++ rest_of end.left)).phases) (sym p.answers);
      fronts = none_answered (phases_asked (old.reads true (taken ++ rest_of end.left)).phases);
      ran = have_run_more opening p.turns [] shared shared p.ran (no_turn shared);
      written = written_grown begun.written end.written old.names (first.reads true script).names p.turns (written ∙ p.written) (subst (λ (n : List (List ℕ)). Grows old.names n) (sym (ap (λ (r : ScriptReading). r.names) reads)) (p.come.known (taken ++ rest_of end.left))) p.inside;
      source_sure = source ∙ p.source_sure;
      sink_sure = sink ∙ p.sink_sure;
    } where
      ahead : ReadsOn first p.bytes p.phases old at.left → first.reads true ((p.bytes ++ taken) ++ rest_of end.left) ≡ with_phases p.phases (old.reads true (taken ++ rest_of end.left))
      ahead (inl reads) = ap (first.reads true) (append_assoc p.bytes taken (rest_of end.left)) ∙ reads true (taken ++ rest_of end.left)
      ahead (inr (none, ended, read)) = absurd (live ended)

-- the sink failed while it was given the replies of the next phase
pub unwritten_run : (first : Coming) (opening : List Entry) (begun : Streams) (old new : Coming) (before after : plain.SharedAccess) (at end : Streams) (taken : List ℕ) (jobs : List ScriptJob)
    → Progress first opening begun old before at → at.left ≡ prepend_known taken end.left → (old.at_end ≡ true → ⊥) → BringsPhase old taken jobs new end.left
    → end.source_faults ≡ at.source_faults → RunsUnwritten new.names (map asked jobs) before after at.written end.written at.sink_faults end.sink_faults
    → StopsAtSink (λ turns. HaveRun opening turns after.seen after.amount) (first.reads true) begun end
unwritten_run first opening begun old new before after at end taken jobs p order live gives sure ran =
    let come = one_more_come first begun.left p.bytes p.phases old at.left taken jobs new end.left p.come order live gives in
    let read = so_far_read first begun.left (p.bytes ++ taken) (p.phases ++ jobs ∷ []) new end.left come in
    let script = (p.bytes ++ taken) ++ rest_of end.left in
    let names = (first.reads true script).names in
    let grows = subst (λ (n : List (List ℕ)). Grows new.names n) (sym (ap (λ (r : ScriptReading). r.names) read.1)) read.2 in
    let last_inside = turns_inside (length new.names) jobs ran.turns gives.sessions ran.these in
    record {
      script = script;
      told = whole_told begun.left end.left (p.bytes ++ taken) come.order;
      turns = p.turns;
      last = ran.turns;
      later = phases_asked read.0.phases;
      answers = asked_then (p.phases ++ jobs ∷ []) (first.reads true script) read.0 read.1 ∙ (ap (λ l. l ++ phases_asked read.0.phases) (sym (phases_more p.phases jobs p.turns ran.turns p.answers ran.these)) ∙ (ap (λ l. l ++ phases_asked read.0.phases) (map-append jobs_of p.turns (ran.turns ∷ [])) ∙ append_assoc (map jobs_of p.turns) (jobs_of ran.turns ∷ []) (phases_asked read.0.phases)));
      ran = have_run_more opening p.turns ran.turns before after p.ran ran.advances;
      rose = subst (λ (n : ℕ). Rose n end.sink_faults) p.sink_sure ran.rose;
      some = ran.some;
      written =
          written_more begun.written at.written end.written (transcript_bytes names p.turns) (take ran.some (turns_bytes names ran.turns))
          (written_grown begun.written at.written new.names names p.turns (p.written ∙ ap (append_known begun.written) (same_transcript old.names new.names p.turns gives.names p.inside)) grows (all_grow old.names new.names p.turns gives.names p.inside))
          (ran.written ∙ ap (λ b. append_known at.written (take ran.some b)) (same_turns new.names names ran.turns grows last_inside));
      source_sure = sure ∙ p.source_sure;
    }

-- memory ran out in the next phase
pub stopped_run : (first : Coming) (opening : List Entry) (begun : Streams) (old new : Coming) (before after : plain.SharedAccess) (at end : Streams) (taken : List ℕ) (jobs : List ScriptJob)
    → Progress first opening begun old before at → at.left ≡ prepend_known taken end.left → (old.at_end ≡ true → ⊥) → BringsPhase old taken jobs new end.left
    → end.source_faults ≡ at.source_faults → RunsShort (map asked jobs) before after at.written end.written at.sink_faults end.sink_faults
    → StopsShort (λ turns. HaveRun opening turns after.seen after.amount) (first.reads true) begun end
stopped_run first opening begun old new before after at end taken jobs p order live gives sure ran =
    let come = one_more_come first begun.left p.bytes p.phases old at.left taken jobs new end.left p.come order live gives in
    let read = so_far_read first begun.left (p.bytes ++ taken) (p.phases ++ jobs ∷ []) new end.left come in
    let script = (p.bytes ++ taken) ++ rest_of end.left in
    let names = (first.reads true script).names in
    let grows = subst (λ (n : List (List ℕ)). Grows new.names n) (sym (ap (λ (r : ScriptReading). r.names) read.1)) read.2 in
    record {
      script = script;
      told = whole_told begun.left end.left (p.bytes ++ taken) come.order;
      turns = p.turns;
      last = ran.turns;
      later = map asked jobs ∷ phases_asked read.0.phases;
      answers = asked_then (p.phases ++ jobs ∷ []) (first.reads true script) read.0 read.1 ∙ (ap (λ l. l ++ phases_asked read.0.phases) (map-append (λ js. map asked js) p.phases (jobs ∷ [])) ∙ (append_assoc (phases_asked p.phases) (map asked jobs ∷ []) (phases_asked read.0.phases) ∙ ap (λ l. l ++ (map asked jobs ∷ phases_asked read.0.phases)) (sym p.answers)));
      fronts = ran.fronts;
      ran = have_run_more opening p.turns ran.turns before after p.ran ran.advances;
      written = written_grown begun.written end.written new.names names p.turns (ran.unwritten ∙ (p.written ∙ ap (append_known begun.written) (same_transcript old.names new.names p.turns gives.names p.inside))) grows (all_grow old.names new.names p.turns gives.names p.inside);
      source_sure = sure ∙ p.source_sure;
      sink_sure = ran.sure ∙ p.sink_sure;
    }

-- ANSWERS

-- the source is not at its end where a phase comes or a fault
not_over : (old : Coming) (taken : List ℕ) (answer : Result (Option Phase) NextError) → (old.at_end ≡ true → (taken ≡ []) × (answer ≡ Ok None)) → (answer ≡ Ok None → ⊥) → old.at_end ≡ true → ⊥
not_over old taken answer idle other ended = other (idle ended).1

-- a phase came, and was run
pub phase_came : (first : Coming) (opening : List Entry) (begun : Streams) (old new : Coming) (before after : plain.SharedAccess) (at end : Streams) (phase : Phase) (why : Option Stop)
    → (answers : AnswersComing old at.left (Ok (Some phase)) new end.left) → end.source_faults ≡ at.source_faults
    → RunsAndWrites new.names (map asked phase.jobs.items) before after at.written end.written at.sink_faults end.sink_faults why
    → Progress first opening begun old before at → GoesOn first opening begun new after end why
phase_came first opening begun old new before after at end phase None h sure ran p =
    one_more_run first opening begun old new before after at end h.taken phase.jobs.items p h.order (not_over old h.taken (Ok (Some phase)) h.idle (λ e. cc)) h.says sure ran
phase_came first opening begun old new before after at end phase (Some stop.Ended) h sure ran p = absurd ran
phase_came first opening begun old new before after at end phase (Some (stop.Fault f)) h sure ran p = absurd ran
phase_came first opening begun old new before after at end phase (Some (stop.Source faults)) h sure ran p = absurd ran
phase_came first opening begun old new before after at end phase (Some (stop.Sink faults)) h sure (ran, count) p = (
  (unwritten_run first opening begun old new before after at end h.taken phase.jobs.items p h.order (not_over old h.taken (Ok (Some phase)) h.idle (λ e. cc)) h.says sure ran, count),
  ran.advances.parts ∙ p.parts,
)
phase_came first opening begun old new before after at end phase (Some stop.NoMemory) h sure ran p = (
  stopped_run first opening begun old new before after at end h.taken phase.jobs.items p h.order (not_over old h.taken (Ok (Some phase)) h.idle (λ e. cc)) h.says sure ran,
  ran.advances.parts ∙ p.parts,
)

-- the phases stopped
pub stop_came : (first : Coming) (opening : List Entry) (begun : Streams) (old new now : Coming) (shared : plain.SharedAccess) (at end : Streams) (e : NextError)
    → (answers : AnswersComing old at.left (Err e) new end.left) → NextFaults e at.source_faults end.source_faults → end.written ≡ at.written → end.sink_faults ≡ at.sink_faults
    → Progress first opening begun old shared at → GoesOn first opening begun now shared end (Some (stop_for e))
stop_came first opening begun old new now shared at end next.NoMemory h faults written sink p =
    (short_run first opening begun old shared at end h.taken p h.order (not_over old h.taken (Err next.NoMemory) h.idle (λ e. cc)) faults written sink, p.parts)
stop_came first opening begun old new now shared at end (next.Source n) h faults written sink p =
    ((failed_run first opening begun old shared at end h.taken p h.order (not_over old h.taken (Err (next.Source n)) h.idle (λ e. cc)) h.says faults.1 written sink, faults.0), p.parts)
stop_came first opening begun old new now shared at end (next.Fault f) h faults written sink p =
    (faulty_run first opening begun old shared at end h.taken f p h.order (not_over old h.taken (Err (next.Fault f)) h.idle (λ e. cc)) h.says faults written sink, p.parts)

-- THE START

pub no_phase_yet : (first : Coming) (shared : plain.SharedAccess) (begun : Streams) → HasNotBegun first → shared.parts ≡ 65536 → shared.amount ≡ 0 → Progress first shared.seen begun first shared begun
no_phase_yet first shared begun fresh parts amount =
    record {
      bytes = [];
      phases = [];
      come = none_come first begun.left fresh;
      live = fresh.live;
      parts = parts;
      turns = [];
      answers = refl;
      inside = tt;
      ran = record { chains = begins_itself shared.seen; count = amount };
      written = written_none begun.written;
      source_sure = refl;
      sink_sure = refl;
    }

-- ONE PHASE

-- the jobs that are lent are of the same sessions
pub same_sessions : (n m : ℕ) (lent own : List LentJob) (jobs : List ScriptJob) → lent ≡ own → m ≡ n → map job_of own ≡ map asked jobs → All (λ job. job.session < n) jobs → All (λ job. job.session < m) lent
same_sessions n m lent own jobs same count e all =
    subst (λ (ls : List LentJob). All (λ job. job.session < m) ls) (sym same) (subst (λ (k : ℕ). All (λ job. job.session < k) own) (sym count) (sessions_lent n own jobs e all))

-- no job was done
pub nothing_run : (jobs : List Job) (shared : plain.SharedAccess) (written : Option (List ℕ)) (faults : ℕ) → RunsShort jobs shared shared written written faults faults
nothing_run jobs shared written faults =
    record { turns = []; fronts = λ s. (own_jobs s jobs, refl); advances = no_turn shared; unwritten = refl; sure = refl }

advances_from : (turns : List Turn) (old mid new : plain.SharedAccess) → mid.seen ≡ old.seen → mid.parts ≡ old.parts → mid.amount ≡ old.amount → TakesTurns turns mid new → Advances turns old new
advances_from turns old mid new seen parts amount h =
    record {
      parts = h.parts ∙ parts;
      later = subst (λ (es : List Entry). IsPrefix es new.seen) seen h.later;
      chains = λ s. subst (λ (es : List Entry). Chain meant es (of_session s turns) new.seen) seen (h.chains s);
      amount = h.amount ∙ ap (λ n. n + tally weight turns) amount;
    }

-- memory ran out in the phase
pub some_run : (jobs own : List Job) (old mid new : plain.SharedAccess) (written : Option (List ℕ)) (faults : ℕ) → own ≡ jobs → mid.seen ≡ old.seen → mid.parts ≡ old.parts → mid.amount ≡ old.amount → RunsFronts own mid new → RunsShort jobs old new written written faults faults
some_run jobs own old mid new written faults same seen parts amount h =
    subst (λ (js : List Job). RunsShort js old new written written faults faults) same
    (record { turns = h.turns; fronts = h.fronts; advances = advances_from h.turns old mid new seen parts amount h.taken; unwritten = refl; sure = refl })

-- the jobs of a session's turns are the session's jobs
own_of : (s : ℕ) (ts : List Turn) → own_jobs s (jobs_of ts) ≡ jobs_of (of_session s ts)
own_of s [] = refl
own_of s (t ∷ ts) = by_test (t.job.session == s) refl (own_of s ts) where
  by_test : (b : Bool) → (t.job.session == s) ≡ b → own_jobs s (jobs_of ts) ≡ jobs_of (of_session s ts) → own_jobs s (jobs_of (t ∷ ts)) ≡ jobs_of (of_session s (t ∷ ts))
  by_test true e rest = rw e (ap (λ js. t.job ∷ js) rest)
  by_test false e rest = rw e rest

-- all jobs of each session were done
all_fronts : (jobs : List Job) (ts : List Turn) → jobs_of ts ≡ jobs → (s : ℕ) → (rest : List Job) × (own_jobs s jobs ≡ jobs_of (of_session s ts) ++ rest)
all_fronts jobs ts these s = ([], ap (own_jobs s) (sym these) ∙ (own_of s ts ∙ sym (append-nil (jobs_of (of_session s ts)))))

-- memory ran out once all jobs were done
pub all_unwritten : (jobs own : List Job) (replies : List Reply) (old mid new : plain.SharedAccess) (written : Option (List ℕ)) (faults : ℕ) → own ≡ jobs → mid.seen ≡ old.seen → mid.parts ≡ old.parts → mid.amount ≡ old.amount → RunsPhase own replies mid new → RunsShort jobs old new written written faults faults
all_unwritten jobs own replies old mid new written faults same seen parts amount h =
    record {
      turns = h.turns;
      fronts = all_fronts jobs h.turns (h.these ∙ same);
      advances = advances_from h.turns old mid new seen parts amount h.taken;
      unwritten = refl;
      sure = refl;
    }

-- the text of the replies
turns_text : (names : List (List ℕ)) (ts : List Turn) → turns_bytes names ts ≡ replies_bytes names (jobs_of ts) (replies_of ts)
turns_text names [] = refl
turns_text names (t ∷ ts) = ap (λ b. turn_bytes names t ++ b) (turns_text names ts)

-- one of a list more is done
pub one_done : {X : Type 0} (done rest later all : List X) (x : X) → rest ≡ x ∷ later → done ++ rest ≡ all → (done ++ x ∷ []) ++ later ≡ all
one_done done rest later all x next before = append_assoc done (x ∷ []) later ∙ ap (λ xs. done ++ xs) (sym next) ∙ before

-- one reply more
replies_more : (names : List (List ℕ)) (jobs : List Job) (done : List Reply) (job : Job) (reply : Reply) → length jobs ≡ length done → replies_bytes names (jobs ++ job ∷ []) (done ++ reply ∷ []) ≡ replies_bytes names jobs done ++ reply_bytes (get_or names job.session []) reply
replies_more names [] [] job reply l = append-nil (reply_bytes (get_or names job.session []) reply)
replies_more names [] (r ∷ rs) job reply l = absurd (omega arith)
replies_more names (j ∷ js) [] job reply l = absurd (omega arith)
replies_more names (j ∷ js) (r ∷ rs) job reply l = ap (λ b. reply_bytes (get_or names j.session []) r ++ b) (replies_more names js rs job reply (omega arith)) ∙ sym (append_assoc (reply_bytes (get_or names j.session []) r) (replies_bytes names js rs) (reply_bytes (get_or names job.session []) reply))

pub text_more : (names : List (List ℕ)) (jobs : List LentJob) (i : ℕ) (d : LentJob) (done : List Reply) (reply : Reply) (before after given name : List ℕ) → i < length jobs → i ≡ length done → name ≡ get_or names (get_or jobs i d).session [] → given ≡ name → before ≡ replies_bytes names (map job_of (take i jobs)) done → after ≡ before ++ reply_bytes given reply → after ≡ replies_bytes names (map job_of (take (i + 1) jobs)) (done ++ reply ∷ [])
text_more names jobs i d done reply before after given name there count name_is given_is before_is after_is =
    let job = get_or jobs i d in
    let l = length-map (take i jobs) job_of in
    let k = length-take-le i jobs (omega arith) in
    after_is ∙ ap (λ b. b ++ reply_bytes given reply) before_is ∙ ap (λ n. replies_bytes names (map job_of (take i jobs)) done ++ reply_bytes n reply) (given_is ∙ name_is)
    ∙ sym (replies_more names (map job_of (take i jobs)) done (job_of job) reply (omega arith))
    ∙ ap (λ js. replies_bytes names js (done ++ reply ∷ [])) (sym (ap (map job_of) (take_more jobs i d there) ∙ map-append job_of (take i jobs) (job ∷ [])))

-- all jobs were done, and the replies are written or not
pub phase_written : (names : List (List ℕ)) (jobs own : List Job) (replies told : List Reply) (text bytes : List ℕ) (old mid new : plain.SharedAccess) (before after : Option (List ℕ)) (first last : ℕ) (why : Option Stop)
    → own ≡ jobs → mid.seen ≡ old.seen → mid.parts ≡ old.parts → mid.amount ≡ old.amount → RunsPhase own replies mid new → told ≡ replies → text ≡ replies_bytes names own told → bytes ≡ text → WritesBytes bytes before after first last why
    → RunsAndWrites names jobs old new before after first last why
phase_written names jobs own replies told text bytes old mid new before after first last why same seen parts amount h given is lent written = by_why why (subst (λ (b : List ℕ). WritesBytes b before after first last why) whole written) where
  whole : bytes ≡ turns_bytes names h.turns
  whole = lent ∙ (is ∙ (ap (λ js. replies_bytes names js told) (sym h.these) ∙ (ap (replies_bytes names (jobs_of h.turns)) (given ∙ sym h.told) ∙ sym (turns_text names h.turns))))

  on : Advances h.turns old new
  on = advances_from h.turns old mid new seen parts amount h.taken

  by_why : (w : Option Stop) → WritesBytes (turns_bytes names h.turns) before after first last w → RunsAndWrites names jobs old new before after first last w
  by_why None k = record { turns = h.turns; these = h.these ∙ same; advances = on; written = k.0; sure = k.1 }
  by_why (Some stop.Ended) k = absurd k
  by_why (Some (stop.Fault f)) k = absurd k
  by_why (Some (stop.Source n)) k = absurd k
  by_why (Some (stop.Sink n)) k = (record { turns = h.turns; these = h.these ∙ same; advances = on; some = k.2.0; written = k.2.1; rose = k.1 }, k.0)
  by_why (Some stop.NoMemory) k = record { turns = h.turns; fronts = all_fronts jobs h.turns (h.these ∙ same); advances = on; unwritten = k.0; sure = k.1 }
