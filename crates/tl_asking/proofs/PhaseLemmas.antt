-- The answering of phases, one after the other.
use Rattle.std.proofs.Common.{◌≡◌, inl, inr, ℕ, ◌+◌, ◌<◌, Bool, true, false, List, [], ◌∷◌, ◌++◌, length, take, map, get_or, All, Option, Some, None, Result, Ok, Err, refl, sym, ap, ◌∙◌, subst, append_assoc, append-nil}
use Rattle.std.proofs.lemmas.List.{map-append, take_more}
use Rattle.tl_types.specs.declared.commits.Commit.{Commit}
use Rattle.tl_device.specs.Known.{append_known, prepend_known, Rose}
use Rattle.tl_device.proofs.Known.{read_more}
use Rattle.tl_script.specs.declared.jobs.ScriptFault.{ScriptFault}
use Rattle.tl_script.specs.declared.phases.NextError.{NextError}
use Rattle.tl_script.specs.declared.phases.NextError.TheVariants as next
use Rattle.tl_script.specs.declared.phases.Phase.{Phase}
use Rattle.tl_script.specs.Script.{Job as ScriptJob, ScriptReading}
use Rattle.tl_script.specs.Phases.{no_phase, no_phase_but}
use Rattle.tl_script.specs.Reader.{with_phases, Grows, NextFaults}
use Rattle.tl_session.specs.Phases.{own_jobs}
use Rattle.tl_jobs.specs.declared.jobs.LentJob.{LentJob}
use Rattle.tl_jobs.specs.Jobs.{Job, job_of}
use Rattle.tl_jobs.specs.Replies.{reply_bytes}
use Rattle.tl_jobs.specs.Turns.{Turn, all_turns, Each, EachOfAll}
use Rattle.tl_jobs.specs.Written.{turns_bytes, transcript_bytes, jobs_of}
use Rattle.tl_command.specs.declared.stops.Stop.{Stop}
use Rattle.tl_command.specs.declared.stops.Stop.TheVariants as stop
use Rattle.tl_command.specs.Coming.{Coming, BringsPhase, BringsNoMore, BringsFault, AnswersComing, ReadsOn, HasNotBegun}
use Rattle.tl_command.specs.Jobs.{asked, phases_asked}
use Rattle.tl_command.specs.Outside.{Streams}
use Rattle.tl_command.specs.Stops.{stop_for}
use Rattle.tl_command.specs.Writing.{WritesBytes}
use Rattle.tl_command.proofs.BytesLemmas.{Inside, turns_on, same_turns, each_grows, turns_inside, written_more, written_none}
use Rattle.tl_command.proofs.ComingLemmas.{rest_of, whole_told, all_told, none_come, one_more_come, at_the_end, all_read, fault_read, closed_read, so_far_read}
use Rattle.tl_command.proofs.LentLemmas.{sessions_lent}
use Rattle.tl_commands.specs.Running.{TakesOnePhase}
use Rattle.tl_commands.specs.Stopping.{RunsAll, StopsAtSource, StopsAtSink, AreFronts, StopsShort}
use Rattle.tl_asking.specs.Answers.{AreAnswered, IsAnswered, named_reply}
use Rattle.tl_asking.specs.Progress.{replies_text, GoesOn, Progress}

-- THE TURNS OF JOBS

-- a job with its reply over these commits
abbrev turn_for : List Commit → Job → Turn
turn_for commits job = record { job = job; reply = named_reply commits job }

abbrev turns_for : List Commit → List Job → List Turn
turns_for commits jobs = map (turn_for commits) jobs

turns_of : (commits : List Commit) (jobs : List Job) → jobs_of (turns_for commits jobs) ≡ jobs
turns_of commits [] = refl
turns_of commits (job ∷ jobs) = ap (λ l. job ∷ l) (turns_of commits jobs)

all_answered : (commits : List Commit) (jobs : List Job) → Each (IsAnswered commits) (turns_for commits jobs)
all_answered commits [] = tt
all_answered commits (job ∷ jobs) = (refl, all_answered commits jobs)

text_of_turns : (commits : List Commit) (names : List (List ℕ)) (jobs : List Job) → replies_text commits names jobs ≡ turns_bytes names (turns_for commits jobs)
text_of_turns commits names [] = refl
text_of_turns commits names (job ∷ jobs) = ap (λ b. reply_bytes (get_or names job.session []) (named_reply commits job) ++ b) (text_of_turns commits names jobs)

-- the bytes of the replies to jobs and to one more
replies_on : (commits : List Commit) (names : List (List ℕ)) (jobs : List Job) (job : Job) → replies_text commits names (jobs ++ job ∷ []) ≡ replies_text commits names jobs ++ reply_bytes (get_or names job.session []) (named_reply commits job)
replies_on commits names [] job = append-nil (reply_bytes (get_or names job.session []) (named_reply commits job))
replies_on commits names (j ∷ jobs) job =
    let own = reply_bytes (get_or names j.session []) (named_reply commits j) in
    ap (λ b. own ++ b) (replies_on commits names jobs job) ∙ sym (append_assoc own (replies_text commits names jobs) (reply_bytes (get_or names job.session []) (named_reply commits job)))

answered_more : (commits : List Commit) (phases : List (List Turn)) (last : List Turn) → AreAnswered commits phases → Each (IsAnswered commits) last → AreAnswered commits (phases ++ last ∷ [])
answered_more commits [] last all own = (own, tt)
answered_more commits (q ∷ phases) last all own = (all.0, answered_more commits phases last all.1 own)

-- BYTES

transcript_more : (names : List (List ℕ)) (phases : List (List Turn)) (phase : List Turn) → transcript_bytes names (phases ++ phase ∷ []) ≡ transcript_bytes names phases ++ turns_bytes names phase
transcript_more names [] phase = ap (turns_bytes names) (append-nil phase)
transcript_more names (q ∷ phases) phase =
    turns_on names q (all_turns (phases ++ phase ∷ []))
    ∙ (ap (λ b. turns_bytes names q ++ b) (transcript_more names phases phase)
    ∙ (sym (append_assoc (turns_bytes names q) (transcript_bytes names phases) (turns_bytes names phase))
    ∙ ap (λ b. b ++ turns_bytes names phase) (sym (turns_on names q (all_turns phases)))))

-- the sessions' names stay where they are
same_transcript : (old new : List (List ℕ)) (phases : List (List Turn)) → Grows old new → EachOfAll (Inside (length old)) phases → transcript_bytes old phases ≡ transcript_bytes new phases
same_transcript old new [] g e = refl
same_transcript old new (q ∷ phases) g e =
    turns_on old q (all_turns phases)
    ∙ (ap (λ b. b ++ transcript_bytes old phases) (same_turns old new q g e.0)
    ∙ (ap (λ b. turns_bytes new q ++ b) (same_transcript old new phases g e.1) ∙ sym (turns_on new q (all_turns phases))))

all_grow : (old new : List (List ℕ)) (phases : List (List Turn)) → Grows old new → EachOfAll (Inside (length old)) phases → EachOfAll (Inside (length new)) phases
all_grow old new [] g e = tt
all_grow old new (q ∷ phases) g e = (each_grows old new q g e.0, all_grow old new phases g e.1)

all_more : (n : ℕ) (phases : List (List Turn)) (phase : List Turn) → EachOfAll (Inside n) phases → Each (Inside n) phase → EachOfAll (Inside n) (phases ++ phase ∷ [])
all_more n [] phase e f = (f, tt)
all_more n (q ∷ phases) phase e f = (e.0, all_more n phases phase e.1 f)

-- the same turns under the names of what is read
written_named : (begun at : Option (List ℕ)) (names more : List (List ℕ)) (turns : List (List Turn)) → at ≡ append_known begun (transcript_bytes names turns) → more ≡ names → at ≡ append_known begun (transcript_bytes more turns)
written_named begun at names more turns e same = e ∙ ap (λ n. append_known begun (transcript_bytes n turns)) (sym same)

-- the same turns under names of which those are the first
written_grown : (begun at : Option (List ℕ)) (names more : List (List ℕ)) (turns : List (List Turn)) → at ≡ append_known begun (transcript_bytes names turns) → Grows names more → EachOfAll (Inside (length names)) turns → at ≡ append_known begun (transcript_bytes more turns)
written_grown begun at names more turns e g inside = e ∙ ap (append_known begun) (same_transcript names more turns g inside)

-- STEPS

phases_more : (phases : List (List ScriptJob)) (jobs : List ScriptJob) (turns : List (List Turn)) (last : List Turn) → map jobs_of turns ≡ phases_asked phases → jobs_of last ≡ map asked jobs → map jobs_of (turns ++ last ∷ []) ≡ phases_asked (phases ++ jobs ∷ [])
phases_more phases jobs turns last e f =
    map-append jobs_of turns (last ∷ [])
    ∙ (ap (λ l. l ++ jobs_of last ∷ []) e
    ∙ (ap (λ j. phases_asked phases ++ j ∷ []) f ∙ sym (map-append (λ js. map asked js) phases (jobs ∷ []))))

-- how the phases of what is read stand to those that have come
asked_then : (phases : List (List ScriptJob)) (reading more : ScriptReading) → reading ≡ with_phases phases more → phases_asked reading.phases ≡ phases_asked phases ++ phases_asked more.phases
asked_then phases reading more e = ap (λ (r : ScriptReading). phases_asked r.phases) e ∙ map-append (λ js. map asked js) phases more.phases

-- all phases of what is read have come
asked_all : (phases : List (List ScriptJob)) (reading more : ScriptReading) → reading ≡ with_phases phases more → more.phases ≡ [] → phases_asked reading.phases ≡ phases_asked phases
asked_all phases reading more e none = asked_then phases reading more e ∙ (ap (λ ps. phases_asked phases ++ phases_asked ps) none ∙ append-nil (phases_asked phases))

-- none of the jobs of the next phase was answered
none_answered : (later : List (List Job)) → AreFronts [] later
none_answered [] = refl
none_answered (jobs ∷ later) = λ s. (own_jobs s jobs, refl)

-- a phase was answered, and its replies are written
one_more : (commits : List Commit) (first : Coming) (begun : Streams) (old new : Coming) (at end : Streams) (taken : List ℕ) (jobs : List ScriptJob)
    → Progress commits first begun old at → at.left ≡ prepend_known taken end.left → (old.at_end ≡ true → ⊥) → BringsPhase old taken jobs new end.left
    → end.source_faults ≡ at.source_faults → end.written ≡ append_known at.written (replies_text commits new.names (map asked jobs)) → end.sink_faults ≡ at.sink_faults → Progress commits first begun new end
one_more commits first begun old new at end taken jobs p order live gives sure written sink =
    let own = map asked jobs in
    let turns = turns_for commits own in
    record {
      bytes = p.bytes ++ taken;
      phases = p.phases ++ jobs ∷ [];
      come = one_more_come first begun.left p.bytes p.phases old at.left taken jobs new end.left p.come order live gives;
      live = gives.live;
      turns = p.turns ++ turns ∷ [];
      answers = phases_more p.phases jobs p.turns turns p.answers (turns_of commits own);
      inside = all_more (length new.names) p.turns turns (all_grow old.names new.names p.turns gives.names p.inside) (turns_inside (length new.names) jobs turns gives.sessions (turns_of commits own));
      ran = answered_more commits p.turns turns p.ran (all_answered commits own);
      written =
          written_more begun.written at.written end.written (transcript_bytes new.names p.turns) (turns_bytes new.names turns) (p.written ∙ ap (append_known begun.written) (same_transcript old.names new.names p.turns gives.names p.inside)) (written ∙ ap (append_known at.written) (text_of_turns commits new.names own))
          ∙ ap (append_known begun.written) (sym (transcript_more new.names p.turns turns));
      source_sure = sure ∙ p.source_sure;
      sink_sure = sink ∙ p.sink_sure;
    }

-- no phase comes any more
pub all_run : (commits : List Commit) (first : Coming) (begun : Streams) (old : Coming) (at end : Streams) (taken : List ℕ)
    → Progress commits first begun old at → at.left ≡ prepend_known taken end.left → (old.at_end ≡ true → taken ≡ []) → BringsNoMore old taken end.left
    → end.source_faults ≡ at.source_faults → end.written ≡ at.written → end.sink_faults ≡ at.sink_faults
    → RunsAll (AreAnswered commits) (first.reads true) None begun end
all_run commits first begun old at end taken p order idle gives source written sink =
    let read = all_read first begun.left p.bytes p.phases old at.left taken end.left p.come idle gives in
    let none = at_the_end first begun.left p.bytes p.phases old at.left taken end.left p.come order idle gives in
    record {
      script = p.bytes ++ taken;
      told = all_told begun.left end.left (p.bytes ++ taken) (read_more begun.left at.left end.left p.bytes taken (p.bytes ++ taken) p.come.order order refl) none;
      fault_is = ap (λ (r : ScriptReading). r.fault) read;
      whole = λ e. (none, read_more begun.left at.left end.left p.bytes taken (p.bytes ++ taken) p.come.order order refl);
      turns = p.turns;
      answers = p.answers ∙ sym (asked_all p.phases (first.reads true (p.bytes ++ taken)) (no_phase old.names) read refl);
      ran = p.ran;
      written = written_named begun.written end.written old.names (first.reads true (p.bytes ++ taken)).names p.turns (written ∙ p.written) (ap (λ (r : ScriptReading). r.names) read);
      source_sure = source ∙ p.source_sure;
      sink_sure = sink ∙ p.sink_sure;
    }

-- the next phase has a fault
faulty_run : (commits : List Commit) (first : Coming) (begun : Streams) (old : Coming) (at end : Streams) (taken : List ℕ) (f : ScriptFault)
    → Progress commits first begun old at → at.left ≡ prepend_known taken end.left → (old.at_end ≡ true → ⊥) → BringsFault old taken f end.left
    → end.source_faults ≡ at.source_faults → end.written ≡ at.written → end.sink_faults ≡ at.sink_faults
    → RunsAll (AreAnswered commits) (first.reads true) (Some f) begun end
faulty_run commits first begun old at end taken f p order live faulty source written sink =
    let read = fault_read first begun.left p.bytes p.phases old at.left taken f end.left p.come live faulty in
    let script = (p.bytes ++ taken) ++ rest_of end.left in
    record {
      script = script;
      told = whole_told begun.left end.left (p.bytes ++ taken) (read_more begun.left at.left end.left p.bytes taken (p.bytes ++ taken) p.come.order order refl);
      fault_is = ap (λ (r : ScriptReading). r.fault) read;
      whole = λ e. absurd (cc);
      turns = p.turns;
      answers = p.answers ∙ sym (asked_all p.phases (first.reads true script) (no_phase_but old.names f) read refl);
      ran = p.ran;
      written = written_named begun.written end.written old.names (first.reads true script).names p.turns (written ∙ p.written) (ap (λ (r : ScriptReading). r.names) read);
      source_sure = source ∙ p.source_sure;
      sink_sure = sink ∙ p.sink_sure;
    }

-- the source failed
failed_run : (commits : List Commit) (first : Coming) (begun : Streams) (old : Coming) (at end : Streams) (taken : List ℕ)
    → Progress commits first begun old at → at.left ≡ prepend_known taken end.left → (old.at_end ≡ true → ⊥) → old.reads false taken ≡ no_phase old.names
    → Rose at.source_faults end.source_faults → end.written ≡ at.written → end.sink_faults ≡ at.sink_faults
    → StopsAtSource (AreAnswered commits) (first.reads false) begun end
failed_run commits first begun old at end taken p order live none rose written sink =
    let read = closed_read first begun.left p.bytes p.phases old at.left taken p.come live none in
    record {
      taken = p.bytes ++ taken;
      order = read_more begun.left at.left end.left p.bytes taken (p.bytes ++ taken) p.come.order order refl;
      rose = subst (λ (n : ℕ). Rose n end.source_faults) p.source_sure rose;
      faultless = ap (λ (r : ScriptReading). r.fault) read;
      turns = p.turns;
      answers = p.answers ∙ sym (asked_all p.phases (first.reads false (p.bytes ++ taken)) (no_phase old.names) read refl);
      ran = p.ran;
      written = written_named begun.written end.written old.names (first.reads false (p.bytes ++ taken)).names p.turns (written ∙ p.written) (ap (λ (r : ScriptReading). r.names) read);
      sink_sure = sink ∙ p.sink_sure;
    }

-- memory ran out before a phase came
short_run : (commits : List Commit) (first : Coming) (begun : Streams) (old : Coming) (at end : Streams) (taken : List ℕ)
    → Progress commits first begun old at → at.left ≡ prepend_known taken end.left → (old.at_end ≡ true → ⊥)
    → end.source_faults ≡ at.source_faults → end.written ≡ at.written → end.sink_faults ≡ at.sink_faults
    → StopsShort (AreAnswered commits) (first.reads true) begun end
short_run commits first begun old at end taken p order live source written sink =
    let reads = ahead p.come.reads in
    let script = (p.bytes ++ taken) ++ rest_of end.left in
    record {
      script = script;
      told = whole_told begun.left end.left (p.bytes ++ taken) (read_more begun.left at.left end.left p.bytes taken (p.bytes ++ taken) p.come.order order refl);
      turns = p.turns;
      last = [];
      later = phases_asked (old.reads true (taken ++ rest_of end.left)).phases;
      answers = asked_then p.phases (first.reads true script) (old.reads true (taken ++ rest_of end.left)) reads ∙ ap (λ l. l ++ phases_asked (old.reads true (taken ++ rest_of end.left)).phases) (sym p.answers);
      fronts = none_answered (phases_asked (old.reads true (taken ++ rest_of end.left)).phases);
      ran = answered_more commits p.turns [] p.ran tt;
      written = written_grown begun.written end.written old.names (first.reads true script).names p.turns (written ∙ p.written) (subst (λ (n : List (List ℕ)). Grows old.names n) (sym (ap (λ (r : ScriptReading). r.names) reads)) (p.come.known (taken ++ rest_of end.left))) p.inside;
      source_sure = source ∙ p.source_sure;
      sink_sure = sink ∙ p.sink_sure;
    } where
      ahead : ReadsOn first p.bytes p.phases old at.left → first.reads true ((p.bytes ++ taken) ++ rest_of end.left) ≡ with_phases p.phases (old.reads true (taken ++ rest_of end.left))
      ahead (inl reads) = ap (first.reads true) (append_assoc p.bytes taken (rest_of end.left)) ∙ reads true (taken ++ rest_of end.left)
      ahead (inr (none, ended, read)) = absurd (live ended)

-- the sink failed while it was given the replies of the next phase
unwritten_run : (commits : List Commit) (first : Coming) (begun : Streams) (old new : Coming) (at end : Streams) (taken : List ℕ) (jobs : List ScriptJob) (some : ℕ)
    → Progress commits first begun old at → at.left ≡ prepend_known taken end.left → (old.at_end ≡ true → ⊥) → BringsPhase old taken jobs new end.left
    → end.source_faults ≡ at.source_faults → end.written ≡ append_known at.written (take some (replies_text commits new.names (map asked jobs))) → Rose at.sink_faults end.sink_faults
    → StopsAtSink (AreAnswered commits) (first.reads true) begun end
unwritten_run commits first begun old new at end taken jobs some p order live gives sure written rose =
    let come = one_more_come first begun.left p.bytes p.phases old at.left taken jobs new end.left p.come order live gives in
    let read = so_far_read first begun.left (p.bytes ++ taken) (p.phases ++ jobs ∷ []) new end.left come in
    let script = (p.bytes ++ taken) ++ rest_of end.left in
    let names = (first.reads true script).names in
    let grows = subst (λ (n : List (List ℕ)). Grows new.names n) (sym (ap (λ (r : ScriptReading). r.names) read.1)) read.2 in
    let own = map asked jobs in
    let turns = turns_for commits own in
    let these = turns_of commits own in
    let last_inside = turns_inside (length new.names) jobs turns gives.sessions these in
    record {
      script = script;
      told = whole_told begun.left end.left (p.bytes ++ taken) come.order;
      turns = p.turns;
      last = turns;
      later = phases_asked read.0.phases;
      answers = asked_then (p.phases ++ jobs ∷ []) (first.reads true script) read.0 read.1 ∙ (ap (λ l. l ++ phases_asked read.0.phases) (sym (phases_more p.phases jobs p.turns turns p.answers these)) ∙ (ap (λ l. l ++ phases_asked read.0.phases) (map-append jobs_of p.turns (turns ∷ [])) ∙ append_assoc (map jobs_of p.turns) (jobs_of turns ∷ []) (phases_asked read.0.phases)));
      ran = answered_more commits p.turns turns p.ran (all_answered commits own);
      rose = subst (λ (n : ℕ). Rose n end.sink_faults) p.sink_sure rose;
      some = some;
      written =
          written_more begun.written at.written end.written (transcript_bytes names p.turns) (take some (turns_bytes names turns))
          (written_grown begun.written at.written new.names names p.turns (p.written ∙ ap (append_known begun.written) (same_transcript old.names new.names p.turns gives.names p.inside)) grows (all_grow old.names new.names p.turns gives.names p.inside))
          (written ∙ ap (λ b. append_known at.written (take some b)) (text_of_turns commits new.names own ∙ same_turns new.names names turns grows last_inside));
      source_sure = sure ∙ p.source_sure;
    }

-- memory ran out in the next phase
stopped_run : (commits : List Commit) (first : Coming) (begun : Streams) (old new : Coming) (at end : Streams) (taken : List ℕ) (jobs : List ScriptJob)
    → Progress commits first begun old at → at.left ≡ prepend_known taken end.left → (old.at_end ≡ true → ⊥) → BringsPhase old taken jobs new end.left
    → end.source_faults ≡ at.source_faults → end.written ≡ at.written → end.sink_faults ≡ at.sink_faults
    → StopsShort (AreAnswered commits) (first.reads true) begun end
stopped_run commits first begun old new at end taken jobs p order live gives sure written sink =
    let come = one_more_come first begun.left p.bytes p.phases old at.left taken jobs new end.left p.come order live gives in
    let read = so_far_read first begun.left (p.bytes ++ taken) (p.phases ++ jobs ∷ []) new end.left come in
    let script = (p.bytes ++ taken) ++ rest_of end.left in
    let names = (first.reads true script).names in
    let grows = subst (λ (n : List (List ℕ)). Grows new.names n) (sym (ap (λ (r : ScriptReading). r.names) read.1)) read.2 in
    let later = map asked jobs ∷ phases_asked read.0.phases in
    record {
      script = script;
      told = whole_told begun.left end.left (p.bytes ++ taken) come.order;
      turns = p.turns;
      last = [];
      later = later;
      answers = asked_then (p.phases ++ jobs ∷ []) (first.reads true script) read.0 read.1 ∙ (ap (λ l. l ++ phases_asked read.0.phases) (map-append (λ js. map asked js) p.phases (jobs ∷ [])) ∙ (append_assoc (phases_asked p.phases) (map asked jobs ∷ []) (phases_asked read.0.phases) ∙ ap (λ l. l ++ later) (sym p.answers)));
      fronts = none_answered later;
      ran = answered_more commits p.turns [] p.ran tt;
      written = written_grown begun.written end.written new.names names p.turns (written ∙ (p.written ∙ ap (append_known begun.written) (same_transcript old.names new.names p.turns gives.names p.inside))) grows (all_grow old.names new.names p.turns gives.names p.inside);
      source_sure = sure ∙ p.source_sure;
      sink_sure = sink ∙ p.sink_sure;
    }

-- ANSWERS

-- the source is not at its end where a phase comes or a fault
not_over : (old : Coming) (taken : List ℕ) (answer : Result (Option Phase) NextError) → (old.at_end ≡ true → (taken ≡ []) × (answer ≡ Ok None)) → (answer ≡ Ok None → ⊥) → old.at_end ≡ true → ⊥
not_over old taken answer idle other ended = other (idle ended).1

-- a phase came, and was answered
pub phase_came : (commits : List Commit) (first : Coming) (begun : Streams) (old new : Coming) (at end : Streams) (phase : Phase) (why : Option Stop)
    → (answers : AnswersComing old at.left (Ok (Some phase)) new end.left) → end.source_faults ≡ at.source_faults
    → WritesBytes (replies_text commits new.names (map asked phase.jobs.items)) at.written end.written at.sink_faults end.sink_faults why
    → Progress commits first begun old at → GoesOn commits first begun new end why
phase_came commits first begun old new at end phase None h sure ran p =
    one_more commits first begun old new at end h.taken phase.jobs.items p h.order (not_over old h.taken (Ok (Some phase)) h.idle (λ e. cc)) h.says sure ran.0 ran.1
phase_came commits first begun old new at end phase (Some stop.Ended) h sure ran p = absurd ran
phase_came commits first begun old new at end phase (Some (stop.Fault f)) h sure ran p = absurd ran
phase_came commits first begun old new at end phase (Some (stop.Source faults)) h sure ran p = absurd ran
phase_came commits first begun old new at end phase (Some (stop.Sink faults)) h sure (count, rose, (some, written)) p =
    (unwritten_run commits first begun old new at end h.taken phase.jobs.items some p h.order (not_over old h.taken (Ok (Some phase)) h.idle (λ e. cc)) h.says sure written rose, count)
phase_came commits first begun old new at end phase (Some stop.NoMemory) h sure ran p =
    stopped_run commits first begun old new at end h.taken phase.jobs.items p h.order (not_over old h.taken (Ok (Some phase)) h.idle (λ e. cc)) h.says sure ran.0 ran.1

-- the phases stopped
pub stop_came : (commits : List Commit) (first : Coming) (begun : Streams) (old new now : Coming) (at end : Streams) (e : NextError)
    → (answers : AnswersComing old at.left (Err e) new end.left) → NextFaults e at.source_faults end.source_faults → end.written ≡ at.written → end.sink_faults ≡ at.sink_faults
    → Progress commits first begun old at → GoesOn commits first begun now end (Some (stop_for e))
stop_came commits first begun old new now at end next.NoMemory h faults written sink p =
    short_run commits first begun old at end h.taken p h.order (not_over old h.taken (Err next.NoMemory) h.idle (λ e. cc)) faults written sink
stop_came commits first begun old new now at end (next.Source n) h faults written sink p =
    (failed_run commits first begun old at end h.taken p h.order (not_over old h.taken (Err (next.Source n)) h.idle (λ e. cc)) h.says faults.1 written sink, faults.0)
stop_came commits first begun old new now at end (next.Fault f) h faults written sink p =
    faulty_run commits first begun old at end h.taken f p h.order (not_over old h.taken (Err (next.Fault f)) h.idle (λ e. cc)) h.says faults written sink

-- no phase came
pub end_came : (commits : List Commit) (first : Coming) (begun : Streams) (old new now : Coming) (at end : Streams)
    → (answers : AnswersComing old at.left (Ok None) new end.left) → end.source_faults ≡ at.source_faults → end.written ≡ at.written → end.sink_faults ≡ at.sink_faults
    → Progress commits first begun old at → GoesOn commits first begun now end (Some stop.Ended)
end_came commits first begun old new now at end h sure written sink p =
    all_run commits first begun old at end h.taken p h.order (λ e. (h.idle e).0) h.says sure written sink

-- a phase was taken
pub took_phase : (old new : Coming) (before after : Option (List ℕ)) (phase : Phase) (why : Option Stop) → AnswersComing old before (Ok (Some phase)) new after → TakesOnePhase old new before after why
took_phase old new before after phase (Some stop) a = tt
took_phase old new before after phase None a = (by_test old.at_end refl, (a.taken, phase.jobs.items, a.order, a.says)) where
  by_test : (t : Bool) → old.at_end ≡ t → old.at_end ≡ false
  by_test false e = e
  by_test true e = absurd (let f = (a.idle e).1 in cc)

-- THE START

pub no_phase_yet : (commits : List Commit) (first : Coming) (begun : Streams) → HasNotBegun first → Progress commits first begun first begun
no_phase_yet commits first begun fresh =
    record {
      bytes = [];
      phases = [];
      come = none_come first begun.left fresh;
      live = fresh.live;
      turns = [];
      answers = refl;
      inside = tt;
      ran = tt;
      written = written_none begun.written;
      source_sure = refl;
      sink_sure = refl;
    }

-- ONE PHASE

-- the reply to a job more
pub replies_more : (commits : List Commit) (names : List (List ℕ)) (jobs : List LentJob) (i : ℕ) (d : LentJob) (before after name : List ℕ) → i < length jobs → before ≡ replies_text commits names (map job_of (take i jobs)) → name ≡ get_or names (get_or jobs i d).session [] → after ≡ before ++ reply_bytes name (named_reply commits (job_of (get_or jobs i d))) → after ≡ replies_text commits names (map job_of (take (i + 1) jobs))
replies_more commits names jobs i d before after name there so_far name_is more =
    let job = job_of (get_or jobs i d) in
    let front = map job_of (take i jobs) in
    more ∙ ap (λ b. b ++ reply_bytes name (named_reply commits job)) so_far
    ∙ ap (λ n. replies_text commits names front ++ reply_bytes n (named_reply commits job)) name_is
    ∙ sym (replies_on commits names front job)
    ∙ ap (replies_text commits names) (sym (ap (map job_of) (take_more jobs i d there) ∙ map-append job_of (take i jobs) (get_or jobs i d ∷ [])))

-- the jobs that are lent are of the same sessions
pub same_sessions : (n : ℕ) (lent own : List LentJob) (jobs : List ScriptJob) → lent ≡ own → map job_of own ≡ map asked jobs → All (λ job. job.session < n) jobs → All (λ job. job.session < n) lent
same_sessions n lent own jobs same e all =
    subst (λ (ls : List LentJob). All (λ job. job.session < n) ls) (sym same) (sessions_lent n own jobs e all)
