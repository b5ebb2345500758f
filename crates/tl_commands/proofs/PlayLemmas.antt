-- Jobs done one after the other over a group, and the phases that they are of.
use Rattle.std.proofs.Common.{◌≡◌, inl, inr, ℕ, zero, suc, ◌+◌, ◌<◌, ◌≤◌, Bool, true, false, ◌&&◌, List, [], ◌∷◌, ◌++◌, length, take, drop, map, get_or, All, Option, Some, None, Result, Ok, Err, refl, sym, ap, ◌∙◌, subst, arith, append_assoc, append-nil, length-append, take-append-drop}
use Rattle.std.specs.Option.{option_map, unwrap_or}
use Rattle.std.proofs.lemmas.List.{map-append, take_more}
use Rattle.std.proofs.lemmas.Option.{slice_get-get_or, slice_get-map}
use Rattle.tl_types.specs.declared.batches.Batch.{Batch}
use Rattle.tl_types.specs.declared.commits.Commit.{Commit}
use Rattle.tl_types.specs.declared.limits.Limits.{Limits}
use Rattle.tl_types.specs.Entries.{commits_of}
use Rattle.tl_types.specs.History.{database_of}
use Rattle.tl_types.specs.Limits.{standard_limits}
use Rattle.tl_types.specs.Resolving.{resolved}
use Rattle.tl_device.specs.Known.{Rose}
use Rattle.tl_device.proofs.Known.{read_more}
use Rattle.tl_device.specs.declared.disk.Disk.{Ghosts as DiskGhosts}
use Rattle.tl_script.specs.declared.jobs.ScriptFault.{ScriptFault}
use Rattle.tl_script.specs.declared.phases.NextError.{NextError}
use Rattle.tl_script.specs.declared.phases.NextError.TheVariants as next
use Rattle.tl_script.specs.declared.phases.Phase.{Phase}
use Rattle.tl_script.specs.Script.{Job as ScriptJob, ScriptReading}
use Rattle.tl_script.specs.Phases.{no_phase}
use Rattle.tl_script.specs.Reader.{IsNeeded, NextFaults}
use Rattle.tl_history.proofs.ListLemmas.{commits_more}
use Rattle.tl_journal.specs.Stands.{DiskStandsFor}
use Rattle.tl_group.specs.Keeping.{commits_in, journal_commits}
use Rattle.tl_group.specs.Plain as group
use Rattle.tl_group.specs.Standing.{IsGivenBack, WaitsWith}
use Rattle.tl_jobs.specs.declared.readings.JobReading.{JobReading}
use Rattle.tl_jobs.specs.declared.readings.JobReading.TheVariants as reading
use Rattle.tl_jobs.specs.declared.replies.ReplyBody.{ReplyBody}
use Rattle.tl_jobs.specs.declared.replies.ReplyBody.TheVariants as body
use Rattle.tl_jobs.specs.declared.jobs.LentJob.{LentJob}
use Rattle.tl_jobs.specs.Jobs.{Job, job_of}
use Rattle.tl_csv.specs.LentBlocks.{block_at}
use Rattle.tl_jobs.specs.Reading.{HasBlockAt, Reads, block_of, blocks_of}
use Rattle.tl_jobs.specs.Replies.{body_bytes}
use Rattle.tl_jobs.specs.Play.{Acts, IsPlay}
use Rattle.tl_jobs.specs.Turns.{Turn, Meaning, Each, meant}
use Rattle.tl_jobs.specs.Written.{all_jobs, jobs_of, turn_bytes}
use Rattle.tl_watch.specs.declared.plans.WatchPlan.{WatchPlan}
use Rattle.tl_watch.specs.Watches.{Watch}
use Rattle.tl_command.specs.declared.stops.Stop.{Stop}
use Rattle.tl_command.specs.Coming.{Coming, AnswersComing, BringsPhase, BringsNoMore, BringsFault, HasNotBegun}
use Rattle.tl_command.specs.Jobs.{asked, phases_asked}
use Rattle.tl_command.specs.Stops.{stop_for}
use Rattle.tl_command.proofs.BytesLemmas.{Inside, each_grows, turns_inside}
use Rattle.tl_command.proofs.LentLemmas.{sessions_lent}
use Rattle.tl_command.proofs.ComingLemmas.{rest_of, whole_told, all_told, none_come, one_more_come, at_the_end, all_read, closed_read, fault_read, so_far_read}
use Rattle.tl_commands.specs.declared.playing.Cause.{Cause}
use Rattle.tl_commands.specs.declared.playing.Cause.TheVariants as cause
use Rattle.tl_commands.specs.Playing.{AddsBatch, Answers, AnswersJob, EndsAtRefusal, HasFault, HasNoFaultSoFar, JobsStop, JobsToRefusal, KeepsDisk, PlayGivenUp, PlayStops, Played, PlaysJobs, PlaysScript, PlaysThrough, ReadsNoFurther, ScriptToRefusal}
use Rattle.tl_commands.specs.Refusing.{AreAccepted, EndInRefusal, GoOn, is_refusal}
use Rattle.tl_commands.specs.Telling.{WatchesFor, told_behind, told_bytes, told_turn}
use Rattle.tl_commands.proofs.TellLemmas.{play_adds, play_by, play_within, told_later, told_more, told_now, told_on}

-- THE DISK

pub keeps_itself : {D : Type 0} (disks : DiskGhosts D) (g : group.Group D) → KeepsDisk disks g g
keeps_itself disks g = record { limits_same = refl; journal_same = refl; count_same = refl; stands = λ h. h }

pub keeps_on : {D : Type 0} (disks : DiskGhosts D) (a b c : group.Group D) → KeepsDisk disks a b → KeepsDisk disks b c → KeepsDisk disks a c
keeps_on disks a b c x y =
    record {
      limits_same = y.limits_same ∙ x.limits_same;
      journal_same = y.journal_same ∙ x.journal_same;
      count_same = y.count_same ∙ x.count_same;
      stands = λ h. y.stands (x.stands h);
    }

-- a group that is given up hands its disk back as it is
pub back_itself : {D : Type 0} (disks : DiskGhosts D) (g : group.Group D) (disk : D) → disk ≡ g.journal.disk → IsGivenBack disks.reads disks.may_leave disks.faults g disk
back_itself disks g disk same =
    record {
      count_same = ap disks.faults same;
      stands = λ h. subst (λ (d : _). (gate : ℕ) × DiskStandsFor disks.reads disks.may_leave d (journal_commits g) gate) (sym same) (g.journal.gate, h.on_disk);
    }

-- and so does one that was played before
pub back_on : {D : Type 0} (disks : DiskGhosts D) (a b : group.Group D) (disk : D) → KeepsDisk disks a b → IsGivenBack disks.reads disks.may_leave disks.faults b disk → IsGivenBack disks.reads disks.may_leave disks.faults a disk
back_on disks a b disk k x =
    record {
      count_same = x.count_same ∙ k.count_same;
      stands = λ h. subst (λ (cs : List Commit). (gate : ℕ) × DiskStandsFor disks.reads disks.may_leave disk cs gate) k.journal_same (x.stands (k.stands h));
    }

-- ONE JOB

-- a commit that waits is the last one
pub waits_last : {D : Type 0} (old new : group.Group D) (c : Commit) → WaitsWith c old new → commits_in new ≡ commits_in old ++ c ∷ []
waits_last old new c waits = ap commits_of waits.entries_are ∙ commits_more old.entries c

-- a reading of a job that is answered is an act of a play
pub acted : (author : ℕ) (job : Job) (read : JobReading) (v : ℕ) (told : ReplyBody) (old new : List Commit) → job.session ≡ author → Reads old job read → Answers author read v told old new → Acts meant job v told old new
acted author job (reading.Loads batch) v body.Done old new own reads (c, version, makes, is) =
    (c, version, (batch, reads, subst (λ (a : ℕ). Rattle.tl_jobs.specs.Turns.made old a batch ≡ Ok c) (sym own) makes), is)
acted author job (reading.Loads batch) v (body.Refused f) old new own reads (e, version, fails, is, same) =
    (version, inr (batch, e, reads, subst (λ (a : ℕ). Rattle.tl_jobs.specs.Turns.made old a batch ≡ Err e) (sym own) fails, is), same)
acted author job (reading.Loads batch) v (body.Rows answer) old new own reads h = absurd h
acted author job (reading.Loads batch) v body.DeviceFault old new own reads h = absurd h
acted author job (reading.Loads batch) v body.BrokenJournal old new own reads h = absurd h
acted author job (reading.Query answer) v told old new own reads (version, is, same) =
    subst (λ (b : ReplyBody). Acts meant job v b old new) (sym is) (version, reads, same)
acted author job (reading.Fault f) v told old new own reads (version, is, same) =
    subst (λ (b : ReplyBody). Acts meant job v b old new) (sym is) (version, inl reads, same)

-- a batch is done whose commit waits, at the version that the snapshot then has
pub add_done : (limits : Limits) (old new : List Commit) (author : ℕ) (batch : Batch) (c : Commit) → new ≡ old ++ c ∷ [] → resolved limits (database_of old) author batch ≡ Ok c → limits ≡ standard_limits → AddsBatch author batch (length new) body.Done old new
add_done limits old new author batch c is makes standard =
    let count = length-append old (c ∷ []) in (
      c,
      ap length is ∙ omega (arith, count),
      subst (λ (l : Limits). resolved l (database_of old) author batch ≡ Ok c) standard makes,
      is,
    )

-- what a job came to is told and counted, where the watch stands for the commits
pub job_told : {D : Type 0} (plan : Option WatchPlan) (name : List ℕ) (author : ℕ) (job : Job) (read : JobReading) (told : ReplyBody) (old : List Commit) (mid done : group.Group D) (before at after : List ℕ) (first count last : ℕ) (refusal : Bool) (was watching : Option Watch)
    → job.session ≡ author → Reads old job read → Answers author read (length (commits_in mid)) told old (commits_in mid) → WatchesFor plan (commits_in mid) was → at ≡ before → count ≡ first
    → done ≡ mid → watching ≡ was → after ≡ at ++ (body_bytes name (length (commits_in mid)) told ++ told_behind plan told (commits_in mid)) → last ≡ count + 1 → refusal ≡ is_refusal told
    → AnswersJob plan name (Acts meant job) old (commits_in done) before after first last refusal watching
job_told {D} plan name author job read told old mid done before at after first count last refusal was watching own reads answers watches same same_count same_group same_watch text counted refuses =
    let new = commits_in mid in
    let it : AnswersJob plan name (Acts meant job) old new before after first last refusal was =
    record {
      version = length new;
      told = told;
      comes = acted author job read (length new) told old new own reads answers;
      text = text ∙ ap (λ b. b ++ (body_bytes name (length new) told ++ told_behind plan told new)) same;
      watches = watches;
      counted = counted ∙ ap (λ n. n + 1) same_count;
      refuses = refuses;
    } in
    subst (λ (g : group.Group D). AnswersJob plan name (Acts meant job) old (commits_in g) before after first last refusal watching) (sym same_group)
    (subst (λ (w : Option Watch). AnswersJob plan name (Acts meant job) old new before after first last refusal w) (sym same_watch) it)

-- SOME JOBS

-- one play and then another
pub play_on : (m : Meaning) (old mid new : List Commit) (xs ys : List Turn) → IsPlay m old xs mid → IsPlay m mid ys new → IsPlay m old (xs ++ ys) new
play_on m old mid new [] ys e h = subst (λ (cs : List Commit). IsPlay m cs ys new) e h
play_on m old mid new (t ∷ xs) ys (next, acts, line, rest) h = (next, acts, line, play_on m next mid new xs ys rest h)

each_on : (P : Turn → Type 0) (xs ys : List Turn) → Each P xs → Each P ys → Each P (xs ++ ys)
each_on P [] ys h k = k
each_on P (x ∷ xs) ys h k = (h.0, each_on P xs ys h.1 k)

pub both_true : (a b : Bool) → (a && b) ≡ true → (a ≡ true) × (b ≡ true)
both_true true b e = (refl, e)
both_true false b e = absurd (cc)

-- where a refusal ends the play, no turn is refused that does not end it
accepted : (stops : Bool) (ts : List Turn) → stops ≡ true → GoOn stops ts → AreAccepted ts
accepted true ts e h = h
accepted false ts e h = absurd (cc)

pub plays_none : (stops : Bool) (plan : Option WatchPlan) (names : List (List ℕ)) (cs : List Commit) (text : List ℕ) (count : ℕ) (watching : Option Watch) → WatchesFor plan cs watching → PlaysJobs stops plan names [] cs cs text text count count watching
plays_none stops plan names cs text count watching watches = record { turns = []; these = refl; play = refl; goes_on = tt; text = sym (append-nil text); counted = omega arith; watches = watches }

-- a job, and what it was answered with
abbrev turn_of : Job → ℕ → ReplyBody → Turn
turn_of job v told = record { job = job; reply = record { line = job.line; version = v; body = told } }

-- turns of some jobs, which were taken one after the other, with their text and their number
abbrev Taken : Option WatchPlan → List (List ℕ) → List Turn → List Job → List Commit → List Commit → List ℕ → List ℕ → ℕ → ℕ → Type 0
Taken plan names ts jobs old new before after first last =
    (jobs_of ts ≡ jobs) × IsPlay meant old ts new × (after ≡ before ++ told_bytes plan names new ts) × (last ≡ first + length ts)

-- one turn more
one_more : (stops : Bool) (plan : Option WatchPlan) (names : List (List ℕ)) (jobs : List Job) (job : Job) (old mid new : List Commit) (before at after : List ℕ) (first count last : ℕ) (refusal : Bool) (was watching : Option Watch) (p : PlaysJobs stops plan names jobs old mid before at first count was)
    (a : AnswersJob plan (get_or names job.session []) (Acts meant job) mid new at after count last refusal watching) → Taken plan names (p.turns ++ turn_of job a.version a.told ∷ []) (jobs ++ job ∷ []) old new before after first last
one_more stops plan names jobs job old mid new before at after first count last refusal was watching p a =
    let turn : Turn = turn_of job a.version a.told in
    let one : IsPlay meant mid (turn ∷ []) new = (new, a.comes, refl, refl) in
    let adds = play_adds meant mid new (turn ∷ []) one in
    let before_it : told_bytes plan names mid p.turns ≡ told_bytes plan names new p.turns = told_later plan names mid adds.0 p.turns (play_within meant old mid p.turns p.play) ∙ ap (λ cs. told_bytes plan names cs p.turns) (sym adds.1) in
    let it : turn_bytes names turn ++ told_behind plan a.told new ≡ told_turn plan names new turn = ap (λ b. turn_bytes names turn ++ b) (sym (told_now plan meant job a.version a.told mid new a.comes)) in (
      map-append (λ (t : Turn). t.job) p.turns (turn ∷ []) ∙ ap (λ js. js ++ job ∷ []) p.these,
      play_on meant old mid new p.turns (turn ∷ []) p.play one,
      a.text ∙ (ap (λ b. b ++ (turn_bytes names turn ++ told_behind plan a.told new)) (p.text ∙ ap (λ b. before ++ b) before_it)
          ∙ (ap (λ b. (before ++ told_bytes plan names new p.turns) ++ b) it
          ∙ (append_assoc before (told_bytes plan names new p.turns) (told_turn plan names new turn)
          ∙ ap (λ b. before ++ b) (sym (told_on plan names new p.turns (turn ∷ []) ∙ ap (λ b. told_bytes plan names new p.turns ++ b) (append-nil (told_turn plan names new turn))))))),
      omega (arith, a.counted, p.counted, length-append p.turns (turn ∷ [])),
    )

-- the first ones of a list, as many as it has or more, are all
pub take_whole : {A : Type 0} (xs : List A) (i : ℕ) → length xs ≤ i → take i xs ≡ xs
take_whole [] zero le = refl
take_whole [] (suc i) le = refl
take_whole (x ∷ xs) zero le = absurd (omega (arith, le))
take_whole (x ∷ xs) (suc i) le = ap (λ ys. x ∷ ys) (take_whole xs i (omega (arith, le)))

-- one of lent jobs more is the next one
next_jobs : (jobs : List LentJob) (i : ℕ) (d : LentJob) → i < length jobs → map job_of (take (i + 1) jobs) ≡ map job_of (take i jobs) ++ job_of (get_or jobs i d) ∷ []
next_jobs jobs i d there = ap (map job_of) (take_more jobs i d there) ∙ map-append job_of (take i jobs) (get_or jobs i d ∷ [])

-- one of lent jobs more, which does not end the play
pub plays_next : (stops : Bool) (plan : Option WatchPlan) (names : List (List ℕ)) (jobs : List LentJob) (i : ℕ) (d : LentJob) (old mid new : List Commit) (before at after name : List ℕ) (first count last : ℕ) (refusal : Bool) (was watching : Option Watch) → i < length jobs → PlaysJobs stops plan names (map job_of (take i jobs)) old mid before at first count was → name ≡ get_or names (get_or jobs i d).session [] → AnswersJob plan name (Acts meant (job_of (get_or jobs i d))) mid new at after count last refusal watching → (stops && refusal) ≡ false → PlaysJobs stops plan names (map job_of (take (i + 1) jobs)) old new before after first last watching
plays_next stops plan names jobs i d old mid new before at after name first count last refusal was watching there p name_is answered on =
    let job = job_of (get_or jobs i d) in
    let a = subst (λ (n : List ℕ). AnswersJob plan n (Acts meant job) mid new at after count last refusal watching) name_is answered in
    let t = one_more stops plan names (map job_of (take i jobs)) job old mid new before at after first count last refusal was watching p a in
    let turn : Turn = turn_of job a.version a.told in
    record {
      turns = p.turns ++ turn ∷ [];
      these = t.0 ∙ sym (next_jobs jobs i d there);
      play = t.1;
      goes_on = each_on (λ (x : Turn). (stops && is_refusal x.reply.body) ≡ false) p.turns (turn ∷ []) p.goes_on (sym (ap (λ b. stops && b) a.refuses) ∙ on, tt);
      text = t.2;
      counted = t.3;
      watches = a.watches;
    }

-- one of lent jobs more, which is refused and ends the play
pub refused_next : (stops : Bool) (plan : Option WatchPlan) (names : List (List ℕ)) (jobs : List LentJob) (i : ℕ) (d : LentJob) (old mid new : List Commit) (before at after name : List ℕ) (first count last : ℕ) (refusal : Bool) (was watching : Option Watch) → i < length jobs → PlaysJobs stops plan names (map job_of (take i jobs)) old mid before at first count was → name ≡ get_or names (get_or jobs i d).session [] → AnswersJob plan name (Acts meant (job_of (get_or jobs i d))) mid new at after count last refusal watching → (stops && refusal) ≡ true → (stops ≡ true) × JobsToRefusal plan names (map job_of jobs) old before after first last
refused_next stops plan names jobs i d old mid new before at after name first count last refusal was watching there p name_is answered ends =
    let job = job_of (get_or jobs i d) in
    let a = subst (λ (n : List ℕ). AnswersJob plan n (Acts meant job) mid new at after count last refusal watching) name_is answered in
    let t = one_more stops plan names (map job_of (take i jobs)) job old mid new before at after first count last refusal was watching p a in
    let turn : Turn = turn_of job a.version a.told in
    let both = both_true stops refusal ends in
    let later = map job_of (drop (i + 1) jobs) in (
      both.0,
      record {
        turns = p.turns ++ turn ∷ [];
        later = later;
        these = ap (λ js. js ++ later) (t.0 ∙ sym (next_jobs jobs i d there)) ∙ (sym (map-append job_of (take (i + 1) jobs) (drop (i + 1) jobs)) ∙ ap (map job_of) (take-append-drop (i + 1) jobs));
        all = new;
        play = t.1;
        refusal = record { front = p.turns; last = turn; these = refl; accepted = accepted stops p.turns both.0 p.goes_on; refused = sym a.refuses ∙ both.1 };
        text = t.2;
        counted = t.3;
      },
    )

-- the block of a job is the one at its place
pub block_here : (i : ℕ) (lent : List LentJob) (d : LentJob) (blocks : List (List ℕ)) (place : ℕ) → i < length lent → blocks ≡ blocks_of (map job_of lent) → place ≡ i → HasBlockAt (get_or lent i d) blocks place
block_here i lent d blocks place inside blocks_are place_is =
    let block : Job → List ℕ = λ j. block_of j.block in
    ap (block_at blocks) place_is ∙ (ap (λ bs. block_at bs i) blocks_are
    ∙ ap (λ o. unwrap_or o []) (slice_get-map block (map job_of lent) i ∙ ap (option_map block) (slice_get-map job_of lent i ∙ ap (option_map job_of) (slice_get-get_or lent i d inside))))

-- the jobs that are lent are of the same sessions
pub same_sessions : (n : ℕ) (lent own : List LentJob) (jobs : List ScriptJob) → lent ≡ own → map job_of own ≡ map asked jobs → All (λ job. job.session < n) jobs → All (λ job. job.session < n) lent
same_sessions n lent own jobs same e all = subst (λ (ls : List LentJob). All (λ job. job.session < n) ls) (sym same) (sessions_lent n own jobs e all)

-- PHASES

all_jobs_more : (phases : List (List Job)) (jobs : List Job) → all_jobs (phases ++ jobs ∷ []) ≡ all_jobs phases ++ jobs
all_jobs_more [] jobs = append-nil jobs
all_jobs_more (p ∷ phases) jobs = ap (λ js. p ++ js) (all_jobs_more phases jobs) ∙ sym (append_assoc p (all_jobs phases) jobs)

-- the jobs of the phases that have come, and of one more
jobs_more : (phases : List (List ScriptJob)) (jobs : List ScriptJob) → all_jobs (phases_asked (phases ++ jobs ∷ [])) ≡ all_jobs (phases_asked phases) ++ map asked jobs
jobs_more phases jobs = ap all_jobs (map-append (λ js. map asked js) phases (jobs ∷ [])) ∙ all_jobs_more (phases_asked phases) (map asked jobs)

pub none_played : (stops : Bool) (plan : Option WatchPlan) (first : Coming) (opening : List Commit) (watching : Option Watch) (begun : Option (List ℕ)) (count : ℕ) (text : List ℕ) (number : ℕ) → HasNotBegun first → WatchesFor plan opening watching → text ≡ [] → number ≡ 0 → Played stops plan first opening begun count first opening text number watching begun count
none_played stops plan first opening watching begun count text number fresh watches silent uncounted =
    record {
      bytes = [];
      phases = [];
      come = none_come first begun fresh;
      no_further = inl refl;
      live = fresh.live;
      turns = [];
      answers = refl;
      inside = tt;
      play = refl;
      goes_on = tt;
      written = silent;
      counted = uncounted;
      watches = watches;
      sure = refl;
    }

-- the source is not at its end where a phase comes or a fault
not_over : (old : Coming) (taken : List ℕ) (answer : Result (Option Phase) NextError) → (old.at_end ≡ true → (taken ≡ []) × (answer ≡ Ok None)) → (answer ≡ Ok None → ⊥) → old.at_end ≡ true → ⊥
not_over old taken answer idle other ended = other (idle ended).1

-- the phases that were played
through : (stops : Bool) (plan : Option WatchPlan) (first : Coming) (opening : List Commit) (begun : Option (List ℕ)) (count : ℕ) (now : Coming) (all : List Commit) (text : List ℕ) (number : ℕ) (watching : Option Watch) (left : Option (List ℕ)) (faults : ℕ)
    → (p : Played stops plan first opening begun count now all text number watching left faults) → (phases : List (List ScriptJob)) → phases ≡ p.phases ++ [] → PlaysThrough stops opening phases
through stops plan first opening begun count now all text number watching left faults p phases same =
    subst (PlaysThrough stops opening) (sym (same ∙ append-nil p.phases))
    (record { turns = p.turns; these = p.answers; all = all; play = p.play; goes_on = p.goes_on })

-- more of a source was asked for while what it gave had no further phase
asked_more : (stops : Bool) (plan : Option WatchPlan) (first : Coming) (opening : List Commit) (begun : Option (List ℕ)) (count : ℕ) (old : Coming) (mid : List Commit) (text : List ℕ) (number : ℕ) (watching : Option Watch) (left : Option (List ℕ)) (faults : ℕ) (taken : List ℕ)
    → (old.at_end ≡ true → ⊥) → IsNeeded (old.reads false) old.names taken
    → (p : Played stops plan first opening begun count old mid text number watching left faults) → ReadsNoFurther stops (first.reads false) opening (p.bytes ++ taken)
asked_more stops plan first opening begun count old mid text number watching left faults taken live (inl none) p =
    subst (ReadsNoFurther stops (first.reads false) opening) (sym (ap (λ b. p.bytes ++ b) none ∙ append-nil p.bytes)) p.no_further
asked_more stops plan first opening begun count old mid text number watching left faults taken live (inr asked) p =
    inr (record {
      front = p.bytes ++ asked.front;
      last = asked.last;
      parts = ap (λ b. p.bytes ++ b) asked.parts ∙ sym (append_assoc p.bytes asked.front asked.last);
      bound = asked.bound;
      goes_on = through stops plan first opening begun count old mid text number watching left faults p (first.reads false (p.bytes ++ asked.front)).phases
          (ap (λ (r : ScriptReading). r.phases) (closed_read first begun p.bytes p.phases old left asked.front p.come live asked.undecided));
    })

-- a phase came, and was played
pub phase_played : (stops : Bool) (plan : Option WatchPlan) (first : Coming) (opening : List Commit) (begun : Option (List ℕ)) (count : ℕ) (old new : Coming) (mid all : List Commit) (at after : List ℕ) (number more : ℕ) (was watching : Option Watch) (left end : Option (List ℕ)) (faults last : ℕ) (phase : Phase)
    → AnswersComing old left (Ok (Some phase)) new end → last ≡ faults → PlaysJobs stops plan new.names (map asked phase.jobs.items) mid all at after number more watching
    → Played stops plan first opening begun count old mid at number was left faults → Played stops plan first opening begun count new all after more watching end last
phase_played stops plan first opening begun count old new mid all at after number more was watching left end faults last phase h sure ran p =
    let jobs = phase.jobs.items in
    let live = not_over old h.taken (Ok (Some phase)) h.idle (λ e. cc) in
    let gives : BringsPhase old h.taken jobs new end = h.says in
    let grown : Each (Inside (length new.names)) p.turns = each_grows old.names new.names p.turns gives.names p.inside in
    let adds = play_adds meant mid all ran.turns ran.play in
    let front : told_bytes plan old.names mid p.turns ≡ told_bytes plan new.names all p.turns =
    told_more plan old.names new.names mid adds.0 p.turns gives.names p.inside (play_within meant opening mid p.turns p.play) ∙ ap (λ cs. told_bytes plan new.names cs p.turns) (sym adds.1) in
    record {
      bytes = p.bytes ++ h.taken;
      phases = p.phases ++ jobs ∷ [];
      come = one_more_come first begun p.bytes p.phases old left h.taken jobs new end p.come h.order live gives;
      no_further = asked_more stops plan first opening begun count old mid at number was left faults h.taken live h.needed p;
      live = gives.live;
      turns = p.turns ++ ran.turns;
      answers = map-append (λ (t : Turn). t.job) p.turns ran.turns ∙ (ap (λ js. js ++ jobs_of ran.turns) p.answers ∙ (ap (λ js. all_jobs (phases_asked p.phases) ++ js) ran.these ∙ sym (jobs_more p.phases jobs)));
      inside = each_on (Inside (length new.names)) p.turns ran.turns grown (turns_inside (length new.names) jobs ran.turns gives.sessions ran.these);
      play = play_on meant opening mid all p.turns ran.turns p.play ran.play;
      goes_on = each_on (λ (t : Turn). (stops && is_refusal t.reply.body) ≡ false) p.turns ran.turns p.goes_on ran.goes_on;
      counted = omega (arith, ran.counted, p.counted, length-append p.turns ran.turns);
      written = ran.text ∙ (ap (λ b. b ++ told_bytes plan new.names all ran.turns) (p.written ∙ front) ∙ sym (told_on plan new.names all p.turns ran.turns));
      watches = ran.watches;
      sure = sure ∙ p.sure;
    }

-- no phase comes any more
pub all_played : (stops : Bool) (plan : Option WatchPlan) (first : Coming) (opening : List Commit) (begun : Option (List ℕ)) (count : ℕ) (old new : Coming) (all : List Commit) (text : List ℕ) (number : ℕ) (watching : Option Watch) (left end : Option (List ℕ)) (faults : ℕ)
    → AnswersComing old left (Ok None) new end
    → Played stops plan first opening begun count old all text number watching left faults → PlaysScript stops plan (first.reads true) opening all text begun end
all_played stops plan first opening begun count old new all text number watching left end faults h p =
    let gives : BringsNoMore old h.taken end = h.says in
    let idle : old.at_end ≡ true → h.taken ≡ [] = λ e. (h.idle e).0 in
    let read = all_read first begun p.bytes p.phases old left h.taken end p.come idle gives in
    let none = at_the_end first begun p.bytes p.phases old left h.taken end p.come h.order idle gives in
    let script = p.bytes ++ h.taken in
    let phases : (first.reads true script).phases ≡ p.phases = ap (λ (r : ScriptReading). r.phases) read ∙ append-nil p.phases in
    let names : (first.reads true script).names ≡ old.names = ap (λ (r : ScriptReading). r.names) read in
    record {
      script = script;
      told = all_told begun end script (read_more begun left end p.bytes h.taken script p.come.order h.order refl) none;
      faultless = ap (λ (r : ScriptReading). r.fault) read;
      read = none;
      play = play_by stops plan (first.reads true script).names (all_jobs (phases_asked (first.reads true script).phases)) opening all text p.turns
          (p.answers ∙ ap (λ ps. all_jobs (phases_asked ps)) (sym phases)) p.play p.goes_on (p.written ∙ ap (λ n. told_bytes plan n all p.turns) (sym names));
    }

-- the next phase has a fault
faulty : (stops : Bool) (plan : Option WatchPlan) (first : Coming) (opening : List Commit) (begun : Option (List ℕ)) (count : ℕ) (old new : Coming) (all : List Commit) (text : List ℕ) (number : ℕ) (watching : Option Watch) (left end : Option (List ℕ)) (faults : ℕ) (f : ScriptFault)
    → AnswersComing old left (Err (next.Fault f)) new end
    → Played stops plan first opening begun count old all text number watching left faults → HasFault stops (first.reads true) opening f begun
faulty stops plan first opening begun count old new all text number watching left end faults f h p =
    let gives : BringsFault old h.taken f end = h.says in
    let read = fault_read first begun p.bytes p.phases old left h.taken f end p.come (not_over old h.taken (Err (next.Fault f)) h.idle (λ e. cc)) gives in
    let script = (p.bytes ++ h.taken) ++ rest_of end in
    record {
      script = script;
      told = whole_told begun end (p.bytes ++ h.taken) (read_more begun left end p.bytes h.taken (p.bytes ++ h.taken) p.come.order h.order refl);
      is = ap (λ (r : ScriptReading). r.fault) read;
      goes_on = through stops plan first opening begun count old all text number watching left faults p (first.reads true script).phases (ap (λ (r : ScriptReading). r.phases) read);
    }

-- the source failed before a fault was read
not_faulty : (stops : Bool) (plan : Option WatchPlan) (first : Coming) (opening : List Commit) (begun : Option (List ℕ)) (count : ℕ) (old new : Coming) (all : List Commit) (text : List ℕ) (number : ℕ) (watching : Option Watch) (left end : Option (List ℕ)) (faults n : ℕ)
    → AnswersComing old left (Err (next.Source n)) new end
    → Played stops plan first opening begun count old all text number watching left faults → HasNoFaultSoFar stops (first.reads false) opening begun end
not_faulty stops plan first opening begun count old new all text number watching left end faults n h p =
    let none : old.reads false h.taken ≡ no_phase old.names = h.says in
    let read = closed_read first begun p.bytes p.phases old left h.taken p.come (not_over old h.taken (Err (next.Source n)) h.idle (λ e. cc)) none in
    let taken = p.bytes ++ h.taken in
    record {
      taken = taken;
      took = read_more begun left end p.bytes h.taken taken p.come.order h.order refl;
      faultless = ap (λ (r : ScriptReading). r.fault) read;
      goes_on = through stops plan first opening begun count old all text number watching left faults p (first.reads false taken).phases (ap (λ (r : ScriptReading). r.phases) read);
    }

-- the phases stopped
pub stop_played : (stops : Bool) (plan : Option WatchPlan) (first : Coming) (opening : List Commit) (begun : Option (List ℕ)) (count : ℕ) (old new : Coming) (all : List Commit) (text : List ℕ) (number : ℕ) (watching : Option Watch) (left end : Option (List ℕ)) (faults last : ℕ) (e : NextError)
    → AnswersComing old left (Err e) new end → NextFaults e faults last
    → Played stops plan first opening begun count old all text number watching left faults → PlayStops stops first.reads opening (stop_for e) begun end count last
stop_played stops plan first opening begun count old new all text number watching left end faults last next.NoMemory h counts p = counts ∙ p.sure
stop_played stops plan first opening begun count old new all text number watching left end faults last (next.Source n) h counts p =
    (not_faulty stops plan first opening begun count old new all text number watching left end faults n h p, subst (λ (k : ℕ). Rose k last) p.sure counts.1, counts.0)
stop_played stops plan first opening begun count old new all text number watching left end faults last (next.Fault f) h counts p =
    (faulty stops plan first opening begun count old new all text number watching left end faults f h p, counts ∙ p.sure)

-- A REFUSAL

all_jobs_on : (xs ys : List (List Job)) → all_jobs (xs ++ ys) ≡ all_jobs xs ++ all_jobs ys
all_jobs_on [] ys = refl
all_jobs_on (p ∷ xs) ys = ap (λ js. p ++ js) (all_jobs_on xs ys) ∙ sym (append_assoc p (all_jobs xs) (all_jobs ys))

regrouped : {A : Type 0} (a b c d : List A) → (a ++ (b ++ c)) ++ d ≡ (a ++ b) ++ (c ++ d)
regrouped a b c d = ap (λ x. x ++ d) (sym (append_assoc a b c)) ∙ append_assoc (a ++ b) c d

-- the sessions of turns of the first jobs are those of their jobs
first_inside : (n : ℕ) (jobs : List ScriptJob) (ts : List Turn) (later : List Job) → All (λ job. job.session < n) jobs → jobs_of ts ++ later ≡ map asked jobs → Each (Inside n) ts
first_inside n jobs [] later all e = tt
first_inside n [] (t ∷ ts) later all e = absurd (cc)
first_inside n (job ∷ jobs) (t ∷ ts) later all e = (
  subst (λ (s : ℕ). s < n) (ap first_session (sym e)) (all 0 job (omega arith)),
  first_inside n jobs ts later (λ k d inside. all (suc k) d (omega (arith, inside))) (ap tail e),
) where
  first_session : List Job → ℕ
  first_session [] = 0
  first_session (j ∷ js) = j.session

  tail : List Job → List Job
  tail [] = []
  tail (j ∷ js) = js

-- a refusal behind turns of which none is refused
ends_later : (ts us : List Turn) → AreAccepted ts → EndInRefusal us → EndInRefusal (ts ++ us)
ends_later ts us none r =
    record {
      front = ts ++ r.front;
      last = r.last;
      these = ap (λ xs. ts ++ xs) r.these ∙ sym (append_assoc ts r.front (r.last ∷ []));
      accepted = each_on (λ (t : Turn). is_refusal t.reply.body ≡ false) ts r.front none r.accepted;
      refused = r.refused;
    }

-- the jobs of a script whose phases begin with those that have come
script_jobs : (phases : List (List ScriptJob)) (jobs : List ScriptJob) (more : List (List ScriptJob)) (ts us : List Turn) (later : List Job) → jobs_of ts ≡ all_jobs (phases_asked phases) → jobs_of us ++ later ≡ map asked jobs
    → all_jobs (phases_asked ((phases ++ jobs ∷ []) ++ more)) ≡ jobs_of (ts ++ us) ++ (later ++ all_jobs (phases_asked more))
script_jobs phases jobs more ts us later answers these =
    let rest = all_jobs (phases_asked more) in
    ap all_jobs (map-append (λ js. map asked js) (phases ++ jobs ∷ []) more)
    ∙ (all_jobs_on (phases_asked (phases ++ jobs ∷ [])) (phases_asked more)
    ∙ (ap (λ js. js ++ rest) (jobs_more phases jobs)
    ∙ (ap (λ js. (js ++ map asked jobs) ++ rest) (sym answers)
    ∙ (ap (λ js. (jobs_of ts ++ js) ++ rest) (sym these)
    ∙ (regrouped (jobs_of ts) (jobs_of us) later rest
    ∙ ap (λ js. js ++ (later ++ rest)) (sym (map-append (λ (t : Turn). t.job) ts us)))))))

-- a phase came, and a statement of it is refused, which ends the play
phase_refused : (stops : Bool) (plan : Option WatchPlan) (first : Coming) (opening : List Commit) (begun : Option (List ℕ)) (count : ℕ) (old new : Coming) (mid : List Commit) (at after : List ℕ) (number more : ℕ) (was : Option Watch) (left end : Option (List ℕ)) (faults : ℕ) (phase : Phase)
    → AnswersComing old left (Ok (Some phase)) new end → stops ≡ true → JobsToRefusal plan new.names (map asked phase.jobs.items) mid at after number more
    → Played stops plan first opening begun count old mid at number was left faults → ScriptToRefusal plan first.reads opening after more begun end
phase_refused stops plan first opening begun count old new mid at after number more was left end faults phase h ends ran p =
    let jobs = phase.jobs.items in
    let gives : BringsPhase old h.taken jobs new end = h.says in
    let live = not_over old h.taken (Ok (Some phase)) h.idle (λ e. cc) in
    let come = one_more_come first begun p.bytes p.phases old left h.taken jobs new end p.come h.order live gives in
    let far = so_far_read first begun (p.bytes ++ h.taken) (p.phases ++ jobs ∷ []) new end come in
    let script = (p.bytes ++ h.taken) ++ rest_of end in
    let turns = p.turns ++ ran.turns in
    let grown : Each (Inside (length new.names)) p.turns = each_grows old.names new.names p.turns gives.names p.inside in
    let inside : Each (Inside (length new.names)) turns = each_on (Inside (length new.names)) p.turns ran.turns grown (first_inside (length new.names) jobs ran.turns ran.later gives.sessions ran.these) in
    let play : IsPlay meant opening turns ran.all = play_on meant opening mid ran.all p.turns ran.turns p.play ran.play in
    let adds = play_adds meant mid ran.all ran.turns ran.play in
    let front : told_bytes plan old.names mid p.turns ≡ told_bytes plan new.names ran.all p.turns =
    told_more plan old.names new.names mid adds.0 p.turns gives.names p.inside (play_within meant opening mid p.turns p.play) ∙ ap (λ cs. told_bytes plan new.names cs p.turns) (sym adds.1) in
    let so_far : after ≡ told_bytes plan new.names ran.all turns =
    ran.text ∙ (ap (λ b. b ++ told_bytes plan new.names ran.all ran.turns) (p.written ∙ front) ∙ sym (told_on plan new.names ran.all p.turns ran.turns)) in
    let whole : told_bytes plan new.names ran.all turns ≡ told_bytes plan far.0.names ran.all turns =
    told_more plan new.names far.0.names ran.all [] turns far.2 inside (play_within meant opening ran.all turns play) ∙ ap (λ cs. told_bytes plan far.0.names cs turns) (append-nil ran.all) in
    record {
      script = script;
      told = whole_told begun end (p.bytes ++ h.taken) come.order;
      taken = p.bytes ++ h.taken;
      took = come.order;
      no_further = subst (λ (b : Bool). ReadsNoFurther b (first.reads false) opening (p.bytes ++ h.taken)) ends (asked_more stops plan first opening begun count old mid at number was left faults h.taken live h.needed p);
      turns = turns;
      later = ran.later ++ all_jobs (phases_asked far.0.phases);
      jobs = ap (λ (r : ScriptReading). all_jobs (phases_asked r.phases)) far.1 ∙ script_jobs p.phases jobs far.0.phases p.turns ran.turns ran.later p.answers ran.these;
      all = ran.all;
      play = play;
      refusal = ends_later p.turns ran.turns (accepted stops p.turns ends p.goes_on) ran.refusal;
      written = so_far ∙ (whole ∙ ap (λ (r : ScriptReading). told_bytes plan r.names ran.all turns) (sym far.1));
      counted = omega (arith, ran.counted, p.counted, length-append p.turns ran.turns);
    }

-- a phase came whose jobs were not done to their end
pub phase_stopped : (stops : Bool) (plan : Option WatchPlan) (first : Coming) (opening : List Commit) (begun : Option (List ℕ)) (count : ℕ) (old new : Coming) (mid : List Commit) (at : List ℕ) (number : ℕ) (was : Option Watch) (left end : Option (List ℕ)) (faults last : ℕ) (phase : Phase) (why : Cause)
    → AnswersComing old left (Ok (Some phase)) new end → last ≡ faults → JobsStop stops plan new.names (map asked phase.jobs.items) mid at number why
    → Played stops plan first opening begun count old mid at number was left faults → PlayGivenUp stops plan first.reads opening why begun end count last
phase_stopped stops plan first opening begun count old new mid at number was left end faults last phase (cause.Stop why) h sure memory p =
    subst (λ (s : Stop). PlayStops stops first.reads opening s begun end count last) (sym memory) (sure ∙ p.sure)
phase_stopped stops plan first opening begun count old new mid at number was left end faults last phase (cause.Refusal replies) h sure (ends, ran) p = (
  subst (λ (b : Bool). EndsAtRefusal b plan first.reads opening replies.text.items replies.count begun end) (sym ends)
      (phase_refused stops plan first opening begun count old new mid at replies.text.items number replies.count was left end faults phase h ends ran p),
  sure ∙ p.sure,
)
