-- Jobs done one after the other over a group whose commits wait: what each is answered with, what
-- is told of a plan, what is read and done of a script, and what the disk keeps meanwhile. A play
-- goes on at a statement that is refused, or it ends there (`stops`).
use Rattle.std.specs.Prelude.{◌≡◌, ◌⊎◌, ℕ, ◌+◌, ◌<◌, ◌≤◌, Bool, true, false, List, [], ◌∷◌, ◌++◌, length, Option, Some, None, IfSome, Ok, Err}
use Rattle.tl_types.specs.declared.batches.Batch.{Batch}
use Rattle.tl_types.specs.declared.batches.BatchFault.{BatchFault}
use Rattle.tl_types.specs.declared.commits.Commit.{Commit}
use Rattle.tl_device.specs.Known.{Rose, prepend_known}
use Rattle.tl_device.specs.declared.disk.Disk.{Ghosts as DiskGhosts}
use Rattle.tl_script.specs.declared.jobs.ScriptFault.{ScriptFault}
use Rattle.tl_script.specs.Script.{Job as ScriptJob, ScriptReading}
use Rattle.tl_script.specs.Taking.{IsAtEnd}
use Rattle.tl_group.specs.Keeping.{journal_commits}
use Rattle.tl_group.specs.Plain as group
use Rattle.tl_group.specs.Standing.{DiskStandsForGroup}
use Rattle.tl_jobs.specs.declared.readings.JobReading.{JobReading}
use Rattle.tl_jobs.specs.declared.readings.JobReading.TheVariants as reading
use Rattle.tl_jobs.specs.declared.replies.Refusal.TheVariants as refusal
use Rattle.tl_jobs.specs.declared.replies.ReplyBody.{ReplyBody}
use Rattle.tl_jobs.specs.declared.replies.ReplyBody.TheVariants as body
use Rattle.tl_jobs.specs.Jobs.{Job}
use Rattle.tl_jobs.specs.Play.{IsPlay}
use Rattle.tl_jobs.specs.Replies.{body_bytes}
use Rattle.tl_jobs.specs.Turns.{Turn, Each, made, meant}
use Rattle.tl_jobs.specs.Written.{all_jobs, jobs_of}
use Rattle.tl_watch.specs.declared.plans.WatchPlan.{WatchPlan}
use Rattle.tl_watch.specs.Watches.{Watch}
use Rattle.tl_command.specs.declared.stops.Stop.{Stop}
use Rattle.tl_command.specs.declared.stops.Stop.TheVariants as stop
use Rattle.tl_command.specs.Coming.{Coming, HaveCome}
use Rattle.tl_command.specs.Jobs.{phases_asked}
use Rattle.tl_commands.specs.declared.playing.Cause.{Cause}
use Rattle.tl_commands.specs.declared.playing.Cause.TheVariants as cause
use Rattle.tl_commands.specs.Refusing.{EndInRefusal, GoOn, is_refusal}
use Rattle.tl_commands.specs.Telling.{IsPlayBy, WatchesFor, told_behind, told_bytes}

-- THE DISK

-- the journal has the commits that it had, the disk's count of faults is as it was, and where the
-- disk stood for the group it does so still
pub record KeepsDisk {D : Type 0} (disks : DiskGhosts D) (old new : group.Group D) : Type 0 where
  pub limits_same : new.limits ≡ old.limits
  pub journal_same : journal_commits new ≡ journal_commits old
  pub count_same : disks.faults new.journal.disk ≡ disks.faults old.journal.disk
  pub stands : DiskStandsForGroup disks.reads disks.may_leave old
      → DiskStandsForGroup disks.reads disks.may_leave new

-- ONE JOB

-- a batch of an author is done, and its commit is behind the others; or it is refused, and changes
-- nothing
abbrev pub AddsBatch : ℕ → Batch → ℕ → ReplyBody → List Commit → List Commit → Type 0
AddsBatch author batch v body.Done old new =
    (c : Commit) × (v ≡ length old + 1) × (made old author batch ≡ Ok c) × (new ≡ old ++ c ∷ [])
AddsBatch author batch v (body.Refused f) old new =
    (e : BatchFault) × (v ≡ length old) × (made old author batch ≡ Err e)
    × (f ≡ refusal.BatchFault e) × (new ≡ old)
AddsBatch author batch v (body.Rows answer) old new = ⊥
AddsBatch author batch v body.DeviceFault old new = ⊥
AddsBatch author batch v body.BrokenJournal old new = ⊥

-- what a reading of an author's job is answered with
abbrev pub Answers : ℕ → JobReading → ℕ → ReplyBody → List Commit → List Commit → Type 0
Answers author (reading.Loads batch) v told old new = AddsBatch author batch v told old new
Answers author (reading.Query answer) v told old new =
    (v ≡ length old) × (told ≡ body.Rows answer) × (new ≡ old)
Answers author (reading.Fault f) v told old new =
    (v ≡ length old) × (told ≡ body.Refused f) × (new ≡ old)

-- what a job came to was told: its reply stands behind the text, and behind that what is told of a
-- plan, of which the watch stands for the commits; `Comes` says of the version, the body and the
-- commits before and after what they are; one reply more is counted, and known as a refusal or not
pub record AnswersJob (plan : Option WatchPlan) (name : List ℕ)
    (Comes : ℕ → ReplyBody → List Commit → List Commit → Type 0) (old new : List Commit)
    (before after : List ℕ) (first last : ℕ) (refusal : Bool) (watching : Option Watch)
    : Type 0 where
  pub version : ℕ
  pub told : ReplyBody
  pub comes : Comes version told old new
  pub text : after ≡ before ++ (body_bytes name version told ++ told_behind plan told new)
  pub watches : WatchesFor plan new watching
  pub counted : last ≡ first + 1
  pub refuses : refusal ≡ is_refusal told

-- SOME JOBS

-- these jobs were done one after the other, and none ended the play; the text of their replies,
-- with what is told of a plan, stands behind what was there, and the replies are counted; the watch
-- of the plan stands for the commits; the sessions have these names
pub record PlaysJobs (stops : Bool) (plan : Option WatchPlan) (names : List (List ℕ))
    (jobs : List Job) (old new : List Commit) (before after : List ℕ) (first last : ℕ)
    (watching : Option Watch) : Type 0 where
  pub turns : List Turn
  pub these : jobs_of turns ≡ jobs
  pub play : IsPlay meant old turns new
  pub goes_on : GoOn stops turns
  pub text : after ≡ before ++ told_bytes plan names new turns
  pub counted : last ≡ first + length turns
  pub watches : WatchesFor plan new watching

-- the first ones of these jobs were done one after the other up to one that is refused; the text of
-- their replies stands behind what was there, and the replies are counted
pub record JobsToRefusal (plan : Option WatchPlan) (names : List (List ℕ)) (jobs : List Job)
    (old : List Commit) (before after : List ℕ) (first last : ℕ) : Type 0 where
  pub turns : List Turn
  pub later : List Job
  pub these : jobs_of turns ++ later ≡ jobs
  pub all : List Commit
  pub play : IsPlay meant old turns all
  pub refusal : EndInRefusal turns
  pub text : after ≡ before ++ told_bytes plan names all turns
  pub counted : last ≡ first + length turns

-- why jobs were not done to their end: memory ran out; or one is refused, which ends the play
abbrev pub JobsStop : Bool → Option WatchPlan → List (List ℕ) → List Job → List Commit → List ℕ → ℕ
    → Cause → Type 0
JobsStop stops plan names jobs old before first (cause.Stop why) = why ≡ stop.NoMemory
JobsStop stops plan names jobs old before first (cause.Refusal replies) =
    (stops ≡ true)
    × JobsToRefusal plan names jobs old before replies.text.items first replies.count

-- THE SCRIPT

-- the jobs of these phases were done one after the other from these commits on, and none of them
-- ended the play
pub record PlaysThrough (stops : Bool) (opening : List Commit) (phases : List (List ScriptJob))
    : Type 0 where
  pub turns : List Turn
  pub these : jobs_of turns ≡ all_jobs (phases_asked phases)
  pub all : List Commit
  pub play : IsPlay meant opening turns all
  pub goes_on : GoOn stops turns

-- of these bytes, which a source gave, the last read gave at most 65536; those before it have no
-- whole phase with a statement that ends the play
pub record EndsReading (stops : Bool) (closed : List ℕ → ScriptReading) (opening : List Commit)
    (taken : List ℕ) : Type 0 where
  pub front : List ℕ
  pub last : List ℕ
  pub parts : taken ≡ front ++ last
  pub bound : length last ≤ 65536
  pub goes_on : PlaysThrough stops opening (closed front).phases

-- a source is read no further once the bytes that it gave have a whole phase with a statement that
-- ends the play
abbrev pub ReadsNoFurther : Bool → (List ℕ → ScriptReading) → List Commit → List ℕ → Type 0
ReadsNoFurther stops closed opening taken =
    (taken ≡ []) ⊎ EndsReading stops closed opening taken

-- the phases that have come were played, of what a source had left and its count of faults, and no
-- statement ended the play; so many replies there are
pub record Played (stops : Bool) (plan : Option WatchPlan) (first : Coming) (opening : List Commit)
    (begun : Option (List ℕ)) (count : ℕ) (now : Coming) (all : List Commit) (text : List ℕ)
    (number : ℕ) (watching : Option Watch) (left : Option (List ℕ)) (faults : ℕ) : Type 0 where
  pub bytes : List ℕ
  pub phases : List (List ScriptJob)
  pub come : HaveCome first begun bytes phases now left
  pub no_further : ReadsNoFurther stops (first.reads false) opening bytes
  pub live : now.live ≡ true
  pub turns : List Turn
  pub answers : jobs_of turns ≡ all_jobs (phases_asked phases)
  pub inside : Each (λ t. t.job.session < length now.names) turns
  pub play : IsPlay meant opening turns all
  pub goes_on : GoOn stops turns
  pub written : text ≡ told_bytes plan now.names all turns
  pub counted : number ≡ length turns
  pub watches : WatchesFor plan all watching
  pub sure : faults ≡ count

-- the whole script was read, which has no fault, and its jobs were done one after the other, where
-- a refusal ends the play without one; this is the text of their replies, with what is told of a
-- plan
pub record PlaysScript (stops : Bool) (plan : Option WatchPlan) (reads : List ℕ → ScriptReading)
    (opening all : List Commit) (text : List ℕ) (before after : Option (List ℕ)) : Type 0 where
  pub script : List ℕ
  pub told : IfSome before (λ left. left ≡ script)
  pub faultless : (reads script).fault ≡ None
  pub read : IsAtEnd after
  pub play : IsPlayBy stops plan (reads script).names
      (all_jobs (phases_asked (reads script).phases)) opening all text

-- the first jobs of the script were done one after the other up to one that is refused, which is
-- the one with this number, from 1, in the order of phases and lines, and the script was read no
-- further; this is the text of their replies
pub record ScriptToRefusal (plan : Option WatchPlan) (reads : Bool → List ℕ → ScriptReading)
    (opening : List Commit) (text : List ℕ) (number : ℕ) (before after : Option (List ℕ))
    : Type 0 where
  pub script : List ℕ
  pub told : IfSome before (λ left. left ≡ script)
  pub taken : List ℕ
  pub took : before ≡ prepend_known taken after
  pub no_further : ReadsNoFurther true (reads false) opening taken
  pub turns : List Turn
  pub later : List Job
  pub jobs : all_jobs (phases_asked (reads true script).phases) ≡ jobs_of turns ++ later
  pub all : List Commit
  pub play : IsPlay meant opening turns all
  pub refusal : EndInRefusal turns
  pub written : text ≡ told_bytes plan (reads true script).names all turns
  pub counted : number ≡ length turns

-- a play ended at the statement with this number, which is refused; one that goes on at refusals
-- does not end so
abbrev pub EndsAtRefusal : Bool → Option WatchPlan → (Bool → List ℕ → ScriptReading) → List Commit
    → List ℕ → ℕ → Option (List ℕ) → Option (List ℕ) → Type 0
EndsAtRefusal false plan reads opening text number before after = ⊥
EndsAtRefusal true plan reads opening text number before after =
    ScriptToRefusal plan reads opening text number before after

-- the script has this fault, and no statement of the phases before it ended the play
pub record HasFault (stops : Bool) (reads : List ℕ → ScriptReading) (opening : List Commit)
    (f : ScriptFault) (before : Option (List ℕ)) : Type 0 where
  pub script : List ℕ
  pub told : IfSome before (λ left. left ≡ script)
  pub is : (reads script).fault ≡ Some f
  pub goes_on : PlaysThrough stops opening (reads script).phases

-- in the bytes that were taken no fault is read, and no statement of the phases that are whole in
-- them ended the play
pub record HasNoFaultSoFar (stops : Bool) (closed : List ℕ → ScriptReading)
    (opening : List Commit) (before after : Option (List ℕ)) : Type 0 where
  pub taken : List ℕ
  pub took : before ≡ prepend_known taken after
  pub faultless : (closed taken).fault ≡ None
  pub goes_on : PlaysThrough stops opening (closed taken).phases

-- what was read, by why a script is given up, whose play from these commits a refusal ends or not;
-- how a whole script is read, and the start of one
abbrev pub PlayStops : Bool → (Bool → List ℕ → ScriptReading) → List Commit → Stop
    → Option (List ℕ) → Option (List ℕ) → ℕ → ℕ → Type 0
PlayStops stops reads opening stop.Ended before after first last = ⊥
PlayStops stops reads opening (stop.Fault f) before after first last =
    HasFault stops (reads true) opening f before × (last ≡ first)
PlayStops stops reads opening (stop.Source faults) before after first last =
    HasNoFaultSoFar stops (reads false) opening before after × Rose first last × (faults ≡ last)
PlayStops stops reads opening (stop.Sink faults) before after first last = ⊥
PlayStops stops reads opening stop.NoMemory before after first last = last ≡ first

-- why a play is given up: its phases stopped, or a statement is refused, which ends it
abbrev pub PlayGivenUp : Bool → Option WatchPlan → (Bool → List ℕ → ScriptReading) → List Commit
    → Cause → Option (List ℕ) → Option (List ℕ) → ℕ → ℕ → Type 0
PlayGivenUp stops plan reads opening (cause.Stop why) before after first last =
    PlayStops stops reads opening why before after first last
PlayGivenUp stops plan reads opening (cause.Refusal replies) before after first last =
    EndsAtRefusal stops plan reads opening replies.text.items replies.count before after
    × (last ≡ first)
