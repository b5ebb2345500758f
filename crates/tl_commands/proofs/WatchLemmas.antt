-- How a watch ends, by what the text names.
use Rattle.std.proofs.Common.{◌≡◌, inl, inr, ℕ, Bool, false, List, [], Some, None, Result, Ok, Err, sym, subst}
use Rattle.tl_types.specs.declared.commits.Commit.{Commit}
use Rattle.tl_script.specs.Script.{ScriptReading}
use Rattle.tl_watch.specs.declared.plans.WatchPlan.{WatchPlan}
use Rattle.tl_jobs.specs.declared.replies.Refusal.{Refusal}
use Rattle.tl_command.specs.declared.statuses.Status.{Status}
use Rattle.tl_command.specs.declared.statuses.Status.TheVariants as status
use Rattle.tl_command.specs.Closing.{Closes, WritesNothing}
use Rattle.tl_command.specs.Outside.{Outside, HoldsJournal, IsUnread}
use Rattle.tl_watch.specs.Watches.{Watch}
use Rattle.tl_commands.specs.Grouping.{GroupEndsBy}
use Rattle.tl_commands.specs.Watching.{BeginsWatch, WatchEndsBy}

-- the text names a plan
pub watch_played : (named : Result WatchPlan Refusal) (plan : WatchPlan) (reads : Bool → List ℕ → ScriptReading) (opening : List Commit) (before after : Outside) (ended : Status) → named ≡ Ok plan → GroupEndsBy false (Some plan) reads opening before after ended → WatchEndsBy named reads opening before after ended
watch_played named plan reads opening before after ended is h = subst (λ (r : Result WatchPlan Refusal). WatchEndsBy r reads opening before after ended) (sym is) h

-- the text has a fault
pub watch_refused : (named : Result WatchPlan Refusal) (f : Refusal) (reads : Bool → List ℕ → ScriptReading) (opening : List Commit) (before after : Outside) (ended : Status) → named ≡ Err f → IsUnread before after → Closes [] (status.WatchFault f) before.written after.written before.sink_faults after.sink_faults ended → HoldsJournal opening None before after → WatchEndsBy named reads opening before after ended
watch_refused named f reads opening before after ended is unread closes holds =
    subst (λ (r : Result WatchPlan Refusal). WatchEndsBy r reads opening before after ended) (sym is) (record { unread = unread; closes = closes; holds = holds })

-- memory ran out before it was known what the text names
pub watch_starved : (named : Result WatchPlan Refusal) (reads : Bool → List ℕ → ScriptReading) (opening : List Commit) (before after : Outside) → IsUnread before after → WritesNothing status.NoMemory before.written after.written before.sink_faults after.sink_faults status.NoMemory → HoldsJournal opening None before after → WatchEndsBy named reads opening before after status.NoMemory
watch_starved (Ok plan) reads opening before after unread (same, written, faults) holds = ((written, faults), holds)
watch_starved (Err f) reads opening before after unread silent holds = record { unread = unread; closes = inr (inl silent); holds = holds }

-- what the text comes to, over the commits of the group whose snapshot was read
pub begun_over : (seen commits : List Commit) (text : List ℕ) (read answer : Result Watch Refusal) → BeginsWatch seen text read → seen ≡ commits → read ≡ answer → BeginsWatch commits text answer
begun_over seen commits text read answer begins same is =
    subst (BeginsWatch commits text) is (subst (λ (cs : List Commit). BeginsWatch cs text read) same begins)
