-- How a journal that follows packets ends.
use Rattle.std.proofs.Common.{◌≡◌, ◌≢◌, inl, inr, ℕ, List, [], ◌++◌, length, map, Some, None, refl, sym, ap, ◌∙◌, subst}
use Rattle.std.specs.declared.option.Option.{Option}
use Rattle.tl_types.specs.declared.commits.Commit.{Commit}
use Rattle.tl_types.specs.declared.commits.Entry.{Entry}
use Rattle.tl_types.specs.Entries.{commits_of}
use Rattle.tl_device.specs.declared.disk.Disk.{Ghosts as DiskGhosts}
use Rattle.tl_device.specs.declared.sink.Sink.{Ghosts as SinkGhosts}
use Rattle.tl_device.specs.Disk.{Only}
use Rattle.tl_device.specs.Known.{append_known}
use Rattle.tl_journal.specs.Image.{ImageStandsFor}
use Rattle.tl_index.specs.Snapshots.{commit_entry}
use Rattle.tl_group.specs.Keeping.{commits_in, journal_commits}
use Rattle.tl_group.specs.Plain as group
use Rattle.tl_group.specs.Standing.{DiskStandsForGroup, IsGivenBack, WaitsWithAll}
use Rattle.tl_group.proofs.WaitLemmas.{commits_behind}
use Rattle.tl_command.specs.declared.statuses.Status.{Status}
use Rattle.tl_command.specs.declared.statuses.Status.TheVariants as status
use Rattle.tl_command.specs.Closing.{Closes, WritesNothing}
use Rattle.tl_command.specs.Outside.{Outside, HoldsJournal}
use Rattle.tl_command.specs.Status.{closing_line}
use Rattle.tl_commands.specs.Appending.{AppendsAndWrites, IsAttached}
use Rattle.tl_commands.specs.Leaving.{LeavesBy}
use Rattle.tl_commands.specs.Playing.{KeepsDisk}
use Rattle.tl_command.proofs.HeldLemmas.{holds_journal, stored_image}
use Rattle.tl_commands.proofs.DiskLemmas.{left_image, left_count}
use Rattle.tl_commands.proofs.GroupEndLemmas.{appended}
use Rattle.tl_commands.proofs.PlayLemmas.{keeps_itself}
use Rattle.tl_commands.specs.Following.{AppendsMore, Extends, FailsInput, FollowEndsBy, Follows, TakesCommits, WhyFollowFails, follow_line}

-- where the input has no fault
as_follow : (opening : List Commit) (before after : Outside) (ended : Status) → LeavesBy (λ all text. Follows opening all text before after) opening before after ended → FollowEndsBy opening before after ended
as_follow opening before after status.Done h = h
as_follow opening before after status.NoMemory h = h
as_follow opening before after status.Usage h = h
as_follow opening before after (status.SourceFault n) h = absurd h
as_follow opening before after (status.SinkFault n) h = inl h
as_follow opening before after (status.DiskFault n) h = h
as_follow opening before after (status.ScriptFault f) h = h
as_follow opening before after (status.NotInitialised len) h = h
as_follow opening before after (status.AlreadyInitialised len) h = h
as_follow opening before after (status.Damaged at) h = h
as_follow opening before after (status.PacketFault at) h = absurd h
as_follow opening before after (status.WatchFault f) h = h
as_follow opening before after (status.StatementRefused n) h = h

-- a group that was extended by commits, and is appended with the line that tells how many there are
pub extended_by : {K D : Type 0} (sinks : SinkGhosts K) (disks : DiskGhosts D) (first waiting later : group.Group D) (commits given : List Commit) (next : List Entry) (text : List ℕ) (old new : K) (disk : D) (ended : Status) → waiting ≡ first → given ≡ commits → next ≡ first.entries ++ map commit_entry commits → later.limits ≡ waiting.limits → WaitsWithAll given waiting later → disks.faults later.journal.disk ≡ disks.faults waiting.journal.disk → (DiskStandsForGroup disks.reads disks.may_leave waiting → DiskStandsForGroup disks.reads disks.may_leave later) → text ≡ follow_line (length (commits_of next)) → AppendsAndWrites sinks disks later text old new disk ended → AppendsMore sinks disks first commits old new disk ended
extended_by {D = D} sinks disks first waiting later commits given next text old new disk ended is same next_is limits waits count stands line writes =
    let w = subst (λ (g : group.Group D). WaitsWithAll commits g later) is (subst (λ (cs : List Commit). WaitsWithAll cs waiting later) same waits) in
    record {
      later = later;
      keeps = record {
        limits_same = limits ∙ ap (λ g. g.limits) is;
        journal_same = w.journal_same;
        count_same = count ∙ ap (λ g. disks.faults g.journal.disk) is;
        stands = λ s. stands (subst (λ (g : group.Group D). DiskStandsForGroup disks.reads disks.may_leave g) (sym is) s);
      };
      all = ap commits_of w.entries_are ∙ commits_behind first.entries commits;
      writes = subst (λ (t : List ℕ). AppendsAndWrites sinks disks later t old new disk ended) (line ∙ ap (λ es. follow_line (length (commits_of es))) (next_is ∙ sym w.entries_are)) writes;
    }

module _ {K D : Type 0} (sinks : SinkGhosts K) (disks : DiskGhosts D) (begun : D) (attached : group.Group D) (left end : Option (List ℕ)) (first last : ℕ) (old new : K) (disk : D) (ended : Status) (a : IsAttached disks begun attached) where
  abbrev pub before : Outside
  before = record { left = left; source_faults = first; written = sinks.written old; sink_faults = sinks.faults old; reads = disks.reads begun; may_leave = disks.may_leave begun; disk_faults = disks.faults begun }

  abbrev pub after : Outside
  after = record { left = end; source_faults = last; written = sinks.written new; sink_faults = sinks.faults new; reads = disks.reads disk; may_leave = disks.may_leave disk; disk_faults = disks.faults disk }

  holds : (later : group.Group D) → KeepsDisk disks attached later → disk ≡ later.journal.disk → HoldsJournal (commits_in attached) None before after
  holds later k same = holds_journal (commits_in attached) before after (left_count disks begun disk attached later a k same) (left_image disks begun disk attached later a k same)

  held : IsGivenBack disks.reads disks.may_leave disks.faults attached disk → HoldsJournal (commits_in attached) None before after
  held back = holds_journal (commits_in attached) before after (back.count_same ∙ a.count_same) by_bytes where
    by_bytes : (b : List ℕ) → disks.reads begun ≡ Some b → (bytes : List ℕ) × (disks.reads disk ≡ Some bytes) × Only bytes (disks.may_leave disk) × ImageStandsFor (commits_in attached) bytes
    by_bytes b told =
        let s = back.stands (a.stands b told) in
        subst (λ (cs : List Commit). (bytes : List ℕ) × (disks.reads disk ≡ Some bytes) × Only bytes (disks.may_leave disk) × ImageStandsFor cs bytes) a.journal_is
        (stored_image disks disk (journal_commits attached) s.0 s.1)

  -- the commits were appended, or the group was given up
  pub extended : (commits : List Commit) → TakesCommits (commits_in attached) left end commits → last ≡ first → Extends sinks disks attached commits old new disk ended → FollowEndsBy (commits_in attached) before after ended
  extended commits taken sure (inl (e, back, written, faults)) =
      subst (FollowEndsBy (commits_in attached) before after) (sym e) ((written, faults), held back)
  extended commits taken sure (inr more) =
      as_follow (commits_in attached) before after ended
      (appended sinks disks (λ all text. Follows (commits_in attached) all text before after) begun attached more.later (follow_line (length (commits_in more.later))) left end first last old new disk ended a more.keeps
      (taken.0, taken.2.0, taken.1.1, taken.1.2, taken.2.1, taken.2.2, more.all ∙ taken.2.3.history, refl, sure) more.writes)

  -- no commits were made of the input
  pub not_extended : (wanted : Status) → FailsInput (commits_in attached) left first last wanted → disk ≡ attached.journal.disk
      → (wanted ≡ status.NoMemory → WritesNothing status.NoMemory (sinks.written old) (sinks.written new) (sinks.faults old) (sinks.faults new) ended)
      → (wanted ≢ status.NoMemory → Closes [] wanted (sinks.written old) (sinks.written new) (sinks.faults old) (sinks.faults new) ended) → FollowEndsBy (commits_in attached) before after ended
  not_extended wanted fails same silent closes = by_status wanted fails silent closes where
    kept : HoldsJournal (commits_in attached) None before after
    kept = holds attached (keeps_itself disks attached) same

    cut : (wanted : Status) → WhyFollowFails (commits_in attached) left first last wanted → (sinks.written new ≡ append_known (sinks.written old) (closing_line wanted) → sinks.faults new ≡ sinks.faults old → FollowEndsBy (commits_in attached) before after wanted) → Closes [] wanted (sinks.written old) (sinks.written new) (sinks.faults old) (sinks.faults new) ended → FollowEndsBy (commits_in attached) before after ended
    cut wanted why closed (inl (e, written, faults)) = subst (FollowEndsBy (commits_in attached) before after) (sym e) (closed written faults)
    cut wanted why closed (inr (inl (e, written, faults))) = subst (FollowEndsBy (commits_in attached) before after) (sym e) ((written, faults), kept)
    cut wanted why closed (inr (inr (e, rose, some))) =
        subst (FollowEndsBy (commits_in attached) before after) (sym e) (inr (refl, record { closing = wanted; why = why; prints = (rose, some); holds = kept }))

    gone : WritesNothing status.NoMemory (sinks.written old) (sinks.written new) (sinks.faults old) (sinks.faults new) ended → FollowEndsBy (commits_in attached) before after ended
    gone (e, written, faults) = subst (FollowEndsBy (commits_in attached) before after) (sym e) ((written, faults), kept)

    by_status : (w : Status) → FailsInput (commits_in attached) left first last w
        → (w ≡ status.NoMemory → WritesNothing status.NoMemory (sinks.written old) (sinks.written new) (sinks.faults old) (sinks.faults new) ended)
        → (w ≢ status.NoMemory → Closes [] w (sinks.written old) (sinks.written new) (sinks.faults old) (sinks.faults new) ended) → FollowEndsBy (commits_in attached) before after ended
    by_status status.Done h silent c = absurd h
    by_status status.NoMemory h silent c = gone (silent refl)
    by_status status.Usage h silent c = absurd h
    by_status (status.SourceFault n) h silent c = let other : status.SourceFault n ≢ status.NoMemory = λ e. cc in cut (status.SourceFault n) (other, h) (λ written faults. (h.0, h.1, record { prints = (written, faults); holds = kept })) (c other)
    by_status (status.SinkFault n) h silent c = absurd h
    by_status (status.DiskFault n) h silent c = absurd h
    by_status (status.ScriptFault f) h silent c = absurd h
    by_status (status.NotInitialised n) h silent c = absurd h
    by_status (status.AlreadyInitialised n) h silent c = absurd h
    by_status (status.Damaged n) h silent c = absurd h
    by_status (status.PacketFault n) h silent c = let other : status.PacketFault n ≢ status.NoMemory = λ e. cc in cut (status.PacketFault n) (other, h) (λ written faults. (h.0, h.1, record { prints = (written, faults); holds = kept })) (c other)
    by_status (status.WatchFault f) h silent c = absurd h
    by_status (status.StatementRefused n) h silent c = absurd h
