-- How a group ends, by why its phases stopped and what became of its append.
use Rattle.std.proofs.Common.{◌≡◌, inl, inr, ℕ, Bool, false, List, [], Some, None, IfSome, codes, refl, sym, ◌∙◌, subst}
use Rattle.std.specs.declared.option.Option.{Option}
use Rattle.tl_types.specs.declared.commits.Commit.{Commit}
use Rattle.tl_device.specs.Known.{append_known, Rose}
use Rattle.tl_device.specs.declared.disk.Disk.{Ghosts as DiskGhosts}
use Rattle.tl_device.specs.declared.sink.Sink.{Ghosts as SinkGhosts}
use Rattle.tl_script.specs.Script.{ScriptReading}
use Rattle.tl_group.specs.Keeping.{commits_in}
use Rattle.tl_group.specs.Plain as group
use Rattle.tl_group.specs.Standing.{IsGivenBack}
use Rattle.tl_watch.specs.declared.plans.WatchPlan.{WatchPlan}
use Rattle.tl_command.specs.declared.statuses.Status.{Status}
use Rattle.tl_command.specs.declared.statuses.Status.TheVariants as status
use Rattle.tl_command.specs.declared.stops.Stop.{Stop}
use Rattle.tl_command.specs.declared.stops.Stop.TheVariants as stop
use Rattle.tl_command.specs.Closing.{ClosesAfter, Closes, WritesReady}
use Rattle.tl_command.specs.Outside.{Outside, HoldsJournal}
use Rattle.tl_command.specs.Status.{closing_line}
use Rattle.tl_commands.specs.Appending.{AppendsAndWrites, ClosesPlay, IsAttached}
use Rattle.tl_commands.specs.Grouping.{GroupEndsBy, Plays, WhyGivenUp}
use Rattle.tl_commands.specs.Leaving.{LeavesBy}
use Rattle.tl_commands.specs.declared.playing.Cause.{Cause}
use Rattle.tl_commands.specs.declared.playing.Cause.TheVariants as cause
use Rattle.tl_commands.specs.Playing.{EndsAtRefusal, KeepsDisk, PlayGivenUp, PlayStops}
use Rattle.tl_command.proofs.HeldLemmas.{holds_journal}
use Rattle.tl_commands.proofs.DiskLemmas.{left_image, left_count, appended_image, back_held, doubt_held}

-- what is written once there is room, from before the room was taken
pub ready_from : (bytes : List ℕ) (wanted : Status) (old mid new : Option (List ℕ)) (before at after : ℕ) (ended : Status) → mid ≡ old → at ≡ before → WritesReady bytes wanted mid new at after ended → WritesReady bytes wanted old new before after ended
ready_from bytes wanted old mid new before at after ended e f h =
    subst (λ (n : ℕ). WritesReady bytes wanted old new n after ended) f (subst (λ (w : Option (List ℕ)). WritesReady bytes wanted w new at after ended) e h)

-- the line of a disk that failed
pub line_ready : (bytes : List ℕ) (count faults : ℕ) (old new : Option (List ℕ)) (before after : ℕ) (ended : Status) → bytes ≡ codes "! device\n" → count ≡ faults → WritesReady bytes (status.DiskFault count) old new before after ended → WritesReady (closing_line (status.DiskFault faults)) (status.DiskFault faults) old new before after ended
line_ready bytes count faults old new before after ended e f h =
    subst (λ (n : ℕ). WritesReady (codes "! device\n") (status.DiskFault n) old new before after ended) f (subst (λ (b : List ℕ). WritesReady b (status.DiskFault count) old new before after ended) e h)

-- the disk failed in the append
pub in_doubt : {D : Type 0} (disks : DiskGhosts D) (g : group.Group D) (disk : D) (told : Option ℕ) (count : ℕ) → told ≡ Some count → IfSome told (λ n. (n ≡ disks.faults disk) × Rose (disks.faults g.journal.disk) n) → (count ≡ disks.faults disk) × Rose (disks.faults g.journal.disk) (disks.faults disk)
in_doubt disks g disk told count is h =
    let both = subst (λ (o : Option ℕ). IfSome o (λ n. (n ≡ disks.faults disk) × Rose (disks.faults g.journal.disk) n)) is h in
    (both.0, subst (Rose (disks.faults g.journal.disk)) both.0 both.1)

-- all was read, and the group was appended
pub appended : {K D : Type 0} (sinks : SinkGhosts K) (disks : DiskGhosts D) (What : List Commit → List ℕ → Type 0) (begun : D) (attached later : group.Group D) (text : List ℕ) (left end : Option (List ℕ)) (first last : ℕ) (old new : K) (disk : D) (ended : Status)
    → IsAttached disks begun attached → KeepsDisk disks attached later → What (commits_in later) text
    → AppendsAndWrites sinks disks later text old new disk ended
    → LeavesBy What (commits_in attached)
    (record { left = left; source_faults = first; written = sinks.written old; sink_faults = sinks.faults old; reads = disks.reads begun; may_leave = disks.may_leave begun; disk_faults = disks.faults begun })
    (record { left = end; source_faults = last; written = sinks.written new; sink_faults = sinks.faults new; reads = disks.reads disk; may_leave = disks.may_leave disk; disk_faults = disks.faults disk }) ended
appended sinks disks What begun attached later text left end first last old new disk ended a k what writes = by_end writes where
  before : Outside
  before = record { left = left; source_faults = first; written = sinks.written old; sink_faults = sinks.faults old; reads = disks.reads begun; may_leave = disks.may_leave begun; disk_faults = disks.faults begun }

  after : Outside
  after = record { left = end; source_faults = last; written = sinks.written new; sink_faults = sinks.faults new; reads = disks.reads disk; may_leave = disks.may_leave disk; disk_faults = disks.faults disk }

  by_end : AppendsAndWrites sinks disks later text old new disk ended → LeavesBy What (commits_in attached) before after ended
  by_end (inl (e, same, written, faults)) =
      subst (LeavesBy What (commits_in attached) before after) (sym e)
      ((written, faults), holds_journal (commits_in attached) before after (left_count disks begun disk attached later a k same) (left_image disks begun disk attached later a k same))
  by_end (inr (inl (is, inl (e, written, faults)))) =
      subst (LeavesBy What (commits_in attached) before after) (sym e)
      (record {
        all = commits_in later;
        text = text;
        what = what;
        prints = (written, faults);
        holds = holds_journal (commits_in later) before after (is.count_same ∙ (k.count_same ∙ a.count_same)) (appended_image disks begun disk attached later a k is);
      })
  by_end (inr (inl (is, inr (e, rose, some)))) =
      subst (LeavesBy What (commits_in attached) before after) (sym e) (
        refl,
        inl (record {
          all = commits_in later;
          text = text;
          what = what;
          prints = (rose, some);
          holds = holds_journal (commits_in later) before after (is.count_same ∙ (k.count_same ∙ a.count_same)) (appended_image disks begun disk attached later a k is);
        }),
      )
  by_end (inr (inr (is, inl (e, written, faults)))) =
      subst (LeavesBy What (commits_in attached) before after) (sym e) (
        refl,
        record {
          all = commits_in later;
          text = text;
          what = what;
          prints = (written, faults);
          holds = doubt_held disks begun disk attached later left end (sinks.written old) (sinks.written new) first last (sinks.faults old) (sinks.faults new) a k is;
        },
      )
  by_end (inr (inr (is, inr (e, rose, some)))) =
      subst (LeavesBy What (commits_in attached) before after) (sym e) (
        refl,
        inr (record {
          all = commits_in later;
          text = text;
          what = what;
          prints = (rose, some);
          holds = doubt_held disks begun disk attached later left end (sinks.written old) (sinks.written new) first last (sinks.faults old) (sinks.faults new) a k is;
        }),
      )

-- how the group of a script ends, where its script has no fault
pub as_group : (stops : Bool) (plan : Option WatchPlan) (reads : Bool → List ℕ → ScriptReading) (opening : List Commit) (before after : Outside) (ended : Status) → LeavesBy (λ all text. Plays stops plan reads opening all text before after) opening before after ended → GroupEndsBy stops plan reads opening before after ended
as_group stops plan reads opening before after status.Done h = h
as_group stops plan reads opening before after status.NoMemory h = h
as_group stops plan reads opening before after status.Usage h = h
as_group stops plan reads opening before after (status.SourceFault n) h = absurd h
as_group stops plan reads opening before after (status.SinkFault n) h = inl h
as_group stops plan reads opening before after (status.DiskFault n) h = h
as_group stops plan reads opening before after (status.ScriptFault f) h = absurd h
as_group stops plan reads opening before after (status.NotInitialised len) h = h
as_group stops plan reads opening before after (status.AlreadyInitialised len) h = h
as_group stops plan reads opening before after (status.Damaged at) h = h
as_group stops plan reads opening before after (status.PacketFault at) h = h
as_group stops plan reads opening before after (status.WatchFault f) h = h
as_group stops plan reads opening before after (status.StatementRefused n) h = absurd h

-- the play was given up before the end of the script, and the group with it
pub given_up : {K D : Type 0} (sinks : SinkGhosts K) (disks : DiskGhosts D) (stops : Bool) (plan : Option WatchPlan) (reads : Bool → List ℕ → ScriptReading) (begun : D) (attached : group.Group D) (left end : Option (List ℕ)) (first last : ℕ) (old new : K) (disk : D) (why : Cause) (ended : Status)
    → IsAttached disks begun attached → IsGivenBack disks.reads disks.may_leave disks.faults attached disk
    → PlayGivenUp stops plan reads (commits_in attached) why left end first last
    → ClosesPlay why (sinks.written old) (sinks.written new) (sinks.faults old) (sinks.faults new) ended
    → GroupEndsBy stops plan reads (commits_in attached)
    (record { left = left; source_faults = first; written = sinks.written old; sink_faults = sinks.faults old; reads = disks.reads begun; may_leave = disks.may_leave begun; disk_faults = disks.faults begun })
    (record { left = end; source_faults = last; written = sinks.written new; sink_faults = sinks.faults new; reads = disks.reads disk; may_leave = disks.may_leave disk; disk_faults = disks.faults disk }) ended
given_up sinks disks stops plan reads begun attached left end first last old new disk why ended a back gives closes = by_cause why gives closes where
  before : Outside
  before = record { left = left; source_faults = first; written = sinks.written old; sink_faults = sinks.faults old; reads = disks.reads begun; may_leave = disks.may_leave begun; disk_faults = disks.faults begun }

  after : Outside
  after = record { left = end; source_faults = last; written = sinks.written new; sink_faults = sinks.faults new; reads = disks.reads disk; may_leave = disks.may_leave disk; disk_faults = disks.faults disk }

  holds : HoldsJournal (commits_in attached) None before after
  holds = back_held disks begun disk attached left end (sinks.written old) (sinks.written new) first last (sinks.faults old) (sinks.faults new) a back

  -- memory ran out, or the sink failed at the closing line
  cut : (wanted : Status) → WhyGivenUp stops reads (commits_in attached) before after wanted → Closes [] wanted (sinks.written old) (sinks.written new) (sinks.faults old) (sinks.faults new) ended
      → ((sinks.written new ≡ append_known (sinks.written old) (closing_line wanted)) → (sinks.faults new ≡ sinks.faults old) → GroupEndsBy stops plan reads (commits_in attached) before after wanted)
      → GroupEndsBy stops plan reads (commits_in attached) before after ended
  cut wanted why (inl (e, written, faults)) closed = subst (GroupEndsBy stops plan reads (commits_in attached) before after) (sym e) (closed written faults)
  cut wanted why (inr (inl (e, written, faults))) closed = subst (GroupEndsBy stops plan reads (commits_in attached) before after) (sym e) ((written, faults), holds)
  cut wanted why (inr (inr (e, rose, some))) closed =
      subst (GroupEndsBy stops plan reads (commits_in attached) before after) (sym e) (inr (refl, inl (record { closing = wanted; why = why; prints = (rose, some); holds = holds })))

  by_stop : (w : Stop) → PlayStops stops reads (commits_in attached) w left end first last → ClosesAfter w false 0 (sinks.written old) (sinks.written new) (sinks.faults old) (sinks.faults new) ended → GroupEndsBy stops plan reads (commits_in attached) before after ended
  by_stop stop.Ended h c = absurd h
  by_stop (stop.Fault f) h c = cut (status.ScriptFault f) h c (λ written faults. (h, record { prints = (written, faults); holds = holds }))
  by_stop (stop.Source n) h c = cut (status.SourceFault n) h c (λ written faults. (h, record { prints = (written, faults); holds = holds }))
  by_stop (stop.Sink n) h c = absurd h
  by_stop stop.NoMemory h (e, written, faults) = subst (GroupEndsBy stops plan reads (commits_in attached) before after) (sym e) ((written, faults), holds)

  -- a statement was refused: its number and the replies up to its own are to be told
  by_refusal : (text : List ℕ) (number : ℕ) → EndsAtRefusal stops plan reads (commits_in attached) text number left end → last ≡ first → Closes text (status.StatementRefused number) (sinks.written old) (sinks.written new) (sinks.faults old) (sinks.faults new) ended → GroupEndsBy stops plan reads (commits_in attached) before after ended
  by_refusal text number plays sure (inl (e, written, faults)) =
      subst (GroupEndsBy stops plan reads (commits_in attached) before after) (sym e) (record { text = text; plays = plays; sure = sure; prints = (written, faults); holds = holds })
  by_refusal text number plays sure (inr (inl (e, written, faults))) =
      subst (GroupEndsBy stops plan reads (commits_in attached) before after) (sym e) ((written, faults), holds)
  by_refusal text number plays sure (inr (inr (e, rose, some))) =
      subst (GroupEndsBy stops plan reads (commits_in attached) before after) (sym e) (inr (refl, inr (number, record { text = text; plays = plays; sure = sure; prints = (rose, some); holds = holds })))

  by_cause : (w : Cause) → PlayGivenUp stops plan reads (commits_in attached) w left end first last → ClosesPlay w (sinks.written old) (sinks.written new) (sinks.faults old) (sinks.faults new) ended → GroupEndsBy stops plan reads (commits_in attached) before after ended
  by_cause (cause.Stop w) h c = by_stop w h c
  by_cause (cause.Refusal replies) h c = by_refusal replies.text.items replies.count h.0 h.1 c
