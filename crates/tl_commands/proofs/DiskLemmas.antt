-- What the disk holds once a group is appended or given up.
use Rattle.std.proofs.Common.{◌≡◌, inl, inr, ℕ, List, [], ◌++◌, Some, None, sym, ap, ◌∙◌, subst, append-nil, take-append-drop}
use Rattle.std.specs.declared.option.Option.{Option}
use Rattle.tl_types.specs.declared.commits.Commit.{Commit}
use Rattle.tl_device.specs.Disk.{Only}
use Rattle.tl_device.specs.Known.{Rose}
use Rattle.tl_device.specs.declared.disk.Disk.{Ghosts as DiskGhosts}
use Rattle.tl_journal.specs.Image.{ImageStandsFor, NoneOrAll}
use Rattle.tl_group.specs.Keeping.{commits_in, journal_commits, waiting_commits}
use Rattle.tl_group.specs.Plain as group
use Rattle.tl_group.specs.Standing.{IsGivenBack}
use Rattle.tl_command.specs.Outside.{HoldsJournal}
use Rattle.tl_command.proofs.HeldLemmas.{holds_journal, stored_image}
use Rattle.tl_commands.specs.Appending.{IsAttached, IsAppended, IsInDoubt}
use Rattle.tl_commands.specs.Leaving.{HoldsEither, StandsForEither}
use Rattle.tl_commands.specs.Playing.{KeepsDisk}

-- the journal of a group that was attached and played has the commits that it had
pub commits_kept : {D : Type 0} (disks : DiskGhosts D) (begun : D) (attached later : group.Group D) → IsAttached disks begun attached → KeepsDisk disks attached later → journal_commits later ≡ commits_in attached
commits_kept disks begun attached later a k = k.journal_same ∙ a.journal_is

-- where no commit waits all are the journal's
pub none_waiting : {D : Type 0} (g : group.Group D) → waiting_commits g ≡ [] → journal_commits g ≡ commits_in g
none_waiting g none = sym (append-nil (journal_commits g)) ∙ (ap (λ cs. journal_commits g ++ cs) (sym none) ∙ take-append-drop g.first (commits_in g))

-- the journal's commits and those that wait are all
all_commits : {D : Type 0} (g : group.Group D) → journal_commits g ++ waiting_commits g ≡ commits_in g
all_commits g = take-append-drop g.first (commits_in g)

-- the disk of a group that is given up
pub left_image : {D : Type 0} (disks : DiskGhosts D) (begun disk : D) (attached later : group.Group D) → IsAttached disks begun attached → KeepsDisk disks attached later → disk ≡ later.journal.disk → (b : List ℕ) → disks.reads begun ≡ Some b
    → (bytes : List ℕ) × (disks.reads disk ≡ Some bytes) × Only bytes (disks.may_leave disk) × ImageStandsFor (commits_in attached) bytes
left_image disks begun disk attached later a k same b told =
    let stands = k.stands (a.stands b told) in
    subst (λ (d : _). (bytes : List ℕ) × (disks.reads d ≡ Some bytes) × Only bytes (disks.may_leave d) × ImageStandsFor (commits_in attached) bytes) (sym same)
    (subst (λ (cs : List Commit). (bytes : List ℕ) × (disks.reads later.journal.disk ≡ Some bytes) × Only bytes (disks.may_leave later.journal.disk) × ImageStandsFor cs bytes) (commits_kept disks begun attached later a k)
    (stored_image disks later.journal.disk (journal_commits later) later.journal.gate stands.on_disk))

pub left_count : {D : Type 0} (disks : DiskGhosts D) (begun disk : D) (attached later : group.Group D) → IsAttached disks begun attached → KeepsDisk disks attached later → disk ≡ later.journal.disk → disks.faults disk ≡ disks.faults begun
left_count disks begun disk attached later a k same = ap disks.faults same ∙ (k.count_same ∙ a.count_same)

-- the same of a group that gave its disk back
pub back_image : {D : Type 0} (disks : DiskGhosts D) (begun disk : D) (attached : group.Group D) → IsAttached disks begun attached → IsGivenBack disks.reads disks.may_leave disks.faults attached disk → (b : List ℕ) → disks.reads begun ≡ Some b
    → (bytes : List ℕ) × (disks.reads disk ≡ Some bytes) × Only bytes (disks.may_leave disk) × ImageStandsFor (commits_in attached) bytes
back_image disks begun disk attached a back b told =
    let stands = back.stands (a.stands b told) in
    subst (λ (cs : List Commit). (bytes : List ℕ) × (disks.reads disk ≡ Some bytes) × Only bytes (disks.may_leave disk) × ImageStandsFor cs bytes) a.journal_is (stored_image disks disk (journal_commits attached) stands.0 stands.1)

pub back_held : {D : Type 0} (disks : DiskGhosts D) (begun disk : D) (attached : group.Group D) (left left_after written written_after : Option (List ℕ)) (source source_after sink sink_after : ℕ) → IsAttached disks begun attached → IsGivenBack disks.reads disks.may_leave disks.faults attached disk
    → HoldsJournal (commits_in attached) None
    (record { left = left; source_faults = source; written = written; sink_faults = sink; reads = disks.reads begun; may_leave = disks.may_leave begun; disk_faults = disks.faults begun })
    (record { left = left_after; source_faults = source_after; written = written_after; sink_faults = sink_after; reads = disks.reads disk; may_leave = disks.may_leave disk; disk_faults = disks.faults disk })
back_held disks begun disk attached left left_after written written_after source source_after sink sink_after a back =
    holds_journal (commits_in attached)
    (record { left = left; source_faults = source; written = written; sink_faults = sink; reads = disks.reads begun; may_leave = disks.may_leave begun; disk_faults = disks.faults begun })
    (record { left = left_after; source_faults = source_after; written = written_after; sink_faults = sink_after; reads = disks.reads disk; may_leave = disks.may_leave disk; disk_faults = disks.faults disk })
    (back.count_same ∙ a.count_same) (back_image disks begun disk attached a back)

-- the disk of a group that is appended
pub appended_image : {D : Type 0} (disks : DiskGhosts D) (begun disk : D) (attached later : group.Group D) → IsAttached disks begun attached → KeepsDisk disks attached later → IsAppended disks later disk → (b : List ℕ) → disks.reads begun ≡ Some b
    → (bytes : List ℕ) × (disks.reads disk ≡ Some bytes) × Only bytes (disks.may_leave disk) × ImageStandsFor (commits_in later) bytes
appended_image disks begun disk attached later a k is b told =
    let stands = is.stands (k.stands (a.stands b told)) in
    stored_image disks disk (commits_in later) stands.0 stands.1

-- the image of none or all
either_image : {D : Type 0} (disks : DiskGhosts D) (begun : D) (attached later : group.Group D) (image : List ℕ) → IsAttached disks begun attached → KeepsDisk disks attached later → NoneOrAll (journal_commits later) (waiting_commits later) image → StandsForEither (commits_in attached) (commits_in later) image
either_image disks begun attached later image a k (inl own) = inl (subst (λ (cs : List Commit). ImageStandsFor cs image) (commits_kept disks begun attached later a k) own)
either_image disks begun attached later image a k (inr all) = inr (subst (λ (cs : List Commit). ImageStandsFor cs image) (all_commits later) all)

-- the disk that failed while the group was appended
pub doubt_held : {D : Type 0} (disks : DiskGhosts D) (begun disk : D) (attached later : group.Group D) (left left_after written written_after : Option (List ℕ)) (source source_after sink sink_after : ℕ) → IsAttached disks begun attached → KeepsDisk disks attached later → IsInDoubt disks later disk
    → HoldsEither (commits_in attached) (commits_in later)
    (record { left = left; source_faults = source; written = written; sink_faults = sink; reads = disks.reads begun; may_leave = disks.may_leave begun; disk_faults = disks.faults begun })
    (record { left = left_after; source_faults = source_after; written = written_after; sink_faults = sink_after; reads = disks.reads disk; may_leave = disks.may_leave disk; disk_faults = disks.faults disk })
doubt_held disks begun disk attached later left left_after written written_after source source_after sink sink_after a k is =
    record {
      rose = subst (λ (n : ℕ). Rose n (disks.faults disk)) (k.count_same ∙ a.count_same) is.rose;
      leaves = λ b told image may. either_image disks begun attached later image a k (is.leaves (k.stands (a.stands b told)) image may);
      reads = λ b told. let h = is.reads (k.stands (a.stands b told)) in (h.0, h.1, either_image disks begun attached later h.0 a k h.2);
    }
