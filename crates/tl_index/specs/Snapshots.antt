-- The entries that a snapshot stands for.
use Rattle.std.specs.Prelude.{◌≡◌, ℕ, ◌+◌, ◌<◌, ◌≤◌, ◌==◌, IsTrue, List, [], ◌∷◌, ◌++◌, length, map, fold, Option, Some, None}
use Rattle.std.specs.List.{filter}
use Rattle.tl_types.specs.declared.commits.Commit.{Commit}
use Rattle.tl_types.specs.declared.commits.Entry.{Entry}
use Rattle.tl_types.specs.declared.commits.Entry.TheVariants as entry
use Rattle.tl_types.specs.Checkpoints.{Checkpoint, checkpoint_at}
use Rattle.tl_types.specs.History.{database_of}
use Rattle.tl_types.specs.Plain as plain
use Rattle.tl_types.specs.Legality.{database_behind, are_legal}
use Rattle.tl_ckpt.specs.Marks.{with_mark, marks_for, nearest_in}
use Rattle.tl_index.specs.declared.marked.MarkAt.{MarkAt}
use Rattle.tl_index.specs.declared.timelines.Timeline.{Timeline}
use Rattle.tl_index.specs.Timelines.{timelines_of}

-- the entry of a commit
abbrev pub commit_entry : Commit → Entry
commit_entry commit = entry.Commit commit

-- the break of a commit
abbrev pub break_entry : Commit → Entry
break_entry commit = entry.Break commit

-- the entry of a mark
abbrev pub mark_entry : ℕ → ℕ → Entry
mark_entry table version = entry.Mark table version

-- the marks that stand behind so many commits
abbrev pub marks_behind : ℕ → List MarkAt → List Entry
marks_behind n log = map (λ m. mark_entry m.table m.version) (filter (λ m. m.after == n) log)

-- commits, of which so many came before, each with the marks that stand behind it
abbrev pub entries_from : ℕ → List Commit → List MarkAt → List Entry
entries_from n [] log = []
entries_from n (commit ∷ commits) log =
    commit_entry commit ∷ (marks_behind (n + 1) log ++ entries_from (n + 1) commits log)

-- the entries of a break, where there is one
abbrev pub break_entries : Option Commit → List Entry
break_entries None = []
break_entries (Some commit) = break_entry commit ∷ []

-- these commits with the marks, and then the break of a commit where there is one
abbrev pub entries_of : List Commit → List MarkAt → Option Commit → List Entry
entries_of commits log broken = entries_from 0 commits log ++ break_entries broken

-- each mark stands behind a commit, and is of a table and a version that are there
abbrev pub AreKnown : plain.Database → List MarkAt → Type 0
AreKnown db [] = Unit {0}
AreKnown db (m ∷ log) =
    (0 < m.after) × (m.after ≤ db.version) × (m.table < length db.tables) × (m.version ≤ db.version)
    × AreKnown db log

-- the checkpoints of the marks among the entries, read off the tables of a database
abbrev pub checkpoints_in : plain.Database → List Entry → List Checkpoint
checkpoints_in db [] = []
checkpoints_in db (entry.Commit commit ∷ entries) = checkpoints_in db entries
checkpoints_in db (entry.Mark table version ∷ entries) =
    checkpoint_at db table version ∷ checkpoints_in db entries
checkpoints_in db (entry.Break commit ∷ entries) = checkpoints_in db entries

-- the same, by table and in order of version
abbrev pub marks_in : plain.Database → List Entry → List (List Checkpoint)
marks_in db entries = fold (λ marks mark. with_mark mark marks) [] (checkpoints_in db entries)

-- the marks among the entries, each with its checkpoint
abbrev pub marks_of : List Entry → List (List Checkpoint)
marks_of entries = marks_in (database_behind entries) entries

-- the version of a mark, 0 where there is none
abbrev pub version_or_none : Option Checkpoint → ℕ
version_or_none None = 0
version_or_none (Some mark) = mark.version

-- the greatest version of a mark of the table that is not after a version, 0 where there is none
abbrev pub mark_before : List Entry → ℕ → ℕ → ℕ
mark_before entries table version =
    version_or_none (nearest_in (marks_for (marks_of entries) table) version)

-- each mark among the entries is of a table and a version that are there
abbrev pub HaveKnownMarks : plain.Database → List Entry → Type 0
HaveKnownMarks db [] = Unit {0}
HaveKnownMarks db (entry.Commit commit ∷ entries) = HaveKnownMarks db entries
HaveKnownMarks db (entry.Mark table version ∷ entries) =
    (table < length db.tables) × (version ≤ db.version) × HaveKnownMarks db entries
HaveKnownMarks db (entry.Break commit ∷ entries) = HaveKnownMarks db entries

-- what a snapshot keeps of the entries that it stands for
pub record IsKept (commits : List Commit) (log : List MarkAt) (broken : Option Commit)
    (timelines : List Timeline) (marks : List (List Checkpoint)) : Type 0 where
  pub legal : IsTrue (are_legal (entries_of commits log broken))
  pub known : AreKnown (database_of commits) log
  pub marks_known : HaveKnownMarks (database_of commits) (entries_of commits log broken)
  pub few : length log ≤ 2147483648
  pub timelines_are : timelines ≡ timelines_of commits
  pub marks_are : marks ≡ marks_in (database_of commits) (entries_of commits log broken)
