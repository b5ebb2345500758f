-- What is kept of a table is that of the entries.
use Rattle.std.proofs.Common.{◌≡◌, ℕ, zero, suc, ◌<◌, List, [], ◌∷◌, length, Option, Some, refl, sym, ap, ◌∙◌, subst, arith, slice_get, get_or}
use Rattle.std.proofs.lemmas.List.{length-map}
use Rattle.std.proofs.lemmas.Option.{get_or_from_slice_get, slice_get-map}
use Rattle.tl_types.specs.declared.commits.Commit.{Commit}
use Rattle.tl_types.specs.declared.commits.Entry.{Entry}
use Rattle.tl_types.specs.Entries.{commits_of}
use Rattle.tl_types.specs.Events.{events_of}
use Rattle.tl_types.specs.History.{database_of, rows_of}
use Rattle.tl_types.specs.Plain as plain
use Rattle.tl_events.specs.Timeline.{ends_of}
use Rattle.tl_index.specs.declared.timelines.Timeline.{Timeline}
use Rattle.tl_index.specs.declared.marked.MarkAt.{MarkAt}
use Rattle.tl_index.specs.Snapshots.{entries_of, IsKept, HaveKnownMarks, marks_in, marks_of}
use Rattle.tl_index.specs.Timelines.{timeline_of, timelines_of}
use Rattle.tl_index.proofs.EntryLemmas.{commits_are, fitting}
use Rattle.tl_types.proofs.WellFormedLemmas.{history_formed, history_in_order}
use Rattle.tl_types.specs.WellFormed.{AreWellFormed, BeginInOrder}
use Rattle.tl_types.specs.Checkpoints.{Checkpoint}

pub record There (tables : List plain.Table) (i : ℕ) : Type 0 where
  pub table : plain.Table
  pub is : slice_get tables i ≡ Some table

pub there : (tables : List plain.Table) (i : ℕ) → i < length tables → There tables i
there [] i l = absurd (omega arith)
there (t ∷ tables) zero l = record { table = t; is = refl }
there (t ∷ tables) (suc i) l = let x = there tables i (omega arith) in record { table = x.table; is = x.is }

pub kept_there : (entries : List Entry) (commits : List Commit) (log : List MarkAt) (broken : Option Commit) (ts us : List Timeline) (i : ℕ) → entries_of commits log broken ≡ entries → ts ≡ timelines_of commits → us ≡ ts → i < length (database_of (commits_of entries)).tables → i < length us
kept_there entries commits log broken ts us i same is lent l =
    let db = database_of (commits_of entries) in
    let e = ap length (lent ∙ is ∙ ap timelines_of (commits_are entries commits log broken same)) in
    omega (arith, l, e, length-map db.tables (timeline_of db.version))

pub timeline_read : (entries : List Entry) (commits : List Commit) (log : List MarkAt) (broken : Option Commit) (ts us : List Timeline) (i : ℕ) (x : Timeline) → entries_of commits log broken ≡ entries → ts ≡ timelines_of commits → us ≡ ts → i < length (database_of (commits_of entries)).tables → x ≡ get_or us i x
    → x ≡ record { events = events_of (rows_of (database_of (commits_of entries)) i) (database_of (commits_of entries)).version; ends = ends_of (rows_of (database_of (commits_of entries)) i) (database_of (commits_of entries)).version }
timeline_read entries commits log broken ts us i x same is lent l read =
    let db = database_of (commits_of entries) in
    let t = there db.tables i l in
    let all : us ≡ timelines_of (commits_of entries) = lent ∙ is ∙ ap timelines_of (commits_are entries commits log broken same) in
    let here : slice_get us i ≡ Some (timeline_of db.version t.table) = ap (λ xs. slice_get xs i) all ∙ slice_get-map (timeline_of db.version) db.tables i ∙ (rw t.is refl) in
    read ∙ get_or_from_slice_get us i (timeline_of db.version t.table) x here ∙ (rw t.is refl)

-- the rows of a table are those of a history
pub formed_kept : (entries : List Entry) (commits : List Commit) (log : List MarkAt) (broken : Option Commit) (timelines : List Timeline) (marks : List (List Checkpoint)) (i : ℕ) → IsKept commits log broken timelines marks → entries_of commits log broken ≡ entries
    → AreWellFormed (database_of (commits_of entries)).version (rows_of (database_of (commits_of entries)) i)
formed_kept entries commits log broken timelines marks i kept same =
    let own : commits_of entries ≡ commits = sym (commits_are entries commits log broken same) in
    history_formed (commits_of entries) i (fitting commits (commits_of entries) log broken timelines marks kept own)

pub order_kept : (entries : List Entry) (commits : List Commit) (log : List MarkAt) (broken : Option Commit) (timelines : List Timeline) (marks : List (List Checkpoint)) (i : ℕ) → IsKept commits log broken timelines marks → entries_of commits log broken ≡ entries
    → BeginInOrder 0 (rows_of (database_of (commits_of entries)) i)
order_kept entries commits log broken timelines marks i kept same =
    let own : commits_of entries ≡ commits = sym (commits_are entries commits log broken same) in
    history_in_order (commits_of entries) i (fitting commits (commits_of entries) log broken timelines marks kept own)

-- the marks are those of the entries
pub marks_read : (entries : List Entry) (commits : List Commit) (log : List MarkAt) (broken : Option Commit) (timelines : List Timeline) (marks lent : List (List Checkpoint)) → IsKept commits log broken timelines marks → entries_of commits log broken ≡ entries → lent ≡ marks → lent ≡ marks_of entries
marks_read entries commits log broken timelines marks lent kept same l =
    l ∙ kept.marks_are ∙ ap (λ cs. marks_in (database_of cs) (entries_of commits log broken)) (commits_are entries commits log broken same) ∙ ap (marks_in (database_of (commits_of entries))) same

pub known_kept : (entries : List Entry) (commits : List Commit) (log : List MarkAt) (broken : Option Commit) (timelines : List Timeline) (marks : List (List Checkpoint)) → IsKept commits log broken timelines marks → entries_of commits log broken ≡ entries → HaveKnownMarks (database_of (commits_of entries)) entries
known_kept entries commits log broken timelines marks kept same =
    subst (λ cs. HaveKnownMarks (database_of cs) entries) (commits_are entries commits log broken same) (subst (HaveKnownMarks (database_of commits)) same kept.marks_known)
