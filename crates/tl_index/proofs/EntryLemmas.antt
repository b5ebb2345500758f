-- The entries that a snapshot keeps.
use Rattle.std.proofs.Common.{◌≡◌, ℕ, suc, ◌+◌, ◌<◌, ◌≤◌, Bool, true, false, not, ◌&&◌, cond, nat_eq, nat_le, nat_lt, List, [], ◌∷◌, ◌++◌, length, map, Option, Some, None, refl, sym, ap, ◌∙◌, subst, arith, append_assoc, length-append, IsTrue, fold, ◌⊎◌, inl, inr}
use Rattle.std.specs.Prelude.{is_some}
use Rattle.std.specs.List.{filter}
use Rattle.std.proofs.lemmas.Bool.{cases_lt, eqb-true, ne_eqb, lt-ltb, le-leb, ltb-true}
use Rattle.std.proofs.lemmas.Bool.Decides.{nat_tests}
use Rattle.std.proofs.lemmas.List.{append-nil}
use Rattle.std.proofs.lemmas.List.Sums.{fold-append}
use Rattle.tl_types.proofs.Lists.{and_both, and_left}
use Rattle.tl_types.proofs.EntryLemmas.{commits_of-append, version_after, tables_grow, fit_behind, legal_push}
use Rattle.tl_types.proofs.CheckpointLemmas.{commit_kept}
use Rattle.tl_types.specs.declared.commits.Commit.{Commit}
use Rattle.tl_types.specs.declared.commits.Entry.{Entry}
use Rattle.tl_types.specs.declared.commits.Entry.TheVariants as entry
use Rattle.tl_types.specs.Entries.{commits_of, has_break}
use Rattle.tl_types.specs.History.{database_of, nothing, after_commit, fits, fits_body, open_end}
use Rattle.tl_types.specs.Limits.{standard_limits}
use Rattle.tl_types.specs.Plain as plain
use Rattle.tl_types.specs.Checkpoints.{Checkpoint, checkpoint_at}
use Rattle.tl_types.specs.Legality.{FitInTurn, takes_commit, may_follow, has_table, has_mark, are_legal}
use Rattle.tl_index.specs.declared.marked.MarkAt.{MarkAt}
use Rattle.tl_index.specs.declared.timelines.Timeline.{Timeline}
use Rattle.tl_index.specs.Timelines.{timelines_of}
use Rattle.tl_index.specs.Snapshots.{commit_entry, break_entry, mark_entry, marks_behind, entries_from, break_entries, entries_of, AreKnown, checkpoints_in, marks_in, HaveKnownMarks, IsKept}
use Rattle.tl_ckpt.specs.Marks.{with_mark}

-- marks are no commits and no breaks
no_commits : (ms : List MarkAt) → commits_of (map (λ (m : MarkAt). mark_entry m.table m.version) ms) ≡ []
no_commits [] = refl
no_commits (m ∷ ms) = no_commits ms

no_breaks : (ms : List MarkAt) (es : List Entry) → has_break (map (λ (m : MarkAt). mark_entry m.table m.version) ms ++ es) ≡ has_break es
no_breaks [] es = refl
no_breaks (m ∷ ms) es = no_breaks ms es

commits_from : (n : ℕ) (commits : List Commit) (log : List MarkAt) (es : List Entry) → commits_of (entries_from n commits log ++ es) ≡ commits ++ commits_of es
commits_from n [] log es = refl
commits_from n (c ∷ commits) log es =
    ap (λ cs. c ∷ cs)
    (ap commits_of (append_assoc (marks_behind (n + 1) log) (entries_from (n + 1) commits log) es)
    ∙ commits_of-append (marks_behind (n + 1) log) (entries_from (n + 1) commits log ++ es)
    ∙ ap (λ cs. cs ++ commits_of (entries_from (n + 1) commits log ++ es)) (no_commits (filter (λ (m : MarkAt). nat_eq m.after (n + 1)) log))
    ∙ commits_from (n + 1) commits log es)

break_from : (n : ℕ) (commits : List Commit) (log : List MarkAt) (es : List Entry) → has_break (entries_from n commits log ++ es) ≡ has_break es
break_from n [] log es = refl
break_from n (c ∷ commits) log es =
    ap has_break (append_assoc (marks_behind (n + 1) log) (entries_from (n + 1) commits log) es)
    ∙ no_breaks (filter (λ (m : MarkAt). nat_eq m.after (n + 1)) log) (entries_from (n + 1) commits log ++ es)
    ∙ break_from (n + 1) commits log es

none_is : (broken : Option Commit) → commits_of (break_entries broken) ≡ []
none_is None = refl
none_is (Some c) = refl

some_is : (broken : Option Commit) → has_break (break_entries broken) ≡ is_some broken
some_is None = refl
some_is (Some c) = refl

-- the commits among the entries are those that are kept
pub commits_are : (entries : List Entry) (commits : List Commit) (log : List MarkAt) (broken : Option Commit) → entries_of commits log broken ≡ entries → commits ≡ commits_of entries
commits_are entries commits log broken same =
    sym (commits_from 0 commits log (break_entries broken) ∙ ap (λ cs. commits ++ cs) (none_is broken) ∙ append-nil commits) ∙ ap commits_of same

pub break_is : (entries : List Entry) (commits : List Commit) (log : List MarkAt) (broken : Option Commit) → entries_of commits log broken ≡ entries → is_some broken ≡ has_break entries
break_is entries commits log broken same = sym (break_from 0 commits log (break_entries broken) ∙ some_is broken) ∙ ap has_break same

pub no_break : (entries : List Entry) (commits : List Commit) (log : List MarkAt) (broken : Option Commit) → entries_of commits log broken ≡ entries → has_break entries ≡ false → broken ≡ None
no_break entries commits log None same whole = refl
no_break entries commits log (Some c) same whole = let t = break_is entries commits log (Some c) same in absurd (cc)

-- ONE ENTRY MORE

none_behind : (n : ℕ) (db : plain.Database) (log : List MarkAt) → AreKnown db log → db.version < n → marks_behind n log ≡ []
none_behind n db [] k l = refl
none_behind n db (m ∷ log) k l =
    let e : nat_eq m.after n ≡ false = ne_eqb m.after n (λ e. omega (arith, e, k.1, l)) in
    rw e (none_behind n db log k.4 l)

commit_last : (n : ℕ) (db : plain.Database) (commits : List Commit) (log : List MarkAt) (c : Commit) → AreKnown db log → db.version ≡ n + length commits → entries_from n (commits ++ c ∷ []) log ≡ entries_from n commits log ++ commit_entry c ∷ []
commit_last n db [] log c k v = ap (λ es. commit_entry c ∷ es) (append-nil (marks_behind (n + 1) log) ∙ none_behind (n + 1) db log k (omega (arith, v)))
commit_last n db (d ∷ commits) log c k v =
    ap (λ es. commit_entry d ∷ es)
    (ap (λ es. marks_behind (n + 1) log ++ es) (commit_last (n + 1) db commits log c k (omega (arith, v)))
    ∙ sym (append_assoc (marks_behind (n + 1) log) (entries_from (n + 1) commits log) (commit_entry c ∷ [])))

same_number : (k : ℕ) → nat_eq k k ≡ true
same_number k = grind (arith, nat_tests)

one_behind : (n : ℕ) (log : List MarkAt) (m : MarkAt) → m.after ≡ n → marks_behind n (log ++ m ∷ []) ≡ marks_behind n log ++ mark_entry m.table m.version ∷ []
one_behind n [] m a = let e : nat_eq m.after n ≡ true = rw a (same_number n) in rw e refl
one_behind n (x ∷ log) m a = by_test (nat_eq x.after n) (one_behind n log m a) where
  by_test : (t : Bool) → marks_behind n (log ++ m ∷ []) ≡ marks_behind n log ++ mark_entry m.table m.version ∷ []
      → map (λ (m : MarkAt). mark_entry m.table m.version) (cond t (x ∷ filter (λ (m : MarkAt). nat_eq m.after n) (log ++ m ∷ [])) (filter (λ (m : MarkAt). nat_eq m.after n) (log ++ m ∷ [])))
      ≡ map (λ (m : MarkAt). mark_entry m.table m.version) (cond t (x ∷ filter (λ (m : MarkAt). nat_eq m.after n) log) (filter (λ (m : MarkAt). nat_eq m.after n) log)) ++ mark_entry m.table m.version ∷ []
  by_test true h = ap (λ es. mark_entry x.table x.version ∷ es) h
  by_test false h = h

other_behind : (n : ℕ) (log : List MarkAt) (m : MarkAt) → (m.after ≡ n → ⊥) → marks_behind n (log ++ m ∷ []) ≡ marks_behind n log
other_behind n [] m a = let e : nat_eq m.after n ≡ false = ne_eqb m.after n a in rw e refl
other_behind n (x ∷ log) m a = by_test (nat_eq x.after n) (other_behind n log m a) where
  by_test : (t : Bool) → marks_behind n (log ++ m ∷ []) ≡ marks_behind n log
      → map (λ (m : MarkAt). mark_entry m.table m.version) (cond t (x ∷ filter (λ (m : MarkAt). nat_eq m.after n) (log ++ m ∷ [])) (filter (λ (m : MarkAt). nat_eq m.after n) (log ++ m ∷ [])))
      ≡ map (λ (m : MarkAt). mark_entry m.table m.version) (cond t (x ∷ filter (λ (m : MarkAt). nat_eq m.after n) log) (filter (λ (m : MarkAt). nat_eq m.after n) log))
  by_test true h = ap (λ es. mark_entry x.table x.version ∷ es) h
  by_test false h = h

mark_last : (n : ℕ) (commits : List Commit) (log : List MarkAt) (m : MarkAt) → 0 < length commits → m.after ≡ n + length commits → entries_from n commits (log ++ m ∷ []) ≡ entries_from n commits log ++ mark_entry m.table m.version ∷ []
mark_last n [] log m s a = absurd (omega arith)
mark_last n (c ∷ []) log m s a =
    ap (λ es. commit_entry c ∷ es)
    (append-nil (marks_behind (n + 1) (log ++ m ∷ [])) ∙ one_behind (n + 1) log m (omega (arith, a))
    ∙ ap (λ es. es ++ mark_entry m.table m.version ∷ []) (sym (append-nil (marks_behind (n + 1) log))))
mark_last n (c ∷ d ∷ commits) log m s a =
    ap (λ es. commit_entry c ∷ es)
    (ap (λ es. es ++ entries_from (n + 1) (d ∷ commits) (log ++ m ∷ [])) (other_behind (n + 1) log m (λ e. omega (arith, e, a)))
    ∙ ap (λ es. marks_behind (n + 1) log ++ es) (mark_last (n + 1) (d ∷ commits) log m (omega arith) (omega (arith, a)))
    ∙ sym (append_assoc (marks_behind (n + 1) log) (entries_from (n + 1) (d ∷ commits) log) (mark_entry m.table m.version ∷ [])))

-- HOW MANY

none_more : (n : ℕ) (commits : List Commit) (m : MarkAt) (log : List MarkAt) → m.after ≤ n → entries_from n commits (m ∷ log) ≡ entries_from n commits log
none_more n [] m log l = refl
none_more n (c ∷ commits) m log l =
    let e : nat_eq m.after (n + 1) ≡ false = ne_eqb m.after (n + 1) (λ e. omega (arith, e, l)) in
    rw e (ap (λ es. commit_entry c ∷ (marks_behind (n + 1) log ++ es)) (none_more (n + 1) commits m log (omega (arith, l))))

more_behind : (n : ℕ) (commits : List Commit) (m : MarkAt) (log : List MarkAt) → n < m.after → m.after ≤ n + length commits → length (entries_from n commits (m ∷ log)) ≡ suc (length (entries_from n commits log))
more_behind n [] m log l w = absurd (omega (arith, l, w))
more_behind n (c ∷ commits) m log l w =
    by_test (nat_eq m.after (n + 1)) refl (λ o. more_behind (n + 1) commits m log o (omega (arith, w))) where
      marks : List MarkAt
      marks = filter (λ (m : MarkAt). nat_eq m.after (n + 1)) log

      rest : List Entry
      rest = entries_from (n + 1) commits log

      by_test : (t : Bool) → nat_eq m.after (n + 1) ≡ t → (n + 1 < m.after → length (entries_from (n + 1) commits (m ∷ log)) ≡ suc (length (entries_from (n + 1) commits log)))
          → suc (length (map (λ (m : MarkAt). mark_entry m.table m.version) (cond t (m ∷ marks) marks) ++ entries_from (n + 1) commits (m ∷ log))) ≡ suc (suc (length (map (λ (m : MarkAt). mark_entry m.table m.version) marks ++ rest)))
      by_test true e ih =
          let here = eqb-true m.after (n + 1) e in
          ap (λ es. suc (suc (length (map (λ (m : MarkAt). mark_entry m.table m.version) marks ++ es)))) (none_more (n + 1) commits m log (omega (arith, here)))
      by_test false e ih =
          let other : n + 1 < m.after = later (cases_lt (n + 1) m.after) e in
          let more = ih other in
          let a = length-append (map (λ (m : MarkAt). mark_entry m.table m.version) marks) (entries_from (n + 1) commits (m ∷ log)) in
          let b = length-append (map (λ (m : MarkAt). mark_entry m.table m.version) marks) rest in
          omega (arith, more, a, b) where
            later : ((n + 1) < m.after) ⊎ (m.after ≤ (n + 1)) → nat_eq m.after (n + 1) ≡ false → n + 1 < m.after
            later (inl o) e = o
            later (inr o) e = let same : m.after ≡ n + 1 = omega (arith, o, l) in absurd (let f : nat_eq m.after (n + 1) ≡ true = rw same (same_number (n + 1)) in cc)

plain_many : (n : ℕ) (commits : List Commit) → length (entries_from n commits []) ≡ length commits
plain_many n [] = refl
plain_many n (c ∷ commits) = ap suc (plain_many (n + 1) commits)

marked_many : (db : plain.Database) (commits : List Commit) (log : List MarkAt) → AreKnown db log → db.version ≡ length commits → length (entries_from 0 commits log) ≡ length commits + length log
marked_many db commits [] k v = omega (arith, plain_many 0 commits)
marked_many db commits (m ∷ log) k v = omega (arith, more_behind 0 commits m log k.0 (omega (arith, k.1, v)), marked_many db commits log k.4 v)

pub version_is : (commits : List Commit) → (database_of commits).version ≡ length commits
version_is commits = version_after nothing commits ∙ omega arith

-- how many entries there are
pub many_whole : (entries : List Entry) (commits : List Commit) (log : List MarkAt) (timelines : List Timeline) (marks : List (List Checkpoint)) → IsKept commits log None timelines marks → entries_of commits log None ≡ entries → length commits + length log ≡ length entries
many_whole entries commits log timelines marks kept same =
    omega (arith, marked_many (database_of commits) commits log kept.known (version_is commits), length-append (entries_from 0 commits log) [], ap length same)

pub many_broken : (entries : List Entry) (commits : List Commit) (log : List MarkAt) (b : Commit) (timelines : List Timeline) (marks : List (List Checkpoint)) → IsKept commits log (Some b) timelines marks → entries_of commits log (Some b) ≡ entries → length commits + length log + 1 ≡ length entries
many_broken entries commits log b timelines marks kept same =
    omega (arith, marked_many (database_of commits) commits log kept.known (version_is commits), length-append (entries_from 0 commits log) (break_entry b ∷ []), ap length same)

-- WHAT IS KEPT

pub fits_kept : (entries : List Entry) (commits store : List Commit) (log : List MarkAt) (broken : Option Commit) (c : Commit) → entries_of commits log broken ≡ entries → store ≡ commits → IsTrue (fits standard_limits (database_of (commits_of entries)) c) → IsTrue (fits standard_limits (database_of store) c)
fits_kept entries commits store log broken c same is fit =
    subst (λ cs. IsTrue (fits standard_limits (database_of cs) c)) (sym (is ∙ commits_are entries commits log broken same)) fit

pub fitting : (commits store : List Commit) (log : List MarkAt) (broken : Option Commit) (timelines : List Timeline) (marks : List (List Checkpoint)) → IsKept commits log broken timelines marks → store ≡ commits → FitInTurn standard_limits store
fitting commits store log broken timelines marks kept is =
    subst (FitInTurn standard_limits) (sym (is ∙ commits_are (entries_of commits log broken) commits log broken refl)) (fit_behind [] (entries_of commits log broken) kept.legal)

known_later : (db : plain.Database) (c : Commit) (log : List MarkAt) → AreKnown db log → AreKnown (after_commit db c) log
known_later db c [] k = tt
known_later db c (m ∷ log) k = (k.0, omega (arith, k.1), omega (arith, k.2, tables_grow db c), omega (arith, k.3), known_later db c log k.4)

-- a checkpoint stays what it is when a commit comes
checkpoints_later : (db : plain.Database) (c : Commit) (es : List Entry) → db.version < open_end → fits standard_limits db c ≡ true → HaveKnownMarks db es → checkpoints_in (after_commit db c) es ≡ checkpoints_in db es
checkpoints_later db c [] l f k = refl
checkpoints_later db c (entry.Commit d ∷ es) l f k = checkpoints_later db c es l f k
checkpoints_later db c (entry.Mark t v ∷ es) l f k =
    ap (λ x. x ∷ checkpoints_in (after_commit db c) es) (commit_kept v t db c k.1 (omega (arith, l, k.1)) k.0 f)
    ∙ ap (λ xs. checkpoint_at db t v ∷ xs) (checkpoints_later db c es l f k.2)
checkpoints_later db c (entry.Break d ∷ es) l f k = checkpoints_later db c es l f k

-- and so do the marks
in-append : (db : plain.Database) (es fs : List Entry) → checkpoints_in db (es ++ fs) ≡ checkpoints_in db es ++ checkpoints_in db fs
in-append db [] fs = refl
in-append db (entry.Commit d ∷ es) fs = in-append db es fs
in-append db (entry.Mark t v ∷ es) fs = ap (λ xs. checkpoint_at db t v ∷ xs) (in-append db es fs)
in-append db (entry.Break d ∷ es) fs = in-append db es fs

abbrev pub put_mark : List (List Checkpoint) → Checkpoint → List (List Checkpoint)
put_mark marks mark = with_mark mark marks

pub marks_with : (db : plain.Database) (es fs : List Entry) → fold put_mark (marks_in db es) (checkpoints_in db fs) ≡ marks_in db (es ++ fs)
marks_with db es fs = sym (ap (fold put_mark []) (in-append db es fs) ∙ fold-append put_mark [] (checkpoints_in db es) (checkpoints_in db fs))

marks_with_commit : (db : plain.Database) (c : Commit) (es : List Entry) → db.version < open_end → fits standard_limits db c ≡ true → HaveKnownMarks db es → marks_in db es ≡ marks_in (after_commit db c) (es ++ commit_entry c ∷ [])
marks_with_commit db c es l f k =
    ap (fold put_mark []) (sym (checkpoints_later db c es l f k)) ∙ marks_with (after_commit db c) es (commit_entry c ∷ [])

marks_later : (db : plain.Database) (c : Commit) (es : List Entry) → HaveKnownMarks db es → HaveKnownMarks (after_commit db c) es
marks_later db c [] k = tt
marks_later db c (entry.Commit d ∷ es) k = marks_later db c es k
marks_later db c (entry.Mark t v ∷ es) k = (omega (arith, k.0, tables_grow db c), omega (arith, k.1), marks_later db c es k.2)
marks_later db c (entry.Break d ∷ es) k = marks_later db c es k

known_on : (db : plain.Database) (es fs : List Entry) → HaveKnownMarks db es → HaveKnownMarks db fs → HaveKnownMarks db (es ++ fs)
known_on db [] fs k l = l
known_on db (entry.Commit d ∷ es) fs k l = known_on db es fs k l
known_on db (entry.Mark t v ∷ es) fs k l = (k.0, k.1, known_on db es fs k.2 l)
known_on db (entry.Break d ∷ es) fs k l = known_on db es fs k l

pub kept_after : (commits : List Commit) (log : List MarkAt) (timelines : List Timeline) (marks : List (List Checkpoint)) (c : Commit) → IsKept commits log None timelines marks → IsTrue (fits standard_limits (database_of commits) c)
    → (IsKept (commits ++ c ∷ []) log None (timelines_of (commits ++ c ∷ [])) marks) × (entries_of (commits ++ c ∷ []) log None ≡ entries_of commits log None ++ commit_entry c ∷ [])
kept_after commits log timelines marks c kept fit =
    let db = database_of commits in
    let es = entries_of commits log None in
    let own : commits ≡ commits_of es = commits_are es commits log None refl in
    let version : db.version ≡ length commits = version_after nothing commits ∙ omega arith in
    let last : entries_of (commits ++ c ∷ []) log None ≡ es ++ commit_entry c ∷ [] =
    append-nil (entries_from 0 (commits ++ c ∷ []) log) ∙ commit_last 0 db commits log c kept.known (omega (arith, version))
    ∙ ap (λ xs. xs ++ commit_entry c ∷ []) (sym (append-nil (entries_from 0 commits log))) in
    let whole : not (has_break es) ≡ true = ap not (sym (break_is es commits log None refl)) in
    let takes : takes_commit es c ≡ true = and_both (not (has_break es)) (fits standard_limits (database_of (commits_of es)) c) whole (subst (λ cs. fits standard_limits (database_of cs) c ≡ true) own fit) in
    let legal = legal_push es (commit_entry c) kept.legal takes in
    let next : database_of (commits ++ c ∷ []) ≡ after_commit db c = fold-append after_commit nothing commits (c ∷ []) in
    let room = ltb-true db.version 16777215 (and_left (nat_lt db.version 16777215) (fits_body standard_limits db c.body) fit) in (
      record {
        legal = subst (λ xs. IsTrue (are_legal xs)) (sym last) legal;
        known = subst (λ d. AreKnown d log) (sym next) (known_later db c log kept.known);
        few = kept.few;
        timelines_are = refl;
        marks_known = both_ways next last (known_on (after_commit db c) es (commit_entry c ∷ []) (marks_later db c es kept.marks_known) tt);
        marks_are =
            kept.marks_are ∙ marks_with_commit db c es (omega (arith, room)) fit kept.marks_known
            ∙ sym (ap (λ d. marks_in d (entries_of (commits ++ c ∷ []) log None)) next ∙ ap (marks_in (after_commit db c)) last);
      },
      last,
    ) where
      both_ways : {d e : plain.Database} {xs ys : List Entry} → d ≡ e → xs ≡ ys → HaveKnownMarks e ys → HaveKnownMarks d xs
      both_ways p q k = rw (p, q) k

-- the snapshot after a commit, over what the code has made
pub applied : (entries : List Entry) (commits : List Commit) (log : List MarkAt) (broken : Option Commit) (timelines : List Timeline) (marks : List (List Checkpoint)) (c : Commit)
    (lent longer new lent2 : List Commit) (made timelines2 : List Timeline) (log2 : List MarkAt) (marks2 : List (List Checkpoint))
    → IsKept commits log broken timelines marks → entries_of commits log broken ≡ entries → has_break entries ≡ false → IsTrue (fits standard_limits (database_of (commits_of entries)) c)
    → lent ≡ commits → longer ≡ lent ++ c ∷ [] → new ≡ longer → lent2 ≡ commits → made ≡ timelines_of (lent2 ++ c ∷ []) → timelines2 ≡ made → log2 ≡ log → marks2 ≡ marks
    → IsKept new log2 None timelines2 marks2 × (entries_of new log2 None ≡ entries ++ commit_entry c ∷ [])
applied entries commits log broken timelines marks c lent longer new lent2 made timelines2 log2 marks2 kept same whole fit l m n o p q r s =
    let none = no_break entries commits log broken same whole in
    let kept2 = subst (λ b. IsKept commits log b timelines marks) none kept in
    let same2 : entries_of commits log None ≡ entries = ap (λ b. entries_of commits log b) (sym none) ∙ same in
    let fit2 = fits_kept entries commits commits log broken c same refl fit in
    let after = kept_after commits log timelines marks c kept2 fit2 in
    let commits2 : new ≡ commits ++ c ∷ [] = n ∙ m ∙ ap (λ cs. cs ++ c ∷ []) l in
    let ts : timelines2 ≡ timelines_of (commits ++ c ∷ []) = q ∙ p ∙ ap (λ cs. timelines_of (cs ++ c ∷ [])) o in
    together commits2 ts r s (after.0, after.1 ∙ ap (λ es. es ++ commit_entry c ∷ []) same2) where
      together : {a b : List Commit} {t u : List Timeline} {x y : List MarkAt} {v w : List (List Checkpoint)} → a ≡ b → t ≡ u → x ≡ y → v ≡ w
          → IsKept b y None u w × (entries_of b y None ≡ entries ++ commit_entry c ∷ []) → IsKept a x None t v × (entries_of a x None ≡ entries ++ commit_entry c ∷ [])
      together e f g h k = rw (e, f, g, h) k

known_push : (db : plain.Database) (log : List MarkAt) (m : MarkAt) → AreKnown db log → 0 < m.after → m.after ≤ db.version → m.table < length db.tables → m.version ≤ db.version → AreKnown db (log ++ m ∷ [])
known_push db [] m k a b c d = (a, b, c, d, tt)
known_push db (x ∷ log) m k a b c d = (k.0, k.1, k.2, k.3, known_push db log m k.4 a b c d)

some_commit : (commits : List Commit) (t : ℕ) → t < length (database_of commits).tables → 0 < length commits
some_commit [] t l = absurd (omega arith)
some_commit (c ∷ commits) t l = omega arith

-- the snapshot after a mark
pub kept_marked : (commits : List Commit) (log : List MarkAt) (timelines : List Timeline) (marks : List (List Checkpoint)) (table version : ℕ) (checkpoint : Checkpoint) → IsKept commits log None timelines marks
    → table < length (database_of commits).tables → version ≤ (database_of commits).version → has_mark (entries_of commits log None) table version ≡ false → checkpoint ≡ checkpoint_at (database_of commits) table version → length log < 2147483648
    → IsKept commits (log ++ (record { after = length commits; table = table; version = version }) ∷ []) None timelines (with_mark checkpoint marks)
    × (entries_of commits (log ++ (record { after = length commits; table = table; version = version }) ∷ []) None ≡ entries_of commits log None ++ mark_entry table version ∷ [])
kept_marked commits log timelines marks table version checkpoint kept t v h is few =
    let db = database_of commits in
    let es = entries_of commits log None in
    let m : MarkAt = record { after = length commits; table = table; version = version } in
    let own : commits ≡ commits_of es = commits_are es commits log None refl in
    let number = version_is commits in
    let last : entries_of commits (log ++ m ∷ []) None ≡ es ++ mark_entry table version ∷ [] =
    append-nil (entries_from 0 commits (log ++ m ∷ [])) ∙ mark_last 0 commits log m (some_commit commits table t) (omega arith)
    ∙ ap (λ xs. xs ++ mark_entry table version ∷ []) (sym (append-nil (entries_from 0 commits log))) in
    let whole : not (has_break es) ≡ true = ap not (sym (break_is es commits log None refl)) in
    let there : has_table es table ≡ true = subst (λ cs. nat_lt table (length (database_of cs).tables) ≡ true) own (lt-ltb table (length db.tables) t) in
    let reached : nat_le version (length (commits_of es)) ≡ true = subst (λ cs. nat_le version (length cs) ≡ true) own (le-leb version (length commits) (omega (arith, v, number))) in
    let fresh : not (has_mark es table version) ≡ true = ap not h in
    let may : may_follow es (mark_entry table version) ≡ true =
    and_both (not (has_break es) && has_table es table && nat_le version (length (commits_of es))) (not (has_mark es table version))
    (and_both (not (has_break es) && has_table es table) (nat_le version (length (commits_of es))) (and_both (not (has_break es)) (has_table es table) whole there) reached) fresh in (
      record {
        legal = subst (λ xs. IsTrue (are_legal xs)) (sym last) (legal_push es (mark_entry table version) kept.legal may);
        known = known_push db log m kept.known (some_commit commits table t) (omega (arith, number)) t v;
        few = omega (arith, few, length-append log (m ∷ []));
        timelines_are = kept.timelines_are;
        marks_known = subst (HaveKnownMarks db) (sym last) (known_on db es (mark_entry table version ∷ []) kept.marks_known (t, v, tt));
        marks_are =
            ap (with_mark checkpoint) kept.marks_are ∙ ap (λ x. with_mark x (marks_in db es)) is ∙ marks_with db es (mark_entry table version ∷ [])
            ∙ sym (ap (marks_in db) last);
      },
      last,
    )

-- the snapshot after a break
pub kept_broken : (entries : List Entry) (commits store : List Commit) (log log2 : List MarkAt) (broken : Option Commit) (timelines timelines2 : List Timeline) (marks marks2 : List (List Checkpoint)) (c : Commit)
    → IsKept commits log broken timelines marks → entries_of commits log broken ≡ entries → has_break entries ≡ false → IsTrue (fits standard_limits (database_of (commits_of entries)) c) → store ≡ commits → timelines2 ≡ timelines → log2 ≡ log → marks2 ≡ marks
    → IsKept store log2 (Some c) timelines2 marks2 × (entries_of store log2 (Some c) ≡ entries ++ break_entry c ∷ [])
kept_broken entries commits store log log2 broken timelines timelines2 marks marks2 c kept same whole fit a b d e =
    let none = no_break entries commits log broken same whole in
    let last : entries_of commits log (Some c) ≡ entries ++ break_entry c ∷ [] =
    ap (λ es. es ++ break_entry c ∷ []) (sym (append-nil (entries_from 0 commits log)) ∙ ap (λ b. entries_of commits log b) (sym none) ∙ same) in
    let legal = subst (λ es. IsTrue (are_legal es)) same kept.legal in
    let takes : takes_commit entries c ≡ true = and_both (not (has_break entries)) (fits standard_limits (database_of (commits_of entries)) c) (ap not whole) fit in
    together a d b e (
      record {
        legal = subst (λ xs. IsTrue (are_legal xs)) (sym last) (legal_push entries (break_entry c) legal takes);
        known = kept.known;
        few = kept.few;
        timelines_are = kept.timelines_are;
        marks_known = subst (HaveKnownMarks (database_of commits)) (sym last) (known_on (database_of commits) entries (break_entry c ∷ []) (subst (HaveKnownMarks (database_of commits)) same kept.marks_known) tt);
        marks_are = kept.marks_are ∙ ap (marks_in (database_of commits)) same ∙ marks_with (database_of commits) entries (break_entry c ∷ []) ∙ sym (ap (marks_in (database_of commits)) last);
      },
      last,
    ) where
      together : {p q : List Commit} {x y : List MarkAt} {t u : List Timeline} {v w : List (List Checkpoint)} → p ≡ q → x ≡ y → t ≡ u → v ≡ w
          → IsKept q y (Some c) u w × (entries_of q y (Some c) ≡ entries ++ break_entry c ∷ []) → IsKept p x (Some c) t v × (entries_of p x (Some c) ≡ entries ++ break_entry c ∷ [])
      together e f g h k = rw (e, f, g, h) k

pub legal_kept : (entries : List Entry) (commits : List Commit) (log : List MarkAt) (broken : Option Commit) (timelines : List Timeline) (marks : List (List Checkpoint)) → IsKept commits log broken timelines marks → entries_of commits log broken ≡ entries → IsTrue (are_legal entries)
legal_kept entries commits log broken timelines marks kept same = subst (λ es. IsTrue (are_legal es)) same kept.legal

-- the snapshot after a mark, over what the code has made
pub marked : (entries : List Entry) (commits : List Commit) (log : List MarkAt) (broken : Option Commit) (timelines : List Timeline) (marks : List (List Checkpoint)) (checkpoint : Checkpoint)
    (store2 lent : List Commit) (timelines2 : List Timeline) (log1 log2 made log3 : List MarkAt) (marks1 with marks2 : List (List Checkpoint)) (len after t v : ℕ)
    → IsKept commits log broken timelines marks → entries_of commits log broken ≡ entries → has_break entries ≡ false
    → checkpoint.table < length (database_of (commits_of entries)).tables → checkpoint.version ≤ (database_of (commits_of entries)).version → has_mark entries checkpoint.table checkpoint.version ≡ false
    → checkpoint ≡ checkpoint_at (database_of (commits_of entries)) checkpoint.table checkpoint.version
    → store2 ≡ commits → timelines2 ≡ timelines → lent ≡ commits → after ≡ length lent → t ≡ checkpoint.table → v ≡ checkpoint.version
    → log1 ≡ log → len ≡ length log1 → len < 2147483648 → log2 ≡ log → made ≡ log2 ++ (record { after = after; table = t; version = v }) ∷ [] → log3 ≡ made
    → marks1 ≡ marks → with ≡ with_mark checkpoint marks1 → marks2 ≡ with
    → IsKept store2 log3 None timelines2 marks2 × (entries_of store2 log3 None ≡ entries ++ mark_entry checkpoint.table checkpoint.version ∷ [])
marked entries commits log broken timelines marks checkpoint store2 lent timelines2 log1 log2 made log3 marks1 with marks2 len after t v kept same whole there reached fresh is a b d e f g h i j k l m n o p =
    let none = no_break entries commits log broken same whole in
    let kept2 = subst (λ b. IsKept commits log b timelines marks) none kept in
    let same2 : entries_of commits log None ≡ entries = ap (λ b. entries_of commits log b) (sym none) ∙ same in
    let own = sym (commits_are entries commits log broken same) in
    let fresh2 : has_mark (entries_of commits log None) checkpoint.table checkpoint.version ≡ false = ap (λ es. has_mark es checkpoint.table checkpoint.version) same2 ∙ fresh in
    let all = kept_marked commits log timelines marks checkpoint.table checkpoint.version checkpoint kept2
    (subst (λ cs. checkpoint.table < length (database_of cs).tables) own there) (subst (λ cs. checkpoint.version ≤ (database_of cs).version) own reached) fresh2
    (subst (λ cs. checkpoint ≡ checkpoint_at (database_of cs) checkpoint.table checkpoint.version) own is) (omega (arith, j, i, ap length h)) in
    let logged : log3 ≡ log ++ (record { after = length commits; table = checkpoint.table; version = checkpoint.version }) ∷ [] = m ∙ l ∙ new_log log2 log after (length commits) t checkpoint.table v checkpoint.version k (e ∙ ap length d) f g in
    let noted : marks2 ≡ with_mark checkpoint marks = p ∙ o ∙ ap (with_mark checkpoint) n in
    together a b logged noted (all.0, all.1 ∙ ap (λ es. es ++ mark_entry checkpoint.table checkpoint.version ∷ []) same2) where
      new_log : (x y : List MarkAt) (p q r s u w : ℕ) → x ≡ y → p ≡ q → r ≡ s → u ≡ w → x ++ (record { after = p; table = r; version = u }) ∷ [] ≡ y ++ (record { after = q; table = s; version = w }) ∷ []
      new_log x y p q r s u w a b c d = rw (a, b, c, d) refl

      together : {p q : List Commit} {t u : List Timeline} {x y : List MarkAt} {v w : List (List Checkpoint)} → p ≡ q → t ≡ u → x ≡ y → v ≡ w
          → IsKept q y None u w × (entries_of q y None ≡ entries ++ mark_entry checkpoint.table checkpoint.version ∷ []) → IsKept p x None t v × (entries_of p x None ≡ entries ++ mark_entry checkpoint.table checkpoint.version ∷ [])
      together e f g h k = rw (e, f, g, h) k

pub len_broken : (entries : List Entry) (commits : List Commit) (log : List MarkAt) (broken : Option Commit) (b : Commit) (timelines : List Timeline) (marks : List (List Checkpoint)) (lent : List Commit) (log2 : List MarkAt) (n m : ℕ) → IsKept commits log broken timelines marks → entries_of commits log broken ≡ entries → broken ≡ Some b
    → lent ≡ commits → n ≡ length lent → log2 ≡ log → m ≡ length log2 → n + m + 1 ≡ length entries
len_broken entries commits log broken b timelines marks lent log2 n m kept same some l i k j =
    let e = many_broken entries commits log b timelines marks (subst (λ o. IsKept commits log o timelines marks) some kept) (ap (λ o. entries_of commits log o) (sym some) ∙ same) in
    omega (arith, e, ap length l, i, ap length k, j)

pub len_whole : (entries : List Entry) (commits : List Commit) (log : List MarkAt) (broken : Option Commit) (timelines : List Timeline) (marks : List (List Checkpoint)) (lent : List Commit) (log2 : List MarkAt) (n m : ℕ) → IsKept commits log broken timelines marks → entries_of commits log broken ≡ entries → broken ≡ None
    → lent ≡ commits → n ≡ length lent → log2 ≡ log → m ≡ length log2 → n + m ≡ length entries
len_whole entries commits log broken timelines marks lent log2 n m kept same none l i k j =
    let e = many_whole entries commits log timelines marks (subst (λ o. IsKept commits log o timelines marks) none kept) (ap (λ o. entries_of commits log o) (sym none) ∙ same) in
    omega (arith, e, ap length l, i, ap length k, j)
