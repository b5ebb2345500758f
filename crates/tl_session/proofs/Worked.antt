-- A small history of two sessions and its transcript, computed.
use Rattle.std.proofs.Common.{◌≡◌, ◌<◌, ◌∙◌, subst, ℕ, zero, suc, pos, false, true≢false, List, [], ◌∷◌, Some, None, refl, sym, arith, codes, ◌==◌, if◌then◌else◌}
use Rattle.std.specs.Fmt.{digits}
use Rattle.std.proofs.lemmas.Bool.Decides.{nat_tests}
use Rattle.tl_types.specs.declared.commits.Commit.{Commit}
use Rattle.tl_types.specs.declared.commits.Body.TheVariants as commit_body
use Rattle.tl_types.specs.declared.commits.Entry.{Entry}
use Rattle.tl_types.specs.declared.commits.Entry.TheVariants as entry
use Rattle.tl_types.specs.declared.batches.Batch.TheVariants as batch
use Rattle.tl_types.specs.declared.cells.Cell.TheVariants as cell
use Rattle.tl_types.specs.declared.cells.ColumnKind.TheVariants as kind
use Rattle.tl_types.specs.Plain as plain
use Rattle.tl_jobs.specs.declared.readings.JobReading.{JobReading}
use Rattle.tl_jobs.specs.declared.readings.JobReading.TheVariants.{Loads, Query}
use Rattle.tl_jobs.specs.declared.replies.ReplyBody.{ReplyBody}
use Rattle.tl_jobs.specs.declared.replies.ReplyBody.TheVariants as body
use Rattle.tl_jobs.specs.Turns.{Turn, Meaning, of_session}
use Rattle.tl_session.specs.Promises.{Chain, Promised}
use Rattle.tl_session.specs.Transcript.{Transcript}
use Rattle.tl_jobs.specs.Written.{transcript_bytes}
use Rattle.tl_session.proofs.SessionLemmas.{turns_other}
use Rattle.tl_session.proofs.TranscriptLemmas.{is_transcript}

-- a table emp with one column, and a batch that puts a row with this id
abbrev emp : plain.Schema
emp = record { name = codes "emp"; columns = record { name = codes "id"; kind = kind.IntKind } ∷ []; key = 0; valid = false }

abbrev row : ℕ → plain.Opened
row n = record { cells = cell.Int (pos n) ∷ []; period = None }

-- the job on line 1 makes the table, the one on line 4 asks for its rows, and others put a row
abbrev read_of : List Commit → ℕ → JobReading
read_of commits n =
    if n == 1 then Loads (batch.Create emp)
    else (if n == 4 then Query (record { rows = 0; bytes = [] }) else Loads (batch.Put (codes "emp") (row n ∷ [])))

abbrev simple : Meaning
simple = record { reads = λ commits job read. read_of commits job.line ≡ read }

abbrev turn : ℕ → ℕ → ℕ → ReplyBody → Turn
turn s line v b = record { job = record { session = s; line = line; text = []; block = None }; reply = record { line = line; version = v; body = b } }

abbrev first : Commit
first = record { author = 0; body = commit_body.Create emp }

abbrev second : Commit
second = record { author = 0; body = commit_body.Change (record { table = 0; closes = []; opens = row 2 ∷ [] }) }

-- a disk that fails at the second commit, in the last phase: session 0 is answered `device`, session
-- 1 `broken`, and a query goes on over the old tables; a phase may have no jobs
abbrev making : List Turn
making = turn 0 1 1 body.Done ∷ []

abbrev breaking : List Turn
breaking = turn 0 2 1 body.DeviceFault ∷ turn 1 3 1 body.BrokenJournal ∷ turn 1 4 1 (body.Rows (record { rows = 0; bytes = [] })) ∷ []

abbrev whole : List Entry
whole = entry.Commit first ∷ []

abbrev broken : List Entry
broken = entry.Commit first ∷ entry.Break second ∷ []

-- a session behind that of a turn has not taken it
not_its : (s : ℕ) (t : Turn) (ts : List Turn) → t.job.session < s → of_session s (t ∷ ts) ≡ of_session s ts
not_its s t ts less = turns_other s t ts (grind (arith, nat_tests))

-- what each session says, also one that has no jobs
makes : (s : ℕ) → Chain simple [] (of_session s making) whole
makes zero = (whole, (([], first, (([], refl), refl), refl, (batch.Create emp, refl, refl)), refl, λ is well. absurd (true≢false (sym is))), ([], refl))
makes (suc s) = subst (λ ts. Chain simple [] ts whole) (sym (not_its (suc s) (turn 0 1 1 body.Done) [] (omega arith))) (whole, refl)

breaks : (s : ℕ) → Chain simple whole (of_session s breaking) broken
breaks zero = (broken, ((whole, second, (([], refl), refl), refl, (batch.Put (codes "emp") (row 2 ∷ []), refl, refl)), refl, λ is well. absurd (true≢false (sym is))), ([], refl))
breaks (suc zero) = (
  broken,
  (((entry.Break second ∷ [], refl), refl, refl, (batch.Put (codes "emp") (row 3 ∷ []), refl)), refl, λ is well. refl),
  (
    broken,
    (((([], refl), omega arith, omega arith), refl), refl, λ is well. let e : Query (record { rows = 0; bytes = [] }) ≡ Loads well.0 = well.1 in absurd (cc)),
    ([], refl),
  ),
)
breaks (suc (suc s)) =
    let rows = turn 1 4 1 (body.Rows (record { rows = 0; bytes = [] })) in
    let told = turn 1 3 1 body.BrokenJournal in
    let none = not_its (suc (suc s)) (turn 0 2 1 body.DeviceFault) (told ∷ rows ∷ []) (omega arith) ∙ not_its (suc (suc s)) told (rows ∷ []) (omega arith) ∙ not_its (suc (suc s)) rows [] (omega arith) in
    subst (λ ts. Chain simple whole ts broken) (sym none) (entry.Break second ∷ [], refl)

promised : Promised simple [] broken (making ∷ [] ∷ breaking ∷ [])
promised = record {
  legal = refl;
  whole = refl;
  chains = (whole, (whole, refl), makes, (whole, ([], refl), (λ s. ([], refl)), (broken, (entry.Break second ∷ [], refl), breaks, ([], refl))));
  count = refl;
}

transcript : Transcript simple [] (first ∷ []) (Some second) (making ∷ [] ∷ breaking ∷ [])
transcript = is_transcript simple [] broken (making ∷ [] ∷ breaking ∷ []) promised

written : transcript_bytes (codes "a" ∷ codes "b" ∷ []) (making ∷ [] ∷ breaking ∷ []) ≡ codes "a @1 ok\na @1 ! device\nb @1 ! broken\nb @1 rows 0\n"
unfolding digits
written = refl

-- what no transcript of these commits and this break says
abbrev Wrong : List Turn → Type 0
Wrong phase = Transcript simple [] (first ∷ []) (Some second) (phase ∷ []) → ⊥

told_twice : Wrong (turn 0 1 1 body.Done ∷ turn 0 1 1 body.Done ∷ turn 0 2 1 body.DeviceFault ∷ [])
told_twice t = let n = t.one_done 1 (omega arith) (omega arith) in absurd (omega (arith, n))

never_told : Wrong (turn 0 2 1 body.DeviceFault ∷ [])
never_told t = let n = t.one_done 1 (omega arith) (omega arith) in absurd (omega (arith, n))

break_untold : Wrong (turn 0 1 1 body.Done ∷ [])
break_untold t = let n = t.one_device in absurd (omega (arith, n))
