-- What the replies of all phases tell, once the engine is closed.
use Rattle.std.proofs.Common.{◌≡◌, true, ℕ, ◌+◌, false, List, None, sym, ap, ◌∙◌}
use mathlib.Core.List.{IsPrefix}
use Rattle.tl_types.specs.declared.commits.Entry.{Entry}
use Rattle.tl_types.specs.Entries.{commits_of, has_break}
use Rattle.tl_jobs.specs.Turns.{Turn, meant, break_of, all_turns}
use Rattle.tl_session.specs.Promises.{Promised}
use Rattle.tl_session.specs.Transcript.{Transcript}
use Rattle.tl_jobs.specs.Play.{AreLone, IsPlay}
use Rattle.tl_session.specs.Phases.{HaveRun}
use Rattle.tl_types.specs.Legality.{are_legal}
use Rattle.tl_engine.specs.Counting as counting
use Rattle.tl_session.proofs.EntryLemmas.{commits_split}
use Rattle.tl_session.proofs.PromiseLemmas.{are_promised}
use Rattle.tl_commands.specs.Runs.{Told}

-- the laws of what sessions are answered with
abbrev pub MakesTranscript : Type 0
MakesTranscript =
    (opening last : List Entry) (phases : List (List Turn)) → Promised meant opening last phases
    → Transcript meant (commits_of opening) (commits_of last) (break_of last) phases

abbrev pub MakesPlay : Type 0
MakesPlay =
    (opening last : List Entry) (phases : List (List Turn)) → Promised meant opening last phases
    → break_of last ≡ None → AreLone phases → IsPlay meant (commits_of opening) (all_turns phases) (commits_of last)

first_commits : (a b : List Entry) → IsPrefix a b → IsPrefix (commits_of a) (commits_of b)
first_commits a b p = (commits_of p.0, sym (commits_split a p.0) ∙ ap commits_of p.1)

-- the replies tell of all commits and the break
pub told : (opening seen last : List Entry) (amount : ℕ) (turns : List (List Turn)) → MakesTranscript → MakesPlay → IsPrefix seen last → IsPrefix opening last → are_legal last ≡ true → counting.news opening + amount ≡ counting.news last → has_break opening ≡ false → HaveRun opening turns seen amount → Told (commits_of opening) (commits_of last) (break_of last) turns
told opening seen last amount turns transcript plays on begins legal count whole ran =
    let p = are_promised opening seen last turns amount ran on count legal whole in
    record { begins = first_commits opening last begins; transcript = transcript opening last turns p; play = plays opening last turns p }
