-- Phases that come one after the other.
use Rattle.std.proofs.Common.{◌≡◌, inl, inr, ℕ, ◌≤◌, Bool, true, false, List, [], ◌∷◌, ◌++◌, length, Option, Some, None, IfSome, refl, sym, ap, ◌∙◌, subst, append_assoc, append-nil}
use Rattle.tl_device.specs.Known.{prepend_known}
use Rattle.tl_device.proofs.Known.{prepend_none, read_more}
use Rattle.tl_script.specs.declared.jobs.ScriptFault.{ScriptFault}
use Rattle.tl_script.specs.Script.{Job, ScriptReading}
use Rattle.tl_script.specs.Phases.{with_phase, no_phase, no_phase_but}
use Rattle.tl_script.specs.Reader.{with_phases, Grows}
use Rattle.tl_script.specs.Taking.{IsAtEnd}
use Rattle.tl_command.specs.Coming.{Coming, Comes, BringsPhase, BringsNoMore, BringsFault, ReadsOn, HaveCome, HasNotBegun}

-- what the source has left, where it tells it
abbrev pub rest_of : Option (List ℕ) → List ℕ
rest_of None = []
rest_of (Some l) = l

-- the bytes taken and those left are what it had
pub whole_told : (first left : Option (List ℕ)) (bytes : List ℕ) → first ≡ prepend_known bytes left → IfSome first (λ l. l ≡ bytes ++ rest_of left)
whole_told first None bytes e = subst (λ (o : Option (List ℕ)). IfSome o (λ l. l ≡ bytes ++ [])) (sym e) tt
whole_told first (Some l) bytes e = subst (λ (o : Option (List ℕ)). IfSome o (λ k. k ≡ bytes ++ l)) (sym e) refl

-- all was taken where nothing is left
pub all_told : (first left : Option (List ℕ)) (bytes : List ℕ) → first ≡ prepend_known bytes left → IsAtEnd left → IfSome first (λ l. l ≡ bytes)
all_told first None bytes e none = subst (λ (o : Option (List ℕ)). IfSome o (λ l. l ≡ bytes)) (sym e) tt
all_told first (Some l) bytes e none = subst (λ (o : Option (List ℕ)). IfSome o (λ k. k ≡ bytes)) (sym e) (ap (λ x. bytes ++ x) none ∙ append-nil bytes)

nothing_left : (left : Option (List ℕ)) → IsAtEnd left → rest_of left ≡ []
nothing_left None none = refl
nothing_left (Some l) none = none

pub phases_then : (phases : List (List Job)) (jobs : List Job) (more : ScriptReading) → with_phases phases (with_phase jobs more) ≡ with_phases (phases ++ jobs ∷ []) more
phases_then phases jobs more = ap (λ ps. record { names = more.names; phases = ps; fault = more.fault }) (sym (append_assoc phases (jobs ∷ []) more.phases))

-- nothing has come yet
pub none_come : (first : Coming) (left : Option (List ℕ)) → HasNotBegun first → HaveCome first left [] [] first left
none_come first left fresh =
    record {
      order = sym (prepend_none left);
      most = refl;
      few = fresh.few;
      known = fresh.known;
      ended = λ e. absurd (let f = fresh.at_end in cc);
      reads = inl (λ whole more. refl);
    }

-- a source at its end has given all, so a further phase takes nothing
reads_more : (first : Coming) (bytes : List ℕ) (phases : List (List Job)) (old : Coming) (mid : Option (List ℕ)) (taken : List ℕ) (jobs : List Job) (new : Coming) (left : Option (List ℕ)) → (old.at_end ≡ true → ⊥) → ReadsOn first bytes phases old mid → Comes old taken jobs new left → ReadsOn first (bytes ++ taken) (phases ++ jobs ∷ []) new left
reads_more first bytes phases old mid taken jobs new left live (inr (none, ended, read)) comes = absurd (live ended)
reads_more first bytes phases old mid taken jobs new left live (inl reads) (inl comes) =
    inl (λ whole more. ap (first.reads whole) (append_assoc bytes taken more) ∙ (reads whole (taken ++ more) ∙ (ap (with_phases phases) (comes whole more) ∙ phases_then phases jobs (new.reads whole more))))
reads_more first bytes phases old mid taken jobs new left live (inl reads) (inr (none, ended, read)) =
    inr (none, ended, reads true taken ∙ (ap (with_phases phases) read ∙ phases_then phases jobs (no_phase new.names)))

-- a phase more has come
pub one_more_come : (first : Coming) (before : Option (List ℕ)) (bytes : List ℕ) (phases : List (List Job)) (old : Coming) (mid : Option (List ℕ)) (taken : List ℕ) (jobs : List Job) (new : Coming) (left : Option (List ℕ)) → HaveCome first before bytes phases old mid → mid ≡ prepend_known taken left → (old.at_end ≡ true → ⊥) → BringsPhase old taken jobs new left → HaveCome first before (bytes ++ taken) (phases ++ jobs ∷ []) new left
one_more_come first before bytes phases old mid taken jobs new left come order live gives =
    record {
      order = read_more before mid left bytes taken (bytes ++ taken) come.order order refl;
      most = gives.most ∙ come.most;
      few = subst (λ (n : ℕ). length new.names ≤ n) come.most (gives.few (subst (λ (n : ℕ). length old.names ≤ n) (sym come.most) come.few));
      known = gives.known;
      ended = gives.ended;
      reads = reads_more first bytes phases old mid taken jobs new left live come.reads gives.comes;
    }

-- THE END

-- the source is at its end behind the last phase
pub at_the_end : (first : Coming) (before : Option (List ℕ)) (bytes : List ℕ) (phases : List (List Job)) (old : Coming) (mid : Option (List ℕ)) (taken : List ℕ) (left : Option (List ℕ)) → HaveCome first before bytes phases old mid → mid ≡ prepend_known taken left → (old.at_end ≡ true → taken ≡ []) → BringsNoMore old taken left → IsAtEnd left
at_the_end first before bytes phases old mid taken left come order idle gives = by_test old.at_end refl where
  same : (l : Option (List ℕ)) → l ≡ prepend_known [] left → IsAtEnd l → IsAtEnd left
  same l e none = subst IsAtEnd (e ∙ prepend_none left) none

  by_test : (t : Bool) → old.at_end ≡ t → IsAtEnd left
  by_test true e = same mid (order ∙ ap (λ b. prepend_known b left) (idle e)) (come.ended e)
  by_test false e = gives.none_left e

-- what is read of all bytes is all that has come
pub all_read : (first : Coming) (before : Option (List ℕ)) (bytes : List ℕ) (phases : List (List Job)) (old : Coming) (mid : Option (List ℕ)) (taken : List ℕ) (left : Option (List ℕ)) → HaveCome first before bytes phases old mid → (old.at_end ≡ true → taken ≡ []) → BringsNoMore old taken left → first.reads true (bytes ++ taken) ≡ with_phases phases (no_phase old.names)
all_read first before bytes phases old mid taken left come idle gives = by_reads come.reads where
  by_reads : ReadsOn first bytes phases old mid → first.reads true (bytes ++ taken) ≡ with_phases phases (no_phase old.names)
  by_reads (inl reads) = reads true taken ∙ ap (with_phases phases) gives.read
  by_reads (inr (none, ended, read)) = ap (λ b. first.reads true (bytes ++ b)) (idle ended) ∙ (ap (first.reads true) (append-nil bytes) ∙ read)

-- A FAULT

-- the fault stands behind all that has come
pub fault_read : (first : Coming) (before : Option (List ℕ)) (bytes : List ℕ) (phases : List (List Job)) (old : Coming) (mid : Option (List ℕ)) (taken : List ℕ) (f : ScriptFault) (left : Option (List ℕ)) → HaveCome first before bytes phases old mid → (old.at_end ≡ true → ⊥) → BringsFault old taken f left → first.reads true ((bytes ++ taken) ++ rest_of left) ≡ with_phases phases (no_phase_but old.names f)
fault_read first before bytes phases old mid taken f left come live faulty = by_reads come.reads faulty where
  by_reads : ReadsOn first bytes phases old mid → BringsFault old taken f left → first.reads true ((bytes ++ taken) ++ rest_of left) ≡ with_phases phases (no_phase_but old.names f)
  by_reads (inr (none, ended, read)) faulty = absurd (live ended)
  by_reads (inl reads) (inl always) =
      ap (first.reads true) (append_assoc bytes taken (rest_of left)) ∙ (reads true (taken ++ rest_of left) ∙ ap (with_phases phases) (always (rest_of left)))
  by_reads (inl reads) (inr (none, read)) =
      ap (λ b. first.reads true ((bytes ++ taken) ++ b)) (nothing_left left none) ∙ (ap (first.reads true) (append-nil (bytes ++ taken)) ∙ (reads true taken ∙ ap (with_phases phases) read))

-- THE SOURCE

-- no further phase is closed in what was taken of a source that failed
pub closed_read : (first : Coming) (before : Option (List ℕ)) (bytes : List ℕ) (phases : List (List Job)) (old : Coming) (mid : Option (List ℕ)) (taken : List ℕ) → HaveCome first before bytes phases old mid → (old.at_end ≡ true → ⊥) → old.reads false taken ≡ no_phase old.names → first.reads false (bytes ++ taken) ≡ with_phases phases (no_phase old.names)
closed_read first before bytes phases old mid taken come live none = by_reads come.reads where
  by_reads : ReadsOn first bytes phases old mid → first.reads false (bytes ++ taken) ≡ with_phases phases (no_phase old.names)
  by_reads (inl reads) = reads false taken ∙ ap (with_phases phases) none
  by_reads (inr (no_left, ended, read)) = absurd (live ended)

-- WHAT ELSE MAY COME

-- whatever is left, the phases that have come are the first, and their sessions' names too
pub so_far_read : (first : Coming) (before : Option (List ℕ)) (bytes : List ℕ) (phases : List (List Job)) (now : Coming) (left : Option (List ℕ)) → HaveCome first before bytes phases now left → (more : ScriptReading) × (first.reads true (bytes ++ rest_of left) ≡ with_phases phases more) × Grows now.names more.names
so_far_read first before bytes phases now left come = by_reads come.reads where
  by_reads : ReadsOn first bytes phases now left → (more : ScriptReading) × (first.reads true (bytes ++ rest_of left) ≡ with_phases phases more) × Grows now.names more.names
  by_reads (inl reads) = (now.reads true (rest_of left), reads true (rest_of left), come.known (rest_of left))
  by_reads (inr (none, ended, read)) =
      (no_phase now.names, ap (λ b. first.reads true (bytes ++ b)) (nothing_left left none) ∙ (ap (first.reads true) (append-nil bytes) ∙ read), ([], sym (append-nil now.names)))
