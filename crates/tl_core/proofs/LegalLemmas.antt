-- A step that is allowed leads from a legal world to a legal world.
use Rattle.std.proofs.Common.{◌≡◌, ℕ, zero, suc, ◌≤◌, true, ◌&&◌, not, nat_le, List, [], ◌∷◌, ◌++◌, length, take, Option, Some, None, arith, slice_get}
use Rattle.std.specs.List.{AllByRecursion}
use Rattle.std.specs.Option.{option_and_then}
use Rattle.std.proofs.lemmas.Bool.{le-leb}
use Rattle.std.proofs.lemmas.List.{length_push, take-append-le, take_all}
use Rattle.std.proofs.lemmas.List.Elements.{All-weaker, All-from_recursion, recursion_from_All}
use Rattle.tl_types.proofs.Lists.{and_left, and_right, and_both}
use Rattle.tl_types.specs.declared.commits.Entry.{Entry}
use Rattle.tl_types.specs.declared.commits.Entry.TheVariants as entry
use Rattle.tl_types.specs.Entries.{commits_of, has_break}
use Rattle.tl_types.specs.History.{at_place}
use Rattle.tl_core.specs.declared.passes.Build.{Build}
use Rattle.tl_core.specs.declared.passes.PassState.{PassState}
use Rattle.tl_core.specs.declared.steps.Step.{Step}
use Rattle.tl_core.specs.declared.steps.Step.TheVariants as step
use Rattle.tl_types.specs.Legality.{version_at, has_table, has_mark, may_follow}
use Rattle.tl_core.specs.World.{World, may_mark, IsLegalBuild, IsLegalPass, IsLegal, build_of, has_pass, allows, seen_to, begun_at, ended, appended, with_pass, after_mark, after_step}
use Rattle.tl_types.proofs.EntryLemmas.{legal_push, table_stays, version_within}

-- ONE ENTRY MORE

build_more : (es : List Entry) (e : Entry) (seen : ℕ) (b : Option Build) → seen ≤ length es → IsLegalBuild es seen b → IsLegalBuild (es ++ e ∷ []) seen b
build_more es e seen None l h = tt
build_more es e seen (Some b) l h = (h.0, rw (take-append-le b.base es (e ∷ []) (omega (arith, l, h.0))) h.1)

pass_more : (es : List Entry) (e : Entry) (p : PassState) → IsLegalPass es p → IsLegalPass (es ++ e ∷ []) p
pass_more es e p h = record {
  within = omega (arith, h.within, length_push es e);
  based = build_more es e p.seen p.build h.within h.based;
}

pub legal_append : (w : World) (e : Entry) → IsLegal w → may_follow w.entries e ≡ true → IsLegal (appended w e)
legal_append w e h m = record {
  history = legal_push w.entries e h.history m;
  fronts = All-weaker (IsLegalPass w.entries) (IsLegalPass (w.entries ++ e ∷ [])) (pass_more w.entries e) w.passes h.fronts;
}

-- A PASS CHANGED

all_at_place : {X : Type 0} (P : X → Type 0) (f : X → X) → ((x : X) → P x → P (f x)) → (i : ℕ) (xs : List X) → AllByRecursion P xs → AllByRecursion P (at_place i f xs)
all_at_place P f g i [] h = h
all_at_place P f g zero (x ∷ xs) h = (g x h.0, h.1)
all_at_place P f g (suc i) (x ∷ xs) h = (h.0, all_at_place P f g i xs h.1)

pub legal_with_pass : (w : World) (i : ℕ) (f : PassState → PassState) → ((p : PassState) → IsLegalPass w.entries p → IsLegalPass w.entries (f p)) → IsLegal w → IsLegal (with_pass w i f)
legal_with_pass w i f g h = record {
  history = h.history;
  fronts = All-from_recursion (IsLegalPass w.entries) (at_place i f w.passes) (all_at_place (IsLegalPass w.entries) f g i w.passes (recursion_from_All (IsLegalPass w.entries) w.passes h.fronts));
}

wider : (es : List Entry) (n m : ℕ) (b : Option Build) → n ≤ m → IsLegalBuild es n b → IsLegalBuild es m b
wider es n m None l h = tt
wider es n m (Some b) l h = (omega (arith, l, h.0), h.1)

read_pass : (es : List Entry) (p : PassState) → IsLegalPass es p → IsLegalPass es (seen_to (length es) p)
read_pass es p h = record { within = omega arith; based = wider es p.seen (length es) p.build h.within h.based }

begin_pass : (es : List Entry) (table : ℕ) (p : PassState) → has_table es table ≡ true → IsLegalPass es (begun_at (length es) table p)
begin_pass es table p h = record {
  within = omega arith;
  based = (omega arith, rw (take_all (length es) es (omega arith)) h);
}

end_pass : (es : List Entry) (p : PassState) → IsLegalPass es p → IsLegalPass es (ended p)
end_pass es p h = record { within = h.within; based = tt }

-- A BUILD

build_at : (es : List Entry) (ps : List PassState) (i : ℕ) → AllByRecursion (IsLegalPass es) ps → IsLegalBuild es (length es) (option_and_then (λ (p : PassState). p.build) (slice_get ps i))
build_at es [] i h = tt
build_at es (p ∷ ps) zero h = wider es p.seen (length es) p.build h.0.within h.0.based
build_at es (p ∷ ps) (suc i) h = build_at es ps i h.1

-- what a pass builds stands on entries that are there
pub build_is_legal : (w : World) (pass : ℕ) → IsLegal w → IsLegalBuild w.entries (length w.entries) (build_of w pass)
build_is_legal w pass h = build_at w.entries w.passes pass (recursion_from_All (IsLegalPass w.entries) w.passes h.fronts)

pub mark_follows : (es : List Entry) (b : Build) → has_table (take b.base es) b.table ≡ true → may_mark es (Some b) ≡ true → may_follow es (entry.Mark b.table (version_at es b.base)) ≡ true
mark_follows es b t a =
    let version = version_at es b.base in
    let whole = and_left (not (has_break es)) (not (has_mark es b.table version)) a in
    let new = and_right (not (has_break es)) (not (has_mark es b.table version)) a in
    let there = table_stays es b.base b.table t in
    let old = le-leb version (length (commits_of es)) (version_within es b.base) in
    and_both (not (has_break es) && has_table es b.table && nat_le version (length (commits_of es))) (not (has_mark es b.table version))
    (and_both (not (has_break es) && has_table es b.table) (nat_le version (length (commits_of es)))
    (and_both (not (has_break es)) (has_table es b.table) whole there)
    old)
    new

legal_mark : (w : World) (pass : ℕ) (b : Option Build) → IsLegalBuild w.entries (length w.entries) b → IsLegal w → may_mark w.entries b ≡ true → IsLegal (after_mark w pass b)
legal_mark w pass None l h a = h
legal_mark w pass (Some b) l h a =
    let mark : Entry = entry.Mark b.table (version_at w.entries b.base) in
    legal_with_pass (appended w mark) pass ended (end_pass (w.entries ++ mark ∷ [])) (legal_append w mark h (mark_follows w.entries b l.1 a))

-- STEPS

pub legal_step : (w : World) (s : Step) → IsLegal w → allows w s ≡ true → IsLegal (after_step w s)
legal_step w (step.Read pass) h a = legal_with_pass w pass (seen_to (length w.entries)) (read_pass w.entries) h
legal_step w (step.Publish commit) h a = legal_append w (entry.Commit commit) h a
legal_step w (step.Begin pass table) h a =
    legal_with_pass w pass (begun_at (length w.entries) table) (λ p i. begin_pass w.entries table p (and_right (has_pass w pass) (has_table w.entries table) a)) h
legal_step w (step.Mark pass) h a = legal_mark w pass (build_of w pass) (build_is_legal w pass h) h a
legal_step w (step.Break commit) h a = legal_append w (entry.Break commit) h a

-- THE START
