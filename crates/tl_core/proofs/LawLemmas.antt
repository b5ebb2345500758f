-- What every list of steps keeps of a legal world.
use Rattle.std.proofs.Common.{◌≡◌, ℕ, zero, suc, ◌≤◌, Bool, true, false, cond, List, [], ◌∷◌, ◌++◌, length, get_or, take, drop, Option, Some, None, refl, sym, ap, ◌∙◌, arith, append_assoc}
use Rattle.std.specs.List.{AllZip, AllByRecursion}
use Rattle.std.proofs.lemmas.List.{append-nil, take-append-drop, take_at}
use Rattle.std.proofs.lemmas.List.Elements.{recursion_from_All}
use Rattle.tl_types.specs.declared.commits.Entry.{Entry}
use Rattle.tl_types.specs.declared.commits.Entry.TheVariants as entry
use Rattle.tl_types.specs.Entries.{commits_of}
use Rattle.tl_types.specs.History.{database_of, at_place}
use Rattle.tl_core.specs.declared.passes.Build.{Build}
use Rattle.tl_core.specs.declared.passes.PassState.{PassState}
use Rattle.tl_core.specs.declared.steps.Step.{Step}
use Rattle.tl_core.specs.declared.steps.Step.TheVariants as step
use Rattle.tl_types.specs.Checkpoints.{checkpoint_at}
use Rattle.tl_types.specs.Legality.{database_behind, version_at, are_legal}
use Rattle.tl_core.specs.World.{World, IsLegalBuild, IsLegalPass, IsLegal, build_of, allows, seen_to, begun_at, ended, after_mark, after_step, after_allowed, after_steps}
use Rattle.tl_core.specs.Law.{Extends, StandsAtBase, IsCut, GoesOn}
use Rattle.tl_types.proofs.EntryLemmas.{commits_from}
use Rattle.tl_types.proofs.CheckpointLemmas.{checkpoint_stands}
use Rattle.tl_core.proofs.LegalLemmas.{legal_step}

-- the tables of a prefix are those of its number of commits
pub front_is_cut : (es : List Entry) (n : ℕ) → IsCut es n
front_is_cut es n =
    let front = take_at (commits_of (take n es)) (commits_of (drop n es)) (version_at es n) refl in
    ap database_of (sym (ap (take (version_at es n)) (commits_from es n) ∙ front))

-- BUILDS

pub stands_at_base : (es : List Entry) (seen : ℕ) (b : Option Build) → are_legal es ≡ true → IsLegalBuild es seen b → StandsAtBase es b
stands_at_base es seen None h l = tt
stands_at_base es seen (Some b) h l =
    let n = b.base in
    let v = version_at es n in
    let whole = take-append-drop n es in
    let whole_is_legal : are_legal (take n es ++ drop n es) ≡ true = rw whole h in
    let stands = checkpoint_stands (take n es) (drop n es) b.table v whole_is_legal l.1 (omega arith) in
    sym (ap (λ fs. checkpoint_at (database_behind fs) b.table v) (sym whole) ∙ stands)

-- GOING ON

-- a pass has not seen less
abbrev pub Rises : PassState → PassState → Type 0
Rises before after = before.seen ≤ after.seen

rises_same : (ps : List PassState) → AllZip Rises ps ps
rises_same [] = tt
rises_same (p ∷ ps) = (omega arith, rises_same ps)

rises_on : (ps qs rs : List PassState) → AllZip Rises ps qs → AllZip Rises qs rs → AllZip Rises ps rs
rises_on [] [] rs h k = k
rises_on [] (q ∷ qs) rs h k = absurd h
rises_on (p ∷ ps) [] rs h k = absurd h
rises_on (p ∷ ps) (q ∷ qs) [] h k = absurd k
rises_on (p ∷ ps) (q ∷ qs) (r ∷ rs) h k = (omega (arith, h.0, k.0), rises_on ps qs rs h.1 k.1)

rises_at : (es : List Entry) (f : PassState → PassState) → ((p : PassState) → IsLegalPass es p → p.seen ≤ (f p).seen) → (i : ℕ) (ps : List PassState) → AllByRecursion (IsLegalPass es) ps → AllZip Rises ps (at_place i f ps)
rises_at es f g i [] h = tt
rises_at es f g zero (p ∷ ps) h = (g p h.0, rises_same ps)
rises_at es f g (suc i) (p ∷ ps) h = (omega arith, rises_at es f g i ps h.1)

-- the new world is legal, its entries begin with the old ones, and no pass has seen less
pub record Follows (old new : World) : Type 0 where
  pub legal : IsLegal new
  pub entries : Extends old.entries new.entries
  pub passes : AllZip Rises old.passes new.passes

follows_itself : (w : World) → IsLegal w → Follows w w
follows_itself w h = record { legal = h; entries = ([], sym (append-nil w.entries)); passes = rises_same w.passes }

follows_on : (a b c : World) → Follows a b → Follows b c → Follows a c
follows_on a b c h k = record {
  legal = k.legal;
  entries = (h.entries.0 ++ k.entries.0, k.entries.1 ∙ ap (λ t. t ++ k.entries.0) h.entries.1 ∙ append_assoc a.entries h.entries.0 k.entries.0);
  passes = rises_on a.passes b.passes c.passes h.passes k.passes;
}

entries_go_on : (w : World) (s : Step) → Extends w.entries (after_step w s).entries
entries_go_on w (step.Read pass) = ([], sym (append-nil w.entries))
entries_go_on w (step.Publish commit) = (entry.Commit commit ∷ [], refl)
entries_go_on w (step.Begin pass table) = ([], sym (append-nil w.entries))
entries_go_on w (step.Mark pass) = by_build (build_of w pass) where
  by_build : (b : Option Build) → Extends w.entries (after_mark w pass b).entries
  by_build None = ([], sym (append-nil w.entries))
  by_build (Some b) = (entry.Mark b.table (version_at w.entries b.base) ∷ [], refl)
entries_go_on w (step.Break commit) = (entry.Break commit ∷ [], refl)

passes_go_on : (w : World) (s : Step) → IsLegal w → AllZip Rises w.passes (after_step w s).passes
passes_go_on w (step.Read pass) h = rises_at w.entries (seen_to (length w.entries)) (λ p i. i.within) pass w.passes (recursion_from_All (IsLegalPass w.entries) w.passes h.fronts)
passes_go_on w (step.Publish commit) h = rises_same w.passes
passes_go_on w (step.Begin pass table) h = rises_at w.entries (begun_at (length w.entries) table) (λ p i. i.within) pass w.passes (recursion_from_All (IsLegalPass w.entries) w.passes h.fronts)
passes_go_on w (step.Mark pass) h = by_build (build_of w pass) where
  by_build : (b : Option Build) → AllZip Rises w.passes (after_mark w pass b).passes
  by_build None = rises_same w.passes
  by_build (Some b) = rises_at w.entries ended (λ p i. omega arith) pass w.passes (recursion_from_All (IsLegalPass w.entries) w.passes h.fronts)
passes_go_on w (step.Break commit) h = rises_same w.passes

follows_step : (w : World) (s : Step) → IsLegal w → Follows w (after_allowed w s)
follows_step w s h = by_test (allows w s) (λ e. e) where
  by_test : (b : Bool) → (b ≡ true → allows w s ≡ true) → Follows w (cond b (after_step w s) w)
  by_test true e = record { legal = legal_step w s h (e refl); entries = entries_go_on w s; passes = passes_go_on w s h }
  by_test false e = follows_itself w h

pub follows_steps : (w : World) (steps : List Step) → IsLegal w → Follows w (after_steps w steps)
follows_steps w [] h = follows_itself w h
follows_steps w (s ∷ steps) h =
    let one = follows_step w s h in
    follows_on w (after_allowed w s) (after_steps (after_allowed w s) steps) one (follows_steps (after_allowed w s) steps one.legal)

-- THE LAW

pub goes_on : (w : World) (steps : List Step) → IsLegal w → GoesOn w (after_steps w steps)
goes_on w steps h =
    let end = after_steps w steps in
    let on = follows_steps w steps h in
    record {
      legal = on.legal;
      entries = on.entries;
      passes = on.passes;
      builds = λ k d l. let pass = get_or end.passes k d in stands_at_base end.entries pass.seen pass.build on.legal.history (on.legal.fronts k d l).based;
      tables = λ k d l. front_is_cut end.entries (get_or end.passes k d).seen;
    }
