-- What is kept beside the entries, through each change.
use Rattle.std.proofs.Common.{◌≡◌, ℕ, zero, suc, ◌<◌, ◌≤◌, Bool, true, false, ◌||◌, not, List, [], ◌∷◌, ◌++◌, length, get_or, set, take, Option, Some, None, refl, sym, ap, ◌∙◌, subst, arith, slice_get}
use Rattle.std.specs.Option.{option_and_then}
use Rattle.std.proofs.lemmas.Bool.{not-true, ltb-true, lt-ltb}
use Rattle.std.proofs.lemmas.List.{append-nil, length_push}
use Rattle.std.proofs.lemmas.List.Elements.{All-set}
use Rattle.std.proofs.lemmas.List.Folds.{list_any-append}
use Rattle.tl_types.proofs.Lists.{and_left, and_right}
use Rattle.tl_types.specs.declared.commits.Commit.{Commit}
use Rattle.tl_types.specs.declared.commits.Entry.{Entry}
use Rattle.tl_types.specs.declared.commits.Entry.TheVariants as entry
use Rattle.tl_types.specs.Entries.{commit_of, commits_of, is_break, has_break}
use Rattle.tl_types.specs.History.{database_of, fits, at_place}
use Rattle.tl_types.specs.Limits.{standard_limits}
use Rattle.tl_core.specs.declared.passes.Build.{Build}
use Rattle.tl_core.specs.declared.passes.PassState.{PassState}
use Rattle.tl_types.specs.Legality.{version_at, takes_commit, may_follow, has_table, are_legal}
use Rattle.tl_core.specs.World.{World, may_mark, IsLegalPass, has_pass, build_of, seen_to, begun_at, ended, appended, with_pass, after_mark}
use Rattle.tl_core.specs.Kept.{fits_store, seen_at, IsKept}
use Rattle.tl_types.proofs.EntryLemmas.{commits_of-append, legal_at}
use Rattle.tl_core.proofs.LegalLemmas.{legal_append, mark_follows}

-- an entry that may follow fits the store of those before it
pub fits_behind : (es : List Entry) (store : List Commit) (e : Entry) → store ≡ commits_of es → may_follow es e ≡ true → fits_store store e ≡ true
fits_behind es store (entry.Commit c) k m = rw k (and_right (not (has_break es)) (fits standard_limits (database_of (commits_of es)) c) m)
fits_behind es store (entry.Mark t v) k m = refl
fits_behind es store (entry.Break c) k m = refl

-- an entry of a legal list fits the store of those before it
pub fits_at : (es : List Entry) (i : ℕ) (e : Entry) (store : List Commit) → are_legal es ≡ true → i < length es → e ≡ get_or es i e → store ≡ commits_of (take i es) → fits_store store e ≡ true
fits_at es i e store h l s k =
    let m : may_follow (take i es) (get_or es i e) ≡ true = legal_at [] es i e h l in
    fits_behind (take i es) store e k (subst (λ (f : Entry). may_follow (take i es) f ≡ true) (sym s) m)

-- before an entry that may follow there is no break
no_break : (es : List Entry) (e : Entry) → may_follow es e ≡ true → has_break es ≡ false
no_break es (entry.Commit c) m = not-true (has_break es) (and_left (not (has_break es)) (fits standard_limits (database_of (commits_of es)) c) m)
no_break es (entry.Mark t v) m = grind arith
no_break es (entry.Break c) m = not-true (has_break es) (and_left (not (has_break es)) (fits standard_limits (database_of (commits_of es)) c) m)

pub broken_is : (es : List Entry) (e : Entry) → may_follow es e ≡ true → is_break e ≡ has_break (es ++ e ∷ [])
broken_is es e m = sym (list_any-append is_break es (e ∷ []) ∙ ap (λ b. b || (is_break e || false)) (no_break es e m) ∙ last (is_break e)) where
  last : (b : Bool) → (false || (b || false)) ≡ b
  last true = refl
  last false = refl

module _ (es : List Entry) (passes : List PassState) (store : List Commit) (broken : Bool) (kept : IsKept es passes store broken) where
  pub kept_published : (c : Commit) → takes_commit es c ≡ true → IsKept (es ++ entry.Commit c ∷ []) passes (store ++ c ∷ []) broken
  kept_published c m = record {
    commits = ap (λ t. t ++ c ∷ []) kept.commits ∙ sym (commits_of-append es (entry.Commit c ∷ []));
    break = kept.break ∙ no_break es (entry.Commit c) m ∙ broken_is es (entry.Commit c) m;
    legal = legal_append (record { entries = es; passes = passes }) (entry.Commit c) kept.legal m;
  }

  pub kept_appended : (e : Entry) → may_follow es e ≡ true → commit_of e ≡ None → IsKept (es ++ e ∷ []) passes store (is_break e)
  kept_appended e m none = record {
    commits = kept.commits ∙ sym (commits_of-append es (e ∷ []) ∙ same e none);
    break = broken_is es e m;
    legal = legal_append (record { entries = es; passes = passes }) e kept.legal m;
  } where
    same : (e : Entry) → commit_of e ≡ None → commits_of es ++ commits_of (e ∷ []) ≡ commits_of es
    same (entry.Commit c) none = absurd cc
    same (entry.Mark t v) none = append-nil (commits_of es)
    same (entry.Break c) none = append-nil (commits_of es)

  pub kept_pass : (i : ℕ) (p : PassState) → IsLegalPass es p → IsKept es (set passes i p) store broken
  kept_pass i p h = record {
    commits = kept.commits;
    break = kept.break;
    legal = record { history = kept.legal.history; fronts = All-set (IsLegalPass es) passes i p h kept.legal.fronts };
  }

-- these entries and passes
abbrev pub world_of : List Entry → List PassState → World
world_of es passes = record { entries = es; passes = passes }

pub published_is_kept : (es new : List Entry) (passes : List PassState) (store next : List Commit) (broken : Bool) (w : World) (c : Commit) → IsKept es passes store broken → world_of es passes ≡ w → takes_commit w.entries c ≡ true → next ≡ store ++ c ∷ [] → new ≡ es ++ entry.Commit c ∷ [] → IsKept new passes next broken
published_is_kept es new passes store next broken w c kept view m s n =
    let here : takes_commit es c ≡ true = subst (λ (v : World). takes_commit v.entries c ≡ true) (sym view) m in
    rw (s, n) (kept_published es passes store broken kept c here)

pub appended_is_kept : (es new : List Entry) (passes : List PassState) (store : List Commit) (broken b : Bool) (w : World) (e : Entry) → IsKept es passes store broken → world_of es passes ≡ w → may_follow w.entries e ≡ true → commit_of e ≡ None → b ≡ is_break e → new ≡ es ++ e ∷ [] → IsKept new passes store b
appended_is_kept es new passes store broken b w e kept view m none s n =
    let here : may_follow es e ≡ true = subst (λ (v : World). may_follow v.entries e ≡ true) (sym view) m in
    rw (s, n) (kept_appended es passes store broken kept e here none)

-- A PASS CHANGED

set_seen : (ps : List PassState) (i n : ℕ) (b : Option Build) → i < length ps → b ≡ option_and_then (λ (p : PassState). p.build) (slice_get ps i) → set ps i (record { seen = n; build = b }) ≡ at_place i (seen_to n) ps
set_seen [] i n b l e = absurd (omega arith)
set_seen (p ∷ ps) zero n b l e = rw e refl
set_seen (p ∷ ps) (suc i) n b l e = ap (λ t. p ∷ t) (set_seen ps i n b (omega arith) e)

set_begun : (ps : List PassState) (i n table : ℕ) → i < length ps → set ps i (begun_at n table (record { seen = n; build = None })) ≡ at_place i (begun_at n table) ps
set_begun [] i n table l = absurd (omega arith)
set_begun (p ∷ ps) zero n table l = refl
set_begun (p ∷ ps) (suc i) n table l = ap (λ t. p ∷ t) (set_begun ps i n table (omega arith))

set_ended : (ps : List PassState) (i s : ℕ) → i < length ps → s ≡ seen_at (slice_get ps i) → set ps i (record { seen = s; build = None }) ≡ at_place i ended ps
set_ended [] i s l e = absurd (omega arith)
set_ended (p ∷ ps) zero s l e = rw e refl
set_ended (p ∷ ps) (suc i) s l e = ap (λ t. p ∷ t) (set_ended ps i s (omega arith) e)

pub read_is : (w new : World) (i seen : ℕ) (b : Option Build) → has_pass w i ≡ true → seen ≡ length w.entries → b ≡ build_of w i → new ≡ world_of w.entries (set w.passes i (record { seen = seen; build = b })) → new ≡ with_pass w i (seen_to (length w.entries))
read_is w new i seen b there s e n =
    n ∙ ap (world_of w.entries) (set_seen w.passes i seen b (ltb-true i (length w.passes) there) e)
    ∙ ap (λ m. with_pass w i (seen_to m)) s

pub begin_is : (w new : World) (i seen table : ℕ) → has_pass w i ≡ true → seen ≡ length w.entries → new ≡ world_of w.entries (set w.passes i (begun_at seen table (record { seen = seen; build = None }))) → new ≡ with_pass w i (begun_at (length w.entries) table)
begin_is w new i seen table there s n =
    n ∙ ap (world_of w.entries) (set_begun w.passes i seen table (ltb-true i (length w.passes) there))
    ∙ ap (λ m. with_pass w i (begun_at m table)) s

-- A BUILD ENDS

built_within : (ps : List PassState) (i : ℕ) (b : Build) → Some b ≡ option_and_then (λ (p : PassState). p.build) (slice_get ps i) → i < length ps
built_within [] i b e = absurd cc
built_within (p ∷ ps) zero b e = omega arith
built_within (p ∷ ps) (suc i) b e = let l = built_within ps i b e in omega arith

pub mark_may_follow : (w : World) (i v : ℕ) (b : Build) → may_mark w.entries (build_of w i) ≡ true → Some b ≡ build_of w i → v ≡ version_at w.entries b.base → has_table (take b.base w.entries) b.table ≡ true → may_follow w.entries (entry.Mark b.table v) ≡ true
mark_may_follow w i v b a e s t =
    let here : may_mark w.entries (Some b) ≡ true = subst (λ (o : Option Build). may_mark w.entries o ≡ true) (sym e) a in
    let at_base = mark_follows w.entries b t here in
    subst (λ n. may_follow w.entries (entry.Mark b.table n) ≡ true) (sym s) at_base

pub pass_is_there : (w new : World) (i : ℕ) (b : Build) (e : Entry) → Some b ≡ build_of w i → new ≡ appended w e → has_pass new i ≡ true
pass_is_there w new i b e s n =
    subst (λ (u : World). has_pass u i ≡ true) (sym n) (lt-ltb i (length w.passes) (built_within w.passes i b s))

pub ended_is_legal : (w new : World) (e : Entry) (s : ℕ) → s ≤ length w.entries → new ≡ appended w e → IsLegalPass new.entries (record { seen = s; build = None })
ended_is_legal w new e s l n =
    subst (λ (u : World). IsLegalPass u.entries (record { seen = s; build = None })) (sym n)
    (record { within = omega (arith, l, length_push w.entries e); based = tt })

pub mark_is : (w new last : World) (i s v : ℕ) (b : Build) → Some b ≡ build_of w i → s ≡ seen_at (slice_get w.passes i) → v ≡ version_at w.entries b.base → new ≡ appended w (entry.Mark b.table v) → last ≡ world_of new.entries (set new.passes i (record { seen = s; build = None })) → last ≡ after_mark w i (build_of w i)
mark_is w new last i s v b e seen version n l =
    l ∙ ap (λ (u : World). world_of u.entries (set u.passes i (record { seen = s; build = None }))) n
    ∙ ap (world_of (w.entries ++ entry.Mark b.table v ∷ [])) (set_ended w.passes i s (built_within w.passes i b e) seen)
    ∙ ap (λ m. world_of (w.entries ++ entry.Mark b.table m ∷ []) (at_place i ended w.passes)) version
    ∙ ap (after_mark w i) e
