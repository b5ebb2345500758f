-- Phases one after the other, and what an engine that is closed makes of them.
use Rattle.std.proofs.Common.{◌≡◌, ℕ, ◌+◌, true, false, List, [], ◌∷◌, ◌++◌, map, None, refl, sym, ap, ◌∙◌, subst, arith}
use mathlib.Core.List.{IsPrefix}
use Rattle.tl_types.specs.declared.commits.Entry.{Entry}
use Rattle.tl_types.specs.Entries.{commits_of, has_break}
use Rattle.tl_types.specs.Legality.{are_legal}
use Rattle.tl_engine.specs.Counting.{news}
use Rattle.tl_jobs.specs.Jobs.{Job}
use Rattle.tl_session.specs.Plain as plain
use Rattle.tl_session.specs.Phases.{TakesTurns, HaveRun}
use Rattle.tl_jobs.specs.Turns.{Turn, Meaning, meant, of_session, all_turns, break_of, Each}
use Rattle.tl_session.specs.Promises.{Chain, Chains, Promised, tally, whole_tally, weight}
use Rattle.tl_jobs.specs.Play.{AreLone, AreOfOne, AreLonePhases}
use Rattle.tl_jobs.specs.Written.{jobs_of, all_jobs, IsPlayOf, transcript_bytes}
use Rattle.tl_engine.proofs.CountLemmas.{begins_on}
use Rattle.tl_session.proofs.EntryLemmas.{begins_itself}
use Rattle.tl_session.proofs.ChainLemmas.{chain_from, jobs_on}
use Rattle.tl_session.proofs.PlayLemmas.{promised_play}

-- ONE PHASE MORE

chains_more : (m : Meaning) (a : List Entry) (phases : List (List Turn)) (b : List Entry) (turns : List Turn) (c : List Entry) → Chains m a phases b → IsPrefix b c → ((s : ℕ) → Chain m b (of_session s turns) c) → Chains m a (phases ++ turns ∷ []) c
chains_more m a [] b turns c k p each = (c, begins_on a b c k p, λ s. chain_from m a b (of_session s turns) c k (each s), begins_itself c)
chains_more m a (q ∷ phases) b turns c k p each = (k.0, k.1, k.2, chains_more m k.0 phases b turns c k.3 p each)

whole_more : (f : Turn → ℕ) (phases : List (List Turn)) (turns : List Turn) → whole_tally f (phases ++ turns ∷ []) ≡ whole_tally f phases + tally f turns
whole_more f [] turns = omega arith
whole_more f (q ∷ phases) turns = omega (arith, whole_more f phases turns)

pub run_none : (opening : List Entry) → HaveRun opening [] opening 0
run_none opening = record { chains = begins_itself opening; count = refl }

pub run_more : (opening : List Entry) (phases : List (List Turn)) (turns : List Turn) (old new : plain.SharedAccess) → HaveRun opening phases old.seen old.amount → TakesTurns turns old new → HaveRun opening (phases ++ turns ∷ []) new.seen new.amount
run_more opening phases turns old new run taken = record {
  chains = chains_more meant opening phases old.seen turns new.seen run.chains taken.later taken.chains;
  count = (let a = run.count in let b = taken.amount in omega (arith, a, b, whole_more weight phases turns));
}

-- THE END

chains_to : (m : Meaning) (a : List Entry) (phases : List (List Turn)) (b c : List Entry) → Chains m a phases b → IsPrefix b c → Chains m a phases c
chains_to m a [] b c k p = begins_on a b c k p
chains_to m a (q ∷ phases) b c k p = (k.0, k.1, k.2, chains_to m k.0 phases b c k.3 p)

pub are_promised : (opening seen last : List Entry) (phases : List (List Turn)) (amount : ℕ) → HaveRun opening phases seen amount → IsPrefix seen last → news opening + amount ≡ news last → are_legal last ≡ true → has_break opening ≡ false → Promised meant opening last phases
are_promised opening seen last phases amount run p count legal whole = record {
  legal = legal;
  whole = whole;
  chains = chains_to meant opening phases seen last run.chains p;
  count = (let e = run.count in omega (arith, e, count));
}

-- ONE SESSION A PHASE

lone_turns : (s : ℕ) (turns : List Turn) → AreOfOne s (jobs_of turns) → Each (λ t. t.job.session ≡ s) turns
lone_turns s [] a = tt
lone_turns s (t ∷ ts) a = (a.0, lone_turns s ts a.1)

lone_phases : (phases : List (List Turn)) → AreLonePhases (map jobs_of phases) → AreLone phases
lone_phases [] a = tt
lone_phases (turns ∷ phases) a = ((a.0.0, lone_turns a.0.0 turns a.0.1), lone_phases phases a.1)

all_jobs_are : (phases : List (List Turn)) → jobs_of (all_turns phases) ≡ all_jobs (map jobs_of phases)
all_jobs_are [] = refl
all_jobs_are (turns ∷ phases) = jobs_on turns (all_turns phases) ∙ ap (λ l. jobs_of turns ++ l) (all_jobs_are phases)

pub play_of_lone : (names : List (List ℕ)) (jobs : List (List Job)) (phases : List (List Turn)) (opening last : List Entry) → Promised meant opening last phases → map jobs_of phases ≡ jobs → break_of last ≡ None → AreLonePhases jobs → IsPlayOf names (all_jobs jobs) (commits_of opening) (commits_of last) (transcript_bytes names phases)
play_of_lone names jobs phases opening last p are none lone =
    (all_turns phases, all_jobs_are phases ∙ ap all_jobs are, promised_play meant opening last phases p none (lone_phases phases (subst AreLonePhases (sym are) lone)), refl)
