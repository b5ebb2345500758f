-- What is read of a text that spells a statement, or has a fault.
use Rattle.std.proofs.Common.{◌≡◌, ◌≢◌, ◌⊎◌, inl, inr, ℕ, List, length, Result, Ok, Err, refl, ap, sym, ◌∙◌}
use Rattle.tl_types.specs.declared.commits.Commit.{Commit}
use Rattle.tl_types.specs.History.{database_of}
use Rattle.tl_types.specs.Plain as plain
use Rattle.tl_query.specs.declared.ast.Statement.{Statement}
use Rattle.tl_query.specs.declared.faults.TextFault.{TextFault}
use Rattle.tl_query.specs.declared.faults.TextFault.TheVariants as text_fault
use Rattle.tl_query.specs.Texts.{Spells, IsFault, text_read}
use Rattle.tl_query.proofs.Deciding.{spelled_read, fault_read, read_spelled, read_fault}
use Rattle.tl_jobs.specs.declared.replies.Refusal.{Refusal}
use Rattle.tl_jobs.specs.declared.replies.Refusal.TheVariants as refusal
use Rattle.tl_watch.specs.declared.plans.WatchPlan.{WatchPlan}
use Rattle.tl_commands.specs.Plans.{IsSpelledPlan, IsTextFault, plan_reading, read_plan, statement_plan}

-- the plan of the statement that a text spells is that of the text
pub spelled_plan : (db : plain.Database) (now : ℕ) (text : List ℕ) (s : Statement) (read : Result WatchPlan Refusal) → Spells text s → read ≡ statement_plan db now s → read ≡ read_plan db now (text_read text)
spelled_plan db now text s read spells is = is ∙ ap (read_plan db now) (sym (spelled_read text s spells))

-- the fault of a text is what is told of it, where memory did not run out
pub faulty_plan : (db : plain.Database) (now : ℕ) (text : List ℕ) (e : TextFault) (why : Refusal) → (e ≡ text_fault.NoMemory) ⊎ IsFault text e → e ≢ text_fault.NoMemory → why ≡ refusal.TextFault e → ◌≡◌ {A = Result WatchPlan Refusal} (Err why) (read_plan db now (text_read text))
faulty_plan db now text e why (inl h) told is = absurd (told h)
faulty_plan db now text e why (inr h) told is = ap Err is ∙ ap (read_plan db now) (sym (fault_read text e h))

-- WHAT IS READ

-- by what is read of the text
module _ (commits : List Commit) (text : List ℕ) where
  named_by : (plan : WatchPlan) (r : Result Statement TextFault) → text_read text ≡ r → read_plan (database_of commits) (length commits) r ≡ Ok plan → IsSpelledPlan commits text (Ok plan)
  named_by plan (Ok s) e h = (s, read_spelled text s e, sym h)
  named_by plan (Err f) e h = absurd (cc)

  pub named_plan : (plan : WatchPlan) → plan_reading commits text ≡ Ok plan → IsSpelledPlan commits text (Ok plan)
  named_plan plan h = named_by plan (text_read text) refl h

  pub spelled_reading : (s : Statement) → Spells text s → plan_reading commits text ≡ statement_plan (database_of commits) (length commits) s
  spelled_reading s h = ap (read_plan (database_of commits) (length commits)) (spelled_read text s h)

  pub fault_reading : (f : TextFault) → IsFault text f → plan_reading commits text ≡ Err (refusal.TextFault f)
  fault_reading f h = ap (read_plan (database_of commits) (length commits)) (fault_read text f h)

  refused_by : (why : Refusal) (r : Result Statement TextFault) → text_read text ≡ r → read_plan (database_of commits) (length commits) r ≡ Err why → IsTextFault text why ⊎ IsSpelledPlan commits text (Err why)
  refused_by why (Ok s) e h = inr (s, read_spelled text s e, sym h)
  refused_by why (Err f) e h = let same : why ≡ refusal.TextFault f = cc in inl (f, read_fault text f e, same)

  pub refused_reading : (why : Refusal) → plan_reading commits text ≡ Err why → IsTextFault text why ⊎ IsSpelledPlan commits text (Err why)
  refused_reading why h = refused_by why (text_read text) refl h
