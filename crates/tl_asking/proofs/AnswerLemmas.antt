-- What a text is answered with that spells a statement, or has a fault.
use Rattle.std.proofs.Common.{◌≡◌, ◌≢◌, ◌⊎◌, inl, inr, ℕ, List, ap, sym, ◌∙◌}
use Rattle.tl_types.specs.Plain as plain
use Rattle.tl_query.specs.declared.ast.Statement.{Statement}
use Rattle.tl_query.specs.declared.faults.TextFault.{TextFault}
use Rattle.tl_query.specs.declared.faults.TextFault.TheVariants as text_fault
use Rattle.tl_query.specs.Texts.{Spells, IsFault, text_read}
use Rattle.tl_query.proofs.Deciding.{spelled_read, fault_read}
use Rattle.tl_jobs.specs.declared.replies.Refusal.{Refusal}
use Rattle.tl_jobs.specs.declared.replies.Refusal.TheVariants as refusal
use Rattle.tl_jobs.specs.declared.replies.ReplyBody.{ReplyBody}
use Rattle.tl_jobs.specs.declared.replies.ReplyBody.TheVariants as body
use Rattle.tl_asking.specs.Answers.{read_answer, statement_answer}

-- the answer to the statement that a text spells is that to the text
pub spelled_answer : (db : plain.Database) (now : ℕ) (text : List ℕ) (s : Statement) (told : ReplyBody) → Spells text s → told ≡ statement_answer db now s → told ≡ read_answer db now (text_read text)
spelled_answer db now text s told spells is = is ∙ ap (read_answer db now) (sym (spelled_read text s spells))

-- the fault of a text is what is told of it, where memory did not run out
pub faulty_answer : (db : plain.Database) (now : ℕ) (text : List ℕ) (e : TextFault) (why : Refusal) → (e ≡ text_fault.NoMemory) ⊎ IsFault text e → e ≢ text_fault.NoMemory → why ≡ refusal.TextFault e → body.Refused why ≡ read_answer db now (text_read text)
faulty_answer db now text e why (inl h) told is = absurd (told h)
faulty_answer db now text e why (inr h) told is = ap body.Refused is ∙ ap (read_answer db now) (sym (fault_read text e h))
