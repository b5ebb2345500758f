use Rattle.std.proofs.Common.{rules, ◌≡◌, ◌∙◌, ◌+◌, [], ◌∷◌, ◌++◌, length, Ok, Err, None, IfSome, subst}
use Rattle.tl_record.specs.Spelling.{spelling}
use Rattle.tl_journal.specs.Image.{ImageStandsOnlyFor, IsDamagedOnlyAt}
use Rattle.tl_journal.specs.Opening.{HasReadTo, commits_found}
use Rattle.tl_journal.specs.declared.faults.JournalFault.TheVariants as fault
use Rattle.tl_journal.proofs.Listed.{one_found}
use Rattle.tl_journal.proofs.attached.all_found.Goals as goal

pub returns-in_err-commit-clause-damaged : goal.returns-in_err-commit-clause-damaged
returns-in_err-commit-clause-damaged g c at is =
    let e : c.next.result ≡ Err (fault.Damaged at) = search rules in
    subst (λ l. IsDamagedOnlyAt at l) c.reading.invariant.1 (c.next.ensures.damaged (commits_found c.reading.found) at c.reading.invariant.2 e)

pub reading-preserved : goal.reading-preserved
reading-preserved g c =
    let inv = c.reading.invariant in
    let f = c.in-Some.commit in
    let new = c.next.new.self in
    let pushed : c.push.new.self ≡ c.reading.found ++ f ∷ [] = search rules in
    let gate : f.at ≡ c.reading.opening.at = search rules in
    let on : new.at ≡ c.reading.opening.at + (1 + length (spelling f.commit)) = search rules in
    let h = c.in_ok-commit.ensures.found (commits_found c.reading.found) inv.2 in
    let read : HasReadTo (commits_found c.reading.found ++ f.commit ∷ []) new.at new.image =
    subst (λ o. IfSome o (λ f. HasReadTo (commits_found c.reading.found ++ f.commit ∷ []) new.at new.image)) c.in-Some.is h in
    let t = one_found c.reading.found c.push.new.self f c.reading.opening.at new.at c.args.opening.now.at new.image pushed read inv.3 inv.4 gate on in
    (c.next.ensures.disk ∙ inv.0, c.next.ensures.image ∙ inv.1, t.0, t.1, t.2)

pub returns-clause-all : goal.returns-clause-all
returns-clause-all g c =
    let e : c.next.result ≡ Ok None = search rules in
    subst (λ l. ImageStandsOnlyFor (commits_found c.reading.found) l) c.reading.invariant.1 (c.next.ensures.all (commits_found c.reading.found) c.reading.invariant.2 e)
