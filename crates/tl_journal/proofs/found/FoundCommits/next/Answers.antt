use Rattle.std.proofs.Common.{rules, ◌≡◌, ◌+◌, length, drop, Ok, Err, None, subst, sym, ap, ◌∙◌}
use Rattle.tl_record.specs.Spelling.{spelling}
use Rattle.tl_journal.specs.Image.{IsDamagedOnlyAt}
use Rattle.tl_journal.specs.Records.{IsGateBefore, IsBrokenHere}
use Rattle.tl_journal.specs.declared.faults.JournalFault.TheVariants as fault
use Rattle.tl_journal.proofs.Scans.{read_on, behind_gate, closed_image, broken_image}
use Rattle.tl_journal.proofs.found.FoundCommits.next.Goals as goal

pub returns-in_err-decoded-clause-damaged : goal.returns-in_err-decoded-clause-damaged
returns-in_err-decoded-clause-damaged g c = rw (← c.self.view_is) (λ found at was is.
    let e : c.commit_at.result ≡ Err (fault.Damaged at) = search rules in
    let h = c.commit_at.ensures.damaged at e in
    let broken = subst (λ l. IsBrokenHere (drop c.self.inside.at l)) c.deref.ensures.value h.1 in
    subst (λ n. IsDamagedOnlyAt n c.self.inside.image.items) (sym h.0) (broken_image found c.self.inside.at c.self.inside.image.items was broken))

pub returns-in_default-clause-all : goal.returns-in_default-clause-all
returns-in_default-clause-all g c = rw (← c.self.view_is) (λ found was is.
    let e : c.commit_at.result ≡ Ok None = search rules in
    let r = c.commit_at.ensures.none e in
    closed_image found c.self.inside.at c.self.inside.image.items r.0 was (ap (λ l. drop c.self.inside.at l) (sym c.deref.ensures.value) ∙ r.1))

pub returns-clause-found : goal.returns-clause-found
returns-clause-found g c = rw (← c.self.view_is) (λ found was.
    let gate : IsGateBefore (drop c.self.inside.at c.self.inside.image.items) c.in-Some.decoded.commit (drop c.in-Some.decoded.end c.self.inside.image.items) = search rules in
    let end : c.in-Some.decoded.end ≡ c.self.inside.at + (1 + length (spelling c.in-Some.decoded.commit)) = search rules in
    read_on found c.in-Some.decoded.commit c.self.inside.at c.in-Some.decoded.end c.self.inside.image.items was gate end)

pub returns-clause-recorded : goal.returns-clause-recorded
returns-clause-recorded g c =
    let gate : IsGateBefore (drop c.self.inside.at c.self.inside.image.items) c.in-Some.decoded.commit (drop c.in-Some.decoded.end c.self.inside.image.items) = search rules in
    let end : c.in-Some.decoded.end ≡ c.self.inside.at + (1 + length (spelling c.in-Some.decoded.commit)) = search rules in
    record {
      fits = gate.fits;
      behind = behind_gate c.self.inside.image.items c.in-Some.decoded.commit c.self.inside.at c.in-Some.decoded.end gate;
      next_is = end;
    }
