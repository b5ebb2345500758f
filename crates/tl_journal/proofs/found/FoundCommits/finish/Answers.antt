use Rattle.std.proofs.Common.{rules, ◌≡◌, ◌+◌, length, subst, sym, refl}
use Rattle.tl_device.specs.Disk.{MayCut}
use Rattle.tl_journal.specs.Plain as plain
use Rattle.tl_journal.specs.Image.{ImageStandsFor}
use Rattle.tl_journal.specs.Opening.{IsAtClosedGate}
use Rattle.tl_journal.proofs.Phases.{weaker}
use Rattle.tl_journal.proofs.Headed.{cut_stands, journal_cut, same_or_trimmed}
use Rattle.tl_journal.proofs.found.FoundCommits.finish.Goals as goal

pub returns-in_default-clause-any_moment : goal.returns-in_default-clause-any_moment
returns-in_default-clause-any_moment g c =
    let P : plain.FoundCommits g.row.D.Denot → Type 0 = λ o. IsAtClosedGate o in
    let r = subst P (sym c.self.view_is) c.requires in
    rw (← c.self.view_is) (λ found was stored. weaker _ _ _ _ (MayCut (c.self.inside.at + 1) c.self.inside.image.items) (ImageStandsFor found) (λ d m. cut_stands found c.self.inside.at c.self.inside.image.items r.0 d was r.1 m) (c.trim.ensures.any_moment c.self.inside.image.items stored))

pub returns-in_default-clause-now : goal.returns-in_default-clause-now
returns-in_default-clause-now g c =
    let P : plain.FoundCommits g.row.D.Denot → Type 0 = λ o. IsAtClosedGate o in
    let r = subst P (sym c.self.view_is) c.requires in
    rw (← c.self.view_is) (λ found was stored d left. cut_stands found c.self.inside.at c.self.inside.image.items r.0 d was r.1 (c.trim.ensures.now c.self.inside.image.items stored d left))

pub returns-in_default-clause-reads : goal.returns-in_default-clause-reads
returns-in_default-clause-reads g c =
    let P : plain.FoundCommits g.row.D.Denot → Type 0 = λ o. IsAtClosedGate o in
    let r = subst P (sym c.self.view_is) c.requires in
    rw (← c.self.view_is) (λ found b was reads.
    let is : c.self.inside.image.items ≡ b = search rules in
    let t = c.trim.ensures.reads c.self.inside.image.items (rw is reads) in
    (t.0, t.1, rw (← is) (same_or_trimmed found c.self.inside.at c.self.inside.image.items r.0 t.0 was r.1 t.2)))

pub returns-clause-any_moment : goal.returns-clause-any_moment
returns-clause-any_moment g c =
    let P : plain.FoundCommits g.row.D.Denot → Type 0 = λ o. IsAtClosedGate o in
    let r = subst P (sym c.self.view_is) c.requires in
    rw (c.at_gate.ensures, ← c.self.view_is) (λ found was stored. weaker _ _ _ _ (MayCut (c.self.inside.at + 1) c.self.inside.image.items) (ImageStandsFor found) (λ d m. cut_stands found c.self.inside.at c.self.inside.image.items r.0 d was r.1 m) (c.trim.ensures.any_moment c.self.inside.image.items stored))

pub returns-clause-now : goal.returns-clause-now
returns-clause-now g c =
    let P : plain.FoundCommits g.row.D.Denot → Type 0 = λ o. IsAtClosedGate o in
    let r = subst P (sym c.self.view_is) c.requires in
    rw (c.at_gate.ensures, ← c.self.view_is) (λ found was stored d left. cut_stands found c.self.inside.at c.self.inside.image.items r.0 d was r.1 (c.trim.ensures.now c.self.inside.image.items stored d left))

pub returns-clause-reads : goal.returns-clause-reads
returns-clause-reads g c =
    let P : plain.FoundCommits g.row.D.Denot → Type 0 = λ o. IsAtClosedGate o in
    let r = subst P (sym c.self.view_is) c.requires in
    rw (c.at_gate.ensures, ← c.self.view_is) (λ found b was reads.
    let is : c.self.inside.image.items ≡ b = search rules in
    let t = c.trim.ensures.reads c.self.inside.image.items (rw is reads) in
    (t.0, t.1, rw (← is) (same_or_trimmed found c.self.inside.at c.self.inside.image.items r.0 t.0 was r.1 t.2)))

pub returns-clause-stands : goal.returns-clause-stands
returns-clause-stands g c =
    let P : plain.FoundCommits g.row.D.Denot → Type 0 = λ o. IsAtClosedGate o in
    let r = subst P (sym c.self.view_is) c.requires in
    let len : length c.self.inside.image.items ≡ c.len.result = search rules in
    rw (c.at_gate.ensures, ← c.self.view_is) (λ found was stored. record {
      whole = refl;
      on_disk = journal_cut g.D.Disk.reads g.D.Disk.may_leave c.trim.new.disk found c.self.inside.at c.self.inside.image.items r.0 was r.1 (c.in-Ok.ensures.stored c.self.inside.image.items stored len);
    })
