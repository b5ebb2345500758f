use Rattle.std.proofs.Common.{◌∙◌, ◌+◌, length, ap, arith}
use Rattle.tl_journal.proofs.Grouped.{some_byte}
use Rattle.tl_journal.proofs.journal.Journal.append_all.Goals as goal

pub put-requires-clause-ready : goal.put-requires-clause-ready
put-requires-clause-ready g c =
    let some = some_byte c.requires.body.0 c.args.body.now c.requires.body.1 in
    let spare = ap (λ j. j.spare) c.self.view_is in
    let same = ap length c.as_slice.ensures in
    g.met.D.Disk.fewer c.self.inside.disk (c.self.inside.spare + 1) 4 (length c.as_slice.result.now + 1) 4 (omega (arith, c.requires.fits, spare, same)) (omega arith) (c.self.invariant.room (omega (arith, some, c.requires.fits, spare)))

pub returns-in_default-put-clause-any_moment : goal.returns-in_default-put-clause-any_moment
returns-in_default-put-clause-any_moment g c = rw (← c.self.view_is) (λ cs r s is. c.put.ensures.any_moment cs r (is.0, c.as_slice.ensures ∙ is.1) s.on_disk)

pub returns-in_default-put-clause-now : goal.returns-in_default-put-clause-now
returns-in_default-put-clause-now g c = rw (← c.self.view_is) (λ cs r s is. c.put.ensures.now cs r (is.0, c.as_slice.ensures ∙ is.1) s.on_disk)

pub returns-in_default-put-clause-reads : goal.returns-in_default-put-clause-reads
returns-in_default-put-clause-reads g c = rw (← c.self.view_is) (λ cs r s is b reads. c.put.ensures.now cs r (is.0, c.as_slice.ensures ∙ is.1) s.on_disk b (g.met.D.Disk.an_image c.put.new.disk b reads))

pub returns-clause-any_moment : goal.returns-clause-any_moment
returns-clause-any_moment g c = rw (← c.self.view_is) (λ cs r s is. c.put.ensures.any_moment cs r (is.0, c.as_slice.ensures ∙ is.1) s.on_disk)

pub returns-clause-now : goal.returns-clause-now
returns-clause-now g c = rw (← c.self.view_is) (λ cs r s is. c.put.ensures.now cs r (is.0, c.as_slice.ensures ∙ is.1) s.on_disk)

pub returns-clause-reads : goal.returns-clause-reads
returns-clause-reads g c = rw (← c.self.view_is) (λ cs r s is b reads. c.put.ensures.now cs r (is.0, c.as_slice.ensures ∙ is.1) s.on_disk b (g.met.D.Disk.an_image c.put.new.disk b reads))

pub returns-in-Some-clause-tells : goal.returns-in-Some-clause-tells
returns-in-Some-clause-tells g c = rw (← c.self.view_is) (λ b told. (b, told))
