use Rattle.std.proofs.Common.{ap, Some}
use Rattle.tl_device.specs.Plain.{Kept}
use Rattle.tl_log.proofs.ReportLemmas.{refused_for}
use Rattle.tl_log.proofs.reports.history_of.Goals as goal

pub returns-in-Ok-clause-whole : goal.returns-in-Ok-clause-whole
returns-in-Ok-clause-whole c =
    c.in-Ok.ensures.image c.args.image.items (ap (λ (k : Kept). Some k.bytes) c.new-disk.ensures)

pub returns-clause-refused : goal.returns-clause-refused
returns-clause-refused c =
    refused_for c.args.image.items c.new-disk.result.bytes c.standard.result c.fault_of.result c.in-Err.field-0.fault
    (ap (λ (k : Kept). k.bytes) c.new-disk.ensures) c.standard.ensures
    c.fault_of.ensures.short c.fault_of.ensures.damaged c.fault_of.ensures.known
    (λ len is. (c.in-Err.ensures.too_short len is).1)
    (λ at is. (c.in-Err.ensures.damaged at is).0)
