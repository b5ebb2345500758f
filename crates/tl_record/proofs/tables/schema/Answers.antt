use Rattle.tl_record.proofs.Columns.{made}
use Rattle.tl_record.proofs.tables.schema.Goals as goal

pub returns-in-None : goal.returns-in-None
returns-in-None c = absurd (
    let m =
    made c.args.bytes.now c.in_ok-name.rest.now c.in_ok-valid.rest.now c.in_ok-parts.rest.now
    _ c.in_ok-valid.valid c.in_ok-parts.parts.1 c.in_ok-parts.parts.0.items c.from_vec.result
    c.from_vec.ensures c.in_ok-name.ensures c.in_ok-valid.ensures.read c.in_ok-parts.ensures in
    let h = c.in-None.ensures in
    let i = c.in-None.is in
    cc)
