use Rattle.tl_record.proofs.RecordsRead.{read_ok}
use Rattle.tl_record.proofs.decoding.read.Goals as goal

pub overflow_sub-result : goal.overflow_sub-result
overflow_sub-result c =
    (read_ok c.args.at c.args.bytes.now _ c.in-Ok.rest.now c.in-Ok.commit c.split_at.ensures.back
    c.in-Ok.ensures).0

pub returns-in-Ok : goal.returns-in-Ok
returns-in-Ok c =
    (read_ok c.args.at c.args.bytes.now _ c.in-Ok.rest.now c.in-Ok.commit c.split_at.ensures.back
    c.in-Ok.ensures).1
