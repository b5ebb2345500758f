use Rattle.tl_csv.proofs.ReadingLemmas.{record_read, none_read, read_fails}
use Rattle.tl_csv.proofs.reading.next_record.Goals as goal

pub returns-in-Ok-clause-found : goal.returns-in-Ok-clause-found
returns-in-Ok-clause-found c e =
    let q = c.requires in
    (record_read c.args.reader.now c.read_byte_record.new.self _ q (rw e at (c.in-Ok.ensures.reads q.trim q.ready)) (c.in-Ok.ensures.ready q.trim) c.in-Ok.ensures.flexible).0

pub returns-in-Ok-clause-ended : goal.returns-in-Ok-clause-ended
returns-in-Ok-clause-ended c e =
    let q = c.requires in
    none_read c.args.reader.now c.read_byte_record.new.self _ q (rw e at (c.in-Ok.ensures.reads q.trim q.ready))

pub returns-in-Ok-clause-reading : goal.returns-in-Ok-clause-reading
returns-in-Ok-clause-reading c e =
    let q = c.requires in
    (record_read c.args.reader.now c.read_byte_record.new.self _ q (rw e at (c.in-Ok.ensures.reads q.trim q.ready)) (c.in-Ok.ensures.ready q.trim) c.in-Ok.ensures.flexible).1

pub out_of_memory-requires : goal.out_of_memory-requires
out_of_memory-requires c =
    let q = c.requires in
    read_fails c.args.reader.now c.read_byte_record.new.self _ q (c.in-Err.ensures.why q.ready)
