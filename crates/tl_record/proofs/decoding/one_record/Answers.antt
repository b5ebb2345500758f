use Rattle.tl_record.proofs.RecordsRead.{no_prefix}
use Rattle.tl_record.proofs.decoding.one_record.Goals as goal

pub returns : goal.returns
returns c = no_prefix
