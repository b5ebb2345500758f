use Rattle.csv.specs.Records.{fields_of}
use Rattle.tl_csv.proofs.HeaderLemmas.{first_place}
use Rattle.tl_csv.proofs.headers.place_of.Goals as goal

pub loop-named-init : goal.loop-named-init
loop-named-init c = first_place c.args.name.now (fields_of c.args.header.now)
