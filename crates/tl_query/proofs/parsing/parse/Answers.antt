use Rattle.tl_query.proofs.Deciding.{found_of, fault_of, one_meaning}
use Rattle.tl_query.proofs.SoundTokens.{parsed_of}
use Rattle.tl_query.proofs.parsing.parse.Goals as goal

pub returns-clause-found : goal.returns-clause-found
returns-clause-found c = found_of c.args.text.now c.read.result c.read.ensures

pub returns-clause-fault : goal.returns-clause-fault
returns-clause-fault c = fault_of c.args.text.now c.read.result c.read.ensures

pub returns-clause-one : goal.returns-clause-one
returns-clause-one c = one_meaning c.args.text.now

pub returns-clause-parsed : goal.returns-clause-parsed
returns-clause-parsed c = parsed_of c.args.text.now c.read.result c.read.ensures
