use Rattle.tl_engine.proofs.CallLemmas.{table_shows}
use Rattle.tl_engine.proofs.laws.every_door_shows_a_world.Goals as goal

pub returns : goal.returns
returns g c = table_shows g.V.Published.entries
