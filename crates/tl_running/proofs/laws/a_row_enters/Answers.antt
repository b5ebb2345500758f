use Rattle.tl_running.proofs.StandingLemmas.{has_room, row_enters}
use Rattle.tl_running.proofs.laws.a_row_enters.Goals as goal

pub returns-clause-room : goal.returns-clause-room
returns-clause-room c = has_room

pub returns-clause-stands : goal.returns-clause-stands
returns-clause-stands c = row_enters
