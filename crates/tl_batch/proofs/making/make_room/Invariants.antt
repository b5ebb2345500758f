use Rattle.tl_batch.proofs.making.make_room.Given as goal

abbrev pub ghosts-make_room_from : goal.ghosts-make_room_from
ghosts-make_room_from a = record { name = a.blank.name; parts = a.blank.parts }
