use Rattle.std.proofs.Common.{◌++◌, take, ap, ◌∙◌, to_z, of_z, w64}
use Rattle.std.proofs.lemmas.Int.{to_z-of_z}
use Rattle.tl_record.proofs.Sizes.{two_behind}
use Rattle.tl_record.proofs.placing.place_ends.Goals as goal

pub returns-clause-written : goal.returns-clause-written
returns-clause-written c =
    two_behind (take c.args.at c.args.room.now)
    (take c.place_bytes-at.result c.place_bytes-at.new.room)
    (take c.place_bytes.result c.place_bytes.new.room) c.args.from c.args.to
    (to_z w64 (of_z w64 c.args.from)) (to_z w64 (of_z w64 c.args.to))
    (to_z-of_z w64 c.args.from c.ranges.from) (to_z-of_z w64 c.args.to c.ranges.to)
    (c.place_bytes-at.ensures.written ∙ ap (λ l. take c.args.at c.args.room.now ++ l) c.behind_byte.ensures)
    (c.place_bytes.ensures.written
    ∙ ap (λ l. take c.place_bytes-at.result c.place_bytes-at.new.room ++ l) c.to_be_bytes.ensures)
