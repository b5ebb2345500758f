use Rattle.std.proofs.Common.{refl}
use Rattle.tl_outline.specs.Outlines.{outline_floored}
use Rattle.tl_outline.proofs.OutlineLemmas.{put_at}
use Rattle.tl_outline.proofs.outlines.floor_table.Goals as goal

pub returns : goal.returns
returns c = put_at c.args.tables.now.items c.args.table c.args.table (outline_floored c.args.floor) c.index_mut-table.result.now c.set_floor.new.self refl c.requires c.index_mut-table.ensures.value c.set_floor.ensures
