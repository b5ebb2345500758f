use Rattle.std.proofs.Common.{◌≡◌, ◌<◌, length, get_or, take, sym, arith}
use Rattle.std.proofs.lemmas.List.{take_more}
use Rattle.tl_plain.proofs.Ending.{ends, ends_none, ends_more}
use Rattle.tl_plain.proofs.rows.end_all.Goals as goal

pub loop-id-init : goal.loop-id-init
loop-id-init c = sym (ends_none c.args.version 0 c.args.rows.now.items)

pub loop-id-preserved : goal.loop-id-preserved
loop-id-preserved c =
    let ids = c.args.ids.now in
    let i = c.loop-id.id-index in
    let here : i < length ids = omega arith in
    let id = get_or ids i 0 in
    let r = c.index_mut.result.now in
    let inside : id < length c.args.rows.now.items = c.requires i 0 here in
    let is : r ≡ get_or (ends c.args.version (take i ids) 0 c.args.rows.now.items) id r = cc (c.index_mut.ensures.value, c.loop-id.invariant) in
    let step = ends_more c.args.version (take i ids) 0 c.args.rows.now.items id id r r inside (omega arith) is in
    let more = take_more ids i 0 here in
    cc (c.end.ensures, c.loop-id.invariant)
