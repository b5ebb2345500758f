use Rattle.std.proofs.Common.{◌<◌, length, sym}
use Rattle.tl_rows.proofs.RowLemmas.{cut_at, length_cut, row_bounds}
use Rattle.tl_rows.proofs.field_rows.FieldRows.row.Goals as goal

pub start_of-start-requires : goal.start_of-start-requires
start_of-start-requires c =
    let there : c.args.row < length c.self.inside.ends.items = rw (← c.self.view_is, length_cut 0 c.self.inside.ends.items c.self.inside.fields) at c.requires in
    rw c.as_slice-ends.ensures.value there

pub end_of-end-requires : goal.end_of-end-requires
end_of-end-requires c =
    let there : c.args.row < length c.self.inside.ends.items = rw (← c.self.view_is, length_cut 0 c.self.inside.ends.items c.self.inside.fields) at c.requires in
    rw c.as_slice-ends.ensures.value there

pub range-requires : goal.range-requires
range-requires c =
    let there : c.args.row < length c.self.inside.ends.items = rw (← c.self.view_is, length_cut 0 c.self.inside.ends.items c.self.inside.fields) at c.requires in
    rw (c.end_of-end.ensures, c.start_of-start.ensures, c.as_slice-ends.ensures.value) (row_bounds c.self.inside.ends.items _ c.args.row c.self.invariant there)

pub returns : goal.returns
returns c =
    let there : c.args.row < length c.self.inside.ends.items = rw (← c.self.view_is, length_cut 0 c.self.inside.ends.items c.self.inside.fields) at c.requires in
    rw (← c.self.view_is, c.range.ensures, c.end_of-end.ensures, c.start_of-start.ensures, c.as_slice-ends.ensures.value) (sym (cut_at c.self.inside.ends.items c.self.inside.fields c.args.row c.self.invariant there))
