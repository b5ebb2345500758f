use Rattle.std.proofs.Common.{◌<◌, ◌+◌, ◌^◌, length, rules}
use Rattle.tl_rows.specs.Fields.{field_shown}
use Rattle.tl_csv.specs.Writing.{bytes_written}
use Rattle.tl_csv.proofs.WritingLemmas.{field_more, no_fields}
use Rattle.tl_csv.proofs.answers.write_row.Goals as goal

pub loop-place-init : goal.loop-place-init
loop-place-init c = no_fields c.args.writer.now c.requires

pub loop-place-preserved : goal.loop-place-preserved
loop-place-preserved c =
    let there : c.loop-place.place < length c.args.row.now = search rules in
    let few : c.loop-place.place + 1 < 2 ^ 64 = search rules in
    field_more c.loop-place.writer c.put_field.new.writer (bytes_written c.args.writer.now) c.args.row.now c.loop-place.place (field_shown c.at.result) there few c.at.ensures c.in_ok-put_field.ensures c.loop-place.invariant
