use Rattle.std.proofs.Common.{◌≡◌, ◌≢◌}
use Rattle.csv.specs.Writing.{writer_setup}
use Rattle.csv.specs.declared.writer.QuoteStyle.TheVariants as style
use Rattle.tl_csv.specs.Writing.{any_length}
use Rattle.tl_csv.proofs.WritingLemmas.{one_field}
use Rattle.tl_csv.proofs.answers.put_bytes.Goals as goal

pub returns : goal.returns
returns c =
    let put = c.in-Ok.ensures in
    let plain : writer_setup c.args.writer.now ≡ any_length → (writer_setup c.args.writer.now).style ≢ style.NonNumeric = λ q. rw q (λ e. cc e) in
    one_field c.args.writer.now c.write_field.new.self c.args.field.now (λ q. put.text (plain q)) put.same put.count (λ q wrote. put.wrote wrote (plain q)) put.stays
