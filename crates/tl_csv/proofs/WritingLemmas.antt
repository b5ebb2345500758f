-- Rows, one after the other, field by field.
use Rattle.std.proofs.Common.{◌≡◌, ◌≢◌, ◌==◌, ◌+◌, ◌-◌, ◌<◌, ◌^◌, ℕ, Bool, true, false, not, min, List, [], ◌∷◌, ◌++◌, Some, get_or, length, map, take, refl, sym, ap, ◌∙◌, append_assoc, arith, length-append}
use Rattle.std.proofs.lemmas.List.{append-nil, length-map, length-take-le, map-append, take_more}
use Rattle.std.proofs.lemmas.Option.{get_or_from_slice_get}
use Rattle.std.specs.Global.{Vec}
use Rattle.std.specs.Prelude.{◌&&◌, ◌||◌, slice_get}
use Rattle.csv.proofs.WriteFacts.{blank-more, row-more}
use Rattle.csv.specs.Writing.{default_writer, escaped, field_text, fields_text, fields_written, has_written, is_blank, next_sep, row_body, row_text, tail_text, with_flexible, writer_setup}
use Rattle.csv.specs.declared.writer.QuoteStyle.TheVariants as style
use Rattle.csv.specs.declared.writer.Writer.{Writer}
use Rattle.tl_csv.specs.Answers.{field_text as text_of}
use Rattle.tl_csv.specs.Writing.{any_length, bytes_written, IsWithinRow, IsWriting, WritesField}
use Rattle.tl_types.specs.declared.answers.Field.{Field}

-- that rows may have any length changes no row's text
escaped_same : (bytes : List ℕ) → escaped (with_flexible default_writer true) bytes ≡ escaped default_writer bytes
unfolding escaped
escaped_same [] = refl
escaped_same (b ∷ bytes) = rw (escaped_same bytes) refl

field_same : (field : List ℕ) → field_text (with_flexible default_writer true) field ≡ field_text default_writer field
field_same field = rw (escaped_same field) refl

fields_same : (fields : List (List ℕ)) → fields_text (with_flexible default_writer true) fields ≡ fields_text default_writer fields
unfolding fields_text
fields_same [] = refl
fields_same (field ∷ fields) = rw (field_same field, fields_same fields) refl

blank_same : (fields : List (List ℕ)) → is_blank (with_flexible default_writer true) fields ≡ is_blank default_writer fields
unfolding is_blank
blank_same [] = refl
blank_same (field ∷ []) = rw (field_same field) refl
blank_same (field ∷ next ∷ fields) = refl

pub row_same : (fields : List (List ℕ)) → row_text (with_flexible default_writer true) fields ≡ row_text default_writer fields
row_same [] = rw (blank_same []) refl
row_same (field ∷ fields) = rw (field_same field, fields_same fields, blank_same (field ∷ fields)) refl

text_more : (old new bytes : List ℕ) (row : List (List ℕ)) (field : List ℕ) (fields : ℕ)
    → old ≡ bytes ++ row_body any_length row → fields ≡ length row
    → new ≡ old ++ (next_sep any_length fields ++ field_text any_length field)
    → new ≡ bytes ++ row_body any_length (row ++ field ∷ [])
text_more old new bytes row field fields o f n =
    let added = next_sep any_length (length row) ++ field_text any_length field in
    (rw (o, f) at n) ∙ append_assoc bytes (row_body any_length row) added ∙ sym (ap (λ t. bytes ++ t) (row-more any_length row field))

ended : (old new bytes : List ℕ) (row : List (List ℕ)) (wrote : Bool) (fields : ℕ)
    → old ≡ bytes ++ row_body any_length row → fields ≡ length row
    → is_blank any_length row ≡ (not wrote && ((length row == 0) || (length row == 1)))
    → new ≡ old ++ tail_text any_length wrote fields
    → new ≡ bytes ++ row_text any_length row
ended old new bytes row wrote fields o f b n =
    (rw (o, f) at n) ∙ append_assoc bytes (row_body any_length row) _ ∙ rw b refl

-- the row of a writer between two rows has no fields
pub no_fields : (writer : Writer (Vec ℕ)) → IsWriting writer → IsWithinRow writer (bytes_written writer) []
unfolding is_blank
no_fields writer q = record {
  setup = q.setup;
  text = sym (append-nil (bytes_written writer));
  fields = q.fields;
  blank = rw q.wrote refl;
}

-- one field more
pub one_field : (old new : Writer (Vec ℕ)) (field : List ℕ)
    → (writer_setup old ≡ any_length → bytes_written new ≡ bytes_written old ++ (next_sep (writer_setup old) (fields_written old) ++ field_text (writer_setup old) field))
    → writer_setup new ≡ writer_setup old
    → fields_written new ≡ min (fields_written old + 1) (2 ^ 64 - 1)
    → (writer_setup old ≡ any_length → has_written old ≡ false → has_written new ≡ not (length (field_text (writer_setup old) field) == 0))
    → (has_written old ≡ true → has_written new ≡ true)
    → WritesField old new field
one_field old new field text same count wrote stays = record {
  goes_on = λ bytes row few q.
      let sized : length (row ++ field ∷ []) ≡ length row + 1 = length-append row (field ∷ []) in
      let more : fields_written new ≡ length row + 1 = omega (arith, count, q.fields, few) in
      let wrote_plain : has_written old ≡ false → has_written new ≡ not (length (field_text any_length field) == 0) = rw q.setup at (wrote q.setup) in
      record {
        setup = same ∙ q.setup;
        text = text_more (bytes_written old) (bytes_written new) bytes row field (fields_written old) q.text q.fields (rw q.setup at (text q.setup));
        fields = more ∙ sym sized;
        blank = rw sized (blank-more any_length row field (has_written old) (has_written new) q.blank wrote_plain stays);
      };
}

-- the end of a row
pub one_row : (old new : Writer (Vec ℕ)) (bytes : List ℕ) (row : List (List ℕ))
    → bytes_written new ≡ bytes_written old ++ tail_text (writer_setup old) (has_written old) (fields_written old)
    → IsWithinRow old bytes row → bytes_written new ≡ bytes ++ row_text default_writer row
one_row old new bytes row text q =
    ended (bytes_written old) (bytes_written new) bytes row (has_written old) (fields_written old) q.text q.fields q.blank (rw q.setup at text)
    ∙ ap (λ t. bytes ++ t) (row_same row)

-- a whole row
pub whole_row : (old new : Writer (Vec ℕ)) (row : List (List ℕ)) → IsWriting old
    → (fields_written old ≡ 0 → has_written old ≡ false → (writer_setup old).style ≢ style.NonNumeric → bytes_written new ≡ bytes_written old ++ row_text (writer_setup old) row)
    → bytes_written new ≡ bytes_written old ++ row_text default_writer row
whole_row old new row q text =
    let plain : (writer_setup old).style ≢ style.NonNumeric = rw q.setup (λ e. cc e) in
    (rw q.setup at (text q.fields q.wrote plain)) ∙ ap (λ t. bytes_written old ++ t) (row_same row)

-- one field of an answer's row more
pub field_more : (old new : Writer (Vec ℕ)) (bytes : List ℕ) (row : List Field) (place : ℕ) (shown : Field) → place < length row → place + 1 < 2 ^ 64 → slice_get row place ≡ Some shown → WritesField old new (text_of shown) → IsWithinRow old bytes (map text_of (take place row)) → IsWithinRow new bytes (map text_of (take (place + 1) row))
field_more old new bytes row place shown there few found put q =
    let sized : length (map text_of (take place row)) ≡ place = length-map (take place row) text_of ∙ length-take-le place row (omega arith) in
    let more = put.goes_on bytes (map text_of (take place row)) (rw sized few) q in
    rw (take_more row place shown there, map-append text_of (take place row) (get_or row place shown ∷ []), get_or_from_slice_get row place shown shown found) more
