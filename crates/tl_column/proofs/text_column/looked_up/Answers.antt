use Rattle.std.proofs.Common.{sym, ◌∙◌}
use Rattle.tl_column.proofs.Known.{known_code, known_with, known_more}
use Rattle.tl_column.proofs.text_column.looked_up.Goals as goal

pub returns-in-Some-clause-texts : goal.returns-in-Some-clause-texts
returns-in-Some-clause-texts c =
    let found = known_code c.args.dictionary c.args.known.now c.as_str.result c.in-Some.code.now c.requires.known c.in-Some.ensures.value in
    known_with c.args.dictionary c.args.text.now c.in-Some.code.now found.0 (found.1 ∙ c.as_str.ensures.bytes)

pub returns-in-Some-clause-valid : goal.returns-in-Some-clause-valid
returns-in-Some-clause-valid c =
    (known_code c.args.dictionary c.args.known.now c.as_str.result c.in-Some.code.now c.requires.known c.in-Some.ensures.value).0

pub returns-in-Some-clause-code : goal.returns-in-Some-clause-code
returns-in-Some-clause-code c =
    (known_code c.args.dictionary c.args.known.now c.as_str.result c.in-Some.code.now c.requires.known c.in-Some.ensures.value).1
    ∙ c.as_str.ensures.bytes

pub returns-clause-known : goal.returns-clause-known
returns-clause-known c =
    known_more c.args.dictionary c.in_ok-dictionary.dictionary c.args.known.now c.insert.new.self c.as_str-2.result c.in_ok-dictionary.code c.args.text.now c.in_ok-dictionary.ensures.texts c.in_ok-dictionary.ensures.valid (c.in_ok-dictionary.ensures.code ∙ sym c.as_str-2.ensures.bytes) c.requires.known c.in_ok-insert.ensures.updates
