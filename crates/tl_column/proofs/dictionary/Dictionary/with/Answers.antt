use Rattle.std.proofs.Common.{◌++◌, ◌∷◌, [], sym, ap, ◌∙◌, if◌then◌else◌}
use Rattle.tl_column.specs.Dictionary.{code_in}
use Rattle.tl_column.proofs.Coding.{found_some, found_none}
use Rattle.tl_column.proofs.dictionary.Dictionary.with.Goals as goal

pub followed_by-requires-clause-new : goal.followed_by-requires-clause-new
followed_by-requires-clause-new c =
    found_none c.args.self c.args.text.now (c.in-None.ensures ∙ ap (λ t. code_in c.args.self t) c.as_str.ensures.bytes)

pub returns-in-Some-clause-texts : goal.returns-in-Some-clause-texts
returns-in-Some-clause-texts c =
    let found = found_some c.args.self c.args.text.now c.in-Some.code (c.in-Some.ensures ∙ ap (λ t. code_in c.args.self t) c.as_str.ensures.bytes) in
    ap (λ b. if b then c.args.self else (c.args.self ++ c.args.text.now ∷ [])) (sym found.2)

pub returns-in-Some-clause-valid : goal.returns-in-Some-clause-valid
returns-in-Some-clause-valid c =
    (found_some c.args.self c.args.text.now c.in-Some.code (c.in-Some.ensures ∙ ap (λ t. code_in c.args.self t) c.as_str.ensures.bytes)).0

pub returns-in-Some-clause-code : goal.returns-in-Some-clause-code
returns-in-Some-clause-code c =
    (found_some c.args.self c.args.text.now c.in-Some.code (c.in-Some.ensures ∙ ap (λ t. code_in c.args.self t) c.as_str.ensures.bytes)).1

pub returns-in_ok-followed_by-in-None-clause-texts : goal.returns-in_ok-followed_by-in-None-clause-texts
returns-in_ok-followed_by-in-None-clause-texts c =
    let lacks = found_none c.args.self c.args.text.now (c.in-None.ensures ∙ ap (λ t. code_in c.args.self t) c.as_str.ensures.bytes) in
    c.in_ok-followed_by-in-None.ensures
    ∙ ap (λ b. if b then c.args.self else (c.args.self ++ c.args.text.now ∷ [])) (sym lacks)
