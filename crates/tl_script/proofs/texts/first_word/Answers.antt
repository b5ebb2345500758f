use Rattle.tl_script.proofs.texts.first_word.Goals as goal
use Rattle.std.proofs.Common.{◌∙◌, sym, ap, take, not}
use Rattle.std.proofs.Math.Seq.{take-length}
use Rattle.tl_types.specs.Names.{continues_word}
use Rattle.tl_script.proofs.ScriptLemmas.{first_failing, position_some, position_none}

pub returns-in-Some : goal.returns-in-Some
returns-in-Some c =
    let p = position_some (λ b. not (continues_word b)) c.args.text.now c.in-Some.at cc in
    let e = first_failing continues_word c.args.text.now in
    c.split_at.ensures.front ∙ ap (λ n. take n c.args.text.now) (sym p.0 ∙ e)

pub returns-in-None : goal.returns-in-None
returns-in-None c =
    let p = position_none (λ b. not (continues_word b)) c.args.text.now cc in
    let e = first_failing continues_word c.args.text.now in
    sym (take-length c.args.text.now) ∙ ap (λ n. take n c.args.text.now) (sym p ∙ e)
