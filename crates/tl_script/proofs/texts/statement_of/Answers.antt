use Rattle.std.proofs.Common.{◌∙◌, sym, ap, subst, ℕ, List, drop}
use Rattle.std.specs.Str.{IsUtf8}
use Rattle.tl_script.specs.Script.{trimmed}
use Rattle.tl_script.proofs.ScriptLemmas.{statement_found, utf8_behind, utf8_before}
use Rattle.tl_script.proofs.texts.statement_of.Goals as goal

pub returns-clause-said : goal.returns-clause-said
returns-clause-said c =
    let behind = c.split_at-2.ensures.back ∙ ap (drop 1) c.split_at.ensures.back in
    statement_found c.args.text.now c.split_at.result.0.now c.trimmed.result.now c.in_ok-position_of.field-0 (sym c.in_ok-position_of.ensures)
    c.split_at.ensures.front (sym c.if-not-is_session_name.ensures) (c.trimmed.ensures.kept ∙ ap trimmed behind)

pub returns-clause-utf8 : goal.returns-clause-utf8
returns-clause-utf8 c = λ u.
    let behind = c.split_at-2.ensures.back ∙ ap (drop 1) c.split_at.ensures.back in
    let P : List ℕ → Type 0 = λ xs. IsUtf8 xs in
    c.trimmed.ensures.utf8 (subst P (sym behind) (utf8_behind c.args.text.now c.in_ok-position_of.field-0 (sym c.in_ok-position_of.ensures) u))

pub returns-clause-name_utf8 : goal.returns-clause-name_utf8
returns-clause-name_utf8 c = λ u.
    let P : List ℕ → Type 0 = λ xs. IsUtf8 xs in
    subst P (sym c.split_at.ensures.front) (utf8_before c.args.text.now c.in_ok-position_of.field-0 (sym c.in_ok-position_of.ensures) u)
