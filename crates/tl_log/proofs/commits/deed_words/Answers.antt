use Rattle.std.proofs.Common.{◌≡◌, IfOk, subst}
use Rattle.std.specs.String.{string_bytes}
use Rattle.tl_log.proofs.LineLemmas.{words_of_create, words_of_change, words_of_moment, words_of_forget}
use Rattle.tl_log.proofs.commits.deed_words.Goals as goal

pub returns-in-Create : goal.returns-in-Create
returns-in-Create c =
    subst (λ w. IfOk c.format.result (λ text. string_bytes text ≡ w))
    (words_of_create c.args.body.now c.in-Create.field-0 c.closed_count-closed.result c.opened_count-opened.result c.in-Create.is c.closed_count-closed.ensures c.opened_count-opened.ensures)
    c.format.ensures.ok

pub returns-in-Change : goal.returns-in-Change
returns-in-Change c =
    subst (λ w. IfOk c.format-in-Change.result (λ text. string_bytes text ≡ w))
    (words_of_change c.args.body.now c.in-Change.field-0 c.closed_count-closed.result c.opened_count-opened.result c.in-Change.is c.closed_count-closed.ensures c.opened_count-opened.ensures)
    c.format-in-Change.ensures.ok

pub returns-in-Moment : goal.returns-in-Moment
returns-in-Moment c =
    subst (λ w. IfOk c.format-in-Moment.result (λ text. string_bytes text ≡ w))
    (words_of_moment c.args.body.now c.in-Moment.moment c.closed_count-closed.result c.opened_count-opened.result c.in-Moment.is c.closed_count-closed.ensures c.opened_count-opened.ensures)
    c.format-in-Moment.ensures.ok

pub returns-in-Forget : goal.returns-in-Forget
returns-in-Forget c =
    subst (λ w. IfOk c.format-in-Forget.result (λ text. string_bytes text ≡ w))
    (words_of_forget c.args.body.now c.in-Forget.table c.in-Forget.floor c.closed_count-closed.result c.opened_count-opened.result c.in-Forget.is c.closed_count-closed.ensures c.opened_count-opened.ensures)
    c.format-in-Forget.ensures.ok
