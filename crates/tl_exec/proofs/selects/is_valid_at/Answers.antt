use Rattle.std.proofs.Common.{rules, ◌≡◌, ◌+◌, ◌*◌, ◌%◌, Some, ap, sym, subst, ◌∙◌, arith}
use Rattle.std.proofs.lemmas.Int.{to_z-of_z}
use mir.Syntax.{w64}
use mir.Val.{to_z, of_z}
use Rattle.tl_types.specs.History.{database_of}
use Rattle.tl_store.specs.Reading.{row_of}
use Rattle.tl_exec.specs.Shown.{TellsAsked, TellsValid, is_valid_at}
use Rattle.tl_exec.proofs.selects.is_valid_at.Goals as goal

pub returns-in-Some-clause-value : goal.returns-in-Some-clause-value
returns-in-Some-clause-value g c =
    λ r is.
    let db = database_of c.args.asked.store.now in
    let word = c.word_with-word.result in
    let moment = c.in-Some.moment in
    let same : to_z w64 (of_z w64 moment) ≡ moment = to_z-of_z w64 moment (search rules) in
    let tells = subst (λ m. TellsValid db c.args.asked.table m word.at word.bits) same c.word_with-word.ensures.tells in
    let place : 64 * word.at + c.args.row % 64 ≡ c.args.row = omega (arith, c.word_with-word.ensures.at) in
    c.has_bit.ensures
    ∙ tells (c.args.row % 64) r (omega arith) (ap (λ p. row_of db c.args.asked.table p) place ∙ is)
    ∙ ap (λ v. is_valid_at v r) (sym c.in-Some.is)

pub returns-in-Some-clause-tells : goal.returns-in-Some-clause-tells
returns-in-Some-clause-tells g c =
    let db = database_of c.args.asked.store.now in
    let word = c.word_with-word.result in
    let moment = c.in-Some.moment in
    let same : to_z w64 (of_z w64 moment) ≡ moment = to_z-of_z w64 moment (search rules) in
    let tells = subst (λ m. TellsValid db c.args.asked.table m word.at word.bits) same c.word_with-word.ensures.tells in
    subst (λ v. TellsAsked db c.args.asked.table v word.at word.bits) (sym c.in-Some.is) tells
