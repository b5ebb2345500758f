use Rattle.std.proofs.Common.{◌≡◌, ◌<◌, true, false, length, subst, refl, sym, ap, ◌∙◌}
use Rattle.std.specs.List.{All, list_all}
use Rattle.tl_types.specs.History.{matches}
use Rattle.tl_types.specs.Plain as plain
use Rattle.tl_batch.proofs.CommitLemmas.{rows-keyed}
use Rattle.tl_batch.proofs.ConflictLemmas.{own_starts}
use Rattle.tl_batch.proofs.syncing.first_conflict.Goals as goal

pub first_overlap-requires-clause-keyed : goal.first_overlap-requires-clause-keyed
first_overlap-requires-clause-keyed c = rows-keyed c.schema-schema.result.now c.key-place.result c.args.lines.now c.key-place.ensures.value c.key-place.ensures.among (ap (λ s. list_all (matches s) c.args.lines.now) c.schema-schema.ensures.value ∙ c.requires.matching)

pub first_twice-requires-clause-keyed : goal.first_twice-requires-clause-keyed
first_twice-requires-clause-keyed c =
    subst (λ (s : plain.Schema). All (λ o. s.key < length o.cells) c.args.lines.now) c.schema-schema.ensures.value
    (rows-keyed c.schema-schema.result.now c.schema-schema.result.now.key c.args.lines.now refl c.key-place.ensures.among (ap (λ s. list_all (matches s) c.args.lines.now) c.schema-schema.ensures.value ∙ c.requires.matching))

pub returns-then-valid-clause-own : goal.returns-then-valid-clause-own
returns-then-valid-clause-own c = λ none.
    let valid : c.args.table.now.schema.valid ≡ true = sym (c.valid.ensures.value ∙ ap (λ (s : plain.Schema). s.valid) c.schema-schema.ensures.value) ∙ c.if-valid.true in
    let place : c.args.table.now.schema.key ≡ c.key-place.result = sym (c.key-place.ensures.value ∙ ap (λ (s : plain.Schema). s.key) c.schema-schema.ensures.value) in
    own_starts c.args.table.now.schema c.args.lines.now (sym (c.in_ok-found.ensures.fault c.args.table.now.schema place valid) ∙ none) c.requires.matching (λ v. c.in_ok-found.ensures.full none)

pub returns-clause-own : goal.returns-clause-own
returns-clause-own c = λ none.
    let off : c.args.table.now.schema.valid ≡ false = sym (c.valid.ensures.value ∙ ap (λ (s : plain.Schema). s.valid) c.schema-schema.ensures.value) ∙ c.if-valid.false in
    own_starts c.args.table.now.schema c.args.lines.now (sym c.in_ok-found-2.ensures ∙ none) c.requires.matching (λ v. absurd (let e : true ≡ false = sym v ∙ off in cc))
