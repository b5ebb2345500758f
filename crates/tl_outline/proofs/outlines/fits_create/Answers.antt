use Rattle.std.proofs.Common.{◌≡◌, true, false, not, ◌&&◌, nat_lt, length, refl, sym, ap, ◌∙◌}
use Rattle.tl_outline.proofs.OutlineLemmas.{create_fits}
use Rattle.tl_outline.proofs.outlines.fits_create.Goals as goal

pub returns-then-not-named : goal.returns-then-not-named
returns-then-not-named c =
    let room = nat_lt (length c.args.tables.now) c.args.limits.now.tables in
    let open_name : not c.is_named-named.result ≡ true = ap not c.if-not-named.true in
    sym (ap (λ a. a && room) open_name)
    ∙ create_fits c.args.limits.now c.args.tables.now c.args.schema.now c.as_str.result.now c.is_named-named.result room c.is_named-named.ensures (c.as_str.ensures.bytes ∙ c.name.ensures.value) refl

pub returns-else-not-named : goal.returns-else-not-named
returns-else-not-named c =
    let room = nat_lt (length c.args.tables.now) c.args.limits.now.tables in
    let taken : not c.is_named-named.result ≡ false = ap not c.if-not-named.false in
    taken
    ∙ sym (ap (λ a. a && room) taken)
    ∙ create_fits c.args.limits.now c.args.tables.now c.args.schema.now c.as_str.result.now c.is_named-named.result room c.is_named-named.ensures (c.as_str.ensures.bytes ∙ c.name.ensures.value) refl
