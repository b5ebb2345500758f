use Rattle.std.proofs.Common.{◌≡◌, ◌∙◌, ◌+◌, ◌≤◌, sym, ap, subst, length, arith, length-append, take, false}
use Rattle.tl_script.specs.Script.{stands_in}
use Rattle.tl_script.specs.InHand.{IsPart, spot_in}
use Rattle.tl_script.proofs.InHandLemmas.{no_go, some_read, none_read, nearer, read_more, end_found, read_failed, searched_before, part_short, so_far_at}
use Rattle.tl_script.proofs.reader.read_to_go.Goals as goal

pub reading-smaller : goal.reading-smaller
reading-smaller g c =
    let limits = c.args.phase.now.limits in
    let spot = spot_in c.reading.phase in
    let new = spot_in c.read_in_hand.new.phase in
    let rest = c.read_in_hand.new.pending in
    let says = no_go c.reading.phase.limits spot new c.reading.pending rest c.in-Ok-false.field-0 c.in-Ok-false.field-0-test c.in-Ok-false.ensures.says in
    let same : c.reading.phase.limits ≡ limits = c.reading.invariant.limits in
    let same_new : c.read_in_hand.new.phase.limits ≡ limits = c.read_in_hand.ensures.limits ∙ same in
    let short : length rest ≤ limits.line = part_short limits new rest (subst (λ l. IsPart l new rest) same says.0) in
    let fits : c.read_in_hand.new.phase.size ≤ limits.phase = subst (λ l. c.read_in_hand.new.phase.size ≤ l.phase) same_new c.read_in_hand.new.phase.fits in
    let refills = c.in-Ok-true-refill.ensures.refills in
    let some = some_read rest refills.taken c.refill.new.self _ c.in-Ok-true-refill.field-0 c.in-Ok-true-refill.field-0-test refills.ends in
    let all = ap length some.0 ∙ length-append rest refills.taken in
    nearer (limits.phase + limits.line) c.reading.phase.size c.read_in_hand.new.phase.size (length c.reading.pending) (length rest) (length c.refill.new.self) (length refills.taken) says.1 (omega arith) all some.1

pub reading-preserved : goal.reading-preserved
reading-preserved g c =
    let limits = c.args.phase.now.limits in
    let invariant = c.reading.invariant in
    let spot = spot_in c.reading.phase in
    let new = spot_in c.read_in_hand.new.phase in
    let rest = c.read_in_hand.new.pending in
    let says = no_go c.reading.phase.limits spot new c.reading.pending rest c.in-Ok-false.field-0 c.in-Ok-false.field-0-test c.in-Ok-false.ensures.says in
    let same : c.reading.phase.limits ≡ limits = invariant.limits in
    let same_new : c.read_in_hand.new.phase.limits ≡ limits = c.read_in_hand.ensures.limits ∙ same in
    let fits : c.read_in_hand.new.phase.size ≤ limits.phase = subst (λ l. c.read_in_hand.new.phase.size ≤ l.phase) same_new c.read_in_hand.new.phase.fits in
    let refills = c.in-Ok-true-refill.ensures.refills in
    let some = some_read rest refills.taken c.refill.new.self _ c.in-Ok-true-refill.field-0 c.in-Ok-true-refill.field-0-test refills.ends in
    let searched = searched_before rest c.refill.new.self refills.taken some.0 says.0.no_lf in
    let so_far = read_more limits c.reading.phase.limits (spot_in c.args.phase.now) spot new c.args.pending.now c.reading.pending rest refills.taken _ _ _ same invariant.so_far says fits (c.read_in_hand.ensures.before ∙ invariant.before) refills.order refills.bound in
    record {
      within = subst (λ n. n ≤ length c.refill.new.self) (sym c.len-searched.ensures) searched.0;
      none = subst (λ n. stands_in 10 (take n c.refill.new.self) ≡ false) (sym c.len-searched.ensures) searched.1;
      limits = same_new;
      before = c.read_in_hand.ensures.before ∙ invariant.before;
      is_named = λ h. c.in-Ok-false.ensures.named (invariant.is_named h);
      sure = c.in-Ok-true-refill.ensures.sure ∙ invariant.sure;
      so_far = so_far_at limits (spot_in c.args.phase.now) new c.args.pending.now _ _ _ _ some.0 so_far;
    }

pub returns-in-Ok-false-refill-clause-takes : goal.returns-in-Ok-false-refill-clause-takes
returns-in-Ok-false-refill-clause-takes g c =
    let limits = c.args.phase.now.limits in
    let invariant = c.reading.invariant in
    let spot = spot_in c.reading.phase in
    let new = spot_in c.read_in_hand.new.phase in
    let rest = c.read_in_hand.new.pending in
    let says = no_go c.reading.phase.limits spot new c.reading.pending rest c.in-Ok-false.field-0 c.in-Ok-false.field-0-test c.in-Ok-false.ensures.says in
    let same : c.reading.phase.limits ≡ limits = invariant.limits in
    let same_new : c.read_in_hand.new.phase.limits ≡ limits = c.read_in_hand.ensures.limits ∙ same in
    let fits : c.read_in_hand.new.phase.size ≤ limits.phase = subst (λ l. c.read_in_hand.new.phase.size ≤ l.phase) same_new c.read_in_hand.new.phase.fits in
    let refills = c.in-Ok-false-refill.ensures.refills in
    let none = none_read rest refills.taken c.refill.new.self _ c.in-Ok-false-refill.field-0 c.in-Ok-false-refill.field-0-test refills.ends in
    let so_far = read_more limits c.reading.phase.limits (spot_in c.args.phase.now) spot new c.args.pending.now c.reading.pending rest refills.taken _ _ _ same invariant.so_far says fits (c.read_in_hand.ensures.before ∙ invariant.before) refills.order refills.bound in
    end_found limits (spot_in c.args.phase.now) new c.args.pending.now rest c.refill.new.self refills.taken _ _ so_far says.0.no_lf none.0 none.1 none.2

pub returns-in-Err-refill-clause-takes : goal.returns-in-Err-refill-clause-takes
returns-in-Err-refill-clause-takes g c =
    let limits = c.args.phase.now.limits in
    let invariant = c.reading.invariant in
    let spot = spot_in c.reading.phase in
    let new = spot_in c.read_in_hand.new.phase in
    let rest = c.read_in_hand.new.pending in
    let says = no_go c.reading.phase.limits spot new c.reading.pending rest c.in-Ok-false.field-0 c.in-Ok-false.field-0-test c.in-Ok-false.ensures.says in
    let same : c.reading.phase.limits ≡ limits = invariant.limits in
    let same_new : c.read_in_hand.new.phase.limits ≡ limits = c.read_in_hand.ensures.limits ∙ same in
    let fits : c.read_in_hand.new.phase.size ≤ limits.phase = subst (λ l. c.read_in_hand.new.phase.size ≤ l.phase) same_new c.read_in_hand.new.phase.fits in
    let refills = c.in-Err-refill.ensures.refills in
    let is_part : IsPart limits new rest = subst (λ l. IsPart l new rest) same says.0 in
    let so_far = read_more limits c.reading.phase.limits (spot_in c.args.phase.now) spot new c.args.pending.now c.reading.pending rest refills.taken _ _ _ same invariant.so_far says fits (c.read_in_hand.ensures.before ∙ invariant.before) refills.order refills.bound in
    read_failed limits (spot_in c.args.phase.now) new c.args.pending.now rest c.refill.new.self refills.taken _ _ c.in-Err-refill.error so_far is_part (c.read_in_hand.ensures.before ∙ invariant.before) refills.ends
