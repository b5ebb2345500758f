use Rattle.std.proofs.Common.{◌≡◌, ◌+◌, ◌∙◌, sym, ap, arith, refl, drop, subst, length}
use Rattle.tl_script.specs.InHand.{spot_in}
use Rattle.tl_script.specs.Phases.{after_line, Goes}
use Rattle.tl_script.specs.PlainLines.{PassesLines}
use Rattle.tl_script.proofs.PlainLemmas.{rest_passes}
use Rattle.tl_script.proofs.SpotLemmas.{ReadsRest, went_on, line_goes, rest_steps, rest_of_rest, rest_within, line_length}
use Rattle.tl_script.proofs.lines_in_hand.read_lines.Goals as goal

pub reading-preserved : goal.reading-preserved
reading-preserved c =
    let invariant = c.reading.invariant in
    let limits = c.args.phase.now.limits in
    let bytes = c.args.bytes.now in
    let rest = c.reading.rest.now in
    let line = c.split_at.result.0.now in
    let after = c.split_at.result.1.now in
    let behind = c.split_at-in-Some.result.1.now in
    let number = c.in_ok-number.number in
    let spot = spot_in c.reading.phase in
    let next = spot_in c.read_line.new.self in
    let begins = c.in-Some.ensures in
    let goes = went_on _ c.in_ok-read_line.field-0 spot next c.in_ok-read_line.ensures.step c.if-branch.false in
    let goes_on : after_line limits spot line ≡ Goes next = ap (λ limits. after_line limits spot line) (sym invariant.limits) ∙ goes in
    let follows = line_goes limits spot line next goes_on in
    let len = line_length rest line c.in-Some.end begins.within c.split_at.ensures.front in
    let at_next = c.read_line.ensures.limits ∙ invariant.limits in
    let passes = subst (λ limits. PassesLines limits next after number (spot_in c.read_plain_lines.new.self)) at_next c.in_ok-number.ensures.read in
    let within = rest_within bytes rest c.reading.used c.in-Some.end invariant.within invariant.rest begins.within in
    let rest_is = rest_of_rest bytes rest after c.reading.used c.in-Some.end invariant.rest c.split_at.ensures.back in
    let read = rest_steps limits (spot_in c.args.phase.now) spot bytes rest line after c.in-Some.end (Goes next) invariant.read begins c.split_at.ensures.front c.split_at.ensures.back goes_on in
    record {
      within = rest_within bytes after (c.reading.used + c.in-Some.end) number within rest_is passes.within;
      rest = rest_of_rest bytes after behind (c.reading.used + c.in-Some.end) number rest_is c.split_at-in-Some.ensures.back;
      searched = omega arith;
      none = refl;
      size = omega (arith, follows.size, len, passes.size, invariant.size);
      limits = c.read_plain_lines.ensures.limits ∙ at_next;
      before = c.read_plain_lines.ensures.before ∙ (c.read_line.ensures.before ∙ invariant.before);
      is_named = λ h. passes.is_named (follows.is_named (invariant.is_named h));
      read = subst (ReadsRest limits (spot_in c.args.phase.now) bytes (spot_in c.read_plain_lines.new.self)) (sym c.split_at-in-Some.ensures.back) (rest_passes limits (spot_in c.args.phase.now) next (spot_in c.read_plain_lines.new.self) bytes after number read passes);
    }
