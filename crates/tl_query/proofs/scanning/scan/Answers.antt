use Rattle.std.proofs.Common.{◌≡◌, ℕ, ◌∙◌, sym, ap, ◌<◌, length, get_or, Some, None, Ok, Err, true, false, List, [], ◌∷◌, ◌++◌, append-nil, length-drop, arith}
use Rattle.std.proofs.lemmas.Grind.{common_steps}
use Rattle.std.proofs.lemmas.Bool.Decides.{nat_tests}
use Rattle.tl_query.specs.declared.tokens.Placed.{Placed}
use Rattle.tl_query.specs.Scanning.{is_blank, piece_of, placed_token}
use Rattle.tl_query.proofs.Turns.{blank_step, fault_step, piece_step, step_within, scan_done}
use Rattle.tl_query.proofs.Utf8.{behind_piece, behind_byte}
use Rattle.tl_query.proofs.scanning.scan.Goals as goal

-- a blank is ASCII
blank_low : (b : ℕ) → is_blank b ≡ true → b < 128
blank_low b h = grind (arith, nat_tests)

pub tokens-preserved-then-is_blank : goal.tokens-preserved-then-is_blank
tokens-preserved-then-is_blank c =
    let some : 0 < length c.tokens.rest.now = grind (arith, nat_tests) in
    let rest = c.split_at.ensures.back in
    let blank : is_blank (get_or c.tokens.rest.now 0 0) ≡ true = sym c.is_blank.ensures ∙ c.if-is_blank.true in
    let low : get_or c.tokens.rest.now 0 0 < 128 = blank_low (get_or c.tokens.rest.now 0 0) blank in
    record {
      utf8 = rw rest (behind_byte c.tokens.rest.now some low c.tokens.invariant.utf8);
      place = let n = ap length rest in omega (arith, n, length-drop 1 c.tokens.rest.now, c.tokens.invariant.place);
      read = rw rest (sym (blank_step c.tokens.tokens.items c.tokens.at c.tokens.joined c.tokens.rest.now some blank) ∙ c.tokens.invariant.read);
    }

pub returns-in-Err : goal.returns-in-Err
returns-in-Err c =
    let some : 0 < length c.tokens.rest.now = grind (arith, nat_tests) in
    let black : is_blank (get_or c.tokens.rest.now 0 0) ≡ false = sym c.is_blank.ensures ∙ c.if-is_blank.false in
    let read : Err c.in-Err.fault ≡ piece_of c.tokens.at c.tokens.rest.now = sym c.in-Err.is ∙ c.in_ok-fault.ensures in
    ap (λ (ts : List Placed). record { tokens = ts; fault = Some c.in-Err.fault }) (sym (append-nil c.tokens.tokens.items))
    ∙ sym (fault_step c.tokens.tokens.items c.tokens.at c.tokens.joined c.tokens.rest.now c.in-Err.fault some black read) ∙ c.tokens.invariant.read

pub split_at-requires-in-Ok : goal.split_at-requires-in-Ok
split_at-requires-in-Ok c =
    let some : 0 < length c.tokens.rest.now = grind (arith, nat_tests) in
    (step_within c.tokens.at c.tokens.rest.now c.in-Ok.piece some (sym c.in-Ok.is ∙ c.in_ok-fault.ensures)).1

pub tokens-smaller : goal.tokens-smaller
tokens-smaller c =
    let some : 0 < length c.tokens.rest.now = grind (arith, nat_tests) in
    let within = step_within c.tokens.at c.tokens.rest.now c.in-Ok.piece some (sym c.in-Ok.is ∙ c.in_ok-fault.ensures) in
    let n = ap length c.split_at-in-Ok.ensures.back in
    omega (arith, n, within.0, within.1, length-drop c.in-Ok.piece.len c.tokens.rest.now)

pub tokens-preserved : goal.tokens-preserved
tokens-preserved c =
    let some : 0 < length c.tokens.rest.now = grind (arith, nat_tests) in
    let black : is_blank (get_or c.tokens.rest.now 0 0) ≡ false = sym c.is_blank.ensures ∙ c.if-is_blank.false in
    let read : Ok c.in-Ok.piece ≡ piece_of c.tokens.at c.tokens.rest.now = sym c.in-Ok.is ∙ c.in_ok-fault.ensures in
    let within = step_within c.tokens.at c.tokens.rest.now c.in-Ok.piece some read in
    let rest = c.split_at-in-Ok.ensures.back in
    let left = behind_piece c.tokens.at c.tokens.rest.now c.in-Ok.piece some read c.tokens.invariant.utf8 in
    let items : c.push.new.self.items ≡ c.tokens.tokens.items ++ (placed_token c.tokens.at c.tokens.joined c.in-Ok.piece ∷ []) = grind (arith, common_steps) in
    record {
      utf8 = rw rest left;
      place = let n = ap length rest in omega (arith, n, within.1, length-drop c.in-Ok.piece.len c.tokens.rest.now, c.tokens.invariant.place);
      read = rw (rest, items) (sym (piece_step c.tokens.tokens.items c.tokens.at c.tokens.joined c.tokens.rest.now c.in-Ok.piece some black read) ∙ c.tokens.invariant.read);
    }

pub returns : goal.returns
returns c =
    let none : length c.tokens.rest.now ≡ 0 = grind (arith, nat_tests) in
    ap (λ (ts : List Placed). record { tokens = ts; fault = None }) (sym (append-nil c.tokens.tokens.items))
    ∙ sym (scan_done c.tokens.tokens.items c.tokens.at c.tokens.joined c.tokens.rest.now none) ∙ c.tokens.invariant.read
