use Rattle.std.proofs.Common.{◌≡◌, ◌-◌, ◌^◌, min, take}
use Rattle.tl_query.specs.Scanning.{digits_value}
use Rattle.tl_query.proofs.scanning.digits_value.Given as goal

abbrev pub invariant-loop-digit : goal.invariant-loop-digit
invariant-loop-digit l = l.number ≡ min (digits_value (take l.digit-index l.digits)) (2 ^ 64 - 1)
