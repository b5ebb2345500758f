-- What was taken of a source where reading a block fails.
use Rattle.std.proofs.Common.{◌≡◌, ℕ, ◌+◌, ◌≤◌, List, ◌++◌, length, Option, Err, ap, sym, ◌∙◌, arith, append-nil, length-append}
use Rattle.tl_device.specs.Known.{prepend_known}
use Rattle.tl_device.proofs.Known.{prepend_both}
use Rattle.tl_script.specs.declared.phases.NextError.{NextError}
use Rattle.tl_script.specs.declared.phases.NextError.TheVariants as next
use Rattle.tl_script.specs.Reader.{FailsBlock, IsBlockError}
use Rattle.tl_script.specs.InHand.{Refills, RefillEnds}

-- what was taken before a read, and by it
both_taken : (first mid after : Option (List ℕ)) (bytes taken : List ℕ) → first ≡ prepend_known bytes mid → mid ≡ prepend_known taken after → first ≡ prepend_known (bytes ++ taken) after
both_taken first mid after bytes taken f m = f ∙ (ap (prepend_known bytes) m ∙ sym (prepend_both bytes taken after))

-- a read that failed, or being out of memory
pub block_fails : (most : ℕ) (first mid after : Option (List ℕ)) (bytes new : List ℕ) (e : NextError) → length bytes ≤ most → first ≡ prepend_known bytes mid → Refills bytes mid (Err e) new after → FailsBlock most first e after
block_fails most first mid after bytes new e few f refills =
    let len : length (bytes ++ refills.taken) ≡ length bytes + length refills.taken = length-append bytes refills.taken in
    let bound = refills.bound in
    record {
      taken = bytes ++ refills.taken;
      order = both_taken first mid after bytes refills.taken f refills.order;
      bound = omega arith;
      says = by_error e refills.ends;
    }
  where
    by_error : (e : NextError) → RefillEnds bytes refills.taken (Err e) new after → IsBlockError most (bytes ++ refills.taken) e
    by_error next.NoMemory ends = tt
    by_error (next.Source faults) none = let len : length (bytes ++ refills.taken) ≡ length bytes = ap length (ap (λ xs. bytes ++ xs) none ∙ append-nil bytes) in omega arith
    by_error (next.Fault f) ends = absurd ends
