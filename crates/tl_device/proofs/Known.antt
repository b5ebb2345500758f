-- How what is told of bytes, of room and of faults goes on from one call to the next.
use Rattle.std.proofs.Common.{◌≡◌, ◌↔◌, ℕ, ◌+◌, List, [], ◌++◌, None, Some, IfSome, Option, Result, Ok, Err, OnOk, OnErr, refl, sym, ap, ◌∙◌, append_assoc, append-nil, arith}
use Rattle.std.specs.Prelude.{Bool, if◌then◌else◌, is_err}
use Rattle.tl_device.specs.Plain.{Calls}
use Rattle.tl_device.specs.Calls.{one_more, next_fails, after_call}
use Rattle.tl_device.specs.Known.{prepend_known, append_known, spend_room}

-- no byte before them changes nothing
pub prepend_none : (known : Option (List ℕ)) → prepend_known [] known ≡ known
prepend_none None = refl
prepend_none (Some bytes) = refl

-- what two reads took, one after the other
pub prepend_both : (xs ys : List ℕ) (known : Option (List ℕ)) → prepend_known (xs ++ ys) known ≡ prepend_known xs (prepend_known ys known)
prepend_both xs ys None = refl
prepend_both xs ys (Some bytes) = ap Some (append_assoc xs ys bytes)

-- what two writes wrote, one after the other
pub append_both : (known : Option (List ℕ)) (xs ys : List ℕ) → append_known known (xs ++ ys) ≡ append_known (append_known known xs) ys
append_both None xs ys = refl
append_both (Some bytes) xs ys = ap Some (sym (append_assoc bytes xs ys))

-- what two writes spent, one after the other
pub spend_both : (spare : Option ℕ) (n m : ℕ) → spend_room spare (n + m) ≡ spend_room (spend_room spare n) m
spend_both None n m = refl
spend_both (Some room) n m = ap Some (omega arith)

-- a read that takes nothing where there is room leaves nothing
pub none_left : (before after : Option (List ℕ)) (n : ℕ) → n ≡ 0 → before ≡ after → IfSome before (λ bytes. (n ≡ 0) ↔ (bytes ≡ [])) → IfSome after (λ bytes. bytes ≡ [])
none_left before None n none same end = tt
none_left None (Some after) n none same end = absurd (none≢some same)
  where
    none≢some : None ≡ Some after → ⊥
    none≢some e = cc
none_left (Some before) (Some after) n none same end = let empty = end.0 none in cc

-- what holds in any case holds at a success
pub at_any_success : {T E P : Type 0} (r : Result T E) → P → OnOk r P
at_any_success (Ok x) p = p
at_any_success (Err e) p = tt

-- what follows from what a success gives and from what an error gives holds in any case
pub at_either : {T E A B P : Type 0} (r : Result T E) → OnOk r A → OnErr r B → (A → P) → (B → P) → P
at_either (Ok x) a b f g = f a
at_either (Err e) a b f g = g b

-- what follows from what a success gives holds at a success
pub then_success : {T E A P : Type 0} (r : Result T E) → (A → P) → OnOk r A → OnOk r P
then_success (Ok x) f a = f a
then_success (Err e) f a = tt

-- what follows from what an error gives holds at an error
pub then_error : {T E A P : Type 0} (r : Result T E) → (A → P) → OnErr r A → OnErr r P
then_error (Ok x) f a = tt
then_error (Err e) f a = f a

-- a call that succeeds is not among those that are to fail, and leaves the count of faults
pub sure_call : {T E : Type 0} (r : Result T E) (old new : Calls) → is_err r ≡ next_fails old → new ≡ after_call old → OnOk r (new.faults ≡ old.faults)
sure_call (Ok x) old new fails after = ap (λ (calls : Calls). calls.faults) after ∙ ap (λ (b : Bool). if b then one_more old.faults else old.faults) (sym fails)
sure_call (Err e) old new fails after = tt

-- a read after what was read so far
pub read_more : (first before after : Option (List ℕ)) (bytes taken newer : List ℕ) → first ≡ prepend_known bytes before → before ≡ prepend_known taken after → newer ≡ bytes ++ taken → first ≡ prepend_known newer after
read_more first before after bytes taken newer so_far more joined =
    so_far ∙ ap (prepend_known bytes) more ∙ sym (prepend_both bytes taken after) ∙ ap (λ xs. prepend_known xs after) (sym joined)

-- what was read to the end is all that was left
pub all_taken : (before after : Option (List ℕ)) (bytes : List ℕ) → before ≡ prepend_known bytes after → IfSome after (λ left. left ≡ []) → IfSome before (λ left. bytes ≡ left)
all_taken None after bytes taken end = tt
all_taken (Some left) None bytes taken end = absurd (some≢none taken)
  where
    some≢none : Some left ≡ None → ⊥
    some≢none e = cc
all_taken (Some left) (Some rest) bytes taken end =
    let joined : bytes ++ rest ≡ bytes = ap (λ xs. bytes ++ xs) end ∙ append-nil bytes in cc
