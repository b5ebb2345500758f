-- What a crash leaves of a write behind the closed gate, and of the gate's opening.
use Rattle.std.proofs.Common.{◌≡◌, ◌≢◌, inl, inr, ℕ, ◌+◌, List, [], ◌∷◌, ◌++◌, length, get_or, take, drop, sym, refl, ◌∙◌, ap, subst, arith, append_assoc, length-append, take-append-drop}
use mathlib.Core.Logic.{dite}
use native.Mathlib.Decide.{ℕ_discrete}
use Rattle.std.proofs.lemmas.List.{take_at, drop_at, drop_more, take_all}
use Rattle.tl_types.specs.declared.commits.Commit.{Commit}
use Rattle.tl_record.specs.Spelling.{spelling, IsCommit}
use Rattle.tl_device.specs.Disk.{Holds, Torn, Follows, Only}
use Rattle.tl_journal.specs.Image.{header, OpenGates, Ends, IsGroup, NoneOrAll}
use Rattle.tl_journal.specs.Gates.{EndsGated}
use Rattle.tl_journal.proofs.Grouped.{inner_of, opens_all}

length_snoc : (front : List ℕ) (x : ℕ) → length (front ++ x ∷ []) ≡ length front + 1
length_snoc front x = length-append front (x ∷ [])

-- THE BODY

-- a write behind the closed gate leaves that gate, whatever else it does
pub torn_behind : (front : List ℕ) (at n : ℕ) (c : List ℕ) → at ≡ length front + 1 → Torn at n (front ++ 0 ∷ []) c → Ends front c
torn_behind front at n c is torn =
    let whole : take at c ≡ front ++ 0 ∷ [] = torn.before ∙ take_all _ _ (omega (arith, is, length_snoc front 0)) in
    (drop at c, sym (take-append-drop at c) ∙ (ap (λ l. l ++ drop at c) whole ∙ append_assoc front (0 ∷ []) (drop at c)))

-- what a crash leaves of it
pub write_leaves : (front : List ℕ) (at n : ℕ) (old new : List ℕ → Type 0) → at ≡ length front + 1 → Only (front ++ 0 ∷ []) old → Follows (Torn at n) old new → (c : List ℕ) → new c → Ends front c
write_leaves front at n old new is only follows c left =
    let from = follows c left in torn_behind front at n c is (subst (λ f. Torn at n f c) (only from.0 from.1) from.2)

pub ends_itself : (front : List ℕ) → Ends front (front ++ 0 ∷ [])
ends_itself front = ([], refl)

-- THE GATE, AND THE RECORD BEHIND IT

length_front : (front rest : List ℕ) (at : ℕ) → at ≡ length front → take at (front ++ rest) ≡ front
length_front front rest at is = take_at front rest at (sym is)

-- opening the gate leaves all but the gate
pub torn_gate : (front r : List ℕ) (at : ℕ) (c : List ℕ) → at ≡ length front → Torn at 1 (front ++ 0 ∷ (r ++ 0 ∷ [])) c → EndsGated front r c
torn_gate front r at c is torn =
    let staged : List ℕ = front ++ 0 ∷ (r ++ 0 ∷ []) in
    let split : staged ≡ (front ++ 0 ∷ []) ++ (r ++ 0 ∷ []) = sym (append_assoc front (0 ∷ []) (r ++ 0 ∷ [])) in
    let back : drop (at + 1) staged ≡ r ++ 0 ∷ [] = ap (λ l. drop (at + 1) l) split ∙ drop_at (front ++ 0 ∷ []) (r ++ 0 ∷ []) (at + 1) (omega (arith, is, length_snoc front 0)) in
    let long : length staged ≡ length front + length (0 ∷ (r ++ 0 ∷ [])) = length-append front (0 ∷ (r ++ 0 ∷ [])) in
    let gate : ℕ = get_or c at 0 in
    let rest : drop at c ≡ gate ∷ (r ++ 0 ∷ []) = drop_more c at 0 (omega (arith, is, long, torn.no_shorter)) ∙ ap (λ l. gate ∷ l) (torn.after ∙ back) in
    (gate, sym (take-append-drop at c) ∙ (ap (λ l. l ++ drop at c) (torn.before ∙ length_front front (0 ∷ (r ++ 0 ∷ [])) at is) ∙ ap (λ l. front ++ l) rest))

-- one commit more behind open gates
pub opens_more : (cs : List Commit) (front : List ℕ) (c : Commit) (gate : ℕ) → gate ≢ 0 → IsCommit c → OpenGates cs front → OpenGates (cs ++ c ∷ []) (front ++ gate ∷ spelling c)
opens_more cs front c gate is_open fits o = opens_all cs (c ∷ []) front gate is_open fits o

-- whatever the gate is, the image stands for the commits with all of the group or without
pub gated : (cs group : List Commit) (front image : List ℕ) → IsGroup group → OpenGates cs front → EndsGated (header ++ front) (inner_of group) image → NoneOrAll cs group image
gated cs group front image is o e = dite (ℕ_discrete e.0 0)
    (λ shut. inl (front, o, (inner_of group ++ 0 ∷ [], e.1 ∙ ap (λ g. (header ++ front) ++ g ∷ (inner_of group ++ 0 ∷ [])) shut)))
    (λ is_open. inr (front ++ e.0 ∷ inner_of group, opens_all cs group front e.0 is_open is o, ([], e.1 ∙ sym (append_assoc (header ++ front) (e.0 ∷ inner_of group) (0 ∷ [])) ∙ ap (λ l. l ++ 0 ∷ []) (append_assoc header front (e.0 ∷ inner_of group)))))

pub gate_leaves : (front r : List ℕ) (at : ℕ) (old new : List ℕ → Type 0) → at ≡ length front → Only (front ++ 0 ∷ (r ++ 0 ∷ [])) old → Follows (Torn at 1) old new → (c : List ℕ) → new c → EndsGated front r c
gate_leaves front r at old new is only follows c left =
    let from = follows c left in torn_gate front r at c is (subst (λ f. Torn at 1 f c) (only from.0 from.1) from.2)

pub written_gate : (front rest : List ℕ) (at : ℕ) (c : List ℕ) → at ≡ length front → Holds (front ++ 0 ∷ rest) at (1 ∷ []) c → c ≡ front ++ 1 ∷ rest
written_gate front rest at c is holds =
    let split : front ++ 0 ∷ rest ≡ (front ++ 0 ∷ []) ++ rest = sym (append_assoc front (0 ∷ []) rest) in
    let back : drop (at + 1) (front ++ 0 ∷ rest) ≡ rest = ap (λ l. drop (at + 1) l) split ∙ drop_at (front ++ 0 ∷ []) rest (at + 1) (omega (arith, is, length_snoc front 0)) in
    holds ∙ ap (λ l. l ++ (1 ∷ []) ++ drop (at + 1) (front ++ 0 ∷ rest)) (length_front front (0 ∷ rest) at is)
    ∙ ap (λ l. front ++ (1 ∷ []) ++ l) back ∙ append_assoc front (1 ∷ []) rest

pub gate_at_start : (front r : List ℕ) → EndsGated front r (front ++ 0 ∷ (r ++ 0 ∷ []))
gate_at_start front r = (0, refl)

-- with the old gate closed the image stands for the commits before
pub none_yet : (cs group : List Commit) (front : List ℕ) → OpenGates cs front → (image : List ℕ) → Ends (header ++ front) image → NoneOrAll cs group image
none_yet cs group front o image e = inl (front, o, e)
