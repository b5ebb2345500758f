-- Writing parts one after another.
use Rattle.std.proofs.Common.{◌≡◌, ℕ, ◌+◌, ◌<◌, ◌≤◌, arith, drop, List, [], ◌∷◌, ◌++◌, length, take, get_or, refl, sym, ◌∙◌, ap, append-nil}
use Rattle.std.proofs.lemmas.List.{take_more}
use Rattle.std.proofs.lemmas.List.Concat.{flat_map-append}
use Rattle.tl_query.specs.declared.terminals.Terminal.{Terminal}
use Rattle.tl_query.specs.Grammar.{Part, terminal, each_after, separated}
use Rattle.tl_query.specs.Printing.{Written, terminal_word, word_of, put, write}

pub write_append : (xs ys : List Part) (w : Written) → write w (xs ++ ys) ≡ write (write w xs) ys
write_append [] ys w = refl
write_append (x ∷ xs) ys w = write_append xs ys (put w (word_of x))

-- one thing more
pub write_more : {A : Type 0} (m : Terminal) (parts : A → List Part) (xs : List A) (i : ℕ) (w : Written) (x : A) → i < length xs → x ≡ get_or xs i x → write (put (write w (each_after m parts (take i xs))) (terminal_word m)) (parts x) ≡ write w (each_after m parts (take (i + 1) xs))
write_more m parts xs i w x h e =
    let one : each_after m parts (take (i + 1) xs) ≡ each_after m parts (take i xs) ++ (terminal m ∷ parts x) =
    ap (each_after m parts) (take_more xs i x h) ∙ flat_map-append (λ x. terminal m ∷ parts x) (take i xs) (get_or xs i x ∷ []) ∙ ap (λ x. each_after m parts (take i xs) ++ (terminal m ∷ parts x ++ [])) (sym e) ∙ ap (λ y. each_after m parts (take i xs) ++ (terminal m ∷ y)) (append-nil (parts x)) in
    sym (ap (write w) one ∙ write_append (each_after m parts (take i xs)) (terminal m ∷ parts x) w)

-- the first thing, and those after it
pub write_first : {A : Type 0} (m : Terminal) (parts : A → List Part) (xs : List A) (x : A) (rest : List A) (w : Written) → 1 ≤ length xs → x ≡ get_or xs 0 x → rest ≡ drop 1 xs → write (write w (parts x)) (each_after m parts rest) ≡ write w (separated m parts xs)
write_first m parts [] x rest w h e f = absurd (omega arith)
write_first m parts (y ∷ ys) x rest w h e f = ap (λ rest. write (write w (parts x)) (each_after m parts rest)) f ∙ ap (λ x. write (write w (parts x)) (each_after m parts ys)) e ∙ sym (write_append (parts y) (each_after m parts ys) w)
