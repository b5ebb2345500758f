-- A part of a chunk is a part of the list.
use Rattle.std.proofs.Common.{◌≡◌, ℕ, ◌+◌, ◌-◌, ◌*◌, ◌<◌, ◌≤◌, min, List, length, take, drop, sym, ap, ◌∙◌, arith}
use Rattle.std.proofs.lemmas.List.{drop-take, drop-drop, take-take, length-take, length-take-le, length-drop}

module _ {X : Type 0} (list chunk rest run : List X) (size i start from to count : ℕ) (chunk_is : chunk ≡ take size (drop (size * i) list)) (rest_is : rest ≡ drop start chunk) (run_is : run ≡ take count rest) (from_is : from ≡ size * i + start) (small : start < size) (some : from < to) (within : to ≤ length list) (count_is : count ≡ min (length rest) (to - from)) where
  behind : rest ≡ take (size - start) (drop from list)
  behind =
      let e : size ≡ start + (size - start) = omega arith in
      rest_is ∙ ap (drop start) (chunk_is ∙ ap (λ n. take n (drop (size * i) list)) e) ∙ drop-take start (size - start) (drop (size * i) list)
      ∙ ap (take (size - start)) (drop-drop start (size * i) list ∙ ap (λ n. drop n list) (sym from_is))

  rest_len : length rest ≡ min (size - start) (length list - from)
  rest_len = ap length behind ∙ length-take (size - start) (drop from list) ∙ ap (min (size - start)) (length-drop from list)

  pub run_len : length run ≡ min (to - from) (size - start)
  run_len = let e = rest_len in ap length run_is ∙ length-take-le count rest (omega arith) ∙ omega arith

  pub run_part : run ≡ take (length run) (drop from list)
  run_part =
      let e = rest_len in
      let l = run_len in
      run_is ∙ ap (take count) behind ∙ take-take count (size - start) (drop from list) (omega arith)
      ∙ ap (λ n. take n (drop from list)) (let f : count ≡ length run = omega arith in f)
