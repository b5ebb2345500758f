use Rattle.std.proofs.Common.{◌≡◌, ◌-◌, ◌∷◌, ◌++◌, length, get_or, take, drop, sym, ap, subst, arith, length-append}
use Rattle.std.specs.declared.cmp.Ordering.TheVariants.{Less, Equal, Greater}
use Rattle.tl_column.specs.Dictionary.{text_of}
use Rattle.tl_column.specs.Runs.{IsRun, LacksText}
use Rattle.tl_column.proofs.Ordered.{order, same_from_equal}
use Rattle.tl_column.proofs.RunFacts.{item_between, run_front, run_back, lacks_behind, lacks_before}
use Rattle.tl_column.proofs.runs.+code_in_run.Goals as goal

pub at-requires : goal.at-requires
at-requires t c =
    let run = c.args.run.now in
    let front = c.split_at.result.0.now in
    let back = c.split_at.result.1.now in
    let code = get_or back 0 0 in
    let rest = take (length back - 1) (drop 1 back) in
    let parts : front ++ code ∷ rest ≡ run = item_between _ run front back c.split_at.ensures.front c.split_at.ensures.back c.in-len1-up.len_at_least in
    let ordered : IsRun c.args.texts.now (front ++ code ∷ rest) = subst (λ xs. IsRun c.args.texts.now xs) (sym parts) c.requires.1.1 in
    (run_back c.args.texts.now front (code ∷ rest) ordered).0

pub code_in_run-requires : goal.code_in_run-requires
code_in_run-requires t c =
    let run = c.args.run.now in
    let front = c.split_at.result.0.now in
    let back = c.split_at.result.1.now in
    let code = get_or back 0 0 in
    let rest = take (length back - 1) (drop 1 back) in
    let parts : front ++ code ∷ rest ≡ run = item_between _ run front back c.split_at.ensures.front c.split_at.ensures.back c.in-len1-up.len_at_least in
    let ordered : IsRun c.args.texts.now (front ++ code ∷ rest) = subst (λ xs. IsRun c.args.texts.now xs) (sym parts) c.requires.1.1 in
    (omega (arith, ap length parts, length-append front (code ∷ rest)), (run_back c.args.texts.now front (code ∷ rest) ordered).2)

pub code_in_run-requires-in-Greater : goal.code_in_run-requires-in-Greater
code_in_run-requires-in-Greater t c =
    let run = c.args.run.now in
    let front = c.split_at.result.0.now in
    let back = c.split_at.result.1.now in
    let code = get_or back 0 0 in
    let rest = take (length back - 1) (drop 1 back) in
    let parts : front ++ code ∷ rest ≡ run = item_between _ run front back c.split_at.ensures.front c.split_at.ensures.back c.in-len1-up.len_at_least in
    let ordered : IsRun c.args.texts.now (front ++ code ∷ rest) = subst (λ xs. IsRun c.args.texts.now xs) (sym parts) c.requires.1.1 in
    (omega (arith, ap length parts, length-append front (code ∷ rest)), run_front c.args.texts.now front (code ∷ rest) ordered)

pub returns-in-Less-clause-absent : goal.returns-in-Less-clause-absent
returns-in-Less-clause-absent t c =
    let run = c.args.run.now in
    let front = c.split_at.result.0.now in
    let back = c.split_at.result.1.now in
    let code = get_or back 0 0 in
    let rest = take (length back - 1) (drop 1 back) in
    let parts : front ++ code ∷ rest ≡ run = item_between _ run front back c.split_at.ensures.front c.split_at.ensures.back c.in-len1-up.len_at_least in
    let ordered : IsRun c.args.texts.now (front ++ code ∷ rest) = subst (λ xs. IsRun c.args.texts.now xs) (sym parts) c.requires.1.1 in
    let less : order (text_of c.args.texts.now code) c.args.text.now ≡ Less = cc in
    λ none. subst (λ xs. LacksText c.args.texts.now c.args.text.now xs) parts
    (lacks_behind c.args.texts.now c.args.text.now front code rest ordered less (c.code_in_run.ensures.absent none))

pub returns-in-Greater-clause-absent : goal.returns-in-Greater-clause-absent
returns-in-Greater-clause-absent t c =
    let run = c.args.run.now in
    let front = c.split_at.result.0.now in
    let back = c.split_at.result.1.now in
    let code = get_or back 0 0 in
    let rest = take (length back - 1) (drop 1 back) in
    let parts : front ++ code ∷ rest ≡ run = item_between _ run front back c.split_at.ensures.front c.split_at.ensures.back c.in-len1-up.len_at_least in
    let ordered : IsRun c.args.texts.now (front ++ code ∷ rest) = subst (λ xs. IsRun c.args.texts.now xs) (sym parts) c.requires.1.1 in
    let greater : order (text_of c.args.texts.now code) c.args.text.now ≡ Greater = cc in
    λ none. subst (λ xs. LacksText c.args.texts.now c.args.text.now xs) parts
    (lacks_before c.args.texts.now c.args.text.now front code rest ordered greater (c.code_in_run-in-Greater.ensures.absent none))

pub returns-in-Equal-clause-valid : goal.returns-in-Equal-clause-valid
returns-in-Equal-clause-valid t c =
    let run = c.args.run.now in
    let front = c.split_at.result.0.now in
    let back = c.split_at.result.1.now in
    let code = get_or back 0 0 in
    let rest = take (length back - 1) (drop 1 back) in
    let parts : front ++ code ∷ rest ≡ run = item_between _ run front back c.split_at.ensures.front c.split_at.ensures.back c.in-len1-up.len_at_least in
    let ordered : IsRun c.args.texts.now (front ++ code ∷ rest) = subst (λ xs. IsRun c.args.texts.now xs) (sym parts) c.requires.1.1 in
    (run_back c.args.texts.now front (code ∷ rest) ordered).0

pub returns-in-Equal-clause-found : goal.returns-in-Equal-clause-found
returns-in-Equal-clause-found t c =
    let code = get_or c.split_at.result.1.now 0 0 in
    let equal : order (text_of c.args.texts.now code) c.args.text.now ≡ Equal = cc in
    same_from_equal (text_of c.args.texts.now code) c.args.text.now equal
