-- Rows that have a number where the kind asks for it, of which some are left out.
use Rattle.std.proofs.Common.{ℕ, Bool, true, false, cond, List, [], ◌∷◌, Option}
use Rattle.std.specs.List.{filter}
use Rattle.tl_types.specs.Plain as plain
use Rattle.tl_query.specs.declared.ast.AggKind.{AggKind}
use Rattle.tl_query.specs.declared.ast.AggKind.TheVariants as kind
use Rattle.tl_running.specs.Standing.{HaveNumbers, Suits}

have_filter : (column : Option ℕ) (p : plain.Row → Bool) (rows : List plain.Row) → HaveNumbers column rows → HaveNumbers column (filter p rows)
have_filter column p [] h = tt
have_filter column p (r ∷ rows) h = by_test (p r) (have_filter column p rows h.1) where
  by_test : (b : Bool) → HaveNumbers column (filter p rows) → HaveNumbers column (cond b (r ∷ filter p rows) (filter p rows))
  by_test true later = (h.0, later)
  by_test false later = later

pub suits_filter : (k : AggKind) (column : Option ℕ) (p : plain.Row → Bool) (rows : List plain.Row) → Suits k column rows → Suits k column (filter p rows)
suits_filter kind.Count column p rows s = tt
suits_filter kind.Sum column p rows s = have_filter column p rows s
suits_filter kind.Avg column p rows s = have_filter column p rows s
suits_filter kind.Min column p rows s = have_filter column p rows s
suits_filter kind.Max column p rows s = have_filter column p rows s
