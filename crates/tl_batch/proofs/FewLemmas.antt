-- The one or two ids of each key, where keys are compared by a test.
use Rattle.std.proofs.Common.{◌≡◌, ℕ, ℤ, Bool, true, false, ◌&&◌, ◌||◌, not, cond, nat_eq, List, [], ◌∷◌, Option, Some, None, is_some, Result, Ok, Err, IfOk, refl, sym, ap, ◌∙◌, arith}
use Rattle.std.specs.Cmp.{IsEquivalence}
use Rattle.std.specs.Map.{lookup}
use Rattle.std.specs.declared.alloc.AllocError.{AllocError}
use Rattle.tl_types.specs.declared.cells.Cell.{Cell}
use Rattle.tl_types.specs.declared.cells.Cell.TheVariants as cell
use Rattle.tl_types.specs.Names.{same_bytes}
use Rattle.tl_types.specs.History.{same_cell}
use Rattle.tl_batch.specs.declared.few_ids.FewIds.{FewIds}
use Rattle.tl_batch.specs.KeyIndex.{FewIdsByKey, is_of, is_among_few, is_at_key, has_few}

module _ {K : Type 0} (same : K → K → Bool) (laws : IsEquivalence same) where
  -- equal keys find the same
  same_found : (x y : K) (entries : List (K × FewIds)) → same x y ≡ true → lookup (same x) entries ≡ lookup (same y) entries
  same_found x y [] e = refl
  same_found x y (f ∷ entries) e = grind (arith, laws.congr x y f.0 e, same_found x y entries e)

  module _ (key : K) (w : Option FewIds) (before after : List (K × FewIds)) (change : (q : K) → lookup (same q) after ≡ cond (same key q) w (lookup (same q) before)) where
    at_change : (x : K) (n : ℕ) → is_at_key same after x n ≡ cond (same x key) (is_among_few w n) (is_at_key same before x n)
    at_change x n = grind (arith, change x, laws.symm key x)

    -- an id more
    pub few_more : (id : ℕ) → ((n : ℕ) → is_among_few w n ≡ (nat_eq n id || is_at_key same before key n))
        → (x : K) (n : ℕ) → is_at_key same after x n ≡ ((same x key && nat_eq n id) || is_at_key same before x n)
    few_more id more x n = grind (arith, at_change x n, more n, same_found x key before)

    -- an id less
    pub few_less : (id : ℕ) → ((n : ℕ) → is_among_few w n ≡ (not (nat_eq n id) && is_at_key same before key n))
        → (x : K) (n : ℕ) → is_at_key same after x n ≡ (not (same x key && nat_eq n id) && is_at_key same before x n)
    few_less id fewer x n = grind (arith, at_change x n, fewer n, same_found x key before)

    -- the same ids
    pub few_kept : ((n : ℕ) → is_among_few w n ≡ is_at_key same before key n) → (x : K) (n : ℕ) → is_at_key same after x n ≡ is_at_key same before x n
    few_kept kept x n = grind (arith, at_change x n, kept n, same_found x key before)

  -- a key that has no ids gets one
  pub few_first : (key : K) (id : ℕ) (ids : FewIds) (before after : List (K × FewIds)) → ((q : K) → lookup (same q) after ≡ cond (same key q) (Some ids) (lookup (same q) before))
      → ((n : ℕ) → is_of ids n ≡ nat_eq n id) → is_some (lookup (same key) before) ≡ false
      → (x : K) (n : ℕ) → is_at_key same after x n ≡ ((same x key && nat_eq n id) || is_at_key same before x n)
  few_first key id ids before after change one none = few_more key (Some ids) before after change id (by (lookup (same key) before) none) where
    by : (o : Option FewIds) → is_some o ≡ false → (n : ℕ) → is_of ids n ≡ (nat_eq n id || is_among_few o n)
    by None e n = grind (arith, one n)
    by (Some few) e n = absurd (cc)

  -- the ids of a key and one more
  pub few_with : (key : K) (id : ℕ) (ids more : FewIds) (before after : List (K × FewIds)) → ((q : K) → lookup (same q) after ≡ cond (same key q) (Some more) (lookup (same q) before))
      → Some ids ≡ lookup (same key) before → ((n : ℕ) → is_of more n ≡ (nat_eq n id || is_of ids n))
      → (x : K) (n : ℕ) → is_at_key same after x n ≡ ((same x key && nat_eq n id) || is_at_key same before x n)
  few_with key id ids more before after change there added = few_more key (Some more) before after change id (λ n. added n ∙ ap (λ o. nat_eq n id || is_among_few o n) there)

  -- the ids of a key, which stay
  pub few_same : (key : K) (ids : FewIds) (before after : List (K × FewIds)) → ((q : K) → lookup (same q) after ≡ cond (same key q) (Some ids) (lookup (same q) before))
      → Some ids ≡ lookup (same key) before → (x : K) (n : ℕ) → is_at_key same after x n ≡ is_at_key same before x n
  few_same key ids before after change there = few_kept key (Some ids) before after change (λ n. ap (λ o. is_among_few o n) there)

  -- the ids of a key but for one
  pub few_without : (key : K) (id : ℕ) (ids : FewIds) (left : Option FewIds) (before after : List (K × FewIds)) → ((q : K) → lookup (same q) after ≡ cond (same key q) left (lookup (same q) before))
      → Some ids ≡ lookup (same key) before → ((n : ℕ) → is_among_few left n ≡ (not (nat_eq n id) && is_of ids n))
      → (x : K) (n : ℕ) → is_at_key same after x n ≡ (not (same x key && nat_eq n id) && is_at_key same before x n)
  few_without key id ids left before after change there fewer = few_less key left before after change id (λ n. fewer n ∙ ap (λ o. not (nat_eq n id) && is_among_few o n) there)

  -- a key without ids
  pub few_none : (key : K) (id : ℕ) (entries : List (K × FewIds)) → None ≡ lookup (same key) entries → (x : K) (n : ℕ) → is_at_key same entries x n ≡ (not (same x key && nat_eq n id) && is_at_key same entries x n)
  few_none key id entries none x n = grind (arith, same_found x key entries)

-- TEXTS

module _ (numbers : List (ℤ × FewIds)) (before after : List (List ℕ × FewIds)) (all : FewIdsByKey) (view : record { numbers = numbers; texts = before } ≡ all) where
  pub text_reserved : ((x : List ℕ) → lookup (same_bytes x) after ≡ lookup (same_bytes x) before) → (x : Cell) (n : ℕ) → has_few (record { numbers = numbers; texts = after }) x n ≡ has_few all x n
  text_reserved kept (cell.Int i) n = ap (λ f. has_few f (cell.Int i) n) view
  text_reserved kept (cell.Text t) n = ap (λ o. is_among_few o n) (kept t) ∙ ap (λ f. has_few f (cell.Text t) n) view

  module _ (key : Cell) (t : List ℕ) (id : ℕ) (is : key ≡ cell.Text t) where
    text_added : (room : Bool) → ((x : List ℕ) (n : ℕ) → is_at_key same_bytes after x n ≡ ((room && (same_bytes x t && nat_eq n id)) || is_at_key same_bytes before x n))
        → (x : Cell) (n : ℕ) → has_few (record { numbers = numbers; texts = after }) x n ≡ ((room && (same_cell x (cell.Text t) && nat_eq n id)) || has_few (record { numbers = numbers; texts = before }) x n)
    text_added true more (cell.Int i) n = refl
    text_added false more (cell.Int i) n = refl
    text_added room more (cell.Text u) n = more u n

    text_removed : ((x : List ℕ) (n : ℕ) → is_at_key same_bytes after x n ≡ (not (same_bytes x t && nat_eq n id) && is_at_key same_bytes before x n))
        → (x : Cell) (n : ℕ) → has_few (record { numbers = numbers; texts = after }) x n ≡ (not (same_cell x (cell.Text t) && nat_eq n id) && has_few (record { numbers = numbers; texts = before }) x n)
    text_removed fewer (cell.Int i) n = refl
    text_removed fewer (cell.Text u) n = fewer u n

    pub removed_text : ((x : List ℕ) (n : ℕ) → is_at_key same_bytes after x n ≡ (not (same_bytes x t && nat_eq n id) && is_at_key same_bytes before x n))
        → (x : Cell) (n : ℕ) → has_few (record { numbers = numbers; texts = after }) x n ≡ (not (same_cell x key && nat_eq n id) && has_few all x n)
    removed_text fewer x n = text_removed fewer x n ∙ (ap (λ k. not (same_cell x k && nat_eq n id) && has_few (record { numbers = numbers; texts = before }) x n) (sym is) ∙ ap (λ f. not (same_cell x key && nat_eq n id) && has_few f x n) view)

    pub added_text : (r : Result Bool AllocError) → IfOk r (λ room. (x : List ℕ) (n : ℕ) → is_at_key same_bytes after x n ≡ ((room && (same_bytes x t && nat_eq n id)) || is_at_key same_bytes before x n))
        → IfOk r (λ room. (x : Cell) (n : ℕ) → has_few (record { numbers = numbers; texts = after }) x n ≡ ((room && (same_cell x key && nat_eq n id)) || has_few all x n))
    added_text (Err e) more = tt
    added_text (Ok room) more = λ x n. text_added room more x n ∙ (ap (λ k. (room && (same_cell x k && nat_eq n id)) || has_few (record { numbers = numbers; texts = before }) x n) (sym is) ∙ ap (λ f. (room && (same_cell x key && nat_eq n id)) || has_few f x n) view)
