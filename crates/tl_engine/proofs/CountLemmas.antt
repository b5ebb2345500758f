-- A list of entries with one entry more.
use Rattle.std.proofs.Common.{◌≡◌, ℕ, ◌+◌, List, [], ◌∷◌, ◌++◌, refl, sym, ap, ◌∙◌, arith, append_assoc}
use mathlib.Core.List.{IsPrefix}
use Rattle.tl_types.specs.declared.commits.Commit.{Commit}
use Rattle.tl_types.specs.declared.commits.Entry.{Entry}
use Rattle.tl_types.specs.declared.commits.Entry.TheVariants as entry
use Rattle.tl_index.specs.Snapshots.{commit_entry, break_entry}
use Rattle.tl_engine.specs.Counting.{news, Continues}

pub begins_on : (a b c : List Entry) → IsPrefix a b → IsPrefix b c → IsPrefix a c
begins_on a b c p q = (p.0 ++ q.0, sym (append_assoc a p.0 q.0) ∙ (ap (λ z. z ++ q.0) p.1 ∙ q.1))

pub news_split : (a b : List Entry) → news (a ++ b) ≡ news a + news b
news_split [] b = omega arith
news_split (entry.Commit c ∷ a) b = omega (arith, news_split a b)
news_split (entry.Mark n v ∷ a) b = news_split a b
news_split (entry.Break c ∷ a) b = omega (arith, news_split a b)

continues : (first_entries written new : List Entry) (total more : ℕ) (e : Entry) → news (e ∷ []) ≡ 1 → new ≡ written ++ e ∷ [] → more ≡ total + 1 → Continues first_entries written total → Continues first_entries new more
continues first_entries written new total more e one is count goes =
    record {
      begins = begins_on first_entries written new goes.begins (e ∷ [], sym is);
      counted = omega (arith, goes.counted, ap news is, news_split written (e ∷ []), one, count);
    }

pub continues_with_commit : (first_entries written new : List Entry) (total more : ℕ) (c : Commit) → new ≡ written ++ commit_entry c ∷ [] → more ≡ total + 1 → Continues first_entries written total → Continues first_entries new more
continues_with_commit first_entries written new total more c = continues first_entries written new total more (commit_entry c) refl

pub continues_with_break : (first_entries written new : List Entry) (total more : ℕ) (c : Commit) → new ≡ written ++ break_entry c ∷ [] → more ≡ total + 1 → Continues first_entries written total → Continues first_entries new more
continues_with_break first_entries written new total more c = continues first_entries written new total more (break_entry c) refl
