-- The commits and the break of a history with one entry more.
use Rattle.std.proofs.Common.{◌≡◌, true, false, List, [], ◌∷◌, ◌++◌, refl, ap}
use Rattle.tl_types.specs.declared.commits.Commit.{Commit}
use Rattle.tl_types.specs.declared.commits.Entry.{Entry}
use Rattle.tl_types.specs.declared.commits.Entry.TheVariants as entry
use Rattle.tl_types.specs.Entries.{commits_of, has_break}
use Rattle.tl_index.specs.Snapshots.{commit_entry, break_entry}
use Rattle.tl_history.specs.Lists.{tried_commits}

-- with the entry of a commit there is that commit more
pub commits_more : (entries : List Entry) (c : Commit) → commits_of (entries ++ commit_entry c ∷ []) ≡ commits_of entries ++ c ∷ []
commits_more [] c = refl
commits_more (entry.Commit d ∷ entries) c = ap (λ cs. d ∷ cs) (commits_more entries c)
commits_more (entry.Mark table version ∷ entries) c = commits_more entries c
commits_more (entry.Break d ∷ entries) c = commits_more entries c

-- with a break the commits are the same
pub commits_at_break : (entries : List Entry) (c : Commit) → commits_of (entries ++ break_entry c ∷ []) ≡ commits_of entries
commits_at_break [] c = refl
commits_at_break (entry.Commit d ∷ entries) c = ap (λ cs. d ∷ cs) (commits_at_break entries c)
commits_at_break (entry.Mark table version ∷ entries) c = commits_at_break entries c
commits_at_break (entry.Break d ∷ entries) c = commits_at_break entries c

-- the entry of a commit is no break
pub break_same : (entries : List Entry) (c : Commit) → has_break (entries ++ commit_entry c ∷ []) ≡ has_break entries
break_same [] c = refl
break_same (entry.Commit d ∷ entries) c = break_same entries c
break_same (entry.Mark table version ∷ entries) c = break_same entries c
break_same (entry.Break d ∷ entries) c = refl

-- with a break there is one
pub break_there : (entries : List Entry) (c : Commit) → has_break (entries ++ break_entry c ∷ []) ≡ true
break_there [] c = refl
break_there (entry.Commit d ∷ entries) c = break_there entries c
break_there (entry.Mark table version ∷ entries) c = break_there entries c
break_there (entry.Break d ∷ entries) c = refl

-- with the entry of a commit, or with its break, there is one commit more that was tried
pub tried_more : (entries : List Entry) (c : Commit) → tried_commits (entries ++ commit_entry c ∷ []) ≡ tried_commits entries ++ c ∷ []
tried_more [] c = refl
tried_more (entry.Commit d ∷ entries) c = ap (λ cs. d ∷ cs) (tried_more entries c)
tried_more (entry.Mark table version ∷ entries) c = tried_more entries c
tried_more (entry.Break d ∷ entries) c = ap (λ cs. d ∷ cs) (tried_more entries c)

pub tried_at_break : (entries : List Entry) (c : Commit) → tried_commits (entries ++ break_entry c ∷ []) ≡ tried_commits entries ++ c ∷ []
tried_at_break [] c = refl
tried_at_break (entry.Commit d ∷ entries) c = ap (λ cs. d ∷ cs) (tried_at_break entries c)
tried_at_break (entry.Mark table version ∷ entries) c = tried_at_break entries c
tried_at_break (entry.Break d ∷ entries) c = ap (λ cs. d ∷ cs) (tried_at_break entries c)

-- where there is no break, all that was tried are the commits
pub tried_whole : (entries : List Entry) → has_break entries ≡ false → tried_commits entries ≡ commits_of entries
tried_whole [] whole = refl
tried_whole (entry.Commit d ∷ entries) whole = ap (λ cs. d ∷ cs) (tried_whole entries whole)
tried_whole (entry.Mark table version ∷ entries) whole = tried_whole entries whole
tried_whole (entry.Break d ∷ entries) whole = absurd (cc)
