-- The entries of a history without marks.
use Rattle.std.proofs.Common.{◌≡◌, ℕ, Bool, true, false, List, [], ◌∷◌, ◌++◌, length, map, Option, Some, None, refl, sym, ap, ◌∙◌, subst, append_assoc, append-nil, cond}
use Rattle.std.specs.List.{fold}
use Rattle.tl_types.specs.declared.commits.Commit.{Commit}
use Rattle.tl_types.specs.declared.commits.Entry.{Entry}
use Rattle.tl_types.specs.declared.commits.Entry.TheVariants as entry
use Rattle.tl_types.specs.Entries.{commits_of}
use Rattle.tl_types.specs.Marks.{due, table_in, with_due, paced_step, paced}
use Rattle.tl_index.specs.Snapshots.{commit_entry}
use Rattle.tl_group.specs.Keeping.{AreCommitsAlone}

-- no mark is due where k is 0
never_due : (entries : List Entry) (table : ℕ) → due entries table 0 ≡ false
unfolding due
never_due entries table = refl

none_due : (table : Option ℕ) (entries : List Entry) → with_due 0 table entries ≡ entries
none_due None entries = refl
none_due (Some table) entries = by_due (due entries table 0) (never_due entries table) where
  by_due : (b : Bool) → b ≡ false → cond b (entries ++ entry.Mark table (length (commits_of entries)) ∷ []) entries ≡ entries
  by_due true never = absurd (cc)
  by_due false never = refl

-- commits without marks are their entries alone
alone_from : (entries : List Entry) (commits : List Commit) → fold (paced_step 0) entries commits ≡ entries ++ map commit_entry commits
alone_from entries [] = sym (append-nil entries)
alone_from entries (c ∷ commits) =
    let next = entries ++ entry.Commit c ∷ [] in
    alone_from (paced_step 0 entries c) commits
    ∙ ap (λ es. es ++ map commit_entry commits) (none_due (table_in entries c.body) next)
    ∙ append_assoc entries (entry.Commit c ∷ []) (map commit_entry commits)

pub paced_none : (commits : List Commit) → paced commits 0 ≡ map commit_entry commits
paced_none commits = alone_from [] commits

-- the entries of a history without marks
pub alone_paced : (snapshot entries : List Entry) → snapshot ≡ entries → entries ≡ paced (commits_of entries) 0 → AreCommitsAlone snapshot
alone_paced snapshot entries same pace = subst (λ es. AreCommitsAlone es) (sym same) (pace ∙ paced_none (commits_of entries))
