-- The schema of a table never changes, so a batch that matches what was seen matches what is written.
use Rattle.std.proofs.Common.{◌≡◌, ℕ, true, List, Option, Some, None, refl, sym, ap, ◌∙◌, subst, IsTrue}
use Rattle.std.specs.Prelude.{is_some}
use Rattle.std.specs.List.{fold, list_all}
use mathlib.Core.List.{IsPrefix}
use Rattle.tl_types.specs.declared.batches.Batch.{Batch}
use Rattle.tl_types.specs.declared.batches.Batch.TheVariants as batch
use Rattle.tl_types.specs.declared.commits.Entry.{Entry}
use Rattle.tl_types.specs.Entries.{commits_of}
use Rattle.tl_types.specs.History.{after_commit, matches}
use Rattle.tl_types.specs.Legality.{database_behind}
use Rattle.tl_types.specs.Plain as plain
use Rattle.tl_types.specs.Resolving.{find_table}
use Rattle.tl_types.proofs.BodyLemmas.{StaysKnown, known_later}
use Rattle.tl_types.proofs.EntryLemmas.{database_behind-append}
use Rattle.tl_batch.specs.Made.{batch_matches, rows_fit_found, names_table}

-- rows that match a table that was found still match it
rows_stay : (lines : List plain.Opened) (old now : Option (ℕ × plain.Table)) → StaysKnown old now → is_some old ≡ true → rows_fit_found lines old ≡ true → rows_fit_found lines now ≡ true
rows_stay lines None now stays there fits = absurd (cc)
rows_stay lines (Some x) None stays there fits = absurd stays
rows_stay lines (Some x) (Some y) stays there fits = subst (λ schema. list_all (matches schema) lines ≡ true) (sym stays.1) fits

-- a table that a name finds over what was seen is found over what is seen later
pub known_on : (old new : List Entry) (name : List ℕ) → IsPrefix old new → StaysKnown (find_table name (database_behind old).tables) (find_table name (database_behind new).tables)
known_on old new name begins =
    let more : database_behind new ≡ fold after_commit (database_behind old) (commits_of begins.0) = ap database_behind (sym begins.1) ∙ database_behind-append old begins.0 in
    subst (λ (db : plain.Database). StaysKnown (find_table name (database_behind old).tables) (find_table name db.tables)) (sym more) (known_later name (database_behind old) (commits_of begins.0))

pub matches_on : (old new : List Entry) (b : Batch) → IsPrefix old new → IsTrue (names_table (database_behind old) b) → IsTrue (batch_matches (database_behind old) b) → IsTrue (batch_matches (database_behind new) b)
matches_on old new (batch.Create schema) begins there fits = refl
matches_on old new (batch.Put name lines) begins there fits =
    rows_stay lines (find_table name (database_behind old).tables) (find_table name (database_behind new).tables) (known_on old new name begins) there fits
matches_on old new (batch.Remove name lines) begins there fits = refl
matches_on old new (batch.Sync name lines) begins there fits =
    rows_stay lines (find_table name (database_behind old).tables) (find_table name (database_behind new).tables) (known_on old new name begins) there fits
matches_on old new (batch.Moment moment) begins there fits = refl
matches_on old new (batch.Forget name floor) begins there fits = refl
