-- The table that is found is the one whose schema is asked for.
use Rattle.std.proofs.Common.{◌≡◌, ◌∙◌, ℕ, Bool, true, false, List, refl, sym, ap, IsTrue}
use Rattle.std.specs.Bool.{OnTrue}
use Rattle.std.specs.List.{list_all}
use Rattle.tl_types.specs.History.{database_of, matches}
use Rattle.tl_types.specs.Plain as plain
use Rattle.tl_types.specs.Resolving.{find_table}
use Rattle.tl_types.proofs.FoundTables.{IsFound, schema_found}
use Rattle.tl_batch.specs.Made.{rows_fit_found}
use Rattle.tl_batch.proofs.CommitLemmas.{found_now}
use Rattle.tl_tests_top.proofs.offers.fits_table.Goals as goal

rows_found : (db : plain.Database) (name : List ℕ) (number : ℕ) (schema : plain.Schema) (lines : List plain.Opened) (all : Bool) (found : IsFound db name number) → schema ≡ found.table.schema → all ≡ list_all (matches schema) lines → OnTrue all (IsTrue (rows_fit_found lines (find_table name db.tables)))
rows_found db name number schema lines true found of_table is =
    ap (rows_fit_found lines) found.named ∙ (ap (λ (s : plain.Schema). list_all (matches s) lines) (sym of_table) ∙ sym is)
rows_found db name number schema lines false found of_table is = tt

pub schema-requires : goal.schema-requires
schema-requires c =
    let found = found_now c.args.store.now c.args.store.now c.as_str.result.now c.args.table.now c.in-Some.number refl c.as_str.ensures.bytes c.in-Some.ensures in
    found.within

pub returns-in-Some-clause-matching : goal.returns-in-Some-clause-matching
returns-in-Some-clause-matching c =
    let db = database_of c.args.store.now in
    let found = found_now c.args.store.now c.args.store.now c.as_str.result.now c.args.table.now c.in-Some.number refl c.as_str.ensures.bytes c.in-Some.ensures in
    rows_found db c.args.table.now c.in-Some.number c.schema.result.now c.args.lines.now c.all_match.result found
    (schema_found db c.args.table.now c.in-Some.number c.schema.result.now found c.schema.ensures.value) c.all_match.ensures
