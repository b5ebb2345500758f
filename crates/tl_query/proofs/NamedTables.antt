-- The table that a name means.
use Rattle.std.proofs.Common.{◌≡◌, ℕ, Some, refl, slice_get}
use Rattle.std.specs.Option.{option_map}
use Rattle.tl_types.specs.Plain as plain
use Rattle.tl_types.specs.Resolving.{find_table}
use Rattle.tl_types.proofs.FoundTables.{table_found, schema_found}
use Rattle.tl_query.specs.declared.ast.Name.{Name}
use Rattle.tl_query.specs.Checking.{table_named}

-- the number of the table with a name, and the schema at that number, are what the name means
pub named_found : (db : plain.Database) (name : Name) (number : ℕ) (schema : plain.Schema) → option_map (λ found. found.0) (find_table name.text db.tables) ≡ Some number → Some schema ≡ option_map (λ u. u.schema) (slice_get db.tables number) → Some (number, schema) ≡ table_named db name
named_found db name number schema h e =
    let f = table_found db name.text number h in
    let s = schema_found db name.text number schema f e in
    rw (f.named, s) refl
