-- What a listing answers, by the bytes of a journal.
use Rattle.std.specs.Prelude.{◌≡◌, ℕ, List, [], ◌++◌, codes, Option, Some, None, option_map}
use Rattle.std.specs.Fmt.{decimal}
use Rattle.tl_types.specs.declared.commits.Commit.{Commit}
use Rattle.tl_types.specs.History.{database_of}
use Rattle.tl_types.specs.Legality.{FitInTurn}
use Rattle.tl_types.specs.Limits.{standard_limits}
use Rattle.tl_types.specs.Resolving.{find_table}
use Rattle.tl_journal.specs.Answers.{IsTooShort}
use Rattle.tl_journal.specs.Image.{ImageStandsOnlyFor}
use Rattle.tl_replay.specs.Fitting.{IsDamaged}
use Rattle.tl_log.specs.declared.listings.Listing.{Listing}
use Rattle.tl_log.specs.declared.listings.Listing.TheVariants as listing
use Rattle.tl_log.specs.declared.reports.ListFault.{ListFault}
use Rattle.tl_log.specs.declared.reports.ListFault.TheVariants as fault
use Rattle.tl_log.specs.Listing.{log_text, tables_text}
use Rattle.tl_log.specs.Rows.{rows_text}

-- the text of a listing over commits: of rows, where there is a table with the name
abbrev pub listing_text : Listing → List Commit → Option (List ℕ)
listing_text listing.Commits commits = Some (log_text commits)
listing_text listing.Tables commits = Some (tables_text commits)
listing_text (listing.Rows name) commits =
    option_map (λ found. rows_text found.1) (find_table name (database_of commits).tables)

-- the text is the listing of the journal that the bytes are, whose commits fit one after the other
abbrev pub IsListing : Listing → List ℕ → List ℕ → Type 0
IsListing listing image text =
    (commits : List Commit) × ImageStandsOnlyFor commits image × FitInTurn standard_limits commits
    × (listing_text listing commits ≡ Some text)

-- the bytes are a journal, whose commits fit one after the other and make no table with the name
-- whose rows are to be listed
abbrev pub LacksTable : Listing → List ℕ → Type 0
LacksTable listing image =
    (commits : List Commit) × ImageStandsOnlyFor commits image × FitInTurn standard_limits commits
    × (listing_text listing commits ≡ None)

-- why bytes are not listed
abbrev pub IsRefusedFor : Listing → List ℕ → ListFault → Type 0
IsRefusedFor listing image (fault.NotInitialised len) = IsTooShort len image
IsRefusedFor listing image (fault.Damaged at) = IsDamaged standard_limits at image
IsRefusedFor listing image fault.UnknownTable = LacksTable listing image
IsRefusedFor listing image fault.NoMemory = Unit {0}

-- the name of the table whose rows are to be listed
abbrev pub table_asked : Listing → List ℕ
table_asked listing.Commits = []
table_asked listing.Tables = []
table_asked (listing.Rows name) = name

-- the line that says so
abbrev pub refusal_line : Listing → ListFault → List ℕ
refusal_line listing (fault.NotInitialised len) =
    codes "! journal NotInitialised " ++ (decimal len ++ codes "\n")
refusal_line listing (fault.Damaged at) =
    codes "! journal Damaged " ++ (decimal at ++ codes "\n")
refusal_line listing fault.UnknownTable =
    codes "! rows UnknownTable " ++ (table_asked listing ++ codes "\n")
refusal_line listing fault.NoMemory = []

-- the text is the line that says why the bytes are not listed
abbrev pub IsRefusal : Listing → List ℕ → List ℕ → Type 0
IsRefusal listing image text =
    (f : ListFault) × IsRefusedFor listing image f × (text ≡ refusal_line listing f)
