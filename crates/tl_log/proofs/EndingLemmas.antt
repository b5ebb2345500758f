-- How a listing over commits ends, by what is written of it.
use Rattle.std.proofs.Common.{◌≡◌, ◌<◌, ℕ, List, Option, Some, None, ap, ◌∙◌, length, refl, slice_get, subst}
use mathlib.Core.Logic.{inl, inr}
use Rattle.std.specs.Prelude.{option_map}
use Rattle.tl_types.specs.declared.commits.Commit.{Commit}
use Rattle.tl_types.specs.History.{database_of}
use Rattle.tl_types.specs.Legality.{FitInTurn}
use Rattle.tl_types.specs.Limits.{standard_limits}
use Rattle.tl_types.specs.Plain as plain
use Rattle.tl_types.specs.Resolving.{find_table}
use Rattle.tl_types.proofs.FoundTables.{table_found, number_none}
use Rattle.tl_journal.specs.Image.{ImageStandsOnlyFor}
use Rattle.tl_log.specs.declared.listings.Listing.{Listing}
use Rattle.tl_log.specs.declared.listings.Listing.TheVariants as listing
use Rattle.tl_log.specs.declared.reports.ListFault.{ListFault}
use Rattle.tl_log.specs.declared.reports.ListFault.TheVariants as fault
use Rattle.tl_log.specs.declared.top.ListStatus.{ListStatus}
use Rattle.tl_log.specs.declared.top.ListStatus.TheVariants as status
use Rattle.tl_log.specs.Reading.{IsListing, IsRefusedFor, listing_text, refusal_line}
use Rattle.tl_log.specs.Rows.{rows_text}
use Rattle.tl_log.specs.Ending.{EndsListing, EndsShort, WritesAll, WritesPieces}

-- the bytes that are told
told_same : (image other : List ℕ) → Some image ≡ Some other → image ≡ other
told_same image other h = cc

-- where memory runs out before anything is written
pub ends_empty : (asked : Listing) (told old new : Option (List ℕ)) → new ≡ old → EndsShort asked told old new
ends_empty listing.Commits told old new h = h
ends_empty listing.Tables told old new h = h
ends_empty (listing.Rows name) told old new h = inl h

module _ (asked : Listing) (commits : List Commit) (image : List ℕ) (stands : ImageStandsOnlyFor commits image)
    (fitting : FitInTurn standard_limits commits) where
  listing_is : (text other : List ℕ) → listing_text asked commits ≡ Some text → Some image ≡ Some other → IsListing asked other text
  listing_is text other is told =
      (commits, subst (ImageStandsOnlyFor commits) (told_same image other told) stands, fitting, is)

  -- a listing that is written at once
  pub ends_whole : (text : List ℕ) (old new : Option (List ℕ)) (before after : ℕ) (ended : ListStatus)
      → listing_text asked commits ≡ Some text → WritesAll text status.Done old new before after ended
      → EndsListing asked (Some image) old new before after ended
  ends_whole text old new before after ended is (inl (e, w, sure)) =
      rw e ((λ other told. (text, listing_is text other is told, w)), sure)
  ends_whole text old new before after ended is (inr (inl (e, w, sure))) = rw e (ends_empty asked (Some image) old new w, sure)
  ends_whole text old new before after ended is (inr (inr (e, rose, part))) =
      rw e (refl, rose, λ other told. (text, inl (listing_is text other is told), part))

-- a text that is the same as the one that was written
pub writes_same : (text other : List ℕ) (wanted : ListStatus) (old new : Option (List ℕ)) (before after : ℕ) (ended : ListStatus)
    → text ≡ other → WritesAll text wanted old new before after ended → WritesAll other wanted old new before after ended
writes_same text other wanted old new before after ended same writes =
    subst (λ t. WritesAll t wanted old new before after ended) same writes

-- a line that says why there is none
pub ends_refused : (asked : Listing) (image : List ℕ) (f : ListFault) (old new : Option (List ℕ)) (before after : ℕ) (ended : ListStatus)
    → IsRefusedFor asked image f → WritesAll (refusal_line asked f) (status.Refused f) old new before after ended
    → EndsListing asked (Some image) old new before after ended
ends_refused asked image f old new before after ended why (inl (e, w, sure)) =
    rw e (((λ other told. subst (λ i. IsRefusedFor asked i f) (told_same image other told) why), w), sure)
ends_refused asked image f old new before after ended why (inr (inl (e, w, sure))) = rw e (ends_empty asked (Some image) old new w, sure)
ends_refused asked image f old new before after ended why (inr (inr (e, rose, part))) =
    rw e (refl, rose, λ other told. (refusal_line asked f, inr (f, subst (λ i. IsRefusedFor asked i f) (told_same image other told) why, refl), part))

-- rows that are written in pieces
ends_pieces : (name : List ℕ) (commits : List Commit) (image text : List ℕ) (old new : Option (List ℕ)) (before after : ℕ) (ended : ListStatus)
    → ImageStandsOnlyFor commits image → FitInTurn standard_limits commits → listing_text (listing.Rows name) commits ≡ Some text
    → WritesPieces text old new before after ended → EndsListing (listing.Rows name) (Some image) old new before after ended
ends_pieces name commits image text old new before after ended stands fitting is (inl (e, w, sure)) =
    rw e ((λ other told. (text, listing_is (listing.Rows name) commits image stands fitting text other is told, w)), sure)
ends_pieces name commits image text old new before after ended stands fitting is (inr (inl (e, part, sure))) =
    rw e (inr (λ other told. (text, listing_is (listing.Rows name) commits image stands fitting text other is told, part)), sure)
ends_pieces name commits image text old new before after ended stands fitting is (inr (inr (e, rose, part))) =
    rw e (refl, rose, λ other told. (text, inl (listing_is (listing.Rows name) commits image stands fitting text other is told), part))

-- a table that is found by name has a number
pub number_found : (db : plain.Database) (name : List ℕ) (number : ℕ)
    → option_map (λ found. found.0) (find_table name db.tables) ≡ Some number → number < length db.tables
number_found db name number h = (table_found db name number h).within

-- the rows of a table that is found by name
pub ends_rows : (asked : Listing) (name : List ℕ) (commits : List Commit) (number : ℕ) (old new : Option (List ℕ)) (before after : ℕ) (ended : ListStatus)
    → asked ≡ listing.Rows name → option_map (λ found. found.0) (find_table name (database_of commits).tables) ≡ Some number
    → ((t : plain.Table) → slice_get (database_of commits).tables number ≡ Some t → WritesPieces (rows_text t) old new before after ended)
    → (image : List ℕ) → ImageStandsOnlyFor commits image → FitInTurn standard_limits commits
    → EndsListing asked (Some image) old new before after ended
ends_rows asked name commits number old new before after ended is found writes image stands fitting =
    let f = table_found (database_of commits) name number found in
    rw is (ends_pieces name commits image (rows_text f.table) old new before after ended stands fitting
    (ap (option_map (λ (x : ℕ × plain.Table). rows_text x.1)) f.named) (writes f.table f.at))

-- no table has the name
pub ends_lacking : (asked : Listing) (name : List ℕ) (commits : List Commit) (old new : Option (List ℕ)) (before after : ℕ) (ended : ListStatus)
    → asked ≡ listing.Rows name → option_map (λ found. found.0) (find_table name (database_of commits).tables) ≡ None
    → WritesAll (refusal_line asked fault.UnknownTable) (status.Refused fault.UnknownTable) old new before after ended
    → (image : List ℕ) → ImageStandsOnlyFor commits image → FitInTurn standard_limits commits
    → EndsListing asked (Some image) old new before after ended
ends_lacking asked name commits old new before after ended is none writes image stands fitting =
    let lacks : listing_text asked commits ≡ None =
    ap (λ l. listing_text l commits) is
    ∙ ap (option_map (λ (x : ℕ × plain.Table). rows_text x.1)) (number_none (find_table name (database_of commits).tables) none) in
    ends_refused asked image fault.UnknownTable old new before after ended (commits, stands, fitting, lacks) writes
