-- Which words name a listing, and how a listing ends.
use Rattle.std.specs.Prelude.{◌≡◌, ◌⊎◌, ℕ, List, [], ◌∷◌, codes, Option, Some, None, if◌then◌else◌, string_bytes, String, map}
use Rattle.tl_types.specs.Names.{is_name, same_bytes}
use Rattle.tl_device.specs.Known.{append_known, Rose}
use Rattle.tl_log.specs.declared.listings.Listing.{Listing}
use Rattle.tl_log.specs.declared.listings.Listing.TheVariants as listing
use Rattle.tl_log.specs.declared.reports.ListFault.{ListFault}
use Rattle.tl_log.specs.declared.reports.ListFault.TheVariants as fault
use Rattle.tl_log.specs.declared.top.ListStatus.{ListStatus}
use Rattle.tl_log.specs.declared.top.ListStatus.TheVariants as status
use Rattle.tl_log.specs.Reading.{IsListing, IsRefusal, IsRefusedFor, refusal_line}
use Rattle.tl_log.specs.Writing.{WritesPart}

-- the bytes of each word
abbrev pub texts_of : {A : Type 0} → List (String A) → List (List ℕ)
texts_of words = map (λ w. string_bytes w) words

-- the listing that a word names
abbrev pub listing_by : List ℕ → Option Listing
listing_by word =
    if same_bytes word (codes "log") then Some listing.Commits
    else (if same_bytes word (codes "tables") then Some listing.Tables else None)

-- the listing of the rows of a table, where the word is a name
abbrev pub rows_of_table : List ℕ → Option Listing
rows_of_table table = if is_name table then Some (listing.Rows table) else None

-- the listing that a word names with the name of a table behind it
abbrev pub rows_by : List ℕ → List ℕ → Option Listing
rows_by word table = if same_bytes word (codes "rows") then rows_of_table table else None

-- the listing that words name: one word, `log` or `tables`, or `rows` and the name of a table
abbrev pub listing_of : List (List ℕ) → Option Listing
listing_of [] = None
listing_of (word ∷ []) = listing_by word
listing_of (word ∷ table ∷ []) = rows_by word table
listing_of (word ∷ table ∷ more ∷ words) = None

-- the source's bytes, where it tells them, are a journal whose listing was written
abbrev pub Lists : Listing → Option (List ℕ) → Option (List ℕ) → Option (List ℕ) → Type 0
Lists listing told old new = (image : List ℕ) → told ≡ Some image → (text : List ℕ)
    × IsListing listing image text × (new ≡ append_known old text)

-- they are, and some first part of the listing was written
abbrev pub ListsPart : Listing → Option (List ℕ) → Option (List ℕ) → Option (List ℕ) → Type 0
ListsPart listing told old new = (image : List ℕ) → told ≡ Some image → (text : List ℕ)
    × IsListing listing image text × WritesPart text old new

-- they are refused, and the line that says so was written
abbrev pub Refuses : Listing → ListFault → Option (List ℕ) → Option (List ℕ) → Option (List ℕ)
    → Type 0
Refuses listing fault told old new =
    ((image : List ℕ) → told ≡ Some image → IsRefusedFor listing image fault)
    × (new ≡ append_known old (refusal_line listing fault))

-- the exit status of a refusal
abbrev pub fault_status : ListFault → ℕ
fault_status (fault.NotInitialised len) = 7
fault_status (fault.Damaged at) = 9
fault_status fault.UnknownTable = 14
fault_status fault.NoMemory = 1

-- the exit status
abbrev pub exit_status : ListStatus → ℕ
exit_status status.Done = 0
exit_status status.NoMemory = 1
exit_status (status.SourceFault faults) = 3
exit_status (status.SinkFault faults) = 4
exit_status (status.Refused f) = fault_status f

-- a text is written whole; or memory ran out before it; or the sink failed behind a part of it,
-- and only then its count of faults rose
abbrev pub WritesAll : List ℕ → ListStatus → Option (List ℕ) → Option (List ℕ)
    → ℕ → ℕ → ListStatus → Type 0
WritesAll text wanted old new before after ended =
    ((ended ≡ wanted) × (new ≡ append_known old text) × (after ≡ before))
    ⊎ ((ended ≡ status.NoMemory) × (new ≡ old) × (after ≡ before))
    ⊎ ((ended ≡ status.SinkFault after) × Rose before after × WritesPart text old new)

-- a text is written in pieces: whole; or up to a part behind which memory ran out; or up to one
-- behind which the sink failed, and only then its count of faults rose
abbrev pub WritesPieces : List ℕ → Option (List ℕ) → Option (List ℕ) → ℕ → ℕ → ListStatus
    → Type 0
WritesPieces text old new before after ended =
    ((ended ≡ status.Done) × (new ≡ append_known old text) × (after ≡ before))
    ⊎ ((ended ≡ status.NoMemory) × WritesPart text old new × (after ≡ before))
    ⊎ ((ended ≡ status.SinkFault after) × Rose before after × WritesPart text old new)

-- some first part of the listing was written, or of the line that says why there is none
abbrev pub WritesSome : Listing → Option (List ℕ) → Option (List ℕ) → Option (List ℕ) → Type 0
WritesSome listing told old new = (image : List ℕ) → told ≡ Some image → (text : List ℕ)
    × (IsListing listing image text ⊎ IsRefusal listing image text) × WritesPart text old new

-- what is written where memory runs out: nothing, or of rows some first part of their listing
abbrev pub EndsShort : Listing → Option (List ℕ) → Option (List ℕ) → Option (List ℕ) → Type 0
EndsShort listing.Commits told old new = new ≡ old
EndsShort listing.Tables told old new = new ≡ old
EndsShort (listing.Rows name) told old new =
    (new ≡ old) ⊎ ListsPart (listing.Rows name) told old new

-- how a listing ends of a source that had these bytes left, where it tells them, by what is written
-- and the sink's count of faults, before and after, which rises only where the sink fails
abbrev pub EndsListing : Listing → Option (List ℕ) → Option (List ℕ) → Option (List ℕ)
    → ℕ → ℕ → ListStatus → Type 0
EndsListing listing told old new before after status.Done =
    Lists listing told old new × (after ≡ before)
EndsListing listing told old new before after status.NoMemory =
    EndsShort listing told old new × (after ≡ before)
EndsListing listing told old new before after (status.SourceFault faults) =
    (new ≡ old) × (after ≡ before)
EndsListing listing told old new before after (status.SinkFault faults) =
    (faults ≡ after) × Rose before after × WritesSome listing told old new
EndsListing listing told old new before after (status.Refused f) =
    Refuses listing f told old new × (after ≡ before)
