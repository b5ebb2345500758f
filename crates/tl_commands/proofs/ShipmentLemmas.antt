-- What is shipped with one commit more.
use Rattle.std.proofs.Common.{◌≡◌, ℕ, ◌+◌, ◌<◌, Bool, true, false, ◌&&◌, cond, nat_le, nat_lt, List, [], ◌∷◌, ◌++◌, length, refl, sym, ap, ◌∙◌, arith}
use Rattle.std.proofs.lemmas.Bool.Decides.{nat_tests}
use Rattle.std.proofs.lemmas.List.Sums.{fold-append}
use Rattle.tl_types.specs.declared.commits.Commit.{Commit}
use Rattle.tl_types.specs.History.{database_of, nothing, after_commit, fits, fits_body}
use Rattle.tl_types.specs.Limits.{standard_limits}
use Rattle.tl_types.proofs.EntryLemmas.{version_after}
use Rattle.tl_record.specs.Spelling.{number, spelling}
use Rattle.tl_outline.specs.Outlines.{outline_of}
use Rattle.tl_follow.specs.Shipping.{shipment}
use Rattle.tl_follow.proofs.ShipmentLemmas.{shipment_next}
use Rattle.tl_commands.specs.Shipments.{IsShipment}
use Rattle.tl_commands.specs.declared.shipments.Shipment.{Shipment}

-- what the commits make of the first one
abbrev pub ships : Shipment → List Commit → Shipment → Type 0
ships first commits last = IsShipment first.from first.to commits last

-- a commit that fits finds room for its version
fewer : (a b : Bool) → (a && b) ≡ true → a ≡ true
fewer true b e = refl
fewer false b e = e

numbered : (commits : List Commit) → (database_of commits).version ≡ length commits
numbered commits = version_after nothing commits ∙ omega arith

pub version_fits : (commits : List Commit) (c : Commit) (version : ℕ) → version ≡ length commits → fits standard_limits (database_of commits) c ≡ true → version < 16777215
version_fits commits c version is fit =
    let test : nat_lt (database_of commits).version 16777215 ≡ true = fewer (nat_lt (database_of commits).version 16777215) (fits_body standard_limits (database_of commits) c.body) fit in
    below (database_of commits).version version (is ∙ sym (numbered commits)) test
  where
    below : (n m : ℕ) → m ≡ n → nat_lt n 16777215 ≡ true → m < 16777215
    below n m e t = grind (arith, nat_tests)

-- the packets
packets_with : (commits : List Commit) (c : Commit) (from to version : ℕ) (old new spelled : List ℕ) → version ≡ length commits → old ≡ shipment from to commits → spelled ≡ spelling c
    → new ≡ old ++ cond (nat_le from (version + 1) && nat_le (version + 1) to) (number (version + 1) ++ spelled) [] → new ≡ shipment from to (commits ++ c ∷ [])
packets_with commits c from to version old new spelled version_is old_is spelled_is is =
    is ∙ ap (λ l. l ++ cond (nat_le from (version + 1) && nat_le (version + 1) to) (number (version + 1) ++ spelled) []) old_is
    ∙ ap (λ r. shipment from to commits ++ cond (nat_le from (version + 1) && nat_le (version + 1) to) (number (version + 1) ++ r) []) spelled_is
    ∙ sym (shipment_next commits c from to (version + 1) (ap (λ n. n + 1) version_is))

longer : (commits : List Commit) (c : Commit) → length (commits ++ c ∷ []) ≡ length commits + 1
longer [] c = refl
longer (d ∷ commits) c = let e = longer commits c in omega (arith, e)

-- one commit more is shipped
pub shipped_with : (old new : Shipment) (commits : List Commit) (c : Commit) (spelled : List ℕ) → IsShipment old.from old.to commits old → spelled ≡ spelling c → new.version ≡ old.version + 1 → new.from ≡ old.from → new.to ≡ old.to
    → new.outline ≡ outline_of (after_commit (database_of commits) c)
    → new.packets.items ≡ old.packets.items ++ cond (nat_le old.from (old.version + 1) && nat_le (old.version + 1) old.to) (number (old.version + 1) ++ spelled) []
    → IsShipment old.from old.to (commits ++ c ∷ []) new
shipped_with old new commits c spelled is spelled_is version from to outline_is packets =
    record {
      outline_is = outline_is ∙ ap outline_of (sym (fold-append after_commit nothing commits (c ∷ [])));
      packets_are = packets_with commits c old.from old.to old.version old.packets.items new.packets.items spelled is.version_is is.packets_are spelled_is packets;
      version_is = version ∙ ap (λ n. n + 1) is.version_is ∙ sym (longer commits c);
      from_same = from;
      to_same = to;
    }
