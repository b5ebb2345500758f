-- The commits of a journal, and what is shipped of them.
use Rattle.std.proofs.Common.{◌≡◌, ℕ, ◌+◌, ◌≤◌, List, [], ◌∷◌, ◌++◌, length, take}
use Rattle.std.specs.List.{AllByRecursion}
use Rattle.tl_types.specs.declared.commits.Commit.{Commit}
use Rattle.tl_types.specs.Legality.{FitInTurn}
use Rattle.tl_types.specs.Limits.{standard_limits}
use Rattle.tl_record.specs.Spelling.{IsCommit}
use Rattle.tl_journal.specs.Image.{OpenGates, ImageStandsFor}
use Rattle.tl_follow.specs.Following.{IsPrefixOf}
use Rattle.tl_follow.specs.Inputs.{FollowsInput}
use Rattle.tl_follow.specs.Packets.{IsPacket}
use Rattle.tl_follow.specs.Shipping.{packets_between, shipment}
use Rattle.tl_follow.proofs.ShipmentLemmas.{shipment_packets, shipment_copies_first, shipment_copies_to}

all_spelled : (commits : List Commit) (front : List ℕ) → OpenGates commits front → AllByRecursion IsCommit commits
all_spelled [] front o = tt
all_spelled (c ∷ commits) front o = (o.3, all_spelled commits o.1 o.5)

pub image_spelled : (commits : List Commit) (image : List ℕ) → ImageStandsFor commits image → AllByRecursion IsCommit commits
image_spelled commits image stands = all_spelled commits stands.0 stands.1

pub image_packets : (commits : List Commit) (image : List ℕ) (from to : ℕ) → ImageStandsFor commits image → FitInTurn standard_limits commits → AllByRecursion IsPacket (packets_between from to commits)
image_packets commits image from to stands fit = shipment_packets commits from to fit (image_spelled commits image stands)

pub image_first : (leader start commits : List Commit) (image : List ℕ) (from to : ℕ) → ImageStandsFor leader image → FitInTurn standard_limits leader → IsPrefixOf start leader → FollowsInput standard_limits start (shipment from to leader) commits → IsPrefixOf (start ++ commits) leader
image_first leader start commits image from to stands fit begins h = shipment_copies_first standard_limits leader start commits from to (image_packets leader image from to stands fit) fit begins h

pub image_up_to : (leader start commits : List Commit) (image : List ℕ) (from to : ℕ) → ImageStandsFor leader image → FitInTurn standard_limits leader → IsPrefixOf start leader → from ≤ length start + 1 → length start ≤ to → to ≤ length leader → FollowsInput standard_limits start (shipment from to leader) commits → start ++ commits ≡ take to leader
image_up_to leader start commits image from to stands fit begins f s t h = shipment_copies_to standard_limits leader start commits from to (image_packets leader image from to stands fit) fit begins f s t h
