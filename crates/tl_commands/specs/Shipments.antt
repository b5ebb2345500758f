-- What is shipped of commits while they are read.
use Rattle.std.specs.Prelude.{◌≡◌, ℕ, List, length}
use Rattle.tl_types.specs.declared.commits.Commit.{Commit}
use Rattle.tl_types.specs.History.{database_of}
use Rattle.tl_outline.specs.Outlines.{outline_of}
use Rattle.tl_follow.specs.Shipping.{shipment}
use Rattle.tl_commands.specs.declared.shipments.Shipment.{Shipment}

-- what is shipped of these commits with versions from one to another, and the outline of their
-- tables
pub record IsShipment (from to : ℕ) (commits : List Commit) (s : Shipment) : Type 0 where
  pub outline_is : s.outline ≡ outline_of (database_of commits)
  pub packets_are : s.packets.items ≡ shipment from to commits
  pub version_is : s.version ≡ length commits
  pub from_same : s.from ≡ from
  pub to_same : s.to ≡ to
