-- How it ends over a journal that was opened.
use Rattle.std.proofs.Common.{◌≡◌, ℕ, List, sym, ap, ◌∙◌, subst}
use Rattle.std.specs.declared.option.Option.{Option}
use Rattle.tl_types.specs.declared.commits.Commit.{Commit}
use Rattle.tl_types.specs.declared.limits.Limits.{Limits}
use Rattle.tl_types.specs.Legality.{FitInTurn}
use Rattle.tl_types.specs.Limits.{standard_limits}
use Rattle.tl_device.specs.declared.disk.Disk.{Ghosts as DiskGhosts}
use Rattle.tl_journal.specs.Stands.{DiskStandsFor}
use Rattle.tl_follow.specs.Shipping.{shipment}
use Rattle.tl_replay.specs.Opening.{IsOpened}
use Rattle.tl_replay.specs.declared.opening.Opened.{Opened}
use Rattle.tl_command.specs.Closing.{Writes}
use Rattle.tl_command.specs.declared.statuses.Status.{Status}
use Rattle.tl_command.specs.declared.statuses.Status.TheVariants as status
use Rattle.tl_command.proofs.HeldLemmas.{holds_journal, stored_image}
use Rattle.tl_command.proofs.OpenedLemmas.{outside_of}
use Rattle.tl_commands.specs.Shipping.{ShipOpened}
use Rattle.tl_commands.specs.declared.shipments.Shipment.{Shipment}
use Rattle.tl_commands.proofs.ShipmentLemmas.{ships}

-- the packets are written, and the journal keeps its commits
pub shipped : {D : Type 0} (disks : DiskGhosts D) (limits : Limits) (first : Shipment) (disk last : D) (o : Opened D Shipment) (from to : ℕ) (left written new : Option (List ℕ)) (source sink sink_after : ℕ) (bytes : List ℕ) (ended : Status)
    → first.from ≡ from → first.to ≡ to → limits ≡ standard_limits → (commits : List Commit) × IsOpened disks.reads disks.may_leave disks.faults ships limits first disk commits o → last ≡ o.journal.disk → bytes ≡ o.applied.packets.items
    → Writes bytes status.Done written new sink sink_after ended
    → (commits : List Commit) × ShipOpened from to commits (outside_of disks left source written sink disk) (outside_of disks left source new sink_after last) ended
shipped disks limits first disk last o from to left written new source sink sink_after bytes ended from_is to_is standard (commits, is) same bytes_are writes = (
  commits,
  record {
    opens = record { fitting = subst (λ (l : Limits). FitInTurn l commits) standard is.fitting; stands = is.image };
    holds = holds_journal commits (outside_of disks left source written sink disk) (outside_of disks left source new sink_after last) (ap disks.faults same ∙ is.count)
        (λ b told. stored_image disks last commits o.journal.gate (subst (λ d. DiskStandsFor disks.reads disks.may_leave d commits o.journal.gate) (sym same) (is.stands b told).on_disk));
    writes = subst (λ l. Writes l status.Done written new sink sink_after ended)
        (bytes_are ∙ is.made.packets_are ∙ ap (λ f. shipment f first.to commits) from_is ∙ ap (λ t. shipment from t commits) to_is) writes;
  },
)
