use Rattle.std.proofs.Common.{ap, ◌∙◌}
use Rattle.std.specs.Map.{lookup}
use Rattle.tl_types.specs.History.{same_cell}
use Rattle.tl_agg.specs.Scans.{Groups}
use Rattle.tl_agg.proofs.all_groups.Groups.into_runs_by.Goals as goal

pub returns : goal.returns
returns c =
    let view = ap (λ (g : Groups). g.by) c.self.view_is in record {
      sorted = c.in_ok-sorted.sorted.entries;
      are = record {
        rises = c.in_ok-runs.ensures.order;
        same = λ x. c.in_ok-sorted.ensures x ∙ ap (lookup (same_cell x)) view;
      };
      advanced = c.in_ok-runs.ensures.runs;
    }
