-- What is kept of a plan stands for the rows when one comes or goes.
use Rattle.std.proofs.Common.{ℕ, ◌-◌, ◌^◌, ◌<◌, ℤ, List, length, Option, Some, None, sym, subst, ◌∙◌}
use Rattle.tl_types.specs.declared.cells.Cell.{Cell}
use Rattle.tl_types.specs.Plain as plain
use Rattle.tl_query.specs.declared.ast.AggKind.{AggKind}
use Rattle.tl_running.specs.Standing.{number_in, IsShort, Inserts}
use Rattle.tl_running.proofs.StandingLemmas.{has_room, row_enters, can_leave, row_leaves}
use Rattle.tl_watch.specs.declared.plans.WatchPlan.{WatchPlan}
use Rattle.tl_watch.specs.States.{State, StandsAs, Stands, IsKey, TellsRow, CanCome, CanGo, Comes, Goes}
use Rattle.tl_running.proofs.TellLemmas.{suits_enter, suits_leave}
use Rattle.tl_watch.proofs.GroupLemmas.{groups_come, groups_go, group_can_come, group_can_go}

can_come_by : (by column : Option ℕ) (k : AggKind) (state : State) (rows : List plain.Row) (row : plain.Row) (key : Option Cell) → StandsAs k column by state rows → IsKey by row key → length rows < 2 ^ 32 - 1 → CanCome key state
can_come_by None column k state rows row key stands is few = subst (λ o. CanCome o state) (sym is) (has_room state.all column rows stands.1 few)
can_come_by (Some by) column k state rows row None stands is few = absurd (let i = is.0 in cc)
can_come_by (Some by) column k state rows row (Some value) stands is few = group_can_come state.groups k column by value rows stands few

pub can_come : (plan : WatchPlan) (state : State) (rows : List plain.Row) (row : plain.Row) (key : Option Cell) → Stands plan state rows → IsKey plan.by row key → length rows < 2 ^ 32 - 1 → CanCome key state
can_come plan state rows row key stands is few = can_come_by plan.by plan.column plan.kind state rows row key stands.kept is few

comes_by : (by column : Option ℕ) (k : AggKind) (old new : State) (fewer more : List plain.Row) (row : plain.Row) (key : Option Cell) → StandsAs k column by old fewer → IsKey by row key → IsShort (number_in column row) → Inserts row fewer more → Comes k key old new (number_in column row)
    → StandsAs k column by new more
comes_by None column k old new fewer more row (Some value) stands is short ins comes = absurd (cc)
comes_by None column k old new fewer more row None stands is short ins comes = (comes.kind ∙ stands.0, row_enters old.all new.all column row fewer more short stands.1 ins comes)
comes_by (Some by) column k old new fewer more row None stands is short ins comes = absurd (let i = is.0 in cc)
comes_by (Some by) column k old new fewer more row (Some value) stands is short ins comes = groups_come old.groups new.groups k column by value row fewer more stands is.1 short ins comes

pub row_comes : (plan : WatchPlan) (old new : State) (fewer more : List plain.Row) (row : plain.Row) (number : ℤ) (key : Option Cell) → Stands plan old fewer → TellsRow plan row number key → Inserts row fewer more → Comes plan.kind key old new number → Stands plan new more
row_comes plan old new fewer more row number key stands tells ins comes = record {
  kept = comes_by plan.by plan.column plan.kind old new fewer more row key stands.kept tells.key_is (subst IsShort (sym tells.number_is) tells.short) ins (subst (Comes plan.kind key old new) (sym tells.number_is) comes);
  suits = suits_enter plan.kind plan.column row fewer more ins tells.suits stands.suits;
}

can_go_by : (by column : Option ℕ) (k : AggKind) (state : State) (fewer more : List plain.Row) (row : plain.Row) (key : Option Cell) → StandsAs k column by state more → IsKey by row key → Inserts row fewer more → length more < 2 ^ 32 → CanGo key state (number_in column row)
can_go_by None column k state fewer more row key stands is ins few = subst (λ o. CanGo o state (number_in column row)) (sym is) (can_leave state.all column row fewer more stands.1 ins few)
can_go_by (Some by) column k state fewer more row None stands is ins few = absurd (let i = is.0 in cc)
can_go_by (Some by) column k state fewer more row (Some value) stands is ins few = group_can_go state.groups k column by value row fewer more stands is.1 ins few

pub can_go : (plan : WatchPlan) (state : State) (fewer more : List plain.Row) (row : plain.Row) (number : ℤ) (key : Option Cell) → Stands plan state more → TellsRow plan row number key → Inserts row fewer more → length more < 2 ^ 32 → CanGo key state number
can_go plan state fewer more row number key stands tells ins few = subst (CanGo key state) tells.number_is (can_go_by plan.by plan.column plan.kind state fewer more row key stands.kept tells.key_is ins few)

goes_by : (by column : Option ℕ) (k : AggKind) (old new : State) (fewer more : List plain.Row) (row : plain.Row) (key : Option Cell) → StandsAs k column by old more → IsKey by row key → Inserts row fewer more → Goes key old new (number_in column row) → StandsAs k column by new fewer
goes_by None column k old new fewer more row (Some value) stands is ins goes = absurd (cc)
goes_by None column k old new fewer more row None stands is ins goes = (sym goes.kind ∙ stands.0, row_leaves old.all new.all column row fewer more stands.1 ins goes)
goes_by (Some by) column k old new fewer more row None stands is ins goes = absurd (let i = is.0 in cc)
goes_by (Some by) column k old new fewer more row (Some value) stands is ins goes = groups_go old.groups new.groups k column by value row fewer more stands is.1 ins goes

pub row_goes : (plan : WatchPlan) (old new : State) (fewer more : List plain.Row) (row : plain.Row) (number : ℤ) (key : Option Cell) → Stands plan old more → TellsRow plan row number key → Inserts row fewer more → Goes key old new number → Stands plan new fewer
row_goes plan old new fewer more row number key stands tells ins goes = record {
  kept = goes_by plan.by plan.column plan.kind old new fewer more row key stands.kept tells.key_is ins (subst (Goes key old new) (sym tells.number_is) goes);
  suits = suits_leave plan.kind plan.column row fewer more ins stands.suits;
}
