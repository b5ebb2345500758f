-- The runs of two pieces that follow on each other, put together group by group.
use Rattle.std.specs.Prelude.{Bool, true, false, ◌||◌, List, [], ◌∷◌, ◌++◌, Option, None, Some, is_some, if◌then◌else◌}
use Rattle.tl_types.specs.declared.cells.Cell.{Cell}
use Rattle.tl_types.specs.declared.runs.Run.{Run}
use Rattle.tl_types.specs.History.{same_cell}
use Rattle.tl_types.specs.Runs.{seam}
use Rattle.tl_query.specs.Ordered.{cell_before}
use Rattle.tl_running.specs.Touching.{add_touching}

-- two groups are one
abbrev pub same_group : Option Cell → Option Cell → Bool
same_group None None = true
same_group None (Some y) = false
same_group (Some x) None = false
same_group (Some x) (Some y) = same_cell x y

-- a group stands behind another in the order of their values
abbrev pub stands_behind : Option Cell → Option Cell → Bool
stands_behind None group = false
stands_behind (Some x) None = false
stands_behind (Some x) (Some y) = cell_before y x

-- there are runs, and the last one is of this group
abbrev pub ends_with_group : List Run → Option Cell → Bool
ends_with_group [] group = false
ends_with_group (run ∷ []) group = same_group run.group group
ends_with_group (run ∷ next ∷ runs) group = ends_with_group (next ∷ runs) group

-- the runs, and a run behind them: one of the same group as the last of them is put together with
-- that, where it goes on
abbrev pub add_grouped : List Run → Run → List Run
add_grouped runs run =
    if ends_with_group runs run.group then add_touching runs run else runs ++ run ∷ []

-- of runs in order of their groups, those at the front whose groups are not behind a run's
abbrev pub front_upto : Run → List Run → List Run
front_upto run [] = []
front_upto run (first ∷ runs) =
    if stands_behind first.group run.group then [] else first ∷ front_upto run runs

-- and the others
abbrev pub rest_behind : Run → List Run → List Run
rest_behind run [] = []
rest_behind run (first ∷ runs) =
    if stands_behind first.group run.group then first ∷ runs else rest_behind run runs

-- behind runs that are done, the runs of two pieces of which the second follows on the first, both
-- in order of their groups
abbrev pub seam_behind : List Run → List Run → List Run → List Run
seam_behind done left [] = done ++ left
seam_behind done left (run ∷ right) =
    seam_behind (add_grouped (done ++ front_upto run left) run) (rest_behind run left) right

-- the runs have groups
abbrev pub have_groups : List Run → Bool
have_groups [] = false
have_groups (run ∷ runs) = is_some run.group

-- the runs of two pieces that follow on each other, put together
abbrev pub seam_of : List Run → List Run → List Run
seam_of left right =
    if have_groups left || have_groups right then seam_behind [] left right else seam left right
