-- Which cells of a column pass a test.
use Rattle.std.specs.Prelude.{ℕ, Bool, not, List, length, if◌then◌else◌}
use Rattle.std.specs.Option.{unwrap_or}
use Rattle.tl_types.specs.declared.cells.Cmp.{Cmp}
use Rattle.tl_types.specs.declared.cells.Cmp.TheVariants as cmp
use Rattle.tl_types.specs.Names.{same_bytes}
use Rattle.tl_lanes.specs.Masks.{agrees}
use Rattle.tl_lanes.specs.declared.masks.LaneCmp.{LaneCmp}
use Rattle.tl_lanes.specs.declared.masks.LaneCmp.TheVariants as lane
use Rattle.tl_column.specs.Dictionary.{code_in}

-- the comparison of lanes that a comparison of cells is
abbrev pub lane_cmp : Cmp → LaneCmp
lane_cmp cmp.Eq = lane.Eq
lane_cmp cmp.Ne = lane.Ne
lane_cmp cmp.Lt = lane.Lt
lane_cmp cmp.Le = lane.Le
lane_cmp cmp.Gt = lane.Gt
lane_cmp cmp.Ge = lane.Ge

-- a cell is the text, or is not
abbrev pub is_text : Bool → List ℕ → List ℕ → Bool
is_text equal text cell = if equal then same_bytes cell text else not (same_bytes cell text)

-- the code of a text, and where it is none of these the number of texts, which is no text's code
abbrev pub code_for : List (List ℕ) → List ℕ → ℕ
code_for texts text = unwrap_or (code_in texts text) (length texts)

-- the code of a cell is this one, or is not
abbrev pub has_code : Bool → List (List ℕ) → ℕ → List ℕ → Bool
has_code equal texts code cell = agrees equal (code_for texts cell) code
