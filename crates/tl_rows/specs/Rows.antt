-- Rows, whose fields stand in one list.
use Rattle.std.specs.Prelude.{ℕ, ◌-◌, ◌≤◌, List, [], ◌∷◌, take, drop, slice_index_or}
use Rattle.tl_types.specs.declared.answers.Answer.{Answer}
use Rattle.tl_types.specs.declared.answers.Field.{Field}

-- rows while they are written: those that are whole, and the fields of the one that is not ended
pub record Rows : Type 0 where
  pub rows : List (List Field)
  pub row : List Field

-- the rows that end at these places, of fields that begin at `start`
abbrev pub rows_cut : {X : Type 0} → ℕ → List ℕ → List X → List (List X)
rows_cut start [] fields = []
rows_cut start (end ∷ ends) fields =
    take (end - start) fields ∷ rows_cut end ends (drop (end - start) fields)

-- the fields behind the last of these ends
abbrev pub behind_ends : {X : Type 0} → ℕ → List ℕ → List X → List X
behind_ends start [] fields = fields
behind_ends start (end ∷ ends) fields = behind_ends end ends (drop (end - start) fields)

-- the ends do not fall, from `start` on, and none is past so many fields
abbrev pub AreEnds : ℕ → List ℕ → ℕ → Type 0
AreEnds start [] fields = start ≤ fields
AreEnds start (end ∷ ends) fields = (start ≤ end) × AreEnds end ends fields

-- where a row begins
abbrev pub start_of : List ℕ → ℕ → ℕ
start_of ends row = slice_index_or (0 ∷ ends) row 0

-- the fields of a row of an answer
abbrev pub row_at : Answer → ℕ → List Field
row_at answer row = slice_index_or answer.rows row []
