-- The text of a bound at the end of bytes.
use Rattle.std.specs.Prelude.{ℕ, ℤ, ◌≡◌, ◌≤◌, List, drop}
use Rattle.tl_csv.specs.Answers.{field_text}
use Rattle.tl_query.specs.Fields.{moment_field}

-- the bytes from a place on are the text of the bound
pub record IsTextOf (moment : ℤ) (start : ℕ) (bytes : List ℕ) : Type 0 where
  pub within : start ≤ 20
  pub text : drop start bytes ≡ field_text (moment_field moment)
