-- What is read of a script, what one of its lines says, and an input that is one block.
use Rattle.std.specs.Prelude.{ℕ, Bool, true, false, ◌&&◌, ◌||◌, nat_le, nat_lt, ◌==◌, List, [], ◌∷◌, length, Option, Some, None, if◌then◌else◌, codes}
use Rattle.std.specs.List.{list_all, take_while, before_first, after_first}
use Rattle.tl_types.specs.Names.{same_bytes, continues_word}
use Rattle.tl_script.specs.declared.jobs.ScriptFault.{ScriptFault}
use Rattle.tl_script.specs.declared.jobs.ScriptFault.TheVariants as fault

-- a statement of a script: the number of its session, the line that it stands on, its text, and its
-- block where it has one
pub record Job : Type 0 where
  pub session : ℕ
  pub line : ℕ
  pub text : List ℕ
  pub block : Option (List ℕ)

-- what is read of a script: the names of the sessions of its phases, in order of number, the phases
-- before its first fault, and the fault where it has one
pub record ScriptReading : Type 0 where
  pub names : List (List ℕ)
  pub phases : List (List Job)
  pub fault : Option ScriptFault

-- LINES

-- a byte before a list of lines
abbrev pub before_lines : ℕ → List (List ℕ) → List (List ℕ)
before_lines b [] = (b ∷ []) ∷ []
before_lines b (line ∷ lines) = (b ∷ line) ∷ lines

-- the lines of the bytes, each with its LF; the last may lack it
abbrev pub lines_of : List ℕ → List (List ℕ)
lines_of [] = []
lines_of (b ∷ bytes) =
    if b == 10 then (b ∷ []) ∷ lines_of bytes else before_lines b (lines_of bytes)

-- the list without its last element where that is this one
abbrev pub without_last : ℕ → List ℕ → List ℕ
without_last b [] = []
without_last b (x ∷ []) = if x == b then [] else x ∷ []
without_last b (x ∷ y ∷ xs) = x ∷ without_last b (y ∷ xs)

-- the text of a line: without its LF, and without one CR before it
abbrev pub text_of : List ℕ → List ℕ
text_of line = without_last 13 (without_last 10 line)

-- a space or a tab
abbrev pub is_blank : ℕ → Bool
is_blank b = (b == 32) || (b == 9)

-- the list without the blanks at its start
abbrev pub without_blanks_before : List ℕ → List ℕ
without_blanks_before [] = []
without_blanks_before (x ∷ xs) = if is_blank x then without_blanks_before xs else x ∷ xs

-- the list without the blanks at its end
abbrev pub without_blanks_after : List ℕ → List ℕ
without_blanks_after [] = []
without_blanks_after (x ∷ xs) = onto (without_blanks_after xs) where
  onto : List ℕ → List ℕ
  onto [] = if is_blank x then [] else x ∷ []
  onto (y ∷ ys) = x ∷ y ∷ ys

-- the list without the blanks at its start and its end
abbrev pub trimmed : List ℕ → List ℕ
trimmed xs = without_blanks_after (without_blanks_before xs)

-- the line is blank or a comment
abbrev pub is_passed_over : List ℕ → Bool
is_passed_over [] = true
is_passed_over (b ∷ bytes) = (b == 35) || list_all is_blank (b ∷ bytes)

-- a session's name: 1 to 32 ASCII letters, digits or `_`
abbrev pub is_session_name : List ℕ → Bool
is_session_name name =
    nat_le 1 (length name) && nat_le (length name) 32 && list_all continues_word name

-- the byte stands in the list
abbrev pub stands_in : ℕ → List ℕ → Bool
stands_in b [] = false
stands_in b (x ∷ xs) = (x == b) || stands_in b xs

-- what a line says: the name of its session, and the text of its statement behind `>`
abbrev pub statement_of : List ℕ → Option (List ℕ × List ℕ)
statement_of text =
    if stands_in 62 text && is_session_name (before_first (λ b. b == 62) text)
    then Some (before_first (λ b. b == 62) text, trimmed (after_first (λ b. b == 62) text))
    else None

-- the first word of a statement: the longest run of ASCII letters, digits and `_` at its start
abbrev pub first_word : List ℕ → List ℕ
first_word text = take_while continues_word text

-- a statement whose first word is PUT, REMOVE or SYNC has a block
abbrev pub has_block : List ℕ → Bool
has_block text =
    same_bytes (first_word text) (codes "PUT") || same_bytes (first_word text) (codes "REMOVE")
    || same_bytes (first_word text) (codes "SYNC")

-- the line ends a block
abbrev pub ends_block : List ℕ → Bool
ends_block line = same_bytes (text_of line) (codes "\\.")

-- THE WHOLE INPUT AS A BLOCK

-- a job of the first session
abbrev pub job_with : ℕ → List ℕ → Option (List ℕ) → Job
job_with n text block = record { session = 0; line = n; text = text; block = block }

-- the script of one job that puts a whole input as its block, or the fault where that has more
-- than so many bytes
abbrev pub load_of : ℕ → List ℕ → List ℕ → ScriptReading
load_of limit text block =
    if nat_lt limit (length block)
    then record { names = []; phases = []; fault = Some (fault.PhaseTooLong 1) }
    else record {
      names = codes "load" ∷ [];
      phases = (job_with 1 text (Some block) ∷ []) ∷ [];
      fault = None;
    }
