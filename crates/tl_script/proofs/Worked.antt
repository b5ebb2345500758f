-- What is read of small scripts, computed.
use Rattle.std.proofs.Common.{◌≡◌, ℕ, List, [], ◌∷◌, ◌++◌, Option, Some, None, refl, codes}
use Rattle.std.specs.Str.{is_utf8, chars}
use Rattle.tl_types.specs.declared.limits.Limits.{Limits}
use Rattle.tl_script.specs.Script.{Job, ScriptReading, load_of}
use Rattle.tl_script.specs.Phases.{reading_of, phases_closed}
use Rattle.tl_script.specs.declared.jobs.ScriptFault.{ScriptFault}
use Rattle.tl_script.specs.declared.jobs.ScriptFault.TheVariants as fault

-- so many sessions, bytes of a line, bytes of a phase and GO lines
abbrev limited : ℕ → ℕ → ℕ → ℕ → Limits
limited sessions line phase phases =
    record { tables = 64; rows = 100; versions = 100; batch = 100; text = 100; sessions = sessions; line = line; phase = phase; phases = phases }

abbrev ample : Limits
ample = limited 64 100 1000 10

-- the text as a line with its LF
abbrev line : List ℕ → List ℕ
line text = text ++ (10 ∷ [])

abbrev job : ℕ → ℕ → List ℕ → Option (List ℕ) → Job
job session line text block = record { session = session; line = line; text = text; block = block }

abbrev read : List (List ℕ) → List (List Job) → Option ScriptFault → ScriptReading
read names phases fault = record { names = names; phases = phases; fault = fault }

empty : reading_of ample [] ≡ read [] [] None
unfolding is_utf8 chars lib.Utf8.encode
empty = refl

-- LINES AND BLOCKS

no_session : reading_of ample (codes "hello") ≡ read [] [] (Some (fault.NoSession 1))
unfolding is_utf8 chars lib.Utf8.encode
no_session = refl

-- a comment, a blank line, blanks round the statement, CR before LF outside a block
statement : reading_of ample (line (codes "# c") ++ (line [] ++ (line (32 ∷ 9 ∷ []) ++ line (codes "a>  GO x \r"))))
    ≡ read (codes "a" ∷ []) ((job 0 4 (codes "GO x") None ∷ []) ∷ []) None
unfolding is_utf8 chars lib.Utf8.encode
statement = refl

-- no LF at the end, nothing behind `>`
bare : reading_of ample (codes "a>") ≡ read (codes "a" ∷ []) ((job 0 1 [] None ∷ []) ∷ []) None
unfolding is_utf8 chars lib.Utf8.encode
bare = refl

-- CR before the end of the input, and a second `>`
last_cr : reading_of ample (codes "a> b>c\r") ≡ read (codes "a" ∷ []) ((job 0 1 (codes "b>c") None ∷ []) ∷ []) None
unfolding is_utf8 chars lib.Utf8.encode
last_cr = refl

-- a block keeps its LF and CR, also of lines that could stand outside one
block : reading_of ample (line (codes "a> PUT t") ++ (line (codes "k\r") ++ (line (codes "# x") ++ (line (codes "\\.\r") ++ codes "a> S"))))
    ≡ read (codes "a" ∷ []) ((job 0 1 (codes "PUT t") (Some (line (codes "k\r") ++ line (codes "# x"))) ∷ job 0 5 (codes "S") None ∷ []) ∷ []) None
unfolding is_utf8 chars lib.Utf8.encode
block = refl

-- a block without lines, ended by the last line of the input
empty_block : reading_of ample (line (codes "a> REMOVE") ++ codes "\\.") ≡ read (codes "a" ∷ []) ((job 0 1 (codes "REMOVE") (Some []) ∷ []) ∷ []) None
unfolding is_utf8 chars lib.Utf8.encode
empty_block = refl

-- a block that says all of a table; behind the block the script goes on
whole_block : reading_of ample (line (codes "a> SYNC t") ++ (line (codes "k") ++ (line (codes "\\.") ++ codes "a> S")))
    ≡ read (codes "a" ∷ []) ((job 0 1 (codes "SYNC t") (Some (line (codes "k"))) ∷ job 0 4 (codes "S") None ∷ []) ∷ []) None
unfolding is_utf8 chars lib.Utf8.encode
whole_block = refl

-- a longer word than PUT has no block
longer_word : reading_of ample (codes "a> PUTS") ≡ read (codes "a" ∷ []) ((job 0 1 (codes "PUTS") None ∷ []) ∷ []) None
unfolding is_utf8 chars lib.Utf8.encode
longer_word = refl

-- bytes of a block need not be UTF-8; those of a comment need
bytes_of_block : reading_of ample (line (codes "a> PUT t") ++ (line (255 ∷ []) ++ line (codes "\\.")))
    ≡ read (codes "a" ∷ []) ((job 0 1 (codes "PUT t") (Some (255 ∷ 10 ∷ [])) ∷ []) ∷ []) None
unfolding is_utf8 chars lib.Utf8.encode
bytes_of_block = refl

not_utf8 : reading_of ample (line [] ++ codes "#" ++ (255 ∷ [])) ≡ read [] [] (Some (fault.NotUtf8 2))
unfolding is_utf8 chars lib.Utf8.encode
not_utf8 = refl

no_name : reading_of ample (codes "> S") ≡ read [] [] (Some (fault.NoSession 1))
unfolding is_utf8 chars lib.Utf8.encode
no_name = refl

blank_before_name : reading_of ample (codes " a> S") ≡ read [] [] (Some (fault.NoSession 1))
unfolding is_utf8 chars lib.Utf8.encode
blank_before_name = refl

byte_order_mark : reading_of ample (239 ∷ 187 ∷ 191 ∷ codes "a> S") ≡ read [] [] (Some (fault.NoSession 1))
unfolding is_utf8 chars lib.Utf8.encode
byte_order_mark = refl

-- SESSIONS, PHASES AND LIMITS

-- two sessions, three phases, the last without GO; lines are numbered over the phases
three_phases : reading_of ample (line (codes "a> A") ++ (line (codes "b> B") ++ (line (codes "GO") ++ (line (codes "b> C") ++ (line (codes "GO\r") ++ codes "a> D")))))
    ≡ read (codes "a" ∷ codes "b" ∷ []) ((job 0 1 (codes "A") None ∷ job 1 2 (codes "B") None ∷ []) ∷ (job 1 4 (codes "C") None ∷ []) ∷ (job 0 6 (codes "D") None ∷ []) ∷ []) None
unfolding is_utf8 chars lib.Utf8.encode
three_phases = refl

-- what is done of it where the source failed within its last line
two_closed : phases_closed ample (line (codes "a> A") ++ (line (codes "GO") ++ codes "b> B"))
    ≡ read (codes "a" ∷ []) ((job 0 1 (codes "A") None ∷ []) ∷ []) None
unfolding is_utf8 chars lib.Utf8.encode
two_closed = refl

-- GO twice: a phase without jobs; the lines after the last GO are none
go_twice : reading_of ample (line (codes "a> A") ++ (line (codes "GO") ++ (line (codes "GO") ++ line (codes "# c"))))
    ≡ read (codes "a" ∷ []) ((job 0 1 (codes "A") None ∷ []) ∷ [] ∷ []) None
unfolding is_utf8 chars lib.Utf8.encode
go_twice = refl

-- a GO inside a block is a part of it
go_in_block : reading_of ample (line (codes "a> PUT t") ++ (line (codes "GO") ++ line (codes "\\.")))
    ≡ read (codes "a" ∷ []) ((job 0 1 (codes "PUT t") (Some (line (codes "GO"))) ∷ []) ∷ []) None
unfolding is_utf8 chars lib.Utf8.encode
go_in_block = refl

-- GO with a blank is no line of a script
go_and_blank : reading_of ample (line (codes "GO ")) ≡ read [] [] (Some (fault.NoSession 1))
unfolding is_utf8 chars lib.Utf8.encode
go_and_blank = refl

-- a block cut short in the third phase; the session that it would begin is not named
cut_short : reading_of ample (line (codes "a> A") ++ (line (codes "GO") ++ (line (codes "b> B") ++ (line (codes "GO") ++ (line (codes "c> PUT t") ++ codes "1")))))
    ≡ read (codes "a" ∷ codes "b" ∷ []) ((job 0 1 (codes "A") None ∷ []) ∷ (job 1 3 (codes "B") None ∷ []) ∷ []) (Some (fault.BlockOpen 5))
unfolding is_utf8 chars lib.Utf8.encode
cut_short = refl

-- behind as many GO lines as there may be: a blank line is one too many, the end of the input is not
phases_full : reading_of (limited 64 100 1000 1) (line (codes "a> A") ++ (line (codes "GO") ++ line []))
    ≡ read (codes "a" ∷ []) ((job 0 1 (codes "A") None ∷ []) ∷ []) (Some (fault.PhasesFull 3))
unfolding is_utf8 chars lib.Utf8.encode
phases_full = refl

phases_fit : reading_of (limited 64 100 1000 1) (line (codes "a> A") ++ line (codes "GO"))
    ≡ read (codes "a" ∷ []) ((job 0 1 (codes "A") None ∷ []) ∷ []) None
unfolding is_utf8 chars lib.Utf8.encode
phases_fit = refl

-- a line of the limit, without its LF, and one byte more, in a block too
line_fits : reading_of (limited 64 4 1000 10) (line (codes "a> A")) ≡ read (codes "a" ∷ []) ((job 0 1 (codes "A") None ∷ []) ∷ []) None
unfolding is_utf8 chars lib.Utf8.encode
line_fits = refl

line_too_long : reading_of (limited 64 6 1000 10) (line (codes "a> PUT") ++ line (codes "1234567")) ≡ read [] [] (Some (fault.LineTooLong 2))
unfolding is_utf8 chars lib.Utf8.encode
line_too_long = refl

-- it is known before the line ends
line_too_long_early : phases_closed (limited 64 4 1000 10) (codes "a> AB") ≡ read [] [] (Some (fault.LineTooLong 1))
unfolding is_utf8 chars lib.Utf8.encode
line_too_long_early = refl

-- the bytes of a phase count its comments and its GO line; each phase begins at none
phase_fits : reading_of (limited 64 100 8 10) (line (codes "a> A") ++ (line (codes "GO") ++ (line (codes "a> A") ++ line (codes "GO"))))
    ≡ read (codes "a" ∷ []) ((job 0 1 (codes "A") None ∷ []) ∷ (job 0 3 (codes "A") None ∷ []) ∷ []) None
unfolding is_utf8 chars lib.Utf8.encode
phase_fits = refl

phase_too_long : reading_of (limited 64 100 7 10) (line (codes "a> A") ++ line (codes "GO")) ≡ read [] [] (Some (fault.PhaseTooLong 2))
unfolding is_utf8 chars lib.Utf8.encode
phase_too_long = refl

-- a session too many; one that is known is none
sessions_full : reading_of (limited 1 100 1000 10) (line (codes "a> A") ++ (line (codes "a> A") ++ line (codes "b> B")))
    ≡ read [] [] (Some (fault.SessionsFull 3))
unfolding is_utf8 chars lib.Utf8.encode
sessions_full = refl

-- at one line: behind the last GO, then too long a line, then too long a phase, then not UTF-8
first_full : reading_of (limited 64 2 1 0) (line (255 ∷ 255 ∷ 255 ∷ [])) ≡ read [] [] (Some (fault.PhasesFull 1))
unfolding is_utf8 chars lib.Utf8.encode
first_full = refl

then_line : reading_of (limited 64 2 1 1) (line (255 ∷ 255 ∷ 255 ∷ [])) ≡ read [] [] (Some (fault.LineTooLong 1))
unfolding is_utf8 chars lib.Utf8.encode
then_line = refl

then_phase : reading_of (limited 64 3 1 1) (line (255 ∷ 255 ∷ 255 ∷ [])) ≡ read [] [] (Some (fault.PhaseTooLong 1))
unfolding is_utf8 chars lib.Utf8.encode
then_phase = refl

then_utf8 : reading_of (limited 64 3 4 1) (line (255 ∷ 255 ∷ 255 ∷ [])) ≡ read [] [] (Some (fault.NotUtf8 1))
unfolding is_utf8 chars lib.Utf8.encode
then_utf8 = refl

-- no form before a session too many
then_form : reading_of (limited 0 100 1000 10) (line (codes "a>") ++ line (codes "a")) ≡ read [] [] (Some (fault.SessionsFull 1))
unfolding is_utf8 chars lib.Utf8.encode
then_form = refl

-- A WHOLE INPUT

-- a whole input as a block, and one that is too long
loaded : load_of 4 (codes "PUT t") (codes "k\r") ≡ read (codes "load" ∷ []) ((job 0 1 (codes "PUT t") (Some (codes "k\r")) ∷ []) ∷ []) None
loaded = refl

load_too_long : load_of 4 (codes "PUT t") (codes "k,x,y") ≡ read [] [] (Some (fault.PhaseTooLong 1))
load_too_long = refl
