-- The blocks of the sample.
use Rattle.std.specs.Prelude.{ℕ, zero, suc, ◌+◌, ◌-◌, ◌*◌, ◌/◌, ◌%◌, min, ◌==◌, List, [], ◌++◌, codes, Option, Some, None, if◌then◌else◌}
use Rattle.std.specs.Fmt.{decimal}

-- the i-th number of the linear congruential generator that begins with `start`
abbrev pub nth_number : ℕ → ℕ → ℕ
nth_number start zero = start % 2147483648
nth_number start (suc i) = (1103515245 * nth_number start i + 12345) % 2147483648

-- the value of line i
abbrev pub value_of : ℕ → ℕ → ℕ
value_of start i = nth_number start (i + 1) / 65536

-- the id of line i: half of each full block has ids of the block before it
abbrev pub id_of : ℕ → ℕ
id_of i = 5000 * (i / 10000) + i % 10000

-- a line: an id, a group and a value, separated by commas, and LF
abbrev pub line_text : ℕ → ℕ → List ℕ
line_text id value =
    decimal id
    ++ (codes "," ++ (decimal (value % 8) ++ (codes "," ++ (decimal value ++ codes "\n"))))

-- so many lines from line i on
abbrev pub lines_from : ℕ → ℕ → ℕ → List ℕ
lines_from start i zero = []
lines_from start i (suc n) = line_text (id_of i) (value_of start i) ++ lines_from start (i + 1) n

-- a block: the header, and so many lines from line i on
abbrev pub block_text : ℕ → ℕ → ℕ → List ℕ
block_text start i n = codes "id,grp,val\n" ++ lines_from start i n

-- a sample of so many lines, and how many of them were given
pub record Sample : Type 0 where
  pub lines : ℕ
  pub start : ℕ
  pub given : ℕ

-- the number of lines that are given after the next block: up to 10,000 more
abbrev pub block_end : Sample → ℕ
block_end sample = min (sample.given + 10000) sample.lines

-- the next block: the header and the next lines; none where all lines were given
abbrev pub block_of : Sample → Option (List ℕ)
block_of sample =
    if sample.given == sample.lines then None
    else Some (block_text sample.start sample.given (block_end sample - sample.given))
