-- What the words after the program's name ask for.
use Rattle.std.specs.Prelude.{ℕ, ◌^◌, Bool, true, false, ◌&&◌, nat_le, nat_lt, List, [], ◌∷◌, length, map, codes, string_bytes, String, Option, Some, None, if◌then◌else◌}
use Rattle.std.specs.Char.{is_ascii_digit}
use Rattle.std.specs.List.{list_all}
use Rattle.std.specs.Str.{is_utf8}
use Rattle.std.specs.Str.Parse.{digits_value}
use Rattle.tl_types.specs.Names.{same_bytes, is_name}
use Rattle.tl_jobs.specs.Plain.{Pace}
use Rattle.tl_program.specs.declared.commands.Settings.{Settings}
use Rattle.tl_program.specs.declared.commands.Command.{Command}
use Rattle.tl_program.specs.declared.commands.Command.TheVariants as command

-- the bytes of each word
abbrev pub texts_of : {A : Type 0} → List (String A) → List (List ℕ)
texts_of words = map (λ w. string_bytes w) words

-- the words as the table of words has them; where one is not UTF-8 they are none, which is no
-- command
abbrev pub words_of : List (List ℕ) → List (List ℕ)
words_of given = if list_all is_utf8 given then given else []

-- the number below 2 ^ 64 that a word spells by one or more digits and nothing else
abbrev pub spelled_number : List ℕ → Option ℕ
spelled_number word =
    if nat_lt 0 (length word) && list_all is_ascii_digit word
    && nat_lt (digits_value 10 word) (2 ^ 64) then Some (digits_value 10 word) else None

-- the number, where it lies between two bounds
abbrev pub within : ℕ → ℕ → Option ℕ → Option ℕ
within least most None = None
within least most (Some n) = if nat_le least n && nat_le n most then Some n else None

-- the number that an option of this name sets, where the word is the name and the other spells a
-- number between the bounds
abbrev pub set_by : List ℕ → ℕ → ℕ → List ℕ → List ℕ → Option ℕ
set_by name least most word number =
    if same_bytes word name then within least most (spelled_number number) else None

-- `--workers` and a number from 1 to 64
abbrev pub workers_by : List ℕ → List ℕ → Option ℕ
workers_by word number = set_by (codes "--workers") 1 64 word number

-- `--every` and a number from 0 to 16,777,216
abbrev pub every_by : List ℕ → List ℕ → Option ℕ
every_by word number = set_by (codes "--every") 0 16777216 word number

-- the pace of two numbers, where both are given
abbrev pub pace_of : Option ℕ → Option ℕ → Option Pace
pace_of None every = None
pace_of (Some workers) None = None
pace_of (Some workers) (Some every) = Some (record { workers = workers; every = every })

-- the first where it is given, else the second
abbrev pub either : Option Pace → Option Pace → Option Pace
either (Some first) second = Some first
either None second = second

-- the pace that options set: none, one, or both in either order; 4 workers and 4096 events where
-- no option says otherwise
abbrev pub options_of : List (List ℕ) → Option Pace
options_of [] = pace_of (Some 4) (Some 4096)
options_of (word ∷ []) = None
options_of (word ∷ number ∷ []) =
    either (pace_of (workers_by word number) (Some 4096)) (pace_of (Some 4) (every_by word number))
options_of (word ∷ number ∷ other ∷ []) = None
options_of (word ∷ number ∷ other ∷ second ∷ []) =
    either (pace_of (workers_by word number) (every_by other second))
    (pace_of (workers_by other second) (every_by word number))
options_of (word ∷ number ∷ other ∷ second ∷ more ∷ words) = None

-- no command
abbrev pub nothing : Settings
nothing = record { command = None; pace = record { workers = 4; every = 4096 } }

-- a command with a pace, where both are given
abbrev pub with_pace : Option Command → Option Pace → Settings
with_pace command None = nothing
with_pace command (Some pace) = record { command = command; pace = pace }

-- a sample of so many lines that begins with a number, where both are given
abbrev pub sample_of : Option ℕ → Option ℕ → Option Command
sample_of None start = None
sample_of (Some lines) None = None
sample_of (Some lines) (Some start) = Some (command.Sample lines start)

-- the loading of a table, where the word is a name
abbrev pub load_of : List ℕ → Option Command
load_of table = if is_name table then Some (command.Load table) else None

-- the shipment of two versions, where both are given
abbrev pub ship_of : Option ℕ → Option ℕ → Option Command
ship_of None to = None
ship_of (Some from) None = None
ship_of (Some from) (Some to) = Some (command.Ship from to)

-- the version from 0 to 16,777,215 that a word spells
abbrev pub version_by : List ℕ → Option ℕ
version_by word = within 0 16777215 (spelled_number word)

-- behind a command that stands alone: no more words
abbrev pub alone : Command → List (List ℕ) → Settings
alone command [] = with_pace (Some command) (options_of [])
alone command (word ∷ words) = nothing

-- behind `ship`: two versions, and no more words
abbrev pub ship_settings : List (List ℕ) → Settings
ship_settings [] = nothing
ship_settings (from ∷ []) = nothing
ship_settings (from ∷ to ∷ []) =
    with_pace (ship_of (version_by from) (version_by to)) (options_of [])
ship_settings (from ∷ to ∷ word ∷ words) = nothing

-- behind `watch`: one word, whatever it is, and no more words
abbrev pub watch_settings : List (List ℕ) → Settings
watch_settings [] = nothing
watch_settings (text ∷ []) = with_pace (Some (command.Watch text)) (options_of [])
watch_settings (text ∷ word ∷ words) = nothing

-- behind `load`: a name, and options
abbrev pub load_settings : List (List ℕ) → Settings
load_settings [] = nothing
load_settings (table ∷ options) = with_pace (load_of table) (options_of options)

-- behind `sample`: 1 to 1,000,000, a number below 2 ^ 64, and options
abbrev pub sample_settings : List (List ℕ) → Settings
sample_settings [] = nothing
sample_settings (lines ∷ []) = nothing
sample_settings (lines ∷ start ∷ options) =
    with_pace (sample_of (within 1 1000000 (spelled_number lines)) (spelled_number start))
    (options_of options)

-- what the words ask for: `init`, `group`, `transact` or `follow`; `ship` and its two versions;
-- `watch` and its text; or `run`, `load` and a name, or `sample` and its two numbers, each of these
-- three with options behind it
abbrev pub settings_of : List (List ℕ) → Settings
settings_of [] = nothing
settings_of (word ∷ words) =
    if same_bytes word (codes "init") then alone command.Init words
    else (if same_bytes word (codes "run") then with_pace (Some command.Run) (options_of words)
    else (if same_bytes word (codes "load") then load_settings words
    else (if same_bytes word (codes "sample") then sample_settings words
    else (if same_bytes word (codes "group") then alone command.Group words
    else (if same_bytes word (codes "ship") then ship_settings words
    else (if same_bytes word (codes "follow") then alone command.Follow words
    else (if same_bytes word (codes "watch") then watch_settings words
    else (if same_bytes word (codes "transact") then alone command.Transact words
    else nothing))))))))

-- the command that the words are
abbrev pub command_of : List (List ℕ) → Option Command
command_of words = (settings_of words).command

-- the source is read by `run`, `load`, `group`, `transact`, `follow` and `watch` alone
abbrev pub reads_source : Option Command → Bool
reads_source None = false
reads_source (Some command.Init) = false
reads_source (Some command.Run) = true
reads_source (Some (command.Load table)) = true
reads_source (Some (command.Sample lines start)) = false
reads_source (Some command.Group) = true
reads_source (Some (command.Ship from to)) = false
reads_source (Some command.Follow) = true
reads_source (Some (command.Watch text)) = true
reads_source (Some command.Transact) = true

-- the disk is used by all commands but `sample`
abbrev pub uses_disk : Option Command → Bool
uses_disk None = false
uses_disk (Some command.Init) = true
uses_disk (Some command.Run) = true
uses_disk (Some (command.Load table)) = true
uses_disk (Some (command.Sample lines start)) = false
uses_disk (Some command.Group) = true
uses_disk (Some (command.Ship from to)) = true
uses_disk (Some command.Follow) = true
uses_disk (Some (command.Watch text)) = true
uses_disk (Some command.Transact) = true
