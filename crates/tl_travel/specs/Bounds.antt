-- What bounds the work over one table.
use Rattle.std.specs.Prelude.{ℕ, ◌+◌, List, length}
use Rattle.tl_types.specs.declared.commits.Entry.{Entry}
use Rattle.tl_types.specs.Entries.{commits_of}
use Rattle.tl_types.specs.History.{database_of, rows_of}
use Rattle.tl_types.specs.Plain as plain
use Rattle.tl_types.specs.Walks.{events_between}
use Rattle.tl_lanes.specs.Masks.{words_for}
use Rattle.tl_events.specs.Timeline.{ends_of, binary_digits}
use Rattle.tl_index.specs.Snapshots.{mark_before}

-- the number of events of a table after the version of the mark that is nearest before a version,
-- and up to that version
abbrev pub events_after_mark : List Entry → ℕ → ℕ → ℕ
events_after_mark entries table version =
    length (events_between (rows_of (database_of (commits_of entries)) table)
    (mark_before entries table version) version)

-- the number of begun 64s of rows of a table
abbrev pub begun_words : plain.Database → ℕ → ℕ
begun_words db table = words_for (length (rows_of db table))

-- how many binary digits one more than the number of a table's versions with events has
abbrev pub map_digits : plain.Database → ℕ → ℕ
map_digits db table = binary_digits (length (ends_of (rows_of db table) db.version) + 1)
