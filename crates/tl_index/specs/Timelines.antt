-- What is kept of the events of each table.
use Rattle.std.specs.Prelude.{ℕ, ◌+◌, ◌==◌, List, [], ◌∷◌, ◌++◌, length, map, if◌then◌else◌}
use Rattle.tl_types.specs.declared.commits.Commit.{Commit}
use Rattle.tl_types.specs.Events.{events_of}
use Rattle.tl_types.specs.History.{database_of}
use Rattle.tl_types.specs.Plain as plain
use Rattle.tl_events.specs.Timeline.{version_events, ends_of}
use Rattle.tl_index.specs.declared.timelines.Timeline.{Timeline}

-- the events of a table up to a version, and the versions that have some
abbrev pub timeline_of : ℕ → plain.Table → Timeline
timeline_of version table =
    record { events = events_of table.rows version; ends = ends_of table.rows version }

-- those of every table of a database at its version
abbrev pub timelines_in : plain.Database → List Timeline
timelines_in db = map (timeline_of db.version) db.tables

-- and after these commits
abbrev pub timelines_of : List Commit → List Timeline
timelines_of commits = timelines_in (database_of commits)

-- the timeline with the events of one more version, none of which leave it as it was
abbrev pub timeline_after : Timeline → ℕ → List ℕ → ℕ → ℕ → Timeline
timeline_after timeline version closes first opens =
    record {
      events = timeline.events ++ version_events closes first opens;
      ends = if length closes + opens == 0 then timeline.ends
          else timeline.ends ++ record {
            version = version;
            end = length timeline.events + (length closes + opens);
          } ∷ [];
    }
