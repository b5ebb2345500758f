-- What a watch tells after a commit: its values as the rows of an answer.
use Rattle.std.specs.Prelude.{ℕ, pos, List, [], ◌∷◌, ◌++◌, length, map, codes}
use Rattle.tl_types.specs.declared.answers.Answer.{Answer}
use Rattle.tl_types.specs.declared.answers.Field.{Field}
use Rattle.tl_types.specs.declared.answers.Field.TheVariants as field
use Rattle.tl_types.specs.declared.commits.Commit.{Commit}
use Rattle.tl_types.specs.History.{database_of}
use Rattle.tl_query.specs.Answers.{group_fields}
use Rattle.tl_jobs.specs.declared.replies.ReplyBody.TheVariants as body
use Rattle.tl_jobs.specs.Reading.{text_of_answer}
use Rattle.tl_jobs.specs.Replies.{body_bytes}
use Rattle.tl_watch.specs.declared.plans.WatchPlan.{WatchPlan}
use Rattle.tl_watch.specs.declared.standings.Standing.{Standing}
use Rattle.tl_watch.specs.Standings.{standing_of}

-- a value as a row: its group where it has one, the value, and the number of its rows
abbrev pub standing_fields : Standing → List Field
standing_fields standing =
    group_fields standing.group
    ++ standing.value ∷ field.Number (pos standing.count) ∷ []

-- the values as the rows of an answer, in order
abbrev pub standing_answer : List Standing → Answer
standing_answer standings = record { rows = map standing_fields standings }

-- the line `watch @V rows N`, V being the number of the commits, and the values of the plan over
-- the tables that the commits make, as N rows
abbrev pub watch_bytes : WatchPlan → List Commit → List ℕ
watch_bytes plan commits =
    body_bytes (codes "watch") (length commits)
    (body.Rows (text_of_answer (standing_answer (standing_of (database_of commits) plan))))
