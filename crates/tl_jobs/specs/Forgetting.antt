-- What a floor changes of queries that state their versions by numbers.
use Rattle.std.specs.Prelude.{◌≡◌, ℕ, ◌+◌, ◌≤◌, nat_abs, List, map, Option, Some, None, Result, Ok}
use Rattle.tl_types.specs.declared.commits.Commit.{Commit}
use Rattle.tl_types.specs.declared.commits.Body.TheVariants as body
use Rattle.tl_types.specs.Plain as plain
use Rattle.tl_types.specs.History.{with_floor}
use Rattle.tl_query.specs.declared.ast.Stamp.{Stamp}
use Rattle.tl_query.specs.declared.ast.AsOf.{AsOf}
use Rattle.tl_query.specs.declared.ast.AsOf.TheVariants as as_ofs
use Rattle.tl_query.specs.declared.ast.Over.{Over}
use Rattle.tl_query.specs.declared.ast.Over.TheVariants as over
use Rattle.tl_query.specs.declared.ast.Query.{Query}
use Rattle.tl_query.specs.declared.ast.Query.TheVariants as query
use Rattle.tl_query.specs.declared.check_faults.CheckFault.{CheckFault}
use Rattle.tl_query.specs.declared.typed_queries.Typed.{Typed}
use Rattle.tl_query.specs.Answers.{answer_of}
use Rattle.tl_query.specs.CheckingQueries.{checked}

-- the tables of a database, each with floor 0
abbrev pub tables_without_floors : plain.Database → List plain.Table
tables_without_floors db = map (with_floor 0) db.tables

-- the commit sets the floor of a table
abbrev pub IsForget : Commit → Type 0
IsForget commit = (number : ℕ) × (floor : ℕ) × (commit.body ≡ body.Forget number floor)

-- the version after AS OF, where it is given as a number
abbrev pub stated_in : Option AsOf → Option Stamp
stated_in None = None
stated_in (Some (as_ofs.Version stamp)) = Some stamp
stated_in (Some (as_ofs.Moment stamp)) = None

-- the first version of a range, or that of a range of valid time, where it is given as a number
abbrev pub stated_over : Over → Option Stamp
stated_over over.SystemAll = None
stated_over (over.System from to) = Some from
stated_over (over.Valid pos from to as_of) = stated_in as_of

-- the first version that a query asks for, where it is given as a number
abbrev pub stated_at : Query → Option Stamp
stated_at (query.Select form) = stated_in form.as_of
stated_at (query.Agg form) = stated_over form.over
stated_at (query.Join form) = stated_over form.over

-- a version that is given as a number is none after this one
abbrev pub IsReachedIn : ℕ → Option AsOf → Type 0
IsReachedIn now None = Unit {0}
IsReachedIn now (Some (as_ofs.Version stamp)) = nat_abs stamp.value ≤ now
IsReachedIn now (Some (as_ofs.Moment stamp)) = Unit {0}

-- the versions of a range that are given as numbers are none after this one
abbrev pub IsReachedOver : ℕ → Over → Type 0
IsReachedOver now over.SystemAll = Unit {0}
IsReachedOver now (over.System from to) = nat_abs to.value ≤ now + 1
IsReachedOver now (over.Valid pos from to as_of) = IsReachedIn now as_of

-- the versions that a query gives as numbers are none after this one
abbrev pub IsReachedBy : ℕ → Query → Type 0
IsReachedBy now (query.Select form) = IsReachedIn now form.as_of
IsReachedBy now (query.Agg form) = IsReachedOver now form.over
IsReachedBy now (query.Join form) = IsReachedOver now form.over

-- what a query is over a database: the query by numbers, or its first fault
abbrev pub asked : plain.Database → Query → Result Typed CheckFault
asked db q = checked db.version db q

-- over this database a query may be asked, and has the answer that it has over the other
abbrev pub IsAnsweredAs : plain.Database → plain.Database → Query → Typed → Type 0
IsAnsweredAs other db q t = (asked db q ≡ Ok t) × (answer_of db t ≡ answer_of other t)
