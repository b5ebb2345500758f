use Rattle.std.proofs.Common.{◌≡◌, ◌<◌, ℕ, false, slice_index_or}
use Rattle.tl_session.specs.Plain as plain
use Rattle.tl_session.proofs.phases.has_run_out.Given as goal

-- memory ran out in none of the sessions so far
abbrev pub invariant-loop-session : goal.invariant-loop-session
invariant-loop-session g l = (i : ℕ) (d : plain.Session) → i < l.session-index → (slice_index_or l.sessions i d).ran_out ≡ false
