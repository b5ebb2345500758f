use Rattle.std.proofs.Common.{◌≡◌, ◌+◌, ◌≤◌, length, vec_len, vec_capacity}
use Rattle.tl_session.specs.Phases.{AllFresh, parts_of}
use Rattle.tl_session.proofs.phases.sessions_of.Given as goal

-- so many sessions are made, and there is room for the others
abbrev pub invariant-loop-author : goal.invariant-loop-author
invariant-loop-author g l =
    (l.pass ≡ l.initial.pass) × (l.share.amount ≡ l.initial.share.amount)
    × AllFresh l.initial.pass.seen l.sessions.items × (length l.sessions.items ≡ l.author)
    × (l.share.parts + parts_of l.sessions.items ≡ l.initial.share.parts)
    × (l.share.parts + l.author ≡ l.initial.share.parts)
    × (vec_len l.sessions ≡ l.author) × (l.count ≤ vec_capacity l.sessions)
