-- Any calls.
use Rattle.std.proofs.Common.{◌≡◌, Bool, true, false, List, [], ◌∷◌, ◌++◌, Option, Some, None, refl, sym, ap, ◌∙◌, subst, append_assoc, append-nil}
use Rattle.tl_types.specs.declared.commits.Commit.{Commit}
use Rattle.tl_types.specs.declared.commits.Entry.{Entry}
use Rattle.tl_types.specs.declared.limits.Limits.{Limits}
use Rattle.tl_types.specs.Entries.{commits_of}
use Rattle.tl_types.specs.History.{database_of, fits}
use Rattle.tl_follow.specs.declared.packets.Packet.{Packet}
use Rattle.tl_follow.specs.Following.{followed, Following, commits_in, next_held, IsFollowing}
use Rattle.tl_follow.specs.Calls.{Call, Take, Advance, after_take, advanced_by, after_advance, after_calls, packets_of, follower_of}
use Rattle.tl_follow.proofs.Holding.{take_follows, start_follows, take_limits}
use Rattle.tl_follow.proofs.Advancing.{advance_follows, ended}

calls_follow : (calls : List Call) (f : Following) (start : List Entry) (packets : List Packet) → IsFollowing start packets f → IsFollowing start (packets ++ packets_of calls) (after_calls f calls)
calls_follow [] f start packets h = subst (λ ps. IsFollowing start ps f) (sym (append-nil packets)) h
calls_follow (Take p ∷ calls) f start packets h =
    subst (λ ps. IsFollowing start ps (after_calls (after_take f p) calls)) (append_assoc packets (p ∷ []) (packets_of calls))
    (calls_follow calls (after_take f p) start (packets ++ p ∷ []) (take_follows f start packets p h))
calls_follow (Advance ∷ calls) f start packets h = calls_follow calls (after_advance f) start packets (advance_follows f start packets h)

pub any_follow : (limits : Limits) (start : List Entry) (calls : List Call) → IsFollowing start (packets_of calls) (after_calls (follower_of limits start) calls)
any_follow limits start calls = calls_follow calls (follower_of limits start) start [] (start_follows limits start)

-- the limits stay

advance_limits : (f : Following) (o : Option Commit) → (advanced_by f o).limits ≡ f.limits
advance_limits f None = refl
advance_limits f (Some c) = by_fits (fits f.limits (database_of (commits_in f)) c) refl where
  by_fits : (t : Bool) → fits f.limits (database_of (commits_in f)) c ≡ t → (advanced_by f (Some c)).limits ≡ f.limits
  by_fits true t = rw t refl
  by_fits false t = rw t refl

calls_limits : (calls : List Call) (f : Following) → (after_calls f calls).limits ≡ f.limits
calls_limits [] f = refl
calls_limits (Take p ∷ calls) f = calls_limits calls (after_take f p) ∙ take_limits f p
calls_limits (Advance ∷ calls) f = calls_limits calls (after_advance f) ∙ advance_limits f (next_held f)

pub any_end : (limits : Limits) (start : List Entry) (calls : List Call) → next_held (after_calls (follower_of limits start) calls) ≡ None → commits_in (after_calls (follower_of limits start) calls) ≡ followed limits (commits_of start) (packets_of calls)
any_end limits start calls n =
    let f = after_calls (follower_of limits start) calls in
    (ended f start (packets_of calls) (any_follow limits start calls) n).0
    ∙ ap (λ l. followed l (commits_of start) (packets_of calls)) (calls_limits calls (follower_of limits start))
