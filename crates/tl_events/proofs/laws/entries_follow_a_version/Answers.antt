use Rattle.tl_events.proofs.FollowLemmas.{split_follow}
use Rattle.tl_events.proofs.laws.entries_follow_a_version.Goals as goal

pub returns : goal.returns
returns c = split_follow
