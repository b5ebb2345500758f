use Rattle.tl_jobs.proofs.SyncedLemmas.{synced_rows}
use Rattle.tl_jobs.proofs.laws.a_sync_says_all.Goals as goal

pub returns : goal.returns
returns c = synced_rows
