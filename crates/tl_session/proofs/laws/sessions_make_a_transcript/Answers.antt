use Rattle.tl_jobs.specs.Turns.{meant}
use Rattle.tl_session.proofs.TranscriptLemmas.{is_transcript}
use Rattle.tl_session.proofs.laws.sessions_make_a_transcript.Goals as goal

pub returns : goal.returns
returns c = is_transcript meant
