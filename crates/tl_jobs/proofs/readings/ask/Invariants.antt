use Rattle.tl_jobs.proofs.readings.ask.Given as goal

abbrev pub ghosts-answer_uncounted : goal.ghosts-answer_uncounted
ghosts-answer_uncounted g a = record { name = a.blank.name; parts = a.blank.parts }
