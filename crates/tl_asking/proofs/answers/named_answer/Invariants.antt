use Rattle.tl_asking.proofs.answers.named_answer.Given as goal

abbrev pub ghosts-answer_uncounted : goal.ghosts-answer_uncounted
ghosts-answer_uncounted g a = record { name = a.blank.name; parts = a.blank.parts }
