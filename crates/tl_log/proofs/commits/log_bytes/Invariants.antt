use Rattle.tl_log.proofs.commits.log_bytes.Given as goal

abbrev pub ghosts-put_commits : goal.ghosts-put_commits
ghosts-put_commits a = record { name = a.blank.name; parts = a.blank.parts }
