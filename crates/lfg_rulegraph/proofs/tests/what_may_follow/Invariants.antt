use Rattle.lfg_rulegraph.proofs.tests.what_may_follow.Given as goal

abbrev pub ghosts-told_of_a_row : goal.ghosts-told_of_a_row
ghosts-told_of_a_row g a = record { name = a.blank.name; parts = a.blank.parts }
