use Rattle.lfg_chart.proofs.tests.chart_by_words.Given as goal

abbrev pub ghosts-charted : goal.ghosts-charted
ghosts-charted a = record { name = a.blank.name; parts = a.blank.parts }
