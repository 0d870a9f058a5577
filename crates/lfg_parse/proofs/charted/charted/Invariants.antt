-- the counter's members are those of the blank
use Rattle.lfg_parse.proofs.charted.charted.Given as goal

abbrev pub ghosts-counted : goal.ghosts-counted
ghosts-counted a = record { name = a.blank.name; parts = a.blank.parts }
