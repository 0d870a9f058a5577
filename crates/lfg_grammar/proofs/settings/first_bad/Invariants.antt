use Rattle.lfg_grammar.proofs.Keys.{IsRest}
use Rattle.lfg_grammar.proofs.settings.first_bad.Given as goal

abbrev pub invariant-loop-i : goal.invariant-loop-i
invariant-loop-i l = IsRest l.settings l.i
