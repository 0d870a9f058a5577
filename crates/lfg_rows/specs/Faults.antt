-- What a fault says of a grammar file and a line.
use Rattle.std.specs.Prelude.{ℕ, List}
use Rattle.lfg_grammar.specs.Refusals.{IsRefusal}
use Rattle.lfg_token.specs.Faults.{IsFault}
use Rattle.lfg_rows.specs.declared.fault.ChartFault.{ChartFault}
use Rattle.lfg_rows.specs.declared.fault.ChartFault.TheVariants.{Grammar, Sentence, Memory}

-- the file is not loaded for this reason, or the line is no sentence for that reason; want of memory
-- says nothing of either
abbrev pub IsChartFault : List ℕ → List ℕ → ChartFault → Type 0
IsChartFault file line (Grammar fault) = IsRefusal file fault
IsChartFault file line (Sentence fault) = IsFault line fault
IsChartFault file line Memory = Unit {0}
