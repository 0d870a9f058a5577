use Rattle.std.proofs.Common.{◌≡◌, ◌++◌, drop, take}
use Rattle.std.specs.List.{All}
use Rattle.lfg_terms.specs.FactTexts.{IsPlacedArg}
use Rattle.lfg_terms.specs.Texts.{Keeps}
use Rattle.lfg_terms.proofs.TextSteps.{tail_text}
use Rattle.lfg_terms.proofs.fact_texts.push_args.Given as goal

-- what is written and the text of the arguments that are left make up the whole
abbrev pub invariant-loop-arg : goal.invariant-loop-arg
invariant-loop-arg l = record {
  written : l.text.items ++ tail_text l.table (drop l.arg-index l.others) ≡ l.initial.text.items ++ tail_text l.table l.others;
  placed : All IsPlacedArg (take l.arg-index l.others);
  kept : Keeps l.initial.text.items l.text.items;
}
