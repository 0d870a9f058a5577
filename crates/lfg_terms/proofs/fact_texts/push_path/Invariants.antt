use Rattle.std.proofs.Common.{◌≡◌, ◌++◌, drop}
use Rattle.lfg_terms.specs.Texts.{Keeps}
use Rattle.lfg_terms.specs.FactTexts.{path_text}
use Rattle.lfg_terms.proofs.fact_texts.push_path.Given as goal

-- what is written and the text of the attributes that are left make up the whole
abbrev pub invariant-loop-name : goal.invariant-loop-name
invariant-loop-name l = record {
  written : l.text.items ++ path_text (drop l.name-index l.name-items) ≡ l.initial.text.items ++ path_text l.name-items;
  kept : Keeps l.initial.text.items l.text.items;
}
