use Rattle.std.proofs.Common.{◌≡◌, ◌++◌, map, take}
use Rattle.std.specs.List.{flat_map}
use Rattle.lfg_model.specs.DraftForms.{word_form}
use Rattle.lfg_model.specs.Loads.{word_paths}
use Rattle.lfg_grammar.specs.BadPaths.{written_at}
use Rattle.lfg_grammar.proofs.bad_paths.push_word_paths.Given as goal

abbrev pub invariant-loop-entry : goal.invariant-loop-entry
invariant-loop-entry l = map written_at l.out.items ≡ map written_at l.initial.out.items ++ flat_map (λ x. word_paths (word_form x)) (take l.entry-index l.entries)
