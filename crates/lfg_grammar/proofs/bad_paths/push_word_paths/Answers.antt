use Rattle.std.proofs.Common.{arith, map}
use Rattle.lfg_model.specs.DraftForms.{word_form}
use Rattle.lfg_model.specs.Loads.{word_paths}
use Rattle.lfg_grammar.specs.BadPaths.{written_at}
use Rattle.lfg_templates.proofs.Gathering.{gathered, flat_map-map}
use Rattle.lfg_grammar.proofs.bad_paths.push_word_paths.Goals as goal

pub returns : goal.returns
returns c = gathered (λ x. word_paths (word_form x)) c.args.entries.now c.loop-entry.entry-index (map written_at c.args.out.now.items) (map written_at c.loop-entry.out.items) _ (omega arith) (flat_map-map word_paths word_form c.args.entries.now) c.loop-entry.invariant
