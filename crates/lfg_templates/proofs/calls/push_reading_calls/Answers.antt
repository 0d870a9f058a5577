use Rattle.std.proofs.Common.{arith, map}
use Rattle.lfg_model.specs.DraftForms.{word_form}
use Rattle.lfg_model.specs.TemplateRules.{reading_calls}
use Rattle.lfg_templates.specs.Views.{called_of}
use Rattle.lfg_templates.proofs.Gathering.{gathered, flat_map-map}
use Rattle.lfg_templates.proofs.calls.push_reading_calls.Goals as goal

pub returns : goal.returns
returns c = gathered (λ x. reading_calls (word_form x)) c.args.entries.now c.loop-entry.entry-index (map called_of c.args.out.now.items) (map called_of c.loop-entry.out.items) _ (omega arith) (flat_map-map reading_calls word_form c.args.entries.now) c.loop-entry.invariant
