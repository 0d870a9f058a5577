use Rattle.std.proofs.Common.{map, ap, subst, sym, ◌∙◌}
use Rattle.lfg_model.specs.Output.{sentences_of}
use Rattle.xle_run.specs.Writes.{AreSentences}
use Rattle.xle_run.proofs.SectionLaws.{puts_nothing, are_sentences}
use Rattle.xle_run.proofs.sections.write_text.Goals as goal

pub returns-in_default-clause-written : goal.returns-in_default-clause-written
returns-in_default-clause-written g c before e = puts_nothing (Unit {0}) c.args.grammar.now (sentences_of c.args.text.now) before _ e

pub write_sections-requires-clause-sentences : goal.write_sections-requires-clause-sentences
write_sections-requires-clause-sentences g c = subst AreSentences (sym (ap (map (λ s. s.now)) c.deref.ensures.value ∙ c.in-Ok.ensures)) (are_sentences c.args.text.now c.requires.text)
