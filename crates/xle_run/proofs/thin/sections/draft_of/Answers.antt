use Rattle.xle_run.proofs.Forms.{no_sections, no_config, no_phrases, no_words}
use Rattle.xle_run.proofs.thin.sections.draft_of.Goals as goal

pub returns-in_default : goal.returns-in_default
returns-in_default c = no_sections c.args.lexemes.now c.in_default.ensures

pub returns-in_default-root_of : goal.returns-in_default-root_of
returns-in_default-root_of c = let s = c.in-Some.sections in no_config c.args.lexemes.now s.config.now s.rules.now s.lexicon.now c.in-Some.ensures c.in_default-root_of.ensures

pub returns-in_default-2 : goal.returns-in_default-2
returns-in_default-2 c = let s = c.in-Some.sections in no_phrases c.args.lexemes.now s.config.now s.rules.now s.lexicon.now c.in-Some.ensures (rw c.in_default-2.is at c.in_ok-phrases.ensures)

pub returns-in_default-3 : goal.returns-in_default-3
returns-in_default-3 c = let s = c.in-Some.sections in no_words c.args.lexemes.now s.config.now s.rules.now s.lexicon.now c.in-Some.ensures (rw c.in_default-3.is at c.in_ok-entries.ensures)
