use Rattle.xle_run.proofs.AsciiBytes.{sentence_utf8}
use Rattle.xle_run.proofs.thin.sentences.thin_text.Goals as goal

pub returns-in_default : goal.returns-in_default
returns-in_default c = λ s. c.in_default.ensures.cases.0 (sentence_utf8 c.args.bytes.now s.plain)
