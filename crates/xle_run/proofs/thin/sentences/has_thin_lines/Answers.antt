use Rattle.std.proofs.Common.{rules, tests}
use Rattle.std.proofs.lemmas.Iterator.Search.{all_from_yields_List}
use Rattle.std.proofs.lemmas.Iterator.Splits.{YieldsList-from_lines}
use Rattle.lfg_model.specs.ThinText.{is_thin_line}
use Rattle.xle_run.proofs.thin.sentences.has_thin_lines.Goals as goal

pub returns : goal.returns
returns c = all_from_yields_List is_thin_line _ _ _ c.all.ensures.ran (YieldsList-from_lines c.args.text.now c.lines.ensures.rest) (λ x b q k. search (rules, tests))
