use Rattle.lfg_grammar.specs.Parts.{memory}
use Rattle.lfg_grammar.proofs.parts.bad_path.Goals as goal

pub returns-in-Memory : goal.returns-in-Memory
returns-in-Memory c = memory
