use Rattle.lfg_notation.proofs.FileLaws.{accepted, refused}
use Rattle.lfg_notation.proofs.draft.read_grammar_text.Goals as goal

pub returns-clause-accepted : goal.returns-clause-accepted
returns-clause-accepted c = accepted c.args.bytes.now c.file_read.result c.file_read.ensures

pub returns-clause-refused : goal.returns-clause-refused
returns-clause-refused c = refused c.args.bytes.now c.file_read.result c.file_read.ensures
