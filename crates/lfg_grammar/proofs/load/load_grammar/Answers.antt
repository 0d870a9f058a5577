use Rattle.lfg_grammar.proofs.RefusalLaws.{loaded_unless, refused_by}
use Rattle.lfg_grammar.proofs.load.load_grammar.Goals as goal

pub returns-clause-accepted : goal.returns-clause-accepted
returns-clause-accepted c = λ g l. loaded_unless c.args.bytes.now g c.loaded.result c.loaded.ensures.refused l

pub returns-clause-refused : goal.returns-clause-refused
returns-clause-refused c = λ fault h. refused_by c.args.bytes.now fault c.loaded.result c.loaded.ensures.loaded c.loaded.ensures.refused h
