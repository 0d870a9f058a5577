use Rattle.lfg_output.proofs.Alike as laws
use Rattle.lfg_output.proofs.laws.a_sentence_has_one_parse_count.Goals as goal

pub returns : goal.returns
returns c = laws.one_parse_count
