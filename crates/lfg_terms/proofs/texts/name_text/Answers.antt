use Rattle.std.proofs.Common.{◌≡◌, ◌∙◌, rules}
use Rattle.lfg_terms.specs.Texts.{name_text}
use Rattle.lfg_terms.proofs.Reading.{name_text_injective}
use Rattle.lfg_terms.proofs.texts.name_text.Goals as goal

pub returns-clause-distinct : goal.returns-clause-distinct
returns-clause-distinct c other e =
    let text : c.push_name.new.text.items ≡ name_text c.args.name.now = search rules in
    name_text_injective other c.args.name.now (e ∙ text)
