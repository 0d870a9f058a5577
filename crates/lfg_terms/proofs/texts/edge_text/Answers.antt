use Rattle.std.proofs.Common.{◌≡◌, ◌∙◌, rules}
use Rattle.lfg_terms.specs.Texts.{edge_text}
use Rattle.lfg_terms.proofs.Reading.{edge_text_injective}
use Rattle.lfg_terms.proofs.texts.edge_text.Goals as goal

pub returns-clause-distinct : goal.returns-clause-distinct
returns-clause-distinct c other placed e =
    let text : c.push_edge.new.text.items ≡ edge_text c.args.edge.now = search rules in
    edge_text_injective other c.args.edge.now placed c.in_ok-push_edge.ensures.placed (e ∙ text)
