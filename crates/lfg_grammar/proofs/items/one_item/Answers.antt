use Rattle.std.proofs.Common.{◌≡◌, List, [], ◌∷◌, ◌++◌, ap, ◌∙◌}
use Rattle.lfg_terms.specs.declared.grammar.Item.{Item}
use Rattle.lfg_model.specs.Lists.{here}
use Rattle.lfg_model.specs.Templates.{end, and}
use Rattle.lfg_grammar.specs.Answers.{written_item}
use Rattle.lfg_grammar.proofs.items.one_item.Goals as goal

pub load_item-requires-clause-no_call : goal.load_item-requires-clause-no_call
load_item-requires-clause-no_call c = c.requires.no_calls (written_item c.args.cat.now c.args.schemata.now) here

pub returns : goal.returns
returns c =
    let one : c.push.new.self.items ≡ c.in_ok-load_item.field-0 ∷ [] = c.in_ok-push.ensures.items ∙ ap (λ (xs : List Item). xs ++ c.in_ok-load_item.field-0 ∷ []) c.new-items.ensures.items in
    rw one (and c.in_ok-load_item.ensures end)
