use Rattle.std.proofs.Common.{◌≡◌, true, take}
use Rattle.lfg_model.specs.TemplateRules.{NoneHas}
use Rattle.lfg_grammar.specs.Unlinked.{item_is_unlinked}
use Rattle.lfg_grammar.proofs.links.is_unlinked.Given as goal

abbrev pub invariant-loop-item : goal.invariant-loop-item
invariant-loop-item l = NoneHas (λ i. item_is_unlinked i ≡ true) (take l.item-index l.item-items)
