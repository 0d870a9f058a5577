use Rattle.std.proofs.Common.{[], List, subst}
use Rattle.lfg_packed.specs.declared.key.ChoiceKey.{ChoiceKey}
use Rattle.lfg_instant.specs.Collects.{Collects}
use Rattle.lfg_instant.specs.Sites.{IsKeyOf}
use Rattle.lfg_instant.proofs.SiteLaws.{keys_listed}
use Rattle.lfg_instant.proofs.sites.site_keys.Goals as goal

pub returns : goal.returns
returns c =
    let g = c.args.grammar.now in
    let s = c.args.tokens.now in
    let P : List ChoiceKey → Type 0 = λ old. Collects old c.add_item_keys.new.keys.items (IsKeyOf g s c.args.steps.now) in
    let first : P [] = subst P c.new-keys.ensures.items (c.in_ok-add_item_keys.ensures g s) in
    keys_listed g s c.args.chart.now.edges c.args.chart.now.forks c.args.lists.now c.args.steps.now c.args.words.now
    c.requires.loaded c.requires.chart c.requires.entries c.requires.steps c.requires.words
    c.add_item_keys.new.keys.items c.add_entry_keys.new.keys.items c.in_ok-keys.keys.items first c.in_ok-add_entry_keys.ensures c.in_ok-keys.ensures
