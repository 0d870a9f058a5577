use Rattle.std.proofs.lemmas.Result.{on_ok_weaker}
use Rattle.lfg_model.specs.Terms.{annotation_of}
use Rattle.lfg_solve.proofs.DerivationLaws.{item_written}
use Rattle.lfg_solve.proofs.derivation.Mother.push_item_literals.Goals as goal

pub returns : goal.returns
returns c =
    on_ok_weaker c.push_resolved.result
    (item_written c.args.self.now.items.now c.args.self.now.edge.now c.in_ok-clone.field-0 c.args.down.now c.args.part.now.occ c.deref.result.now c.args.part.now.picks.items c.args.at c.args.to
    (annotation_of c.item_schemata-schemata.result.now) c.args.list.now.items c.push_resolved.new.literals.items
    c.in_ok-clone.ensures.cases c.item_schemata-schemata.ensures c.deref.ensures.value)
    c.push_resolved.ensures
