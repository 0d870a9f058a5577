use Rattle.std.proofs.lemmas.Result.{on_ok_weaker}
use Rattle.lfg_model.specs.Terms.{annotation_of}
use Rattle.lfg_solve.proofs.DerivationLaws.{word_written}
use Rattle.lfg_solve.proofs.derivation.push_word_literals.Goals as goal

pub returns : goal.returns
returns c =
    on_ok_weaker c.push_resolved.result
    (word_written c.args.grammar.now c.args.own.now c.in_ok-clone.field-0 c.args.entry c.args.picks.now (annotation_of c.entry_schemata.result.now) c.args.list.now.items c.push_resolved.new.literals.items
    c.in_ok-clone.ensures.cases c.entry_schemata.ensures)
    c.push_resolved.ensures
