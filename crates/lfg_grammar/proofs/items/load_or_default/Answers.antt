use Rattle.lfg_grammar.proofs.ItemLaws.{default_loads, own_calls}
use Rattle.lfg_grammar.proofs.items.load_or_default.Goals as goal

pub returns-in_default : goal.returns-in_default
returns-in_default c = default_loads c.args.depth c.args.cat.now c.args.schemata.now c.in_ok-default_annotation.field-0 c.in_default.is c.in_ok-default_annotation.ensures

pub load_annotation-requires-clause-no_call : goal.load_annotation-requires-clause-no_call
load_annotation-requires-clause-no_call c = rw c.deref.ensures.value (own_calls c.args.cat.now c.args.schemata.now c.in-Some.schemata c.in-Some.is c.requires.no_call)
