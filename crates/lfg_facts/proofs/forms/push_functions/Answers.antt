use Rattle.std.proofs.Common.{refl, arith}
use Rattle.lfg_facts.proofs.FactLaws.{functions_none, functions_more, functions_all}
use Rattle.lfg_facts.proofs.forms.push_functions.Goals as goal

pub loop-place-init : goal.loop-place-init
loop-place-init c = record {
  facts = c.requires.facts;
  place = omega arith;
  adds = functions_none c.args.relation.now c.args.functions.now c.args.name.now c.args.here.now c.args.facts.now.items;
}

pub loop-place-preserved : goal.loop-place-preserved
loop-place-preserved c = record {
  facts = c.in_ok-push_function.ensures.facts;
  place = omega arith;
  adds = functions_more c.loop-place.place c.args.relation.now c.args.functions.now c.args.name.now c.args.here.now c.index-functions-place.result _ c.args.facts.now.items c.loop-place.facts.items c.push_function.new.facts.items
      (omega arith) c.index-functions-place.is refl c.loop-place.invariant.adds c.in_ok-push_function.ensures.adds;
}

pub returns-clause-adds : goal.returns-clause-adds
returns-clause-adds c =
    functions_all c.loop-place.place c.args.relation.now c.args.functions.now c.args.name.now c.args.here.now c.args.facts.now.items c.loop-place.facts.items (omega arith) c.loop-place.invariant.adds
