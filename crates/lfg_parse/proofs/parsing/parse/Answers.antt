use Rattle.std.proofs.Common.{ℕ, ◌<◌, subst, refl, sym, arith}
use Rattle.lfg_model.proofs.ChartLaws.{Lists-same}
use Rattle.lfg_instant.proofs.PickedLaws.{picked_kept}
use Rattle.lfg_parse.proofs.Parses.{good_tells, pair_is, reading_of, of_reading, plain, count_within, count_above, told_by, is_packed}
use Rattle.lfg_parse.proofs.parsing.parse.Goals as goal

pub returns-in_err-instances-clause-fault : goal.returns-in_err-instances-clause-fault
returns-in_err-instances-clause-fault c =
    told_by c.args.grammar.now c.args.tokens.now c.in_err-instances.field-0.0 c.from_residual-in_err-instances.result c.from_residual-in_err-instances.ensures.1 c.in_err-instances.ensures.fault

pub returns-then-len-grammar-clause-fault : goal.returns-then-len-grammar-clause-fault
returns-then-len-grammar-clause-fault c =
    let space = c.in_ok-instances.ensures.choices in (
      count_above c.args.grammar.now c.args.tokens.now c.requires.loaded c.in_ok-chart.chart.edges c.in_ok-chart.chart.forks c.in_ok-chart.ensures.chart space.placed space.all
          c.in_ok-instances.instances.literals.items c.in_ok-instances.ensures.literals c.in_ok-instances.instances.tree.items c.in_ok-instances.ensures.facts c.in_ok-judged.judged.good
          c.in_ok-judged.judged.tree c.in_ok-judged.judged.facts c.in_ok-judged.ensures.judged c.in_ok-judged.ensures.store
          (let e = c.len.ensures.value in omega (arith, e, c.if-len-grammar.true)),
      refl,
    )

pub invariant_of-result : goal.invariant_of-result
invariant_of-result c = record {
  is_packed = is_packed c.judge.new.contexts c.instantiate.new.space (picked_kept c.in_ok-judged.ensures.picks c.in_ok-instances.ensures.picks) c.args.grammar.now c.args.tokens.now
      c.in_ok-instances.instances.literals.items c.in_ok-instances.instances.tree.items c.in_ok-judged.judged.good c.in_ok-judged.judged.tree c.in_ok-judged.judged.facts
      c.in_ok-judged.ensures.good_made c.in_ok-judged.ensures.tree_made c.in_ok-judged.ensures.facts_made c.in_ok-judged.ensures.judged;
}

pub returns-clause-packs : goal.returns-clause-packs
returns-clause-packs c =
    let space = c.in_ok-instances.ensures.choices in
    record {
      choices = space.placed;
      are_choices = space.all;
      space = space.is;
      good = good_tells c.args.grammar.now c.args.tokens.now c.requires.loaded c.in_ok-chart.chart.edges c.in_ok-chart.chart.forks c.in_ok-chart.ensures.chart space.placed space.all
          c.in_ok-instances.instances.literals.items c.in_ok-instances.ensures.literals c.in_ok-instances.instances.tree.items c.in_ok-instances.ensures.facts c.in_ok-judged.judged.good
          c.in_ok-judged.judged.tree c.in_ok-judged.judged.facts c.in_ok-judged.ensures.judged;
      pair = pair_is c.args.grammar.now c.args.tokens.now c.requires.loaded c.in_ok-chart.chart.edges c.in_ok-chart.chart.forks c.in_ok-chart.ensures.chart space.placed space.all
          c.in_ok-instances.instances.literals.items c.in_ok-instances.ensures.literals c.in_ok-instances.instances.tree.items c.in_ok-instances.ensures.facts c.in_ok-judged.judged.good
          c.in_ok-judged.judged.tree c.in_ok-judged.judged.facts c.in_ok-judged.ensures.judged;
    }

pub returns-clause-readings : goal.returns-clause-readings
returns-clause-readings c pairs are =
    let space = c.in_ok-instances.ensures.choices in
    Lists-same (λ q. (
      (λ u. reading_of c.args.grammar.now c.args.tokens.now c.requires.loaded c.in_ok-chart.chart.edges c.in_ok-chart.chart.forks c.in_ok-chart.ensures.chart space.placed space.all
          c.in_ok-instances.instances.literals.items c.in_ok-instances.ensures.literals c.in_ok-instances.instances.tree.items c.in_ok-instances.ensures.facts c.in_ok-judged.judged.good
          c.in_ok-judged.judged.tree c.in_ok-judged.judged.facts c.in_ok-judged.ensures.judged u.assignment q u.good u.is),
      (λ r.
          (let h = of_reading c.args.grammar.now c.args.tokens.now c.requires.loaded c.in_ok-chart.chart.edges c.in_ok-chart.chart.forks c.in_ok-chart.ensures.chart space.placed space.all
          c.in_ok-instances.instances.literals.items c.in_ok-instances.ensures.literals c.in_ok-instances.instances.tree.items c.in_ok-instances.ensures.facts c.in_ok-judged.judged.good
          c.in_ok-judged.judged.tree c.in_ok-judged.judged.facts c.in_ok-judged.ensures.judged q r in
          record { assignment = h.0; good = h.1; is = h.2 })),
    )) are

pub returns-clause-plain : goal.returns-clause-plain
returns-clause-plain c =
    let space = c.in_ok-instances.ensures.choices in
    plain c.args.grammar.now c.args.tokens.now c.requires.loaded c.in_ok-chart.chart.edges c.in_ok-chart.chart.forks c.in_ok-chart.ensures.chart space.placed space.all
    c.in_ok-instances.instances.literals.items c.in_ok-instances.ensures.literals c.in_ok-instances.instances.tree.items c.in_ok-instances.ensures.facts c.in_ok-judged.judged.good
    c.in_ok-judged.judged.tree c.in_ok-judged.judged.facts c.in_ok-judged.ensures.judged c.in_ok-judged.ensures.store

pub returns-clause-within : goal.returns-clause-within
returns-clause-within c =
    let space = c.in_ok-instances.ensures.choices in
    count_within c.args.grammar.now c.args.tokens.now c.requires.loaded c.in_ok-chart.chart.edges c.in_ok-chart.chart.forks c.in_ok-chart.ensures.chart space.placed space.all
    c.in_ok-instances.instances.literals.items c.in_ok-instances.ensures.literals c.in_ok-instances.instances.tree.items c.in_ok-instances.ensures.facts c.in_ok-judged.judged.good
    c.in_ok-judged.judged.tree c.in_ok-judged.judged.facts c.in_ok-judged.ensures.judged c.in_ok-judged.ensures.store c.in_ok-instances.ensures.within
    (let e = c.len.ensures.value in omega (arith, e, c.if-len-grammar.false))
