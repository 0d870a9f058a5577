use Rattle.std.proofs.Common.{◌≡◌, ◌∙◌, List, length, sym, subst, true, false}
use Rattle.std.specs.Prelude.{◌==◌}
use Rattle.lfg_terms.specs.declared.node.Edge.{Edge}
use Rattle.lfg_parse.proofs.Closures.{none_good, some_good, first_in, no_first}
use Rattle.lfg_parse.proofs.good.good_of.Goals as goal

pub returns-then-is_empty-clause-tells : goal.returns-then-is_empty-clause-tells
returns-then-is_empty-clause-tells c =
    let P : List Edge → Type 0 = λ es. (length es == 0) ≡ true in
    none_good c.args.grammar.now c.args.tokens.now c.args.chart.now.edges c.args.chart.now.forks c.args.literals.now c.no.result c.requires.chart
    (no_first c.args.chart.now.edges (subst P c.edges.ensures (sym c.is_empty.ensures ∙ c.if-is_empty.true))) c.no.ensures.members

pub returns-clause-tells : goal.returns-clause-tells
returns-clause-tells c =
    let P : List Edge → Type 0 = λ es. (length es == 0) ≡ false in
    let first = first_in c.args.chart.now.edges (subst P c.edges.ensures (sym c.is_empty.ensures ∙ c.if-is_empty.false)) in
    some_good c.args.grammar.now c.args.tokens.now first.0 c.args.chart.now.edges c.args.chart.now.forks c.args.literals.now c.in_ok-good.good c.requires.chart first.1 c.in_ok-good.ensures.tells
