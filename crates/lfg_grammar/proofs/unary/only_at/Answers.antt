use Rattle.std.proofs.Common.{◌∙◌, sym, arith}
use Rattle.std.proofs.lemmas.Bool.{false≢true}
use Rattle.lfg_grammar.proofs.UnaryLaws.{follow_before, follow_after, none_weaker}
use Rattle.lfg_grammar.proofs.unary.only_at.Goals.{else-from_start-link-via-then-from_start-link+else-to_end-link, else-from_start-link-via-else-from_start-link}
use Rattle.lfg_grammar.proofs.unary.only_at.Goals as goal

pub bounds-from_start-link : goal.bounds-from_start-link
bounds-from_start-link c =
    let l = follow_before c.args.rule.now.graph c.args.link.from c.args.link.to c.requires.graph c.requires.follows in
    omega (arith, l, c.requires.from_start.wide)

pub bounds-to_end-link : goal.bounds-to_end-link
bounds-to_end-link c =
    let l = follow_after c.args.rule.now.graph c.args.link.from c.args.link.to c.requires.graph c.requires.follows in
    omega (arith, l, c.requires.to_end.wide)

pub returns-then-to_end-link-clause-none : goal.returns-then-to_end-link-clause-none
returns-then-to_end-link-clause-none c = none_weaker c.category_at.result c.category_at.ensures.none (λ n cat h. n cat h.item)

pub returns-clause-none : goal.returns-clause-none
returns-clause-none c = λ cat h.
    let before = follow_before c.args.rule.now.graph c.args.link.from c.args.link.to c.requires.graph c.requires.follows in
    let behind = follow_after c.args.rule.now.graph c.args.link.from c.args.link.to c.requires.graph c.requires.follows in
    elim c.else-from_start-link.branch [
      | else-from_start-link-via-then-from_start-link+else-to_end-link w ↦ false≢true (sym w.if-to_end-link.false ∙ (c.requires.to_end.exact c.args.link.to behind).1 h.behind)
      | else-from_start-link-via-else-from_start-link w ↦ false≢true (sym w.if-from_start-link.false ∙ (c.requires.from_start.exact c.args.link.from before).1 h.before)
    ]
