use Rattle.std.proofs.Common.{◌+◌, ◌∙◌, List, Vec, Global, get_or, refl, ap, sym, subst}
use Rattle.std.specs.Prelude.{◌↔◌}
use Rattle.std.proofs.lemmas.Bool.{false≢true}
use Rattle.lfg_model.specs.Lists.{In}
use Rattle.lfg_grammar.specs.declared.reach.Link.{Link}
use Rattle.lfg_grammar.specs.Reach.{link}
use Rattle.lfg_grammar.proofs.UnaryLaws.{EmptyWithin, empty_none, empty_more, empty_skip, empty_all}
use Rattle.lfg_grammar.proofs.unary.empty_links.Goals.{then-is_empty_item+in_ok-push, else-is_empty_item}
use Rattle.lfg_grammar.proofs.unary.empty_links.Goals as goal

pub loop-link-init : goal.loop-link-init
loop-link-init c = λ q p. subst (λ (empty : List Link). In (link q p) empty ↔ EmptyWithin c.args.rule.now c.args.links.now 0 q p) (sym c.new-empty.ensures.items) (empty_none c.args.rule.now c.args.links.now q p)

pub loop-link-preserved : goal.loop-link-preserved
loop-link-preserved c =
    let l = get_or c.args.links.now c.loop-link.link-index (link 0 0) in
    elim c.if-is_empty_item.branch [
      | then-is_empty_item+in_ok-push w ↦ λ q p.
          subst (λ (empty : List Link). In (link q p) empty ↔ EmptyWithin c.args.rule.now c.args.links.now (c.loop-link.link-index + 1) q p) (sym (ap (λ (v : Vec Link Global). v.items) w.empty-is ∙ w.in_ok-push.ensures.items))
          (empty_more c.args.rule.now c.args.links.now c.loop-link.link-index l (link 0 0) c.loop-link.empty.items c.loop-link-test.true refl (c.is_empty_item.ensures.0 w.if-is_empty_item.true) c.loop-link.invariant q p)
      | else-is_empty_item w ↦ λ q p.
          subst (λ (empty : List Link). In (link q p) empty ↔ EmptyWithin c.args.rule.now c.args.links.now (c.loop-link.link-index + 1) q p) (sym (ap (λ (v : Vec Link Global). v.items) w.empty-is))
          (empty_skip c.args.rule.now c.args.links.now c.loop-link.link-index l (link 0 0) c.loop-link.empty.items c.loop-link-test.true refl (λ e. false≢true (sym w.if-is_empty_item.false ∙ c.is_empty_item.ensures.1 e)) c.loop-link.invariant q p)
    ]

pub returns : goal.returns
returns c = empty_all c.args.rule.now c.args.links.now c.loop-link.link-index c.loop-link.empty.items c.loop-link-test.false c.requires c.loop-link.invariant
