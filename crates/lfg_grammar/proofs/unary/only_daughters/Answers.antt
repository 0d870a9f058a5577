use Rattle.std.proofs.Common.{◌+◌, ◌∙◌, ℕ, List, [], Vec, Global, Bor, map, take, get_or, refl, ap, sym, subst}
use Rattle.std.specs.Prelude.{◌↔◌}
use Rattle.lfg_model.specs.Derive.{CanFollow}
use Rattle.lfg_model.specs.Lists.{In}
use Rattle.lfg_model.specs.Terms.{Name}
use Rattle.lfg_model.proofs.ListLaws.{In-at}
use Rattle.lfg_grammar.specs.declared.reach.Link.{Link}
use Rattle.lfg_grammar.specs.Reach.{link}
use Rattle.lfg_grammar.proofs.UnaryLaws.{SomeLink, some_none, some_more, some_skip, some_all, map_push}
use Rattle.lfg_grammar.proofs.unary.only_daughters.Goals.{in-Some+in_ok-push, in_default}
use Rattle.lfg_grammar.proofs.unary.only_daughters.Goals as goal

pub loop-link-init : goal.loop-link-init
loop-link-init c = λ cat. subst (λ (cats : List Name). In cat cats ↔ SomeLink c.args.rule.now [] cat) (sym (ap (map (λ (c : Bor Name). c.now)) c.new-cats.ensures.items)) (some_none c.args.rule.now cat)

pub only_at-requires-clause-follows : goal.only_at-requires-clause-follows
only_at-requires-clause-follows c =
    let links = c.deref-link-items.result.now in
    let l = get_or links c.loop-link.link-index (link 0 0) in
    (c.in_ok-links.ensures l.from l.to).0 (subst (λ (ls : List Link). In l ls) c.deref-link-items.ensures.value (In-at links c.loop-link.link-index (link 0 0) c.loop-link-test.true))

pub loop-link-preserved : goal.loop-link-preserved
loop-link-preserved c =
    let rule = c.args.rule.now in
    let links = c.deref-link-items.result.now in
    let l = get_or links c.loop-link.link-index (link 0 0) in
    let old = map (λ (c : Bor Name). c.now) c.loop-link.cats.items in
    elim c.match-only_at.branch [
      | in-Some+in_ok-push w ↦ λ cat.
          subst (λ (cats : List Name). In cat cats ↔ SomeLink c.args.rule.now (take (c.loop-link.link-index + 1) c.deref-link-items.result.now) cat)
          (sym (ap (λ (v : Vec (Bor Name) Global). map (λ (c : Bor Name). c.now) v.items) w.cats-is ∙ ap (map (λ (c : Bor Name). c.now)) w.in_ok-push.ensures.items ∙ map_push (λ (c : Bor Name). c.now) c.loop-link.cats.items w.in-Some.cat))
          (some_more rule links c.loop-link.link-index l (link 0 0) old w.in-Some.cat.now c.loop-link-test.true refl w.in-Some.ensures.some c.loop-link.invariant cat)
      | in_default w ↦ λ cat.
          subst (λ (cats : List Name). In cat cats ↔ SomeLink c.args.rule.now (take (c.loop-link.link-index + 1) c.deref-link-items.result.now) cat)
          (sym (ap (λ (v : Vec (Bor Name) Global). map (λ (c : Bor Name). c.now) v.items) w.cats-is))
          (some_skip rule links c.loop-link.link-index l (link 0 0) old c.loop-link-test.true refl w.in_default.ensures.none c.loop-link.invariant cat)
    ]

pub returns : goal.returns
returns c =
    let links = c.deref-link-items.result.now in
    let follows = subst (λ (ls : List Link). (q p : ℕ) → In (link q p) ls ↔ CanFollow c.args.rule.now.graph q p) (sym c.deref-link-items.ensures.value) c.in_ok-links.ensures in
    some_all c.args.rule.now links c.loop-link.link-index (map (λ (c : Bor Name). c.now) c.loop-link.cats.items) c.loop-link-test.false follows c.loop-link.invariant
