use Rattle.std.proofs.Common.{◌≡◌, ◌+◌, ◌<◌, ◌≤◌, ◌∙◌, ℕ, Bool, true, false, List, Vec, Global, length, get_or, ap, sym, subst, arith}
use Rattle.std.specs.Prelude.{◌↔◌}
use Rattle.lfg_model.specs.Lists.{In}
use Rattle.lfg_grammar.proofs.UnaryLaws.{EndsWithin, ends_none, ends_more, ends_skip, ends_all}
use Rattle.lfg_grammar.proofs.unary.last_items.Goals.{then-last+in_ok-push, else-last}
use Rattle.lfg_grammar.proofs.unary.last_items.Goals as goal

pub loop-place-init : goal.loop-place-init
loop-place-init c = λ q. subst (λ (items : List ℕ). In q items ↔ EndsWithin c.args.graph.now 0 q) (sym c.new-items.ensures.items) (ends_none c.args.graph.now q)

pub loop-place-preserved : goal.loop-place-preserved
loop-place-preserved c =
    let g = c.args.graph.now in
    let l : c.loop-place.place < length c.args.graph.now.last = omega (arith, ap length c.list-last-items.ensures) in
    elim c.if-last.branch [
      | then-last+in_ok-push w ↦
          let marked : get_or c.args.graph.now.last c.loop-place.place false ≡ true = ap (λ (marks : List Bool). get_or marks c.loop-place.place false) (sym c.list-last-items.ensures) ∙ w.if-last.true in
          λ q. subst (λ (items : List ℕ). In q items ↔ EndsWithin c.args.graph.now (c.loop-place.place + 1) q) (sym (ap (λ (v : Vec ℕ Global). v.items) w.items-is ∙ w.in_ok-push.ensures.items)) (ends_more g c.loop-place.place c.loop-place.items.items false l marked c.loop-place.invariant q)
      | else-last w ↦
          let bare : get_or c.args.graph.now.last c.loop-place.place false ≡ false = ap (λ (marks : List Bool). get_or marks c.loop-place.place false) (sym c.list-last-items.ensures) ∙ w.if-last.false in
          λ q. subst (λ (items : List ℕ). In q items ↔ EndsWithin c.args.graph.now (c.loop-place.place + 1) q) (sym (ap (λ (v : Vec ℕ Global). v.items) w.items-is)) (ends_skip g c.loop-place.place c.loop-place.items.items false l bare c.loop-place.invariant q)
    ]

pub returns : goal.returns
returns c =
    let l : length c.args.graph.now.last ≤ c.loop-place.place = omega (arith, ap length c.list-last-items.ensures) in
    ends_all c.args.graph.now c.loop-place.place c.loop-place.items.items l c.loop-place.invariant
