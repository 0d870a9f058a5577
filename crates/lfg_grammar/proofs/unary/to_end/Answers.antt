use Rattle.std.proofs.Common.{◌≡◌, ◌+◌, ◌∙◌, ℕ, List, Vec, Global, length, map, ap, sym, subst}
use Rattle.std.specs.Prelude.{◌↔◌}
use Rattle.std.proofs.lemmas.Result.{IfOk-weaker}
use Rattle.lfg_model.specs.Derive.{CanEnd}
use Rattle.lfg_model.specs.Lists.{In}
use Rattle.lfg_grammar.specs.declared.reach.Link.{Link}
use Rattle.lfg_grammar.specs.Reach.{IsTableOf, turned}
use Rattle.lfg_grammar.proofs.UnaryLaws.{Marks-same, end_reached, turned_within}
use Rattle.lfg_grammar.proofs.unary.to_end.Goals as goal

pub table_of-requires : goal.table_of-requires
table_of-requires c = λ l i.
    turned_within c.args.rule.now c.requires.graph c.args.empty.now c.requires.links l (subst (λ (ls : List Link). In l ls) (c.deref.ensures.value ∙ c.in_ok-back.ensures) i)

pub returns : goal.returns
returns c =
    let size : length c.deref-2.result.now ≡ c.args.rule.now.graph.size + 1 = ap length c.deref-2.ensures.value ∙ c.in_ok-next.ensures.length in
    let back : c.deref.result.now ≡ map turned c.args.empty.now = c.deref.ensures.value ∙ c.in_ok-back.ensures in
    let listed = subst (λ (links : List Link). IsTableOf links c.in_ok-next.next.items) back c.in_ok-next.ensures.table in
    let table = subst (λ (next : List (Vec ℕ Global)). IsTableOf (map turned c.args.empty.now) next) (sym c.deref-2.ensures.value) listed in
    let ends = subst (λ (ps : List ℕ). (q : ℕ) → In q ps ↔ CanEnd c.args.rule.now.graph q) (sym c.deref-3.ensures.value) c.in_ok-ends.ensures in
    IfOk-weaker c.reached.result _ _ (λ v m. Marks-same _ _ v.items size (end_reached c.args.rule.now c.args.empty.now c.requires.links c.deref-2.result.now c.deref-3.result.now table ends) m) c.reached.ensures
