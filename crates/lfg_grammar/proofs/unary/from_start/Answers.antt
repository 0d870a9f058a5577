use Rattle.std.proofs.Common.{◌≡◌, ◌+◌, ◌∙◌, ℕ, List, Vec, Global, length, ap, sym, subst}
use Rattle.std.proofs.lemmas.Result.{IfOk-weaker}
use Rattle.lfg_grammar.specs.Reach.{IsTableOf}
use Rattle.lfg_grammar.proofs.UnaryLaws.{Marks-same, start_reached, starts_within}
use Rattle.lfg_grammar.proofs.unary.from_start.Goals as goal

pub table_of-requires : goal.table_of-requires
table_of-requires c = starts_within c.args.rule.now c.requires.graph c.args.empty.now c.requires.links

pub returns : goal.returns
returns c =
    let size : length c.deref.result.now ≡ c.args.rule.now.graph.size + 1 = ap length c.deref.ensures.value ∙ c.in_ok-next.ensures.length in
    let table = subst (λ (next : List (Vec ℕ Global)). IsTableOf c.args.empty.now next) (sym c.deref.ensures.value) c.in_ok-next.ensures.table in
    IfOk-weaker c.reached.result _ _ (λ v m. Marks-same _ _ v.items size (start_reached c.args.rule.now c.args.empty.now c.requires.links c.deref.result.now table) m) c.reached.ensures
