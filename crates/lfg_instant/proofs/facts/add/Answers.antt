use Rattle.std.proofs.Common.{◌≡◌, [], ◌∷◌, sym, subst}
use Rattle.lfg_terms.specs.declared.node.Fact.{Fact}
use Rattle.lfg_model.specs.Lists.{In, here}
use Rattle.lfg_model.proofs.ListLaws.{In-nil, In-one}
use Rattle.lfg_instant.proofs.CollectLaws.{collects_along, collects_one, collects_none}
use Rattle.lfg_instant.proofs.facts.add.Goals as goal

pub returns-in_ok-push : goal.returns-in_ok-push
returns-in_ok-push c =
    let xs = c.args.facts.now.items in
    let one : (f : Fact) → (f ≡ c.in-Some.fact) → In f (c.in-Some.fact ∷ []) = λ f e. (let P : Fact → Type 0 = λ z. In z (c.in-Some.fact ∷ []) in subst P (sym e) here) in
    rw c.in-Some.is (collects_along xs c.push.new.self.items (λ f. f ≡ c.in-Some.fact) (λ f. In f (c.in-Some.fact ∷ []))
    (λ f. (one f, λ i. In-one i)) (collects_one xs c.push.new.self.items c.in-Some.fact c.in_ok-push.ensures.items))

pub returns-in_default : goal.returns-in_default
returns-in_default c = rw c.in_default.is (collects_none c.args.facts.now.items (λ f. In f []) (λ f i. In-nil i))
