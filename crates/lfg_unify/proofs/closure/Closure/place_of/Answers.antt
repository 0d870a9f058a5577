use Rattle.std.proofs.Common.{◌≡◌, ap, subst, ◌∙◌, length, ℕ, List, Option, Some, None}
use Rattle.std.specs.Prelude.{IfNone}
use Rattle.lfg_terms.specs.declared.node.Node.{Node}
use Rattle.lfg_model.specs.Lists.{In}
use Rattle.lfg_unify.specs.Closures.{Closed, place_in}
use Rattle.lfg_unify.proofs.Places.{not_listed}
use Rattle.lfg_unify.proofs.closure.Closure.place_of.Goals as goal

absent : (r : Option ℕ) (ns ms : List Node) (x : Node) → ns ≡ ms → IfNone r (place_in ns x ≡ length ns) → IfNone r (¬ In x ms)
absent (Some p) ns ms x e h = tt
absent None ns ms x e h = not_listed ms x (subst (λ (xs : List Node). place_in xs x ≡ length xs) e h)

pub returns-clause-missing : goal.returns-clause-missing
returns-clause-missing c = absent c.place_of.result c.deref.result.now c.args.self.now.nodes c.args.node.now (c.deref.ensures.value ∙ ap (λ (f : Closed). f.nodes) c.self.view_is) c.place_of.ensures.missing
