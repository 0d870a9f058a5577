use Rattle.std.proofs.Common.{◌≡◌, ◌∙◌, ℕ, ap, subst, rules}
use Rattle.lfg_unify.specs.Closures.{place_in}
use Rattle.lfg_model.specs.Solve.{pred}
use Rattle.lfg_facts.specs.Adding.{Adds}
use Rattle.lfg_facts.specs.Naming.{Names, names_in}
use Rattle.lfg_facts.specs.Stating.{IsPredOf}
use Rattle.lfg_facts.proofs.Classes.{table_grown}
use Rattle.lfg_facts.proofs.NameLaws.{names_made}
use Rattle.lfg_facts.proofs.FactLaws.{pred_adds}
use Rattle.lfg_facts.proofs.forms.push_pred.Goals as goal

pub push_values-requires-clause-names : goal.push_values-requires-clause-names
push_values-requires-clause-names c = names_made c.args.table.now c.args.source c.names_in-names.result.now c.names_in-names.ensures (table_grown c.in_ok-here.ensures.grown c.requires.table)

pub returns-clause-adds : goal.returns-clause-adds
returns-clause-adds c =
    let by : c.args.arc.now.1 ≡ pred = search rules in
    let names = c.names_in-names.ensures ∙ ap (λ p. names_in c.args.table.now p) c.requires.source in
    let F : Names → Type 0 = λ ns. Adds c.args.facts.now.items c.push_values.new.facts.items (λ f. IsPredOf c.args.closure.now c.args.target ns c.args.good.now f c.args.arc.now) in
    let G : ℕ → Type 0 = λ p. Adds c.args.facts.now.items c.push_values.new.facts.items
    (λ f. IsPredOf c.args.closure.now p (names_in c.args.table.now (place_in c.args.closure.now.nodes c.args.arc.now.0)) c.args.good.now f c.args.arc.now) in
    subst G c.requires.target (subst F names (pred_adds c.args.closure.now c.args.target c.names_in-names.result.now c.args.good.now c.in_ok-here.here c.args.arc.now c.args.facts.now.items c.push_values.new.facts.items
    by c.in_ok-here.ensures.ok.members c.in_ok-push_values.ensures.adds))
