use Rattle.std.proofs.Common.{List, Bool, IsTrue, subst, sym, ◌∙◌, ap, ◌≡◌}
use Rattle.std.specs.Prelude.{◌↔◌}
use Rattle.std.specs.List.{list_any}
use Rattle.lfg_model.specs.Lists.{In}
use Rattle.lfg_model.specs.Terms.{Name, same_name}
use Rattle.lfg_chart.proofs.WordLaws.{any_in}
use Rattle.lfg_chart.proofs.words.has_form.Goals as goal

pub returns : goal.returns
returns c =
    let form = c.args.form.now in
    let e : c.contains.result ≡ list_any (λ (y : Name). same_name y form) c.args.token.now.forms =
    c.contains.ensures.value ∙ ap (λ (ys : List Name). list_any (λ (y : Name). same_name y form) ys) c.list.ensures in
    subst (λ (b : Bool). IsTrue b ↔ In form c.args.token.now.forms) (sym e) (any_in form c.args.token.now.forms)
