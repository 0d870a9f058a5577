use Rattle.std.proofs.Common.{rules, ◌≡◌, arith, refl, sym, ◌∙◌, subst, List, take}
use Rattle.std.proofs.lemmas.List.{take_all}
use Rattle.lfg_model.specs.Terms.{Name}
use Rattle.lfg_model.specs.TemplateRules.{Twice}
use Rattle.lfg_templates.proofs.Heading.{twice_found, not_twice_more}
use Rattle.lfg_templates.proofs.HeadingLaws.{HasNames, names_none, names_taken, names_fresh}
use Rattle.lfg_templates.proofs.heads.is_twice.Goals as goal

pub loop-name-init : goal.loop-name-init
loop-name-init c = record { once = λ t. elim t [ ]; held = names_none c.new-before.result c.new-before.ensures.empty }

pub returns-then-contains-clause-yes : goal.returns-then-contains-clause-yes
returns-then-contains-clause-yes c = λ u. twice_found c.args.names.now c.loop-name.name-index c.name-item.result c.loop-name-test.true c.name-item.is
    (c.loop-name.invariant.held.in_list c.name-item.result (sym c.contains.ensures ∙ c.if-contains.true))

pub loop-name-preserved : goal.loop-name-preserved
loop-name-preserved c =
    let copy : c.in_ok-clone.field-0 ≡ c.name-item.result = search rules in
    record {
      once = not_twice_more c.args.names.now c.loop-name.name-index c.name-item.result c.loop-name-test.true c.name-item.is c.loop-name.invariant.once
          (names_fresh (take c.loop-name.name-index c.args.names.now) c.name-item.result c.loop-name.before c.loop-name.invariant.held (sym c.contains.ensures ∙ c.if-contains.false));
      held = names_taken c.args.names.now c.loop-name.name-index c.name-item.result c.in_ok-clone.field-0 c.loop-name.before c.insert.new.self c.loop-name-test.true c.name-item.is copy c.loop-name.invariant.held c.in_ok-insert.ensures.updates;
    }

pub returns-clause-no : goal.returns-clause-no
returns-clause-no c = λ e. subst (λ (xs : List Name). Twice xs → ⊥) (take_all c.loop-name.name-index c.args.names.now (omega arith)) c.loop-name.invariant.once
