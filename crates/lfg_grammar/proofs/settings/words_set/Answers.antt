use Rattle.std.proofs.Common.{◌≡◌, List, Some, sym, ap, subst, arith, ◌∙◌}
use Rattle.std.proofs.lemmas.List.{drop_all}
use Rattle.lfg_model.specs.Settings.{words_set}
use Rattle.lfg_model.specs.Terms.{Name, same_name}
use Rattle.lfg_grammar.proofs.Keys.{set_here, set_later}
use Rattle.lfg_grammar.proofs.settings.words_set.Goals as goal

pub returns-then-eq : goal.returns-then-eq
returns-then-eq c =
    sym c.loop-setting.invariant
    ∙ set_here c.args.key.now c.args.settings.now c.loop-setting.setting-index c.setting-item.result c.loop-setting-test.true c.setting-item.is (ap (λ (n : Name). same_name n c.args.key.now) (sym c.text.ensures) ∙ sym c.if-eq.ensures)
    ∙ ap Some (sym c.list.ensures)

pub loop-setting-preserved : goal.loop-setting-preserved
loop-setting-preserved c =
    sym (set_later c.args.key.now c.args.settings.now c.loop-setting.setting-index c.setting-item.result c.loop-setting-test.true c.setting-item.is (ap (λ (n : Name). same_name n c.args.key.now) (sym c.text.ensures) ∙ sym c.if-eq.ensures))
    ∙ c.loop-setting.invariant

pub returns : goal.returns
returns c = sym c.loop-setting.invariant ∙ ap (words_set c.args.key.now) (drop_all c.loop-setting.setting-index c.args.settings.now (omega arith))
