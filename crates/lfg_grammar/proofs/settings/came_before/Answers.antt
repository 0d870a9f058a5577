use Rattle.std.proofs.Common.{◌≡◌, List, map, sym, ap, subst, inl, inr, arith, refl}
use Rattle.std.proofs.lemmas.Bool.{false≢true}
use Rattle.std.proofs.lemmas.List.{take_all}
use Rattle.lfg_terms.specs.declared.draft.Setting.{Setting}
use Rattle.lfg_model.specs.Lists.{In}
use Rattle.lfg_model.specs.Terms.{Name}
use Rattle.lfg_model.proofs.ListLaws.{In-map, In-at}
use Rattle.lfg_grammar.proofs.Keys.{in_more}
use Rattle.lfg_grammar.proofs.settings.came_before.Goals as goal

pub loop-setting-init : goal.loop-setting-init
loop-setting-init c = λ h. elim h [ ]

pub returns-then-eq : goal.returns-then-eq
returns-then-eq c =
    let there : In c.setting-item.result c.args.earlier.now = subst (λ (s : Setting). In s c.args.earlier.now) (sym c.setting-item.is) (In-at c.args.earlier.now c.loop-setting.setting-index c.setting-item.result c.loop-setting-test.true) in
    let same : c.setting-item.result.key ≡ c.args.key.now = c.if-eq.ensures.same.0 refl in
    (λ t. subst (λ (k : Name). In k (map (λ s. s.key) c.args.earlier.now)) same (In-map (λ (s : Setting). s.key) there), λ h. refl)

pub loop-setting-preserved : goal.loop-setting-preserved
loop-setting-preserved c = λ h.
    elim (in_more (λ (s : Setting). s.key) c.args.key.now c.args.earlier.now c.loop-setting.setting-index c.setting-item.result c.loop-setting-test.true c.setting-item.is h) [
      | inl a ↦ c.loop-setting.invariant a
      | inr b ↦ false≢true (c.if-eq.ensures.same.1 (sym b))
    ]

pub returns : goal.returns
returns c = (λ t. absurd (false≢true t), λ h. absurd (c.loop-setting.invariant (subst (λ (xs : List Setting). In c.args.key.now (map (λ s. s.key) xs)) (sym (take_all c.loop-setting.setting-index c.args.earlier.now (omega arith))) h)))
