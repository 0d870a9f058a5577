use Rattle.std.proofs.Common.{arith, List, map, subst}
use Rattle.std.proofs.lemmas.List.{take_all}
use Rattle.std.proofs.lemmas.Result.{err_from_is_err_and}
use Rattle.lfg_terms.specs.declared.draft.DraftRule.{DraftRule}
use Rattle.lfg_model.specs.DraftForms.{rule_form}
use Rattle.lfg_model.specs.Templates.{Each, end}
use Rattle.lfg_grammar.specs.Halves.{IsHalf}
use Rattle.lfg_grammar.proofs.Loading.{item_in}
use Rattle.lfg_grammar.proofs.WordLaws.{each_more, rule_fails}
use Rattle.lfg_grammar.proofs.rules.load_halves.Goals as goal

pub loop-rule-init : goal.loop-rule-init
loop-rule-init c = rw c.new-halves.ensures.items end

pub load_half-requires-clause-no_calls : goal.load_half-requires-clause-no_calls
load_half-requires-clause-no_calls c = c.requires.no_calls c.rule-item.result (item_in c.args.rules.now c.loop-rule.rule-index c.rule-item.result c.loop-rule-test.true c.rule-item.is)

pub returns-in_err-load_half : goal.returns-in_err-load_half
returns-in_err-load_half c =
    let p = err_from_is_err_and c.from_residual.result c.from_residual.ensures.1 in
    rw (p.1, p.2) (rule_fails c.args.depth c.args.rules.now c.rule-item.result c.in_err-load_half.field-0.0 (item_in c.args.rules.now c.loop-rule.rule-index c.rule-item.result c.loop-rule-test.true c.rule-item.is) c.in_err-load_half.ensures)

pub loop-rule-preserved : goal.loop-rule-preserved
loop-rule-preserved c =
    each_more (IsHalf c.args.depth) rule_form c.args.rules.now c.loop-rule.rule-index c.rule-item.result c.loop-rule.halves.items c.in_ok-load_half.field-0 c.push.new.self.items c.loop-rule-test.true c.rule-item.is c.in_ok-push.ensures.items c.loop-rule.invariant c.in_ok-load_half.ensures

pub returns : goal.returns
returns c = subst (λ (xs : List DraftRule). Each (IsHalf c.args.depth) (map rule_form xs) c.loop-rule.halves.items) (take_all c.loop-rule.rule-index c.args.rules.now (omega arith)) c.loop-rule.invariant
