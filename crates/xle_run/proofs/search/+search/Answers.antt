use Rattle.std.proofs.Common.{◌≡◌, ◌+◌, length, length-drop, sym, ◌∙◌, ap, arith}
use Rattle.lfg_model.proofs.ThinTreeLaws.{In-place_of}
use Rattle.xle_run.specs.Search.{list_parts}
use Rattle.xle_run.proofs.PartRows.{same_inner}
use Rattle.xle_run.proofs.SearchSteps.{lacks_whole, lacks_both, no_rule, rule_is, position_found, rest_after, knows_after, has_category, stops, reaches_pushed, finds_whole, same_tree, item_read}
use Rattle.xle_run.proofs.search.+search.Goals as goal

pub derive-cover-requires : goal.derive-cover-requires
derive-cover-requires t c =
    let g = c.args.grammar.now in
    let thin = c.requires.thin in
    let own = c.requires.own_forms in
    let rules = c.args.rules.now in
    let k = c.in-Some-rule_place.place in
    let first = sym c.rule_place.ensures ∙ c.in-Some-rule_place.is in
    let within = (position_found _ rules k first).0 in
    let r = c.index-rules-place.result in (
      omega (arith, c.decreases, within, ap length c.rules_after-behind.ensures, length-drop (k + 1) rules),
      (
        thin,
        (
          own,
          (
            rest_after g c.args.tokens.now thin own rules _ k c.requires.rest c.rules_after-behind.ensures,
            (
              knows_after g c.args.tokens.now thin own rules _ k r c.requires.rest c.rules_after-behind.ensures within c.index-rules-place.is,
              (rule_is g c.args.tokens.now thin own rules k c.args.cat.now r c.requires.known first c.index-rules-place.is).0,
            ),
          ),
        ),
      ),
    )

pub derive-returns-in_default-rule_place-clause-none : goal.derive-returns-in_default-rule_place-clause-none
derive-returns-in_default-rule_place-clause-none t c =
    let g = c.args.grammar.now in
    let s = c.args.tokens.now in
    let word = rw c.in_default.is at c.in_ok-word.ensures.none in
    lacks_both g s c.requires.thin c.requires.own_forms c.args.cat.now c.args.at word
    (no_rule g s c.requires.thin c.requires.own_forms c.args.rules.now c.args.cat.now c.requires.known (sym c.rule_place.ensures ∙ c.in_default-rule_place.is))

pub cover-derive-requires : goal.cover-derive-requires
cover-derive-requires t c =
    let i = c.item-item.result in
    let at = item_read c.args.rule.now c.list-item-items.result.now c.loop-item.item-index i c.list-item-items.ensures c.loop-item-test.true c.item-item.is in (
      omega (arith, c.decreases),
      (
        c.requires.thin,
        (
          c.requires.own_forms,
          (c.requires.rest, c.requires.known.each i c.in-Some.daughter (In-place_of c.args.rule.now.items c.loop-item.item-index i at) c.in-Some.is),
        ),
      ),
    )

pub cover-returns-in_default-clause-none : goal.cover-returns-in_default-clause-none
cover-returns-in_default-clause-none t c =
    let r = c.args.rule.now in
    let k = c.loop-item.item-index in
    let i = c.item-item.result in
    absurd (has_category c.args.grammar.now c.args.tokens.now c.requires.thin c.requires.own_forms r k i c.requires.is
    (item_read r c.list-item-items.result.now k i c.list-item-items.ensures c.loop-item-test.true c.item-item.is) c.in_default.is)

pub cover-returns-in_default-2-clause-none : goal.cover-returns-in_default-2-clause-none
cover-returns-in_default-2-clause-none t c =
    let g = c.args.grammar.now in
    let s = c.args.tokens.now in
    let r = c.args.rule.now in
    let k = c.loop-item.item-index in
    let i = c.item-item.result in
    let lacks = rw c.in_default-2.is at c.in_ok-below.ensures.none in
    lacks_whole g s c.requires.thin c.requires.own_forms r c.args.at c.requires.is
    (stops g s c.requires.thin c.requires.own_forms r c.args.at (list_parts c.loop-item.parts.items) k c.loop-item.end i c.in-Some.daughter
    (item_read r c.list-item-items.result.now k i c.list-item-items.ensures c.loop-item-test.true c.item-item.is) c.in-Some.is c.loop-item.invariant.reaches lacks)

pub cover-returns-clause-found : goal.cover-returns-clause-found
cover-returns-clause-found t c =
    let g = c.args.grammar.now in
    let s = c.args.tokens.now in
    let r = c.args.rule.now in
    let k = c.loop-item.item-index in
    let all : k ≡ length r.items = omega (arith, ap length c.list-item-items.ensures) in
    same_tree g s c.requires.thin c.requires.own_forms r.cat c.args.at c.loop-item.end _ _
    (finds_whole g s c.requires.thin c.requires.own_forms r c.args.at (list_parts c.loop-item.parts.items) k c.loop-item.end c.requires.is all c.loop-item.invariant.reaches)
    (same_inner c.loop-item.parts c.in_ok-cat.ensures.cases)

pub derive-returns-clause-found : goal.derive-returns-clause-found
derive-returns-clause-found t c =
    let g = c.args.grammar.now in
    let s = c.args.tokens.now in
    let first = sym c.rule_place.ensures ∙ c.in-Some-rule_place.is in
    let same = (rule_is g s c.requires.thin c.requires.own_forms c.args.rules.now c.in-Some-rule_place.place c.args.cat.now c.index-rules-place.result c.requires.known first c.index-rules-place.is).1 in
    rw (← same) c.cover.ensures.found

pub derive-returns-clause-none : goal.derive-returns-clause-none
derive-returns-clause-none t c =
    let g = c.args.grammar.now in
    let s = c.args.tokens.now in
    let first = sym c.rule_place.ensures ∙ c.in-Some-rule_place.is in
    let same = (rule_is g s c.requires.thin c.requires.own_forms c.args.rules.now c.in-Some-rule_place.place c.args.cat.now c.index-rules-place.result c.requires.known first c.index-rules-place.is).1 in
    rw (← same) c.cover.ensures.none

pub cover-loop-item-preserved : goal.cover-loop-item-preserved
cover-loop-item-preserved t c =
    let g = c.args.grammar.now in
    let s = c.args.tokens.now in
    let r = c.args.rule.now in
    let k = c.loop-item.item-index in
    let i = c.item-item.result in
    let found = rw c.in-Some-2.is at c.in_ok-below.ensures.found in
    record {
      counted = omega (arith, c.in_ok-push_part.ensures.counted, c.loop-item.invariant.counted);
      reaches = reaches_pushed g s c.requires.thin c.requires.own_forms r c.args.at (list_parts c.loop-item.parts.items) (list_parts c.push_part.new.parts.items) k (length c.loop-item.parts.items)
          c.loop-item.end c.in-Some-2.behind i c.in-Some.daughter _ c.requires.is
          (item_read r c.list-item-items.result.now k i c.list-item-items.ensures c.loop-item-test.true c.item-item.is) c.in-Some.is c.loop-item.invariant.reaches found c.loop-item.invariant.counted
          c.in_ok-push_part.ensures.pushed;
    }
