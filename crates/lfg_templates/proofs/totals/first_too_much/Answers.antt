use Rattle.std.proofs.Common.{rules, map}
use Rattle.std.proofs.lemmas.List.Sorted.{IsNonDecreasingBy-from_sort_by_key}
use Rattle.lfg_model.specs.DraftForms.{draft_form, template_form}
use Rattle.lfg_templates.specs.Counts.{call_count, draft_counts}
use Rattle.lfg_templates.proofs.Summing.{same_first, counted}
use Rattle.lfg_templates.proofs.totals.first_too_much.Goals as goal

pub first_over-requires : goal.first_over-requires
first_over-requires c = rw c.deref.ensures.value (IsNonDecreasingBy-from_sort_by_key (λ w. w.entry) _ c.in_ok-sort_by_key.ensures.sorted (λ a r q k. search rules))

pub returns : goal.returns
returns c =
    let e = counted c.args.depth c.args.draft.now c.args.templates.now c.list.result.now c.list-2.result.now c.new-weights.result.items c.push_rule_weights.new.out.items c.push_reading_weights.new.out.items
    c.requires c.list.ensures c.list-2.ensures c.new-weights.ensures.items c.in_ok-push_rule_weights.ensures c.in_ok-push_reading_weights.ensures in
    same_first (draft_counts (call_count (map template_form c.args.draft.now.templates) c.args.depth) (draft_form c.args.draft.now)) c.push_reading_weights.new.out.items c.sort_by_key.new.self.items e c.in_ok-sort_by_key.ensures.permutation c.first_over.result (rw (← c.deref.ensures.value) c.first_over.ensures)
