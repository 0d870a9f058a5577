-- Sets of facts and lists of readings are one list each.
use Rattle.std.specs.Cmp.{IsTotalOrder}
use Rattle.std.proofs.lemmas.Cmp.{then_total, on_total, nat_list_cmp_total, lists_total}
use Rattle.lfg_terms.specs.Order.{fact_cmp}
use Rattle.lfg_terms.specs.OrderLaws.{fact_cmp_total}
use Rattle.lfg_model.specs.Lists.{SetsOfFactsAreOne}
use Rattle.lfg_model.specs.PairTexts.{pair_text, pair_cmp}
use Rattle.lfg_model.specs.Readings.{IsReading, ReadingsAreOne}
use Rattle.lfg_model.proofs.Ascending.{same_members, one_list, once_from_total}

pub pair_cmp_total : IsTotalOrder pair_cmp
pair_cmp_total =
    then_total (on_total pair_text nat_list_cmp_total)
    (then_total (on_total (λ p. p.tree) (lists_total fact_cmp_total)) (on_total (λ p. p.facts) (lists_total fact_cmp_total)))

pub sets_of_facts_are_one : SetsOfFactsAreOne
sets_of_facts_are_one fs gs a b same =
    same_members fact_cmp (once_from_total fact_cmp_total) fs gs a b (λ f. (same f).0) (λ f. (same f).1)

pub readings_are_one : ReadingsAreOne
readings_are_one g s ps qs a b = one_list pair_cmp (once_from_total pair_cmp_total) (IsReading g s) ps qs a b
