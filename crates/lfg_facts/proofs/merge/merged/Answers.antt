use Rattle.std.proofs.Common.{sym, subst}
use Rattle.lfg_facts.specs.Stating.{Entries, AreEntries}
use Rattle.lfg_facts.specs.Merging.{IsMerged}
use Rattle.lfg_facts.proofs.MergeLaws.{permuted_entries, permuted_merged}
use Rattle.lfg_facts.proofs.merge.merged.Goals as goal

pub united-requires-clause-made : goal.united-requires-clause-made
united-requires-clause-made c =
    let P : Entries → Type 0 = λ es. AreEntries c.args.contexts.now es in
    subst P (sym c.as_slice.ensures.value) (permuted_entries c.args.entries.items c.in_ok-ordered.ordered.items c.in_ok-ordered.ensures.moved c.requires)

pub returns-clause-merged : goal.returns-clause-merged
returns-clause-merged c =
    let P : Entries → Type 0 = λ es. IsMerged es c.in_ok-facts.facts.items in
    permuted_merged c.args.entries.items c.in_ok-ordered.ordered.items c.in_ok-facts.facts.items c.in_ok-ordered.ensures.moved (subst P c.as_slice.ensures.value c.in_ok-facts.ensures.merged)
