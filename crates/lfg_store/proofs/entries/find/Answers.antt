use Rattle.std.proofs.Common.{rules}
use Rattle.std.proofs.lemmas.Fn.{always_returns_same}
use Rattle.lfg_terms.specs.Order.{fact_cmp}
use Rattle.lfg_store.proofs.Finding.{found, missing}
use Rattle.lfg_store.proofs.entries.find.Goals as goal

pub returns-clause-found : goal.returns-clause-found
returns-clause-found c =
    let by = c.binary_search_by.ensures.position (λ e. fact_cmp e.0 c.args.fact.now) (always_returns_same _ _ _ (λ a r f' k. search rules)) in
    found c.args.entries.now c.args.fact.now c.binary_search_by.result c.binary_search_by.ensures.bound by

pub returns-clause-missing : goal.returns-clause-missing
returns-clause-missing c =
    let by = c.binary_search_by.ensures.position (λ e. fact_cmp e.0 c.args.fact.now) (always_returns_same _ _ _ (λ a r f' k. search rules)) in
    missing c.args.entries.now c.args.fact.now c.binary_search_by.result c.requires c.binary_search_by.ensures.bound by
