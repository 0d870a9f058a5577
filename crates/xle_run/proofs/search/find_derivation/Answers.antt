use Rattle.xle_run.proofs.SearchSteps.{ends_before}
use Rattle.xle_run.proofs.search.find_derivation.Goals as goal

pub returns-else-end-tokens-clause-none : goal.returns-else-end-tokens-clause-none
returns-else-end-tokens-clause-none c =
    let found = rw c.in-Some.is at c.in_ok-derivation.ensures.found in
    ends_before c.args.grammar.now c.args.tokens.now c.requires.thin c.requires.own_forms _ c.in-Some.end found c.if-end-tokens.false
