use Rattle.std.proofs.Common.{List, sym, subst}
use Rattle.lfg_context.specs.Sets.{AreMade}
use Rattle.lfg_context.proofs.Growing.{grown_trans, are_made_grown}
use Rattle.lfg_terms.specs.declared.literal.Literal.{Literal}
use Rattle.lfg_context.specs.Seen.{Set}
use Rattle.lfg_context.specs.Telling.{Tells}
use Rattle.lfg_store.specs.Facts.{Entries}
use Rattle.lfg_unify.proofs.Closed.{closure_grown}
use Rattle.lfg_parse.specs.Judging.{IsGood, HasTreeWithin, HasFactsWithin}
use Rattle.lfg_parse.proofs.judging.judge.Goals as goal

pub returns-clause-judged : goal.returns-clause-judged
returns-clause-judged c =
    let G : List (Literal × Set) → Type 0 = λ ls. Tells c.in_ok-good.good (IsGood c.args.grammar.now c.args.tokens.now ls) in
    let T : Entries → Type 0 = λ es. HasTreeWithin es c.in_ok-good.good c.in_ok-tree.tree in
    let F : List (Literal × Set) → Type 0 = λ ls. HasFactsWithin ls c.in_ok-good.good c.in_ok-facts.facts in
    record {
      good_is = subst G c.deref-2.ensures.value c.in_ok-good.ensures.tells;
      tree_is = subst T c.deref-3.ensures.value c.in_ok-tree.ensures.facts;
      facts_are = subst F c.deref.ensures.value (c.in_ok-facts.ensures.facts c.deref.result.now (closure_grown c.in_ok-good.ensures.grown c.in_ok-closure.ensures.closure));
    }

pub tree_within-requires-clause-tree : goal.tree_within-requires-clause-tree
tree_within-requires-clause-tree c =
    let P : Entries → Type 0 = λ es. AreMade c.facts_within.new.contexts (λ e. e.1) es in
    subst P (sym c.deref-3.ensures.value)
    (are_made_grown (grown_trans (grown_trans c.in_ok-closure.ensures.grown c.in_ok-good.ensures.grown) c.in_ok-facts.ensures.grown) c.requires.tree)
