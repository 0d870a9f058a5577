use Rattle.std.proofs.Common.{◌≡◌, List, [], ◌∷◌, ◌++◌, ◌+◌, take, arith, subst, sym}
use Rattle.std.proofs.lemmas.List.{take_all}
use Rattle.lfg_terms.specs.declared.node.Fact.{Fact}
use Rattle.lfg_context.specs.Seen.{Set}
use Rattle.lfg_context.specs.Sets.{AreMade}
use Rattle.lfg_context.proofs.Growing.{grown_trans, same_picks_trans, are_made_grown, are_made_push}
use Rattle.lfg_store.specs.Facts.{Entries}
use Rattle.lfg_parse.specs.Judging.{Restricts}
use Rattle.lfg_parse.proofs.Closures.{restricts_more}
use Rattle.lfg_parse.proofs.stores.restricted.Goals as goal

pub loop-fact-preserved : goal.loop-fact-preserved
loop-fact-preserved c =
    let inv = c.loop-fact.invariant in
    let made = are_made_push {x = (c.in_ok-clone.field-0, c.in_ok-within.within)} (are_made_grown c.in_ok-within.ensures.grown inv.made) c.in_ok-within.ensures.ok.made in
    let grows = c.in_ok-push.ensures.items in
    let P : Entries → Type 0 = λ es. AreMade c.and.new.self (λ e. e.1) es in
    let R : Fact → Type 0 = λ f. Restricts (take (c.loop-fact.fact-index + 1) c.args.facts.now) c.args.set.now (c.loop-fact.kept.items ++ (f, c.in_ok-within.within) ∷ []) in
    let Q : Entries → Type 0 = λ es. Restricts (take (c.loop-fact.fact-index + 1) c.args.facts.now) c.args.set.now es in
    record {
      grown = grown_trans inv.grown c.in_ok-within.ensures.grown;
      picks = same_picks_trans inv.picks c.in_ok-within.ensures.picks;
      made = subst P (sym grows) made;
      restricts = subst Q (sym grows) (subst R (sym c.in_ok-clone.ensures.cases)
          (restricts_more c.args.facts.now c.loop-fact.kept.items c.loop-fact.fact-index c.fact-item.result c.fact-item.result c.args.set.now c.in_ok-within.within (omega arith) c.fact-item.is inv.restricts
          c.in_ok-within.ensures.ok.members));
    }

pub returns-clause-restricts : goal.returns-clause-restricts
returns-clause-restricts c =
    let P : Entries → Type 0 = λ es. Restricts es c.args.set.now c.loop-fact.kept.items in
    subst P (take_all c.loop-fact.fact-index c.args.facts.now (omega arith)) c.loop-fact.invariant.restricts
