use Rattle.std.proofs.Common.{sym, ◌∙◌}
use Rattle.std.proofs.lemmas.Bool.{false≢true}
use Rattle.xle_run.proofs.SearchWords.{told, told_not, In-listed, listed-In}
use Rattle.xle_run.proofs.search.is_entry.Goals as goal

pub returns-then-contains-clause-yes : goal.returns-then-contains-clause-yes
returns-then-contains-clause-yes c = told c.eq.result _ (λ t. record {
  offered = rw c.list.ensures at (In-listed c.args.entry.now.form c.list.result.now (sym c.contains.ensures.value ∙ c.if-contains.true));
  category = c.eq.ensures.same.0 t;
})

pub returns-else-contains-clause-no : goal.returns-else-contains-clause-no
returns-else-contains-clause-no c = told_not c.contains.result _ (λ f h.
    false≢true (sym f ∙ c.contains.ensures.value ∙ listed-In c.args.entry.now.form c.list.result.now (rw (← c.list.ensures) at h.offered)))
