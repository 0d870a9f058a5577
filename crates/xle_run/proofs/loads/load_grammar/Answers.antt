use Rattle.std.proofs.Common.{◌≡◌, ℕ, List, Some, ap, subst, sym, ◌∙◌}
use Rattle.lfg_terms.specs.declared.grammar.Grammar.{Grammar}
use Rattle.lfg_model.specs.ThinText.{ThinFile}
use Rattle.lfg_model.proofs.ThinLaws.{thin_file_is_thin}
use Rattle.xle_run.specs.Loads.{IsFile}
use Rattle.xle_run.proofs.LoadLaws.{refuses_long, refuses_grammar}
use Rattle.xle_run.proofs.loads.load_grammar.Goals as goal

pub returns-in-Ok-Some-clause-loaded : goal.returns-in-Ok-Some-clause-loaded
returns-in-Ok-Some-clause-loaded g c files told =
    let file = c.in-Ok.ensures.loaded files told in
    let thin : ThinFile c.deref.result.now c.in-Ok-Some.grammar = rw c.in-Ok-Some.field-0-is at c.in-Ok-Some.ensures in
    record { bytes = c.deref.result.now; there = file.there ∙ ap Some (sym c.deref.ensures.value); thin = thin }

pub returns-in-Ok-Some-clause-thin : goal.returns-in-Ok-Some-clause-thin
returns-in-Ok-Some-clause-thin g c =
    let thin : ThinFile c.deref.result.now c.in-Ok-Some.grammar = rw c.in-Ok-Some.field-0-is at c.in-Ok-Some.ensures in
    thin_file_is_thin c.deref.result.now c.in-Ok-Some.grammar thin

pub returns-in-Err-clause-refuses : goal.returns-in-Err-clause-refuses
returns-in-Err-clause-refuses g c files told = refuses_long files c.args.name.now c.in-Err.status (c.in-Err.ensures.long files told) c.in-Err.ensures.not_bad

pub returns-in-Ok-None-clause-refuses : goal.returns-in-Ok-None-clause-refuses
returns-in-Ok-None-clause-refuses g c files told =
    let file = subst (λ (bs : List ℕ). IsFile files c.args.name.now bs) (sym c.deref-in-Ok-None.ensures.value) (c.in-Ok.ensures.loaded files told) in
    let none : (h : Grammar) → ¬ ThinFile c.deref.result.now h = rw c.in-Ok-None.field-0-is at c.in-Ok-None.ensures in
    let same : c.deref.result.now ≡ c.deref-in-Ok-None.result.now = c.deref.ensures.value ∙ sym c.deref-in-Ok-None.ensures.value in
    let no = subst (λ (bs : List ℕ). (h : Grammar) → ¬ ThinFile bs h) same none in
    refuses_grammar files c.args.name.now c.deref-in-Ok-None.result.now c.not_thin.result file no c.not_thin.ensures.fault c.not_thin.ensures.not_long

pub returns-in-Ok-None-clause-refused : goal.returns-in-Ok-None-clause-refused
returns-in-Ok-None-clause-refused g c = c.not_thin.ensures.refused _ _ _ _
