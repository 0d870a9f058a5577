use Rattle.lfg_model.specs.Terms.{tree_of}
use Rattle.xle_run.proofs.ReadingLaws.{derivation_fits, none_found, answered_readings}
use Rattle.xle_run.proofs.section.only_reading.Goals as goal

pub returns-in_default-clause-readings : goal.returns-in_default-clause-readings
returns-in_default-clause-readings c = none_found c.args.grammar.now c.requires.thin c.args.tokens.now (rw c.in_default.is at c.in_ok-derivation.ensures.none)

pub returns-clause-readings : goal.returns-clause-readings
returns-clause-readings c =
    let whole = rw c.in-Some.is at c.in_ok-derivation.ensures.found in
    let fits = derivation_fits c.args.grammar.now c.requires.thin c.args.tokens.now (tree_of c.in-Some.derivation) c.requires.few whole in
    answered_readings c.args.grammar.now c.requires.thin c.args.tokens.now c.requires.own_forms (tree_of c.in-Some.derivation) whole _ c.assigned_pair.result
    (c.assigned_pair.ensures.none fits) (c.assigned_pair.ensures.well_formed fits) (c.assigned_pair.ensures.pair fits)

pub returns-clause-printable : goal.returns-clause-printable
returns-clause-printable c =
    let whole = rw c.in-Some.is at c.in_ok-derivation.ensures.found in
    c.assigned_pair.ensures.printable (derivation_fits c.args.grammar.now c.requires.thin c.args.tokens.now (tree_of c.in-Some.derivation) c.requires.few whole)
