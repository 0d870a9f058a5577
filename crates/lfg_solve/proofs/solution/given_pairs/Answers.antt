use Rattle.std.proofs.Common.{List, arith, subst}
use Rattle.lfg_terms.specs.declared.literal.Literal.{Literal}
use Rattle.lfg_model.specs.Lists.{In}
use Rattle.lfg_model.specs.Literals.{given, given_of}
use Rattle.lfg_model.proofs.ListLaws.{In-flat_map}
use Rattle.lfg_solve.specs.Numbers.{Corresponds, ArePlaces}
use Rattle.lfg_solve.proofs.Dividing.{In-read}
use Rattle.lfg_solve.proofs.Prefixes.{take_whole}
use Rattle.lfg_solve.proofs.Tables.{Corresponds-read}
use Rattle.lfg_solve.proofs.Solving.{given_within}
use Rattle.lfg_solve.proofs.solution.given_pairs.Goals as goal

pub given_pair-requires-clause-listed : goal.given_pair-requires-clause-listed
given_pair-requires-clause-listed c = λ x y h. c.requires.listed x y (In-flat_map given_of (In-read c.args.literals.now c.loop-literal.literal-index c.literal-item.result (omega arith) c.literal-item.is) h)

pub loop-literal-preserved : goal.loop-literal-preserved
loop-literal-preserved c =
    rw c.in_ok-push_some.ensures
    (Corresponds-read (ArePlaces c.args.nodes.now) given_of c.args.literals.now c.loop-literal.literal-index c.literal-item.result _ _ (omega arith) c.literal-item.is c.loop-literal.invariant c.given_pair.ensures)

pub returns-clause-exact : goal.returns-clause-exact
returns-clause-exact c = subst (λ (ls : List Literal). Corresponds (ArePlaces c.args.nodes.now) (λ p. In p (given ls)) c.loop-literal.given.items) (take_whole c.loop-literal.literal-index c.args.literals.now (omega arith)) c.loop-literal.invariant

pub returns-clause-within : goal.returns-clause-within
returns-clause-within c = given_within _ _ _ c.loop-literal.invariant
