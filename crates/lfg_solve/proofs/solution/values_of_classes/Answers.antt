use Rattle.std.proofs.Common.{List, arith, subst}
use Rattle.lfg_terms.specs.declared.literal.Literal.{Literal}
use Rattle.lfg_model.specs.Lists.{In}
use Rattle.lfg_model.specs.Literals.{values, values_of}
use Rattle.lfg_model.proofs.ListLaws.{In-flat_map}
use Rattle.lfg_solve.specs.Numbers.{Corresponds, IsValueOf}
use Rattle.lfg_solve.proofs.Dividing.{In-read}
use Rattle.lfg_solve.proofs.Prefixes.{take_whole}
use Rattle.lfg_solve.proofs.Tables.{Corresponds-read}
use Rattle.lfg_solve.proofs.solution.values_of_classes.Goals as goal

pub value_of_class-requires-clause-listed : goal.value_of_class-requires-clause-listed
value_of_class-requires-clause-listed c = λ x d h. c.requires.listed x d (In-flat_map values_of (In-read c.args.literals.now c.loop-literal.literal-index c.literal-item.result (omega arith) c.literal-item.is) h)

pub loop-literal-preserved : goal.loop-literal-preserved
loop-literal-preserved c =
    rw c.in_ok-push_some.ensures
    (Corresponds-read (IsValueOf c.args.nodes.now c.args.classes.now) values_of c.args.literals.now c.loop-literal.literal-index c.literal-item.result _ _ (omega arith) c.literal-item.is c.loop-literal.invariant c.in_ok-value_of_class.ensures)

pub returns : goal.returns
returns c = subst (λ (ls : List Literal). Corresponds (IsValueOf c.args.nodes.now c.args.classes.now) (λ p. In p (values ls)) c.loop-literal.values.items) (take_whole c.loop-literal.literal-index c.args.literals.now (omega arith)) c.loop-literal.invariant
