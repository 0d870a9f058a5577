use Rattle.std.proofs.Common.{List, arith, subst}
use Rattle.lfg_terms.specs.declared.literal.Literal.{Literal}
use Rattle.lfg_model.specs.Lists.{In}
use Rattle.lfg_model.specs.Literals.{members, members_of}
use Rattle.lfg_model.proofs.ListLaws.{In-flat_map}
use Rattle.lfg_solve.specs.Numbers.{Corresponds, IsMemberOf}
use Rattle.lfg_solve.proofs.Dividing.{In-read}
use Rattle.lfg_solve.proofs.Prefixes.{take_whole}
use Rattle.lfg_solve.proofs.Tables.{Corresponds-read}
use Rattle.lfg_solve.proofs.solution.members_of_classes.Goals as goal

pub member_of_class-requires-clause-listed : goal.member_of_class-requires-clause-listed
member_of_class-requires-clause-listed c = λ k x h. c.requires.listed k x (In-flat_map members_of (In-read c.args.literals.now c.loop-literal.literal-index c.literal-item.result (omega arith) c.literal-item.is) h)

pub loop-literal-preserved : goal.loop-literal-preserved
loop-literal-preserved c =
    rw c.in_ok-push_some.ensures
    (Corresponds-read (IsMemberOf c.args.nodes.now c.args.classes.now) members_of c.args.literals.now c.loop-literal.literal-index c.literal-item.result _ _ (omega arith) c.literal-item.is c.loop-literal.invariant c.member_of_class.ensures)

pub returns : goal.returns
returns c = subst (λ (ls : List Literal). Corresponds (IsMemberOf c.args.nodes.now c.args.classes.now) (λ p. In p (members ls)) c.loop-literal.members.items) (take_whole c.loop-literal.literal-index c.args.literals.now (omega arith)) c.loop-literal.invariant
