use Rattle.std.proofs.Common.{rules}
use Rattle.std.proofs.lemmas.Result.{on_ok_weaker}
use Rattle.lfg_instant.specs.Annotations.{instance_of}
use Rattle.lfg_instant.proofs.AppendLaws.{appends_one}
use Rattle.lfg_instant.proofs.LiteralLaws.{value_given, form_given}
use Rattle.lfg_instant.proofs.annotation.Instance.push_equations.Goals as goal

pub returns-in_ok-clone-in-Atom-2-clause-each : goal.returns-in_ok-clone-in-Atom-2-clause-each
returns-in_ok-clone-in-Atom-2-clause-each c = on_ok_weaker c.push_literal.result
    (appends_one _ _ c.args.picks.now c.args.ctx.now c.args.literals.now.items c.push_literal.new.literals.items _
    (value_given (instance_of c.args.self.now) c.args.at.now c.in_ok-clone-in-Atom.field-0 c.args.right.now c.in-Atom.atom c.in_ok-clone-in-Atom-2.field-0 c.args.index c.in-Atom.is (search rules) (search rules)))
    c.push_literal.ensures.pushed

pub returns-in_ok-literal-in-Form-clause-each : goal.returns-in_ok-literal-in-Form-clause-each
returns-in_ok-literal-in-Form-clause-each c = on_ok_weaker c.push_literal-in-Form.result
    (appends_one _ _ c.args.picks.now c.args.ctx.now c.args.literals.now.items c.push_literal-in-Form.new.literals.items _
    (form_given (instance_of c.args.self.now) c.args.at.now c.args.right.now c.in-Form.form c.args.index c.in_ok-literal-in-Form.literal c.in-Form.is c.in_ok-literal-in-Form.ensures))
    c.push_literal-in-Form.ensures.pushed
