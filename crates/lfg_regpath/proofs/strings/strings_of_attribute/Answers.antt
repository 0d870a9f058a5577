use Rattle.std.proofs.Common.{arith, rules}
use Rattle.lfg_model.specs.PathExpressions.{HasShort, attribute}
use Rattle.lfg_regpath.proofs.SetLaws.{set_none}
use Rattle.lfg_regpath.proofs.StringLaws.{attribute_none, attribute_set}
use Rattle.lfg_regpath.proofs.strings.strings_of_attribute.Goals as goal

pub returns-then-limit-eq0-clause-all : goal.returns-then-limit-eq0-clause-all
returns-then-limit-eq0-clause-all c = rw (c.new-set.ensures.items, c.if-limit-eq0.true) (set_none (HasShort (attribute c.args.name.now) 0) (attribute_none c.args.name.now))

pub returns-clause-all : goal.returns-clause-all
returns-clause-all c = attribute_set c.args.name.now c.args.limit c.push-2.new.self.items (omega arith) (search rules)
