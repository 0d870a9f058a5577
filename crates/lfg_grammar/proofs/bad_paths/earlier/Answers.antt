use Rattle.std.proofs.Common.{Option, subst, arith}
use Rattle.lfg_grammar.specs.declared.bad_paths.BadPath.{BadPath}
use Rattle.lfg_grammar.specs.BadPaths.{FoundBadPath}
use Rattle.lfg_grammar.proofs.FirstBad.{bad_alone, bad_before, bad_behind}
use Rattle.lfg_grammar.proofs.bad_paths.earlier.Goals as goal

pub returns-in_default : goal.returns-in_default
returns-in_default c = λ depth xs x h e f.
    bad_alone depth xs x c.args.bad.entry c.args.bad.fault (subst (λ (o : Option BadPath). FoundBadPath depth xs o) c.in_default.is h) e f

pub returns-then-bad-first : goal.returns-then-bad-first
returns-then-bad-first c = λ depth xs x h e f.
    bad_before depth xs x c.in-Some.first.entry c.args.bad.entry c.in-Some.first.fault c.args.bad.fault (subst (λ (o : Option BadPath). FoundBadPath depth xs o) c.in-Some.is h) e f (omega arith)

pub returns : goal.returns
returns c = λ depth xs x h e f.
    bad_behind depth xs x c.in-Some.first.entry c.args.bad.entry c.in-Some.first.fault (subst (λ (o : Option BadPath). FoundBadPath depth xs o) c.in-Some.is h) e (omega arith)
