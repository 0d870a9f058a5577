use Rattle.std.proofs.Common.{List, sym, subst}
use Rattle.lfg_terms.specs.declared.node.Node.{Node}
use Rattle.lfg_model.specs.Lists.{In}
use Rattle.lfg_model.specs.Terms.{Name}
use Rattle.lfg_model.proofs.ListLaws.{In-append_left}
use Rattle.lfg_context.specs.Seen.{Set}
use Rattle.lfg_unify.proofs.MarkLaws.{pushed_sound, pushed_has, none_of, some_of}
use Rattle.lfg_unify.proofs.collect.push_arc.Goals as goal

pub returns-in_default-clause-has : goal.returns-in_default-clause-has
returns-in_default-clause-has c = λ x n s. absurd (none_of _ _ c.in_default.is c.in_ok-before.ensures.start x n s)

pub returns-clause-sound : goal.returns-clause-sound
returns-clause-sound c =
    pushed_sound c.args.arcs.now.items c.push.new.self.items c.in-Some.before c.in_ok-clone.field-0 c.args.node.now c.in-Some.name c.in_ok-share.field-0 c.args.ctx.now
    c.in_ok-push.ensures.items c.in_ok-clone.ensures.cases c.in_ok-share.ensures (some_of _ _ _ c.in-Some.is c.in_ok-before.ensures.step)

pub returns-clause-keeps : goal.returns-clause-keeps
returns-clause-keeps c = λ r i. subst (λ (xs : List (Node × Name × Node × Set)). In r xs) (sym c.in_ok-push.ensures.items) (In-append_left _ i)

pub returns-clause-has : goal.returns-clause-has
returns-clause-has c =
    pushed_has c.args.arcs.now.items c.push.new.self.items c.in-Some.before c.in_ok-clone.field-0 c.args.node.now c.in-Some.name c.in_ok-share.field-0 c.args.ctx.now
    c.in_ok-push.ensures.items c.in_ok-clone.ensures.cases c.in_ok-share.ensures (some_of _ _ _ c.in-Some.is c.in_ok-before.ensures.step)
