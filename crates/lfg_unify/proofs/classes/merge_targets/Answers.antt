use Rattle.std.proofs.Common.{◌≡◌, ◌<◌, ℕ, length, sym, ◌∙◌, ap, subst, arith}
use Rattle.lfg_unify.proofs.SweepLaws.{growth_trans}
use Rattle.lfg_unify.proofs.classes.merge_targets.Goals as goal

pub returns-clause-growth : goal.returns-clause-growth
returns-clause-growth c = λ arcs i j.
    growth_trans arcs c.args.table.now c.link.new.table c.merge.new.table (c.in_ok-link.ensures.growth arcs i j)
    (growth_trans arcs c.link.new.table c.link-2.new.table c.merge.new.table (c.in_ok-link-2.ensures.growth arcs j i) (c.in_ok-merge.ensures.growth arcs))
