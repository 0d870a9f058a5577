use Rattle.lfg_context.proofs.Growing.{grown_trans}
use Rattle.lfg_unify.proofs.ClashLaws.{clashes_tells}
use Rattle.lfg_unify.proofs.clash.clash_of.Goals as goal

pub returns-clause-tells : goal.returns-clause-tells
returns-clause-tells c =
    clashes_tells c.args.table.now c.args.values.now c.args.sources.now c.args.sets.now c.args.first.now c.in_ok-by_values.by_values c.in_ok-by_arcs.by_arcs c.in_ok-by_members.by_members
    c.in_ok-others.others c.in_ok-all.all c.in_ok-by_values.ensures.tells c.in_ok-by_arcs.ensures.tells c.in_ok-by_members.ensures.tells c.in_ok-others.ensures.ok.members c.in_ok-all.ensures.ok.members

pub returns-in_err-all-clause-grown : goal.returns-in_err-all-clause-grown
returns-in_err-all-clause-grown c =
    grown_trans (grown_trans (grown_trans (grown_trans c.in_ok-by_values.ensures.grown c.in_ok-by_arcs.ensures.grown) c.in_ok-by_members.ensures.grown) c.in_ok-others.ensures.grown) c.or-2.ensures.grown

pub returns-clause-grown : goal.returns-clause-grown
returns-clause-grown c =
    grown_trans (grown_trans (grown_trans (grown_trans c.in_ok-by_values.ensures.grown c.in_ok-by_arcs.ensures.grown) c.in_ok-by_members.ensures.grown) c.in_ok-others.ensures.grown) c.or-2.ensures.grown
