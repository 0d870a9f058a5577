use Rattle.std.proofs.Common.{ap, ◌∙◌, slice_set, arith}
use Rattle.std.proofs.lemmas.List.Edits.{map_over_more}
use Rattle.lfg_solve.specs.Links.{relabelled}
use Rattle.lfg_solve.proofs.classes.Classes.relabel.Goals as goal

pub loop-i-preserved : goal.loop-i-preserved
loop-i-preserved c =
    ap (slice_set c.loop-i.self-inside.labels.items c.loop-i.i) c.relabelled.ensures
    ∙ map_over_more (relabelled c.args.high c.args.low) c.self.inside.labels.items c.loop-i.self-inside.labels.items c.loop-i.i c.index.result.now (omega arith) c.loop-i.invariant c.index.ensures
