use Rattle.std.proofs.Common.{List, ap, sym, ◌∙◌, subst, arith}
use Rattle.lfg_terms.specs.declared.node.Node.{Node}
use Rattle.lfg_context.proofs.Growing.{made_grown, grown_trans, same_picks_trans, are_made_grown, made_at}
use Rattle.lfg_unify.specs.Marks.{Marks}
use Rattle.lfg_unify.proofs.MarkLaws.{marked_more}
use Rattle.lfg_unify.proofs.collect.marked.Goals as goal

pub mark-requires-clause-made : goal.mark-requires-clause-made
mark-requires-clause-made c = made_at c.loop-literal.literal-index c.literal-item.result (are_made_grown c.loop-literal.invariant.grown c.requires.made) (omega arith) c.literal-item.is

pub loop-literal-preserved : goal.loop-literal-preserved
loop-literal-preserved c =
    let inv = c.loop-literal.invariant in
    let step = c.in_ok-mark.ensures in
    record {
      grown = grown_trans inv.grown step.grown;
      picks = same_picks_trans inv.picks step.picks;
      ascends = step.ascends;
      row = step.row;
      marked = marked_more c.args.nodes.now c.args.whole c.args.literals.now c.loop-literal.literal-index c.literal-item.result c.loop-literal.row.items c.mark.new.row.items
          (omega arith) c.literal-item.is inv.marked
          (subst (λ (xs : List Node). Marks c.args.nodes.now xs c.literal-item.result.1 c.loop-literal.row.items c.mark.new.row.items) (c.as_slice.ensures.value ∙ c.in_ok-found.ensures) step.marks);
    }
