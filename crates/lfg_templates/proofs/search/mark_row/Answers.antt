use Rattle.std.proofs.Common.{length, get_or, subst, ℕ, refl, ◌∷◌, []}
use Rattle.lfg_templates.specs.Graphs.{Tied, Reached}
use Rattle.lfg_templates.proofs.Reaching.{tied_own, reached_more}
use Rattle.lfg_templates.proofs.search.mark_row.Goals as goal

pub mark-requires : goal.mark-requires
mark-requires c = tied_own c.loop-place.invariant.tied

pub loop-place-preserved : goal.loop-place-preserved
loop-place-preserved c =
    let w = c.loop-place.invariant.tied.wide in
    record {
      tied = subst (λ (n : ℕ). Tied n c.mark.new.marks.items c.mark.new.reached.items) w c.in_ok-mark.ensures.tied;
      reached = reached_more (length c.args.marks.now.items) c.args.row.now c.loop-place.place-index 0 (get_or c.args.row.now c.loop-place.place-index 0) c.args.reached.now.items c.loop-place.reached.items c.mark.new.reached.items c.loop-place-test.true refl c.loop-place.invariant.reached
          (subst (λ (n : ℕ). Reached n (get_or c.args.row.now c.loop-place.place-index 0 ∷ []) c.loop-place.reached.items c.mark.new.reached.items) w c.in_ok-mark.ensures.reached);
    }
