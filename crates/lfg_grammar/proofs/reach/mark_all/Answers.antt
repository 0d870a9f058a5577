use Rattle.std.proofs.Common.{length, get_or, subst, ℕ, refl, ◌∷◌, []}
use Rattle.lfg_templates.specs.Graphs.{Tied, Reached}
use Rattle.lfg_templates.proofs.Reaching.{tied_own, reached_more}
use Rattle.lfg_grammar.proofs.reach.mark_all.Goals as goal

pub mark-requires : goal.mark-requires
mark-requires c = tied_own c.loop-number.invariant.tied

pub loop-number-preserved : goal.loop-number-preserved
loop-number-preserved c =
    let w = c.loop-number.invariant.tied.wide in
    record {
      tied = subst (λ (n : ℕ). Tied n c.mark.new.marks.items c.mark.new.found.items) w c.in_ok-mark.ensures.tied;
      reached = reached_more (length c.args.marks.now.items) c.args.numbers.now c.loop-number.number-index 0 (get_or c.args.numbers.now c.loop-number.number-index 0) c.args.found.now.items c.loop-number.found.items c.mark.new.found.items c.loop-number-test.true refl c.loop-number.invariant.reached
          (subst (λ (n : ℕ). Reached n (get_or c.args.numbers.now c.loop-number.number-index 0 ∷ []) c.loop-number.found.items c.mark.new.found.items) w c.in_ok-mark.ensures.reached);
    }
