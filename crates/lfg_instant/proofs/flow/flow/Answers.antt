use Rattle.std.proofs.Common.{◌≡◌, ◌∙◌, ap, sym, subst, arith, List, Bool, ◌+◌, ◌<◌}
use Rattle.lfg_context.proofs.Growing.{grown_refl, grown_trans, same_picks_refl, same_picks_trans}
use Rattle.lfg_instant.specs.Flow.{at, Flows}
use Rattle.lfg_instant.proofs.FlowRounds.{Progress, IsDone, progress_round, progress_still, progress_end}
use Rattle.lfg_instant.proofs.FlowTables.{ends_within, goes_along, first_progress, is_flow}
use Rattle.lfg_instant.proofs.flow.flow.Goals as goal

pub loop-turn-init : goal.loop-turn-init
loop-turn-init c = record {
  made = c.in_ok-table.ensures.made;
  grown = grown_refl _;
  picks = same_picks_refl _;
  len = c.in_ok-table.ensures.len;
  progress = λ a. first_progress c.args.passages.now c.args.picks.now c.args.root a c.args.places c.in_ok-table.table.items c.requires.root c.in_ok-table.ensures.len (c.in_ok-table.ensures.held a);
}

pub loop-turn-preserved : goal.loop-turn-preserved
loop-turn-preserved c = record {
  made = c.in_ok-round.ensures.made;
  grown = grown_trans c.loop-turn.invariant.grown c.in_ok-round.ensures.grown;
  picks = same_picks_trans c.loop-turn.invariant.picks c.in_ok-round.ensures.picks;
  len = c.in_ok-round.ensures.len ∙ c.loop-turn.invariant.len;
  progress = λ a.
      let ps = c.args.passages.now in
      let qs = at c.args.picks.now a in
      let Q = Flows ps c.args.picks.now c.args.root a in
      let P : List Bool → Type 0 = λ v. Progress Q c.args.places qs ps c.args.root v (c.loop-turn._turn + 1) in
      subst P (sym (c.in_ok-round.ensures.step a))
      (progress_round Q c.args.places qs ps c.args.root (at c.loop-turn.table.items a) c.loop-turn._turn (ends_within c.requires.within) (goes_along ps c.args.picks.now c.args.root a) (c.loop-turn.invariant.progress a));
}

pub returns-then-not-branch-clause-exact : goal.returns-then-not-branch-clause-exact
returns-then-not-branch-clause-exact c =
    is_flow c.args.passages.now c.args.picks.now c.args.root c.round.new.table.items (λ a.
    let ps = c.args.passages.now in
    let qs = at c.args.picks.now a in
    let Q = Flows ps c.args.picks.now c.args.root a in
    let kept : c.round.new.table.items ≡ c.loop-turn.table.items = c.in_ok-round.ensures.kept c.if-not-branch.true in
    let same : at c.round.new.table.items a ≡ at c.loop-turn.table.items a = ap (λ t. at t a) kept in
    let P : List Bool → Type 0 = λ v. IsDone Q qs ps c.args.root v in
    subst P (sym same)
    (progress_still Q c.args.places qs ps c.args.root (at c.loop-turn.table.items a) c.loop-turn._turn (ends_within c.requires.within) (sym (c.in_ok-round.ensures.step a) ∙ same) (c.loop-turn.invariant.progress a)))

pub returns-clause-exact : goal.returns-clause-exact
returns-clause-exact c =
    is_flow c.args.passages.now c.args.picks.now c.args.root c.round-2.new.table.items (λ a.
    let ps = c.args.passages.now in
    let qs = at c.args.picks.now a in
    let Q = Flows ps c.args.picks.now c.args.root a in
    let P : List Bool → Type 0 = λ v. IsDone Q qs ps c.args.root v in
    let many : c.args.places < c.loop-turn._turn + 1 = (let t = c.loop-turn-test.false in omega arith) in
    subst P (sym (c.in_ok-round-2.ensures.step a))
    (progress_end Q c.args.places qs ps c.args.root _ _ many
    (progress_round Q c.args.places qs ps c.args.root (at c.loop-turn.table.items a) c.loop-turn._turn (ends_within c.requires.within) (goes_along ps c.args.picks.now c.args.root a) (c.loop-turn.invariant.progress a))))
