use Rattle.std.proofs.Common.{ap, length, arith, [], ◌∷◌}
use Rattle.std.proofs.lemmas.List.{length-append}
use Rattle.lfg_context.proofs.Growing.{are_made_push}
use Rattle.lfg_instant.proofs.FlowTables.{starts_push}
use Rattle.lfg_instant.proofs.flow.starts.Goals as goal

pub loop-place-preserved : goal.loop-place-preserved
loop-place-preserved c = record {
  made = rw c.in_ok-push.ensures.items (are_made_push c.loop-place.invariant.made c.start_at.ensures.made);
  len = (let e = ap length c.in_ok-push.ensures.items in let l = c.loop-place.invariant.len in omega (arith, e, l, length-append c.loop-place.table.items (c.start_at.result ∷ [])));
  holds = rw c.in_ok-push.ensures.items (starts_push c.loop-place.table.items c.start_at.result c.loop-place.place c.args.root c.loop-place.invariant.len c.start_at.ensures.members c.loop-place.invariant.holds);
}
