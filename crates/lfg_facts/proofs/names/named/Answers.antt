use Rattle.std.proofs.Common.{arith}
use Rattle.lfg_context.proofs.Growing.{grown_trans, same_picks_trans}
use Rattle.lfg_context.proofs.Telling.{in_more}
use Rattle.lfg_facts.specs.Naming.{Holds}
use Rattle.lfg_facts.proofs.NameLaws.{told}
use Rattle.lfg_facts.proofs.names.named.Goals as goal

pub loop-name-preserved : goal.loop-name-preserved
loop-name-preserved c = record {
  grown = grown_trans c.loop-name.invariant.grown c.in_ok-found.ensures.grown;
  picks = same_picks_trans c.loop-name.invariant.picks c.in_ok-found.ensures.picks;
  made = c.in_ok-found.ensures.ok.made;
  tells = in_more Holds c.args.names.now c.loop-name.name-index c.name-item.result (omega arith) c.name-item.is c.loop-name.invariant.tells (told c.name-item.result) c.in_ok-found.ensures.ok.members;
}
