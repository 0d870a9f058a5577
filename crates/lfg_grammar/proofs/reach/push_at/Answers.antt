use Rattle.lfg_rulegraph.proofs.FollowerLaws.{pushed}
use Rattle.lfg_grammar.proofs.reach.push_at.Goals as goal

pub returns-clause-pushed : goal.returns-clause-pushed
returns-clause-pushed c = pushed _ _ _ c.index_mut.result.now _ c.requires c.index_mut.ensures.value c.in_ok-push.ensures.items
