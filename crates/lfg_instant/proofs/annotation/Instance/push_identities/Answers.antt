use Rattle.std.proofs.Common.{drop, ◌+◌, rules, arith}
use Rattle.std.proofs.lemmas.List.{at_drop_all}
use Rattle.lfg_terms.specs.declared.literal.Literal.TheVariants as literal
use Rattle.lfg_model.specs.Places.{path_places}
use Rattle.lfg_model.specs.Resolve.{node_of}
use Rattle.lfg_context.proofs.Growing.{grown_refl, pair_made_at}
use Rattle.lfg_instant.specs.Annotations.{instance_of}
use Rattle.lfg_instant.proofs.AppendLaws.{appends_map, map_next, map_finished, drop_next}
use Rattle.lfg_instant.proofs.MadeLaws.{made_pushed}
use Rattle.lfg_instant.proofs.annotation.Instance.push_identities.Goals as goal

pub loop-node-preserved : goal.loop-node-preserved
loop-node-preserved c =
    let items = c.deref-node-items.result.now in
    record {
      each = map_next (λ x. (literal.Equal c.args.at.now x.0, x.1)) c.args.literals.now.items c.loop-node.literals.items c.push_literal.new.literals.items items (drop c.loop-node.node-index items) (drop (c.loop-node.node-index + 1) items)
          c.node-item.result _ (drop_next items c.loop-node.node-index c.node-item.result (omega arith) c.node-item.is) (search rules) c.in_ok-push_literal.ensures.pushed c.loop-node.invariant.each;
      made = made_pushed _ c.loop-node.literals.items _ _ (grown_refl _) c.loop-node.invariant.made
          (pair_made_at c.loop-node.node-index c.node-item.result c.loop-node.invariant.found_made (omega arith) c.node-item.is) c.in_ok-push_literal.ensures.pushed;
      found_made = c.loop-node.invariant.found_made;
    }

pub returns-clause-each : goal.returns-clause-each
returns-clause-each c =
    let items = c.deref-node-items.result.now in
    appends_map (path_places c.args.des.now.path) (λ ps. node_of (instance_of c.args.self.now) c.args.des.now ps) (λ n. literal.Equal c.args.at.now n) c.args.picks.now c.args.ctx.now
    c.in_ok-found.found.items items c.args.literals.now.items c.loop-node.literals.items c.in_ok-found.ensures.each c.deref-node-items.ensures.value
    (map_finished (λ x. (literal.Equal c.args.at.now x.0, x.1)) c.args.literals.now.items c.loop-node.literals.items items (drop c.loop-node.node-index items)
    (at_drop_all (λ z. z) items c.loop-node.node-index (omega arith)) c.loop-node.invariant.each)
