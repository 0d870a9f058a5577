use Rattle.std.proofs.Common.{List, ◌+◌, ◌↔◌, length}
use Rattle.lfg_terms.specs.declared.node.Edge.{Edge}
use Rattle.lfg_instant.specs.Ways.{Thing, things_of, IsStart, IsOverStep, IsToEntry}
use Rattle.lfg_instant.proofs.PassageLaws.{collected_three}
use Rattle.lfg_instant.proofs.passages.passages_of.Goals as goal

along : {A B D : Type 0} → A ↔ B → B ↔ D → A ↔ D
along f g = ((λ a. g.0 (f.0 a)), (λ d. f.1 (g.1 d)))

pub returns : goal.returns
returns c =
    let things : List Thing = things_of c.args.outline.now.chart.now c.args.outline.now.keys.now c.args.outline.now.facts.now in
    let edges : List Edge = c.args.outline.now.chart.now.edges in
    record {
      exact = λ p. along (c.in_ok-sorted.ensures p) (collected_three (IsStart things edges) (IsOverStep c.args.outline.now.grammar.now c.args.outline.now.tokens.now things c.args.steps.now 1)
          (IsToEntry c.args.outline.now.grammar.now c.args.outline.now.tokens.now things c.args.words.now (1 + length c.args.steps.now))
          c.new-passages.result.items c.add_starts.new.passages.items c.add_steps.new.passages.items c.add_words.new.passages.items c.new-passages.ensures.items
          c.in_ok-add_starts.ensures c.in_ok-add_steps.ensures c.in_ok-add_words.ensures p);
    }
