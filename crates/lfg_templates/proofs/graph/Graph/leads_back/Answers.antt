use Rattle.std.proofs.Common.{ℕ, ◌<◌, List, map, sym, ap, ◌∙◌, subst}
use Rattle.lfg_templates.specs.Graphs.{Walks}
use Rattle.lfg_templates.specs.Ranks.{rank_of}
use Rattle.lfg_templates.proofs.RankLaws.{fallen_is_on_no_cycle, risen_is_on_no_cycle}
use Rattle.lfg_templates.proofs.graph.Graph.leads_back.Goals as goal

pub returns-then-rank_of-gt0-clause-no : goal.returns-then-rank_of-gt0-clause-no
returns-then-rank_of-gt0-clause-no c = λ e w.
    fallen_is_on_no_cycle (map (λ r. r.items) c.self.inside.rows.items) c.self.inside.falling.items c.args.start c.self.invariant.0
    (subst (λ (r : ℕ). 0 < r) (c.rank_of.ensures ∙ ap (λ (ranks : List ℕ). rank_of ranks c.args.start) c.deref.ensures.value) c.if-rank_of-gt0.true)
    (subst (λ (rows : List (List ℕ)). Walks rows c.args.start c.args.start) (sym c.self.view_is) w)

pub returns-then-rank_of-gt0-2-clause-no : goal.returns-then-rank_of-gt0-2-clause-no
returns-then-rank_of-gt0-2-clause-no c = λ e w.
    risen_is_on_no_cycle (map (λ r. r.items) c.self.inside.rows.items) c.self.inside.rising.items c.args.start c.self.invariant.1
    (subst (λ (r : ℕ). 0 < r) (c.rank_of-2.ensures ∙ ap (λ (ranks : List ℕ). rank_of ranks c.args.start) c.deref-2.ensures.value) c.if-rank_of-gt0-2.true)
    (subst (λ (rows : List (List ℕ)). Walks rows c.args.start c.args.start) (sym c.self.view_is) w)
