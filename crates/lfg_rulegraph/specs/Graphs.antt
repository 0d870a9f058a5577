-- The graph of a right side, and why it has none.
use Rattle.std.specs.Prelude.{◌≡◌, ◌↔◌, ℕ, List}
use Rattle.lfg_terms.specs.declared.grammar.Graph.{Graph}
use Rattle.lfg_model.specs.Derive.{Walks}
use Rattle.lfg_model.specs.Graphs.{IsGraph}
use Rattle.lfg_model.specs.RightSides.{RightSide}
use Rattle.lfg_model.specs.Spelling.{AllowsEmpty, HasEmptyStar, Spells, item_count}
use Rattle.lfg_rulegraph.specs.declared.fault.GraphFault.{GraphFault}
use Rattle.lfg_rulegraph.specs.declared.fault.GraphFault.TheVariants.{EmptyStar, EmptyRule, Memory}

-- The graph walks the rows that the right side spells, of which none is without a category, and
-- neither is one inside a star or a plus.
pub record IsGraphOf (side : RightSide) (g : Graph) : Type 0 where
  pub no_empty_star : ¬ HasEmptyStar side
  pub not_empty : ¬ AllowsEmpty side
  pub form : IsGraph g
  pub size : g.size ≡ item_count side
  pub walks : (w : List ℕ) → Walks g w ↔ Spells side w

-- each fault has its cause; want of memory may always come
abbrev pub IsRefused : RightSide → GraphFault → Type 0
IsRefused side EmptyStar = HasEmptyStar side
IsRefused side EmptyRule = ¬ HasEmptyStar side × AllowsEmpty side
IsRefused side Memory = Unit {0}
