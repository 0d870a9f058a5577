-- The graph of the part that a whole right side is.
use Rattle.std.proofs.Common.{◌≡◌, ℕ, ◌+◌, IsTrue, List, [], ◌++◌, sym, ap, subst, ◌∙◌, arith}
use Rattle.lfg_terms.specs.declared.grammar.Graph.{Graph}
use Rattle.lfg_model.specs.RightSides.{RightSide}
use Rattle.lfg_model.specs.Spelling.{AllowsEmpty, HasEmptyStar, Spells, item_count}
use Rattle.lfg_model.proofs.ListLaws.{In-nil}
use Rattle.lfg_rulegraph.specs.declared.part.Link.{Link}
use Rattle.lfg_rulegraph.specs.declared.part.Part.{Part}
use Rattle.lfg_rulegraph.specs.Tables.{IsTable}
use Rattle.lfg_rulegraph.specs.Parts.{Adds, table_of}
use Rattle.lfg_rulegraph.specs.Followers.{HasTable}
use Rattle.lfg_rulegraph.specs.Graphs.{IsGraphOf}
use Rattle.lfg_rulegraph.proofs.FollowerLaws.{walks_read}

whole_table : (side : RightSide) (part : Part) (old links : List Link) → old ≡ [] → Adds (Spells side) 0 (0 + item_count side) part old links
    → IsTable (Spells side) 0 part.end (table_of part links)
whole_table side part old links e a =
    let same : links ≡ a.added = a.is ∙ ap (λ (ls : List Link). ls ++ a.added) e in
    subst (λ (ls : List Link). IsTable (Spells side) 0 part.end (table_of part ls)) (sym same)
    (subst (λ (n : ℕ). IsTable (Spells side) 0 n (table_of part a.added)) (sym a.end) a.table)

pub whole_graph : (side : RightSide) (part : Part) (old links : List Link) (g : Graph) → ¬ HasEmptyStar side → ¬ AllowsEmpty side
    → old ≡ [] → Adds (Spells side) 0 (0 + item_count side) part old links → HasTable part.end (table_of part links) g
    → IsGraphOf side g
whole_graph side part old links g stars empty e a h = record {
  no_empty_star = stars;
  not_empty = empty;
  form = h.form;
  size = omega (arith, h.size, a.end);
  walks = λ w. let r = walks_read part.end (table_of part links) g table.within h some w in ((λ k. (table.exact w).1 (r.0 k)), (λ s. r.1 ((table.exact w).0 s)));
}
  where
    table : IsTable (Spells side) 0 part.end (table_of part links)
    table = whole_table side part old links e a

    some : ¬ IsTrue part.empty
    some t = empty (record { items = []; spelled = (table.exact []).1 t; each = λ occ i. In-nil i })
