use Rattle.std.proofs.Common.{◌==◌}
use Rattle.std.specs.Cmp.Lexicographic.{pointwise}
use Rattle.std.proofs.lemmas.List.Filters.{dedup_is}
use Rattle.lfg_grammar.proofs.AllCategories.{categories}
use Rattle.lfg_grammar.proofs.categories.categories_of.Goals as goal

pub returns : goal.returns
returns c = λ g a b d.
    categories g c.args.root.now c.args.rules.now c.args.lexicon.now a b d c.in_ok-cats.cats.items c.sort.new.self.items c.dedup.new.self.items c.in_ok-cats.ensures c.in_ok-sort.ensures.permutation c.in_ok-sort.ensures.sorted
    (dedup_is (pointwise ◌==◌) _ _ c.dedup.ensures.filtered)
