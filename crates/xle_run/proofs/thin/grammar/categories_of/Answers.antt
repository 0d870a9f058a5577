use Rattle.std.proofs.Common.{◌==◌}
use Rattle.std.specs.Cmp.Lexicographic.{pointwise}
use Rattle.std.proofs.lemmas.List.Filters.{dedup_is}
use Rattle.xle_run.specs.Drafts.{draft_view}
use Rattle.xle_run.proofs.AllCategories.{categories}
use Rattle.xle_run.proofs.thin.grammar.categories_of.Goals as goal

pub returns : goal.returns
returns c =
    categories (draft_view c.args.draft.now) c.in_ok-cats.cats.items c.sort.new.self.items c.dedup.new.self.items c.in_ok-cats.ensures c.in_ok-sort.ensures.permutation c.in_ok-sort.ensures.sorted
    (dedup_is (pointwise ◌==◌) _ _ c.dedup.ensures.filtered)
