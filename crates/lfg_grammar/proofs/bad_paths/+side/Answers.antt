use Rattle.std.proofs.Common.{arith, map}
use Rattle.std.specs.List.{flat_map}
use Rattle.lfg_model.specs.Loads.{item_paths, items_of, path_at}
use Rattle.lfg_model.specs.RightSides.{right_side_of}
use Rattle.lfg_grammar.specs.BadPaths.{written_at}
use Rattle.lfg_templates.proofs.Gathering.{gathered}
use Rattle.lfg_grammar.proofs.PathGathering.{sides_flat}
use Rattle.lfg_grammar.proofs.bad_paths.+side.Goals as goal

pub push_sides_paths-returns : goal.push_sides_paths-returns
push_sides_paths-returns t c = gathered (λ s. map (path_at c.args.entry) (flat_map item_paths (items_of (right_side_of s)))) c.args.sides.now c.loop-side.side-index (map written_at c.args.out.now.items) (map written_at c.loop-side.out.items) _ (omega arith) (sides_flat c.args.entry c.args.sides.now) c.loop-side.invariant
