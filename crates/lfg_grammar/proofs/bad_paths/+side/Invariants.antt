use Rattle.std.proofs.Common.{◌≡◌, ◌++◌, map, take}
use Rattle.std.specs.List.{flat_map}
use Rattle.lfg_model.specs.Loads.{item_paths, items_of, path_at}
use Rattle.lfg_model.specs.RightSides.{right_side_of}
use Rattle.lfg_grammar.specs.BadPaths.{written_at}
use Rattle.lfg_grammar.proofs.bad_paths.+side.Given as goal

abbrev pub invariant-push_sides_paths-loop-side : goal.invariant-push_sides_paths-loop-side
invariant-push_sides_paths-loop-side l = map written_at l.out.items ≡ map written_at l.initial.out.items ++ flat_map (λ s. map (path_at l.entry) (flat_map item_paths (items_of (right_side_of s)))) (take l.side-index l.sides)
