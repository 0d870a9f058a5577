use Rattle.std.proofs.Common.{◌≡◌, drop}
use Rattle.std.specs.Cmp.Lexicographic.{slice_cmp}
use Rattle.lfg_terms.specs.Order.{arg_cmp}
use Rattle.lfg_terms.proofs.order.+order.Given as goal

-- the arguments so far are equal
abbrev pub invariant-compare_lists-loop-i : goal.invariant-compare_lists-loop-i
invariant-compare_lists-loop-i l = slice_cmp arg_cmp l.xs l.ys ≡ slice_cmp arg_cmp (drop l.i l.xs) (drop l.i l.ys)
