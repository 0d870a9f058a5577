use Rattle.std.proofs.Common.{◌≡◌}
use Rattle.lfg_terms.proofs.path.Path.new.Given as goal

-- the names are those taken so far
abbrev pub invariant-loop-item : goal.invariant-loop-item
invariant-loop-item l = l.names.items ≡ l.yielded
