use Rattle.std.proofs.Common.{ℕ}
use Rattle.std.specs.Prelude.{◌↔◌}
use Rattle.lfg_model.specs.Lists.{In}
use Rattle.lfg_grammar.proofs.UnaryLaws.{EndsWithin}
use Rattle.lfg_grammar.proofs.unary.last_items.Given as goal

abbrev pub invariant-loop-place : goal.invariant-loop-place
invariant-loop-place l = (q : ℕ) → In q l.items.items ↔ EndsWithin l.graph l.place q
