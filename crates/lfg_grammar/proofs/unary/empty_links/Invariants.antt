use Rattle.std.proofs.Common.{ℕ}
use Rattle.std.specs.Prelude.{◌↔◌}
use Rattle.lfg_model.specs.Lists.{In}
use Rattle.lfg_grammar.specs.Reach.{link}
use Rattle.lfg_grammar.proofs.UnaryLaws.{EmptyWithin}
use Rattle.lfg_grammar.proofs.unary.empty_links.Given as goal

abbrev pub invariant-loop-link : goal.invariant-loop-link
invariant-loop-link l = (q p : ℕ) → In (link q p) l.empty.items ↔ EmptyWithin l.rule l.links l.link-index q p
