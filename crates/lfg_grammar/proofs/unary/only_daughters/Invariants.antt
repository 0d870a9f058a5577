use Rattle.std.proofs.Common.{map, take}
use Rattle.std.specs.Prelude.{◌↔◌}
use Rattle.lfg_model.specs.Lists.{In}
use Rattle.lfg_model.specs.Terms.{Name}
use Rattle.lfg_grammar.proofs.UnaryLaws.{SomeLink}
use Rattle.lfg_grammar.proofs.unary.only_daughters.Given as goal

abbrev pub invariant-loop-link : goal.invariant-loop-link
invariant-loop-link l = (cat : Name) → In cat (map (λ c. c.now) l.cats.items) ↔ SomeLink l.rule (take l.link-index l.link-items) cat
