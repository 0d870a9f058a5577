use Rattle.std.proofs.Common.{◌≡◌, map, drop}
use Rattle.lfg_model.specs.Pieces.{symbol_in}
use Rattle.lfg_lexer.proofs.symbols.symbol_in.Given as goal

abbrev pub invariant-loop-symbol : goal.invariant-loop-symbol
invariant-loop-symbol l = symbol_in (map (λ s. s.now) (drop l.symbol-index l.symbols)) l.chars ≡ symbol_in (map (λ s. s.now) l.symbols) l.chars
