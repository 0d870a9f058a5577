use Rattle.std.proofs.Common.{◌≡◌, take}
use Rattle.lfg_model.specs.Drafts.{lexemes_of}
use Rattle.lfg_notation.proofs.lexemes.lexemes_of.Given as goal

abbrev pub invariant-loop-token : goal.invariant-loop-token
invariant-loop-token l = l.lexemes.items ≡ lexemes_of (take l.token-index l.tokens)
