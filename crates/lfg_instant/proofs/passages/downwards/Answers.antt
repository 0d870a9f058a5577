use Rattle.std.proofs.lemmas.List.Sorted.{IsPermutation-sym}
use Rattle.lfg_instant.proofs.PassageLaws.{from_permuted}
use Rattle.lfg_instant.proofs.passages.downwards.Goals as goal

pub returns : goal.returns
returns c = λ p.
    (let old = c.args.passages.items in
    let new = c.sort_by.new.self.items in
    let is = c.sort_by.ensures.permutation in
    ((λ i. from_permuted old new p is i), λ i. from_permuted new old p (IsPermutation-sym old new is) i))
