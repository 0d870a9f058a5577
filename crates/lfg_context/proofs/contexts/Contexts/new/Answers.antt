use Rattle.std.proofs.Common.{get_or, ap}
use Rattle.lfg_context.specs.Sets.{arity_of}
use Rattle.lfg_context.proofs.contexts.Contexts.new.Goals as goal

pub returns : goal.returns
unfolding arity_of
returns c = λ n. ap (λ v. get_or v n 0) c.new-2.ensures.items
