use Rattle.std.proofs.Common.{IsTrue, Bool, sym, subst}
use Rattle.std.specs.Prelude.{◌↔◌}
use Rattle.lfg_model.specs.Lists.{In}
use Rattle.lfg_rulegraph.proofs.Searching.{search_exact}
use Rattle.lfg_rulegraph.proofs.follow.is_among.Goals as goal

pub returns : goal.returns
returns c =
    subst (λ (b : Bool). IsTrue b ↔ In c.args.item c.args.items.now) (sym c.is_ok.ensures.value)
    (search_exact c.args.items.now c.args.item c.binary_search.result c.requires c.binary_search.ensures.position)
