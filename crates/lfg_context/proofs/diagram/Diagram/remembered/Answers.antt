use Rattle.std.proofs.Common.{◌≡◌, ◌∙◌, ℕ, sym}
use Rattle.std.specs.Prelude.{Option, None, Some, IfSome}
use Rattle.std.specs.Map.{lookup}
use Rattle.lfg_context.specs.contracts.diagram.WorkPartialEq.TheImpl as works
use Rattle.lfg_context.specs.Ops.{IsResult}
use Rattle.lfg_context.proofs.Results.{remembered_result}
use Rattle.lfg_context.proofs.diagram.Diagram.remembered.Goals as goal

pub returns : goal.returns
returns c = by_result c.copied.result (c.copied.ensures ∙ c.get.ensures.value)
  where
    by_result : (r : Option ℕ) → r ≡ lookup (works.ghosts.eq c.args.work) c.args.self.now.results.entries → IfSome r (λ n. IsResult c.args.self.now.nodes.entries c.args.work n)
    by_result None e = tt
    by_result (Some n) e = remembered_result c.args.self.now.nodes.entries c.args.work n c.args.self.now.results.entries c.requires (sym e)
