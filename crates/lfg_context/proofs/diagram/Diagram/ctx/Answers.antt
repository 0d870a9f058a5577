use Rattle.std.proofs.Common.{◌∙◌, ◌-◌, arith}
use Rattle.lfg_context.specs.Tables.{Entry}
use Rattle.lfg_context.proofs.TableLaws.{ctx_is}
use Rattle.lfg_context.proofs.diagram.Diagram.ctx.Goals as goal

pub returns : goal.returns
returns c =
    let e : Entry = (c.node.result.0.now, c.node.result.1.now) in
    c.in_ok-ctx.ensures ∙ ctx_is c.args.self.now.nodes.entries _ _ (c.args.number - 2) c.args.number e c.requires.table (omega arith) c.node.ensures (omega arith)
