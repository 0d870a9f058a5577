-- what stands behind the shared list of a store
use Rattle.std.specs.Prelude.{List, [], Option, None, Some}
use Rattle.std.specs.declared.rc.Rc.{Rc}
use Rattle.std.specs.declared.vec.Vec.{Vec}
use Rattle.std.specs.declared.alloc.Global.{Global}
use Rattle.lfg_terms.specs.declared.node.Fact.{Fact}
use Rattle.lfg_context.specs.declared.ctx.Ctx.{Ctx}

abbrev pub kept : Option (Rc (Vec (Fact × Ctx) Global) Global) → List (Fact × Ctx)
kept None = []
kept (Some shared) = shared.value.items
