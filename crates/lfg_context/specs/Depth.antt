-- a node's children have smaller numbers than the node
use Rattle.std.specs.Prelude.{ℕ, ◌+◌, ◌<◌, ◌≤◌, max, List, [], ◌∷◌}
use Rattle.std.proofs.Common.{arith}
use Rattle.std.proofs.lemmas.List.Elements.{All-head, All-tail}
use denote.Param.Weighed.{most}
use Rattle.lfg_context.specs.declared.ctx.Form.{Form}
use Rattle.lfg_context.specs.declared.ctx.Form.TheVariants.{No, Yes, Node}
use Rattle.lfg_context.specs.declared.ctx.Ctx.TheDeep.{deep-Form}
use Rattle.lfg_context.specs.Seen.{Set}
use Rattle.lfg_context.specs.Forms.{set_of, AllBelow, HasSmallerChildren}

pub most_below : (n : ℕ) (ks : List Set) → AllBelow n ks → most (λ k. k.0 + 1) ks ≤ n
most_below n [] b = omega arith
most_below n (k ∷ ks) b = omega (arith, All-head (λ x. x.0 < n) k ks b, most_below n ks (All-tail (λ x. x.0 < n) k ks b))

pub depth_le : (f : Form) → HasSmallerChildren f → max (deep-Form f) 0 ≤ (set_of f).0
depth_le No h = omega arith
depth_le Yes h = omega arith
depth_le (Node n) h = omega (arith, most_below n.value.number n.value.children.items h)
