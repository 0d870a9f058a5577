use Rattle.std.specs.Prelude.{ℕ, ◌<◌, List, [], ◌∷◌, All}
use Rattle.lfg_context.specs.declared.ctx.Form.{Form}
use Rattle.lfg_context.specs.declared.ctx.Form.TheVariants.{No, Yes, Node}
use Rattle.lfg_context.specs.Seen.{Set, cubes_of_node}

abbrev pub set_of : Form → Set
set_of No = (0, [])
set_of Yes = (1, [] ∷ [])
set_of (Node n) = (n.value.number, cubes_of_node n.value.choice n.value.children.items)

-- each child has a number below n
abbrev pub AllBelow : ℕ → List Set → Type 0
AllBelow n ks = All (λ k. k.0 < n) ks

abbrev pub HasSmallerChildren : Form → Type 0
HasSmallerChildren No = Unit {0}
HasSmallerChildren Yes = Unit {0}
HasSmallerChildren (Node n) = AllBelow n.value.number n.value.children.items
