-- What a derivation holds in a vector, as the definitions see it.
use Rattle.std.proofs.Common.{◌≡◌, List, refl, sym, ap, ◌∙◌}
use Rattle.std.specs.declared.vec.Vec.{Vec}
use Rattle.std.specs.Global.{Global}
use Rattle.lfg_terms.specs.declared.tree.Derivation.{Derivation, Inner, None', Some', Row_of-Part, end_of-Part, more_of-Part, items-the_row-Part, items_hidden-the_row-Part-0}
use Rattle.lfg_terms.specs.declared.tree.Derivation.TheBlock.{hidden-the_row-Part-0}
use Rattle.lfg_terms.specs.declared.tree.Part.{Part}
use Rattle.lfg_model.specs.Terms.{Name, tree_of, parts_of, inner, empty, daughter}
use Rattle.lfg_solve.specs.Views.{parts_from}

parts_view : {n : _} (row : Row_of-Part n) → parts_of row ≡ parts_from (items-the_row-Part n row)
parts_view end_of-Part = refl
parts_view (more_of-Part occ picks None' rest) = ap (empty occ picks.items) (parts_view rest)
parts_view (more_of-Part occ picks (Some' held below) rest) = ap (daughter occ picks.items (tree_of below)) (parts_view rest)

pub inner_view : (cat : Name) (v : Vec Part Global) → tree_of (Inner cat v) ≡ inner cat (parts_from v.items)
inner_view cat v = ap (inner cat) (parts_view (hidden-the_row-Part-0 v) ∙ ap parts_from (items_hidden-the_row-Part-0 v))

pub inner_tree : (d : Derivation) (cat : Name) (v : Vec Part Global) (parts : List Part) → d ≡ Inner cat v → parts ≡ v.items → tree_of d ≡ inner cat (parts_from parts)
inner_tree d cat v parts e f = ap tree_of e ∙ inner_view cat v ∙ ap (λ xs. inner cat (parts_from xs)) (sym f)
