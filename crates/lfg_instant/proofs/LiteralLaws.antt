-- The literal of an equation whose right side is an atom or a form.
use Rattle.std.proofs.Common.{◌≡◌, ℕ, List, [], ◌∷◌, sym, ap, ◌∙◌}
use Rattle.lfg_terms.specs.declared.node.Node.{Node}
use Rattle.lfg_terms.specs.declared.grammar.Form.{Form}
use Rattle.lfg_terms.specs.declared.grammar.Val.{Val}
use Rattle.lfg_terms.specs.declared.grammar.Val.TheVariants as val
use Rattle.lfg_terms.specs.declared.literal.Literal.{Literal}
use Rattle.lfg_terms.specs.declared.literal.Literal.TheVariants as literal
use Rattle.lfg_model.specs.Resolve.{Instance, equation}
use Rattle.lfg_model.specs.Terms.{Name, Paths}

pub value_given : (it : Instance) (at at' : Node) (right : Val Paths) (a a' : Name) (index : ℕ) → right ≡ val.Atom a → at' ≡ at → a' ≡ a
    → (ps : List ℕ) → literal.Value at' a' ∷ [] ≡ equation it at right ps index ∷ []
value_given it at at' right a a' index e f g ps = (λ i. literal.Value (f i) (g i) ∷ []) ∙ ap (λ v. equation it at v ps index ∷ []) (sym e)

pub form_given : (it : Instance) (at : Node) (right : Val Paths) (form : Form) (index : ℕ) (x : Literal) → right ≡ val.Form form → x ≡ literal.Form at form it.site index
    → (ps : List ℕ) → x ∷ [] ≡ equation it at right ps index ∷ []
form_given it at right form index x e f ps = ap (λ v. v ∷ []) f ∙ ap (λ v. equation it at v ps index ∷ []) (sym e)
