use Rattle.std.proofs.Common.{◌≡◌, ap, subst, sym}
use Rattle.std.specs.List.{each_same}
use Rattle.lfg_terms.specs.declared.grammar.Form.{Form}
use Rattle.lfg_model.specs.Loads.{LoadsVal, designator, atom, form}
use Rattle.lfg_grammar.proofs.annotations.load_val.Goals as goal

same_form : {f g : Form} → f.name ≡ g.name → f.inner ≡ g.inner → f.outer ≡ g.outer → f ≡ g
same_form e h k = λ i. record { name = e i; inner = h i; outer = k i }

pub returns-in_ok-load_des-in-Des : goal.returns-in_ok-load_des-in-Des
returns-in_ok-load_des-in-Des c = rw c.in-Des.is (designator c.in_ok-load_des-in-Des.ensures)

pub returns-in_ok-clone-in-Atom : goal.returns-in_ok-clone-in-Atom
returns-in_ok-clone-in-Atom c = rw (c.in-Atom.is, c.in_ok-clone-in-Atom.ensures.cases) atom

pub returns-in_ok-clone-in-Form : goal.returns-in_ok-clone-in-Form
returns-in_ok-clone-in-Form c =
    let copy = c.in_ok-clone-in-Form.ensures.cases in
    let same : c.in_ok-clone-in-Form.field-0 ≡ c.in-Form.form = same_form copy.0 (each_same _ _ copy.1.0) (each_same _ _ copy.1.1) in
    rw (c.in-Form.is, same) form
