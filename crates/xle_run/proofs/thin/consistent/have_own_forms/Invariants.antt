use Rattle.std.proofs.Common.{◌≡◌, List, ℕ, is_some, map, take}
use Rattle.std.specs.BTreeSet.{contains}
use Rattle.lfg_terms.specs.Order.{name_cmp}
use Rattle.lfg_model.specs.Lists.{Once}
use Rattle.xle_run.specs.Heads.{place_of}
use Rattle.xle_run.proofs.thin.consistent.have_own_forms.Given as goal

abbrev pub invariant-loop-entry : goal.invariant-loop-entry
invariant-loop-entry l = record {
  once : Once (take l.entry-index (map (λ x. x.form) l.entries));
  held : (form : List ℕ) → contains name_cmp l.forms form ≡ is_some (place_of form (take l.entry-index (map (λ x. x.form) l.entries)));
}
