use Rattle.std.proofs.Common.{◌≡◌, ◌<◌, ◌∙◌, ℕ, List, is_some, map, length, not, ap, sym, subst, rules, true, false}
use Rattle.std.proofs.lemmas.Bool.{false≢true}
use Rattle.std.specs.BTreeSet.{contains}
use Rattle.lfg_terms.specs.Order.{name_cmp}
use Rattle.lfg_model.specs.Lists.{Once, none}
use Rattle.lfg_model.specs.Terms.{Name}
use Rattle.xle_run.specs.declared.thin.draft.Entry.{Entry}
use Rattle.xle_run.proofs.HeadSteps.{length-map', read_map, form_once, forms_more, second_form, nothing, none_placed}
use Rattle.xle_run.proofs.thin.consistent.have_own_forms.Goals as goal

abbrev form_of : Entry → Name
form_of x = x.form

in_forms : (xs : List Entry) (i : ℕ) → i < length xs → i < length (map form_of xs)
in_forms xs i l = subst (λ (n : ℕ). i < n) (sym (length-map' form_of xs)) l

pub loop-entry-init : goal.loop-entry-init
loop-entry-init c = record {
  once = subst (λ (us : List Name). Once us) (sym (nothing (map form_of c.args.entries.now))) none;
  held = λ q. (let e : contains name_cmp c.new-forms.result q ≡ false = search rules in e) ∙ ap is_some (none_placed (map form_of c.args.entries.now) q);
}

pub loop-entry-preserved : goal.loop-entry-preserved
loop-entry-preserved c =
    let x = c.entry-item.result in
    let l = in_forms c.args.entries.now c.loop-entry.entry-index c.loop-entry-test.true in
    let e = read_map form_of c.args.entries.now c.loop-entry.entry-index x c.loop-entry-test.true c.entry-item.is in
    let h : c.in_ok-form.form ≡ x.form = c.in_ok-form.ensures.cases in
    let a : true ≡ not (contains name_cmp c.loop-entry.forms c.in_ok-form.form) = sym c.if-not-added.false ∙ c.in_ok-added.ensures.added in
    record {
      once = form_once (map form_of c.args.entries.now) c.loop-entry.entry-index x.form l e (contains name_cmp c.loop-entry.forms) c.in_ok-form.form h c.loop-entry.invariant.held a c.loop-entry.invariant.once;
      held = forms_more (map form_of c.args.entries.now) c.loop-entry.entry-index x.form l e (contains name_cmp c.loop-entry.forms) (contains name_cmp c.insert.new.self) c.in_ok-form.form h c.loop-entry.invariant.held a
          c.in_ok-added.ensures.updates.0;
    }

pub returns-then-not-added : goal.returns-then-not-added
returns-then-not-added c =
    let x = c.entry-item.result in
    let h : c.in_ok-form.form ≡ x.form = c.in_ok-form.ensures.cases in
    let a : false ≡ not (contains name_cmp c.loop-entry.forms c.in_ok-form.form) = sym c.if-not-added.true ∙ c.in_ok-added.ensures.added in (
      λ t. absurd (false≢true t),
      λ once. absurd (second_form (map form_of c.args.entries.now) c.loop-entry.entry-index x.form (in_forms c.args.entries.now c.loop-entry.entry-index c.loop-entry-test.true)
          (read_map form_of c.args.entries.now c.loop-entry.entry-index x c.loop-entry-test.true c.entry-item.is) (contains name_cmp c.loop-entry.forms) c.in_ok-form.form h c.loop-entry.invariant.held a once),
    )
