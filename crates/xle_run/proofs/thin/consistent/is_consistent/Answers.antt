use Rattle.std.proofs.Common.{◌≡◌, ◌∙◌, List, map, ap, sym, subst}
use Rattle.std.specs.BTreeMap.{get}
use Rattle.std.specs.List.{list_all}
use Rattle.lfg_terms.specs.Order.{name_cmp}
use Rattle.lfg_model.specs.Terms.{Name}
use Rattle.xle_run.specs.declared.thin.draft.Phrase.{Phrase}
use Rattle.xle_run.specs.declared.thin.draft.Entry.{Entry}
use Rattle.xle_run.specs.Heads.{HaveOwnRules, place_of, are_later}
use Rattle.xle_run.proofs.Consistency.{cat_of, form_of, apart_test, refuses, rules_shared, empty_root, early_rule, shared_cat, consistent_from, forms_once}
use Rattle.xle_run.proofs.FileSteps.{ok_iff}
use Rattle.xle_run.specs.Drafts.{draft_view}
use Rattle.lfg_model.specs.Lists.{Once}
use Rattle.lfg_model.specs.Thin.{IsConsistent}
use Rattle.xle_run.proofs.thin.consistent.is_consistent.Goals as goal

pub returns-in_default : goal.returns-in_default
returns-in_default c =
    refuses c.args.draft.now (rules_shared c.args.draft.now
    (λ own. (rw c.in_default.is at c.in_ok-heads.ensures.refused) (subst (λ (qs : List Phrase). HaveOwnRules (map cat_of qs)) (sym c.deref.ensures.value) own)))

pub returns-then-is_empty_item : goal.returns-then-is_empty_item
returns-then-is_empty_item c = refuses c.args.draft.now (empty_root c.args.draft.now c.if-is_empty_item.ensures)

pub returns-then-not-are_later : goal.returns-then-not-are_later
returns-then-not-are_later c =
    let own = rw c.in-Some.is at c.in_ok-heads.ensures.accepted in
    let are = rw c.in-Some.is at c.in_ok-heads.ensures.places in
    refuses c.args.draft.now (early_rule c.args.draft.now (get name_cmp c.in-Some.heads) (subst (λ (qs : List Phrase). HaveOwnRules (map cat_of qs)) c.deref.ensures.value own)
    (subst (λ (qs : List Phrase). (cat : Name) → get name_cmp c.in-Some.heads cat ≡ place_of cat (map cat_of qs)) c.deref.ensures.value are)
    (sym (c.if-not-are_later.ensures ∙ ap (are_later (get name_cmp c.in-Some.heads) 0) c.deref-2.ensures.value)))

pub returns-then-not-are_apart : goal.returns-then-not-are_apart
returns-then-not-are_apart c =
    let own = rw c.in-Some.is at c.in_ok-heads.ensures.accepted in
    let are = rw c.in-Some.is at c.in_ok-heads.ensures.places in
    refuses c.args.draft.now (shared_cat c.args.draft.now (get name_cmp c.in-Some.heads) (subst (λ (qs : List Phrase). HaveOwnRules (map cat_of qs)) c.deref.ensures.value own)
    (subst (λ (qs : List Phrase). (cat : Name) → get name_cmp c.in-Some.heads cat ≡ place_of cat (map cat_of qs)) c.deref.ensures.value are)
    (sym (c.if-not-are_apart.ensures ∙ ap (list_all (apart_test (get name_cmp c.in-Some.heads))) c.deref-3.ensures.value)))

pub returns : goal.returns
returns c =
    let own = rw c.in-Some.is at c.in_ok-heads.ensures.accepted in
    let are = rw c.in-Some.is at c.in_ok-heads.ensures.places in
    let d = c.args.draft.now in
    ok_iff c.have_own_forms.result (Once (map form_of c.deref-4.result.now)) (IsConsistent (draft_view d))
    (λ once. consistent_from d (get name_cmp c.in-Some.heads) (subst (λ (qs : List Phrase). HaveOwnRules (map cat_of qs)) c.deref.ensures.value own)
    (subst (λ (qs : List Phrase). (cat : Name) → get name_cmp c.in-Some.heads cat ≡ place_of cat (map cat_of qs)) c.deref.ensures.value are)
    c.if-is_empty_item.ensures
    (sym (c.if-not-are_later.ensures ∙ ap (are_later (get name_cmp c.in-Some.heads) 0) c.deref-2.ensures.value))
    (sym (c.if-not-are_apart.ensures ∙ ap (list_all (apart_test (get name_cmp c.in-Some.heads))) c.deref-3.ensures.value))
    (subst (λ (xs : List Entry). Once (map form_of xs)) c.deref-4.ensures.value once))
    (λ ok. subst (λ (xs : List Entry). Once (map form_of xs)) (sym c.deref-4.ensures.value) (forms_once d ok))
    c.have_own_forms.ensures
