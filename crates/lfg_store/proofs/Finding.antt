-- What a binary search among facts in order finds.
use Rattle.std.proofs.Common.{◌≡◌, ℕ, ◌+◌, ◌<◌, ◌≤◌, false, List, length, get_or, refl, sym, ◌∙◌, ap, subst, arith, Result, Ok, Err, Less, Equal, Greater}
use Rattle.std.specs.Prelude.{IfOk, IfErr}
use Rattle.std.specs.Ordering.{is_lt, ordering_reverse, ordering_index}
use Rattle.std.specs.List.Sorted.{IsStrictlySortedBy, IsNonDecreasingBy, IsBinarySearchResult, IsSearchInRange}
use Rattle.std.proofs.lemmas.List.{get_or-map, length-map}
use Rattle.std.proofs.lemmas.List.Sorted.{searchable_from_sorted}
use Rattle.std.proofs.lemmas.Map.Keys.{Less-from_sorted}
use Rattle.lfg_terms.specs.Order.{fact_cmp}
use Rattle.lfg_terms.specs.OrderLaws.{fact_cmp_total}
use Rattle.lfg_terms.specs.declared.node.Fact.{Fact}
use Rattle.lfg_terms.proofs.Ties.{fact_ties}
use Rattle.lfg_context.specs.Seen.{Set}
use Rattle.lfg_store.specs.Facts.{Entries, facts_of}
use Rattle.lfg_store.specs.Edits.{IsAt, IsGap}

rises : (es : Entries) (f : Fact) → IsStrictlySortedBy fact_cmp (facts_of es) → IsNonDecreasingBy (λ e. ordering_index (fact_cmp e.0 f)) es
rises es f asc = searchable_from_sorted fact_cmp_total (λ e. e.0) es f (λ k d low high.
    let here : get_or (facts_of es) k d.0 ≡ (get_or es k d).0 = get_or-map (λ (e : Fact × Set). e.0) es k d d.0 (omega arith) in
    let next : get_or (facts_of es) (k + 1) d.0 ≡ (get_or es (k + 1) d).0 = get_or-map (λ (e : Fact × Set). e.0) es (k + 1) d d.0 (omega arith) in
    let up : fact_cmp (get_or (facts_of es) k d.0) (get_or (facts_of es) (k + 1) d.0) ≡ Less =
    Less-from_sorted fact_cmp (facts_of es) k (k + 1) d.0 asc (omega arith) (omega (arith, length-map es (λ e. e.0))) in
    let less : fact_cmp (get_or es k d).0 (get_or es (k + 1) d).0 ≡ Less = ap (λ v. fact_cmp v (get_or es (k + 1) d).0) (sym here) ∙ ap (λ v. fact_cmp (get_or (facts_of es) k d.0) v) (sym next) ∙ up in
    ap is_lt (fact_cmp_total.antisymm (get_or es (k + 1) d).0 (get_or es k d).0 ∙ ap ordering_reverse less))

pub found : (es : Entries) (f : Fact) (r : Result ℕ ℕ) → IsSearchInRange r (length es) → IsBinarySearchResult (λ e. fact_cmp e.0 f) es r → IfOk r (IsAt es f)
found es f (Ok i) bound h = record { within = bound; same = λ d. fact_ties (get_or es i d).0 f (h d) }
found es f (Err i) bound h = tt

pub missing : (es : Entries) (f : Fact) (r : Result ℕ ℕ) → IsStrictlySortedBy fact_cmp (facts_of es) → IsSearchInRange r (length es) → IsBinarySearchResult (λ e. fact_cmp e.0 f) es r
    → IfErr r (IsGap es f)
missing es f (Ok i) asc bound h = tt
missing es f (Err i) asc bound h =
    let p = h (rises es f asc) in
    record { within = bound; before = λ k d l. p.0 k d (omega arith) l; behind = λ k d l m. p.1 k d l m }
