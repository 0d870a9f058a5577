-- The categories of a grammar, in order and each once.
use Rattle.std.proofs.Common.{◌≡◌, ◌==◌, Option, Some, None, List, option_to_list, ap, sym, ◌∙◌, subst, inl, inr, rules}
use Rattle.std.specs.List.{dedup, flat_map}
use Rattle.std.specs.List.Sorted.{IsPermutation, IsSorted}
use Rattle.std.specs.Cmp.Lexicographic.{pointwise}
use Rattle.std.specs.Cmp.Rules.{comparing}
use Rattle.std.specs.Ordering.{eq_by_cmp}
use Rattle.std.proofs.lemmas.Cmp.{nat_list_cmp_total}
use Rattle.lfg_terms.specs.Order.{name_cmp}
use Rattle.lfg_terms.specs.declared.grammar.Grammar.{Grammar}
use Rattle.lfg_terms.specs.declared.grammar.Lex.{Lex}
use Rattle.lfg_terms.specs.declared.grammar.Rule.{Rule}
use Rattle.lfg_terms.proofs.Ties.{name_cmp_same}
use Rattle.lfg_model.specs.Lists.{In, here, later, Lists}
use Rattle.lfg_model.specs.Loads.{IsCategoryOf, root, head, daughter, of_word}
use Rattle.lfg_model.specs.Terms.{Name}
use Rattle.lfg_model.proofs.Ascending.{sorted_set}
use Rattle.lfg_model.proofs.ListLaws.{In-append_left, In-append_right, In-append_cases, In-cons_cases, In-map, In_from_map, In-flat_map, In_from_flat_map, In-one}
use Rattle.lfg_grammar.specs.Categories.{item_cats, rule_cats, word_cats, all_cats}

-- the category of an item
one_cat : (o : Option Name) (cat : Name) → In cat (option_to_list o) → o ≡ Some cat
one_cat None cat i = elim i [ ]
one_cat (Some c) cat i = ap Some (sym (In-one i))

its_cat : (o : Option Name) (cat : Name) → o ≡ Some cat → In cat (option_to_list o)
its_cat o cat e = subst (λ (p : Option Name). In cat (option_to_list p)) (sym e) here

rule_cat : (g : Grammar) (r : Rule) (cat : Name) → In r g.rules → In cat (rule_cats r) → IsCategoryOf g cat
rule_cat g r cat i j = elim (In-cons_cases j) [
  | inl e ↦ head i (sym e)
  | inr k ↦ let f = In_from_flat_map item_cats r.items k in daughter i f.1 (one_cat f.0.cat cat f.2)
]

from_cats : (g : Grammar) (cat : Name) → In cat (all_cats g.root g.rules g.lexicon) → IsCategoryOf g cat
from_cats g cat i = elim (In-cons_cases i) [
  | inl e ↦ root e
  | inr r ↦ elim (In-append_cases (flat_map rule_cats g.rules) (word_cats g.lexicon) r) [
    | inl s ↦ let f = In_from_flat_map rule_cats g.rules s in rule_cat g f.0 cat f.1 f.2
    | inr s ↦ let f = In_from_map (λ (x : Lex). x.cat) g.lexicon s in of_word f.1 f.2
  ]
]

to_cats : (g : Grammar) (cat : Name) → IsCategoryOf g cat → In cat (all_cats g.root g.rules g.lexicon)
to_cats g cat (root e) = subst (λ (c : Name). In c (all_cats g.root g.rules g.lexicon)) (sym e) here
to_cats g cat (head {r} i e) =
    later (In-append_left (word_cats g.lexicon) (In-flat_map rule_cats i (subst (λ (c : Name). In c (rule_cats r)) e here)))
to_cats g cat (daughter {r} {i} j k e) =
    later (In-append_left (word_cats g.lexicon) (In-flat_map rule_cats j (later (In-flat_map item_cats k (its_cat i.cat cat e)))))
to_cats g cat (of_word {x} i e) =
    later (In-append_right (flat_map rule_cats g.rules) (subst (λ (c : Name). In c (word_cats g.lexicon)) e (In-map (λ (x : Lex). x.cat) i)))

same_test : (x y : Name) → pointwise ◌==◌ x y ≡ eq_by_cmp name_cmp x y
same_test = search (comparing, rules)

-- what a sort and then a dedup leave
sorted : (xs ys zs : List Name) → IsPermutation xs ys → IsSorted name_cmp ys → zs ≡ dedup (pointwise ◌==◌) ys → Lists name_cmp (λ x. In x xs) zs
sorted xs ys zs p s e = sorted_set nat_list_cmp_total (λ x y t. (name_cmp_same x y).0 t) (pointwise ◌==◌) same_test xs ys zs p s e

same_cats : (g : Grammar) (top : Name) (rs : List Rule) (ws : List Lex) → g.root ≡ top → g.rules ≡ rs → g.lexicon ≡ ws → all_cats top rs ws ≡ all_cats g.root g.rules g.lexicon
same_cats g top rs ws a b c = λ i. all_cats (sym a i) (sym b i) (sym c i)

pub categories : (g : Grammar) (top : Name) (rs : List Rule) (ws : List Lex) → g.root ≡ top → g.rules ≡ rs → g.lexicon ≡ ws
    → (xs ys zs : List Name) → xs ≡ all_cats top rs ws → IsPermutation xs ys → IsSorted name_cmp ys → zs ≡ dedup (pointwise ◌==◌) ys → Lists name_cmp (IsCategoryOf g) zs
categories g top rs ws a b c xs ys zs is p s e =
    let l = sorted xs ys zs p s e in
    let same : xs ≡ all_cats g.root g.rules g.lexicon = is ∙ same_cats g top rs ws a b c in
    record {
      ascends = l.ascends;
      exact = λ x. (λ i. from_cats g x (subst (λ (us : List Name). In x us) same ((l.exact x).0 i)), λ k. (l.exact x).1 (subst (λ (us : List Name). In x us) (sym same) (to_cats g x k)));
    }
