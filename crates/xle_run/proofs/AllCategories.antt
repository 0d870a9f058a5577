-- The categories of a draft, in order and each once.
use Rattle.std.proofs.Common.{◌≡◌, ◌==◌, ℕ, ◌+◌, ◌<◌, List, [], ◌∷◌, ◌++◌, map, length, get_or, take, refl, ap, sym, ◌∙◌, subst, inl, inr, rules, append_assoc, append-nil}
use Rattle.std.specs.List.{dedup, flat_map}
use Rattle.std.specs.List.Sorted.{IsPermutation, IsSorted}
use Rattle.std.specs.Cmp.Lexicographic.{pointwise}
use Rattle.std.specs.Cmp.Rules.{comparing}
use Rattle.std.specs.Ordering.{eq_by_cmp}
use Rattle.std.proofs.lemmas.Cmp.{nat_list_cmp_total}
use Rattle.std.proofs.lemmas.Grind.{flat_map-append}
use Rattle.lfg_terms.specs.Order.{name_cmp}
use Rattle.lfg_terms.proofs.Ties.{name_cmp_same}
use Rattle.lfg_model.specs.Lists.{In, here, later, Lists}
use Rattle.lfg_model.specs.Terms.{Name}
use Rattle.lfg_model.specs.Thin as thin
use Rattle.lfg_model.specs.Thin.{Draft, IsCategory, root, head, daughter, of_word}
use Rattle.lfg_model.proofs.Ascending.{sorted_set}
use Rattle.lfg_model.proofs.ListLaws.{In-append_left, In-append_right, In-append_cases, In-map, In_from_map, In-flat_map, In_from_flat_map}
use Rattle.xle_run.specs.Categories.{phrase_cats, all_cats}
use Rattle.xle_run.proofs.Places.{mapped_more}

-- one more phrase
pub flat_more : {X Y : Type 0} (f : X → Y) (h : Y → List Name) (xs : List X) (i : ℕ) (x : X) (start old new : List Name) → i < length xs → x ≡ get_or xs i x → old ≡ start ++ flat_map h (map f (take i xs)) → new ≡ old ++ h (f x)
    → new ≡ start ++ flat_map h (map f (take (i + 1) xs))
flat_more {X} {Y} f h xs i x start old new l e had grew =
    grew ∙ ap (λ (us : List Name). us ++ h (f x)) had ∙ append_assoc start (flat_map h (map f (take i xs))) (h (f x))
    ∙ ap (λ (us : List Name). start ++ us)
    (sym (ap (flat_map h) (mapped_more f xs i x l e) ∙ flat_map-append h (map f (take i xs)) (f x ∷ []) ∙ ap (λ (us : List Name). flat_map h (map f (take i xs)) ++ us) (append-nil (h (f x)))))

-- one more category behind others
pub cat_more : {X Y : Type 0} (f : X → Y) (h : Y → Name) (xs : List X) (i : ℕ) (x : X) (start old new : List Name) (z : Name) → i < length xs → x ≡ get_or xs i x → old ≡ start ++ map h (map f (take i xs)) → z ≡ h (f x) → new ≡ old ++ z ∷ []
    → new ≡ start ++ map h (map f (take (i + 1) xs))
cat_more {X} {Y} f h xs i x start old new z l e had is grew =
    grew ∙ ap (λ (us : List Name). us ++ z ∷ []) had ∙ append_assoc start (map h (map f (take i xs))) (z ∷ []) ∙ ap (λ (u : Name). start ++ (map h (map f (take i xs)) ++ u ∷ [])) is
    ∙ ap (λ (us : List Name). start ++ us) (sym (ap (map h) (mapped_more f xs i x l e) ∙ push_map (map f (take i xs)) (f x)))
  where
    push_map : (ys : List Y) (y : Y) → map h (ys ++ y ∷ []) ≡ map h ys ++ h y ∷ []
    push_map [] y = refl
    push_map (u ∷ us) y = ap (λ (zs : List Name). h u ∷ zs) (push_map us y)

phrase_cat : (d : Draft) (p : thin.Phrase) (cat : Name) → In p d.phrases → In cat (phrase_cats p) → IsCategory d cat
phrase_cat d p cat i here = head (In-map (λ (q : thin.Phrase). q.cat) i)
phrase_cat d p cat i (later r) = daughter i r

from_cats : (d : Draft) (cat : Name) → In cat (all_cats d) → IsCategory d cat
from_cats d cat here = root refl
from_cats d cat (later r) = elim (In-append_cases (flat_map phrase_cats d.phrases) (map (λ (x : thin.Entry). x.cat) d.entries) r) [
  | inl s ↦ let f = In_from_flat_map phrase_cats d.phrases s in phrase_cat d f.0 cat f.1 f.2
  | inr s ↦ of_word s
]

to_cats : (d : Draft) (cat : Name) → IsCategory d cat → In cat (all_cats d)
to_cats d cat (root e) = subst (λ (c : Name). In c (all_cats d)) (sym e) here
to_cats d cat (head r) =
    let f = In_from_map (λ (p : thin.Phrase). p.cat) d.phrases r in
    later (In-append_left (map (λ (x : thin.Entry). x.cat) d.entries) (In-flat_map phrase_cats f.1 (subst (λ (c : Name). In c (phrase_cats f.0)) f.2 here)))
to_cats d cat (daughter i r) = later (In-append_left (map (λ (x : thin.Entry). x.cat) d.entries) (In-flat_map phrase_cats i (later r)))
to_cats d cat (of_word r) = later (In-append_right (flat_map phrase_cats d.phrases) r)

same_test : (x y : Name) → pointwise ◌==◌ x y ≡ eq_by_cmp name_cmp x y
same_test = search (comparing, rules)

pub categories : (d : Draft) (xs ys zs : List Name) → xs ≡ all_cats d → IsPermutation xs ys → IsSorted name_cmp ys → zs ≡ dedup (pointwise ◌==◌) ys → Lists name_cmp (IsCategory d) zs
categories d xs ys zs is p s e =
    let l = sorted_set nat_list_cmp_total (λ x y t. (name_cmp_same x y).0 t) (pointwise ◌==◌) same_test xs ys zs p s e in
    record {
      ascends = l.ascends;
      exact = λ x. (λ i. from_cats d x (subst (λ (us : List Name). In x us) is ((l.exact x).0 i)), λ c. (l.exact x).1 (subst (λ (us : List Name). In x us) (sym is) (to_cats d x c)));
    }
