-- What grammars that are the same as plain data look up: rules with the same items, items and words
-- with the same annotation.
use Rattle.std.proofs.Common.{◌≡◌, ℕ, zero, suc, Bool, true, false, cond, Some, List, [], ◌∷◌, slice_get, refl, sym, ap, ◌∙◌, subst}
use Rattle.std.specs.List.{find}
use Rattle.lfg_terms.specs.declared.node.Edge.{Edge}
use Rattle.lfg_terms.specs.declared.literal.Site.{Site}
use Rattle.lfg_terms.specs.declared.literal.Site.TheVariants as site
use Rattle.lfg_terms.specs.declared.grammar.Item.{Item}
use Rattle.lfg_terms.specs.declared.grammar.Rule.{Rule}
use Rattle.lfg_terms.specs.declared.grammar.Lex.{Lex}
use Rattle.lfg_terms.specs.declared.grammar.Grammar.{Grammar}
use Rattle.lfg_model.specs.Derive.{item_at}
use Rattle.lfg_model.specs.Loads.{AreLikeItems, AreLikeRules, AreLikeWords, AreAlike}
use Rattle.lfg_model.specs.Templates.{Each, end, and}
use Rattle.lfg_model.specs.Terms.{Name, same_name}
use Rattle.lfg_model.specs.Trees.{items_of, item_annotation, entry_annotation}
use Rattle.lfg_model.proofs.LikeGrammars.{each_turned, rules_turned, words_turned}
use Rattle.lfg_model.proofs.OneTree.{same_some}
use Rattle.lfg_packed.specs.Choices.{annotation_at}
use Rattle.lfg_packed.specs.SpotFacts.{category_of, category_at}
use Rattle.lfg_packed.specs.Words.{form_of}

-- a grammar is like itself
each_itself : {X : Type 0} {R : X → X → Type 0} → ((x : X) → R x x) → (xs : List X) → Each R xs xs
each_itself f [] = end
each_itself f (x ∷ xs) = and (f x) (each_itself f xs)

pub alike_itself : (g : Grammar) → AreAlike g g
alike_itself g = record {
  root = refl;
  governable = refl;
  gensize = refl;
  maxfacts = refl;
  cats = refl;
  rules = each_itself (λ r. record { cat = refl; items = each_itself (λ i. record { cat = refl; annotation = refl }) r.items; walks = λ w. ((λ x. x), (λ x. x)) }) g.rules;
  words = each_itself (λ x. record { form = refl; cat = refl; annotation = refl }) g.lexicon;
}

-- likeness goes both ways
pub alike_turned : (g h : Grammar) → AreAlike g h → AreAlike h g
alike_turned g h a = record {
  root = sym a.root;
  governable = sym a.governable;
  gensize = sym a.gensize;
  maxfacts = sym a.maxfacts;
  cats = sym a.cats;
  rules = each_turned rules_turned a.rules;
  words = each_turned words_turned a.words;
}

-- what a list has at a number, a related list has too
pub each_at : {X Y : Type 0} {R : X → Y → Type 0} {xs : List X} {ys : List Y} → Each R xs ys → (k : ℕ) (x : X) → slice_get xs k ≡ Some x → (y : Y) × (slice_get ys k ≡ Some y) × R x y
each_at end k x e = absurd (let no : ⊥ = cc in no)
each_at {R = R} (and {y = y} r t) zero x e = (y, refl, subst (λ z. R z y) (same_some _ x e) r)
each_at (and r t) (suc k) x e = each_at t k x e

pub item_like : {is js : List Item} → Each AreLikeItems is js → (occ : ℕ) (i : Item) → item_at is occ ≡ Some i → (j : Item) × (item_at js occ ≡ Some j) × AreLikeItems i j
item_like items zero i e = absurd (let no : ⊥ = cc in no)
item_like items (suc k) i e = each_at items k i e

-- the rule that is found for a category
pub rule_like : (cat : Name) {rs qs : List Rule} (r : Rule) → Each AreLikeRules rs qs → find (λ x. same_name x.cat cat) rs ≡ Some r → (q : Rule) × (find (λ x. same_name x.cat cat) qs ≡ Some q) × AreLikeRules r q
rule_like cat r end e = absurd (let no : ⊥ = cc in no)
rule_like cat r (and {x = a} {y = b} {xs = rs} {ys = qs} l t) e = go (same_name a.cat cat) (ap (λ (c : Name). same_name c cat) (sym l.cat)) e (rule_like cat r t)
  where
    go : (o : Bool) → same_name b.cat cat ≡ o → cond o (Some a) (find (λ x. same_name x.cat cat) rs) ≡ Some r
        → (find (λ x. same_name x.cat cat) rs ≡ Some r → (q : Rule) × (find (λ x. same_name x.cat cat) qs ≡ Some q) × AreLikeRules r q)
        → (q : Rule) × (cond (same_name b.cat cat) (Some b) (find (λ x. same_name x.cat cat) qs) ≡ Some q) × AreLikeRules r q
    go true s f rest = (b, ap (λ (o : Bool). cond o (Some b) (find (λ x. same_name x.cat cat) qs)) s, subst (λ (x : Rule). AreLikeRules x b) (same_some a r f) l)
    go false s f rest = let k = rest f in (k.0, ap (λ (o : Bool). cond o (Some b) (find (λ x. same_name x.cat cat) qs)) s ∙ k.1, k.2)

-- the items of the rule of a category, if there is one
pub items_like : (cat : Name) {rs qs : List Rule} → Each AreLikeRules rs qs → Each AreLikeItems (items_of (find (λ x. same_name x.cat cat) rs)) (items_of (find (λ x. same_name x.cat cat) qs))
items_like cat end = end
items_like cat (and {x = a} {y = b} {xs = rs} {ys = qs} l t) =
    let same : same_name a.cat cat ≡ same_name b.cat cat = ap (λ (c : Name). same_name c cat) l.cat in
    subst (λ (o : Bool). Each AreLikeItems (items_of (cond (same_name a.cat cat) (Some a) (find (λ x. same_name x.cat cat) rs))) (items_of (cond o (Some b) (find (λ x. same_name x.cat cat) qs)))) same
    (go (same_name a.cat cat) (items_like cat t))
  where
    go : (o : Bool) → Each AreLikeItems (items_of (find (λ x. same_name x.cat cat) rs)) (items_of (find (λ x. same_name x.cat cat) qs))
        → Each AreLikeItems (items_of (cond o (Some a) (find (λ x. same_name x.cat cat) rs))) (items_of (cond o (Some b) (find (λ x. same_name x.cat cat) qs)))
    go true rest = l.items
    go false rest = rest

-- ---- annotations, categories and forms

same_annotation : {is js : List Item} → Each AreLikeItems is js → (k : ℕ) → item_annotation (slice_get is k) ≡ item_annotation (slice_get js k)
same_annotation end k = refl
same_annotation (and r t) zero = r.annotation
same_annotation (and r t) (suc k) = same_annotation t k

pub annotation_of_item : {is js : List Item} → Each AreLikeItems is js → (occ : ℕ) → item_annotation (item_at is occ) ≡ item_annotation (item_at js occ)
annotation_of_item items zero = refl
annotation_of_item items (suc k) = same_annotation items k

same_category : {is js : List Item} → Each AreLikeItems is js → (k : ℕ) → category_of (slice_get is k) ≡ category_of (slice_get js k)
same_category end k = refl
same_category (and r t) zero = r.cat
same_category (and r t) (suc k) = same_category t k

category_of_item : {is js : List Item} → Each AreLikeItems is js → (occ : ℕ) → category_of (item_at is occ) ≡ category_of (item_at js occ)
category_of_item items zero = refl
category_of_item items (suc k) = same_category items k

pub annotation_of_entry : {xs ys : List Lex} → Each AreLikeWords xs ys → (k : ℕ) → entry_annotation (slice_get xs k) ≡ entry_annotation (slice_get ys k)
annotation_of_entry end k = refl
annotation_of_entry (and w t) zero = w.annotation
annotation_of_entry (and w t) (suc k) = annotation_of_entry t k

pub form_of_entry : {xs ys : List Lex} → Each AreLikeWords xs ys → (k : ℕ) → form_of (slice_get xs k) ≡ form_of (slice_get ys k)
form_of_entry end k = refl
form_of_entry (and w t) zero = w.form
form_of_entry (and w t) (suc k) = form_of_entry t k

module _ (g h : Grammar) (a : AreAlike g h) where
  pub category_at_alike : (e : Edge) (occ : ℕ) → category_at g e occ ≡ category_at h e occ
  category_at_alike e occ = category_of_item (items_like e.cat a.rules) occ

  pub annotation_at_alike : (at : Site) → annotation_at g at ≡ annotation_at h at
  annotation_at_alike (site.Item e occ at to) = annotation_of_item (items_like e.cat a.rules) occ
  annotation_at_alike (site.Entry e k) = annotation_of_entry a.words k
