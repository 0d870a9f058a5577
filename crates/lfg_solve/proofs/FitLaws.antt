-- What is looked up in a grammar whose forms can be counted.
use Rattle.std.proofs.Common.{◌≡◌, ℕ, zero, suc, ◌^◌, ◌<◌, Bool, true, false, cond, Option, Some, None, List, [], ◌∷◌, refl, arith}
use Rattle.std.specs.Prelude.{slice_get, find}
use Rattle.lfg_terms.specs.declared.grammar.Item.{Item}
use Rattle.lfg_terms.specs.declared.grammar.Rule.{Rule}
use Rattle.lfg_terms.specs.declared.grammar.Lex.{Lex}
use Rattle.lfg_terms.specs.declared.grammar.Grammar.{Grammar}
use Rattle.lfg_model.specs.Lists.{In, here, later}
use Rattle.lfg_model.specs.Terms.{Name, same_name}
use Rattle.lfg_model.specs.Places.{form_count}
use Rattle.lfg_model.specs.Derive.{rule_of, item_at}
use Rattle.lfg_model.specs.Trees.{items_of, item_annotation, entry_annotation}
use Rattle.lfg_solve.specs.Fits.{ItemsFit, FormsFit}

in_from_get : {X : Type 0} (xs : List X) (k : ℕ) (x : X) → slice_get xs k ≡ Some x → In x xs
in_from_get [] zero x e = cc
in_from_get [] (suc k) x e = cc
in_from_get (y ∷ ys) zero x e = let same : x ≡ y = cc in rw same here
in_from_get (y ∷ ys) (suc k) x e = later (in_from_get ys k x e)

found_later : {X : Type 0} (y : X) (b : Bool) (x : X) (ys : List X) (o : Option X) → (o ≡ Some x → In x ys) → cond b (Some y) o ≡ Some x → In x (y ∷ ys)
found_later y true x ys o h e = let same : x ≡ y = cc in rw same here
found_later y false x ys o h e = later (h e)

in_from_find : {X : Type 0} (p : X → Bool) (xs : List X) (x : X) → find p xs ≡ Some x → In x xs
in_from_find p [] x e = cc
in_from_find p (y ∷ ys) x e = found_later y (p y) x ys (find p ys) (λ h. in_from_find p ys x h) e

pub rule_fits : (g : Grammar) (cat : Name) → FormsFit g → ItemsFit (items_of (rule_of g cat))
rule_fits g cat fits = go (rule_of g cat) refl
  where
    go : (o : Option Rule) → rule_of g cat ≡ o → ItemsFit (items_of o)
    go None e = λ item i. elim i [ ]
    go (Some rule) e = fits.items rule (in_from_find (λ r. same_name r.cat cat) g.rules rule e)

pub item_fits : (items : List Item) (occ : ℕ) → ItemsFit items → form_count (item_annotation (item_at items occ)) < 2 ^ 32
item_fits items occ fits = go (item_at items occ) refl
  where
    found : (occ : ℕ) (item : Item) → item_at items occ ≡ Some item → In item items
    found zero item e = cc
    found (suc k) item e = in_from_get items k item e

    go : (o : Option Item) → item_at items occ ≡ o → form_count (item_annotation o) < 2 ^ 32
    go None e = omega arith
    go (Some item) e = fits item (found occ item e)

pub entry_fits : (g : Grammar) (entry : ℕ) → FormsFit g → form_count (entry_annotation (slice_get g.lexicon entry)) < 2 ^ 32
entry_fits g entry fits = go (slice_get g.lexicon entry) refl
  where
    go : (o : Option Lex) → slice_get g.lexicon entry ≡ o → form_count (entry_annotation o) < 2 ^ 32
    go None e = omega arith
    go (Some lex) e = fits.entries lex (in_from_get g.lexicon entry lex e)
