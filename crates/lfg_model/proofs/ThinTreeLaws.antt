-- A thin grammar leaves no choice.
use Rattle.std.proofs.Common.{◌≡◌, ℕ, zero, suc, ◌+◌, ◌<◌, ◌≤◌, Bool, true, false, List, [], ◌∷◌, length, map, Some, None, ap, refl, sym, ◌∙◌, subst, arith, add-zero, add-suc}
use Rattle.std.specs.Prelude.{◌≢◌, slice_get, find, Option}
use Rattle.std.proofs.Math.Numerals.{one-add}
use Rattle.std.proofs.Math.Nat.{suc-add}
use Rattle.std.proofs.lemmas.Bool.{eq-eqb, eqb-true, and_from, and_parts, false≢true}
use Rattle.lfg_terms.specs.declared.grammar.Item.{Item}
use Rattle.lfg_terms.specs.declared.grammar.Rule.{Rule}
use Rattle.lfg_terms.specs.declared.grammar.Lex.{Lex}
use Rattle.lfg_terms.specs.declared.grammar.Grammar.{Grammar}
use Rattle.lfg_terms.specs.declared.tree.TokenForms.{TokenForms}
use Rattle.lfg_model.specs.Lists.{In, here, later, Once, more}
use Rattle.lfg_model.specs.Terms.{Name, same_name, annotation_of}
use Rattle.lfg_model.specs.Places.{places}
use Rattle.lfg_model.specs.Derive.{rule_of, item_at, Runs, Walks}
use Rattle.lfg_model.specs.Thin.{Daughter, Phrase, Equation, Entry, link, item_of, next_from, last_of, row_graph, rule_of_phrase, schema_of_equation, lex_of_entry, IsThinGrammar}
use Rattle.lfg_model.specs.ThinText.{token_of}
use Rattle.lfg_model.specs.ThinTrees.{HaveOwnForms, numbers, ThinLeavesNoChoice, OneThinDerivation}
use Rattle.lfg_model.proofs.ListLaws.{In-nil, In-one, In-map}
use Rattle.lfg_model.proofs.OneTree.{same_some, one_derivation}

-- names
pub same_itself : (a : Name) → same_name a a ≡ true
same_itself [] = refl
same_itself (a ∷ as') = and_from _ _ (eq-eqb a a refl) (same_itself as')

pub same_from_test : (a b : Name) → same_name a b ≡ true → a ≡ b
same_from_test [] [] t = refl
same_from_test [] (b ∷ bs) t = absurd (false≢true t)
same_from_test (a ∷ as') [] t = absurd (false≢true t)
same_from_test (a ∷ as') (b ∷ bs) t = let h = and_parts _ _ t in let e = eqb-true a b h.0 in let f = same_from_test as' bs h.1 in λ i. e i ∷ f i

-- what stands at a place
pub from_map : {X Y : Type 0} (f : X → Y) (xs : List X) (k : ℕ) (y : Y) → slice_get (map f xs) k ≡ Some y → (x : X) × (slice_get xs k ≡ Some x) × (f x ≡ y)
from_map f [] k y e = cc
from_map f (x ∷ xs) zero y e = (x, refl, same_some _ _ e)
from_map f (x ∷ xs) (suc k) y e = from_map f xs k y e

pub In-place_of : {X : Type 0} (xs : List X) (k : ℕ) (x : X) → slice_get xs k ≡ Some x → In x xs
In-place_of [] k x e = cc
In-place_of (y ∷ xs) zero x e = rw (← same_some _ _ e) here
In-place_of (y ∷ xs) (suc k) x e = later (In-place_of xs k x e)

pub once_places : {X Y : Type 0} (f : X → Y) (xs : List X) → Once (map f xs) → (j k : ℕ) (x y : X) → slice_get xs j ≡ Some x → slice_get xs k ≡ Some y → f x ≡ f y → j ≡ k
once_places f [] o j k x y p q e = cc
once_places f (z ∷ xs) o zero zero x y p q e = refl
once_places f (z ∷ xs) (more n o) zero (suc k) x y p q e =
    absurd (n (rw (ap f (same_some _ _ p) ∙ e) (In-map f (In-place_of xs k y q))))
once_places f (z ∷ xs) (more n o) (suc j) zero x y p q e =
    absurd (n (rw (ap f (same_some _ _ q) ∙ sym e) (In-map f (In-place_of xs j x p))))
once_places f (z ∷ xs) (more n o) (suc j) (suc k) x y p q e = ap suc (once_places f xs o j k x y p q e)

filled_length : {X : Type 0} (xs : List X) → xs ≢ [] → 1 ≤ length xs
filled_length [] n = absurd (n refl)
filled_length (x ∷ xs) n = omega arith

-- no annotation of a thin grammar has a numbered place
pub link_places : (f : Option Name) → places (annotation_of (link f ∷ [])) ≡ []
link_places None = refl
link_places (Some a) = refl

pub equation_places : (es : List Equation) → places (annotation_of (map schema_of_equation es)) ≡ []
equation_places [] = refl
equation_places (e ∷ es) = equation_places es

-- the graph of a row walks its numbers alone
next_inside : (k n j : ℕ) → suc j < n → slice_get (next_from k n) j ≡ Some (suc (k + j) ∷ [])
next_inside k zero j l = absurd (omega arith)
next_inside k (suc zero) j l = absurd (omega arith)
next_inside k (suc (suc n)) zero l = rw add-zero refl
next_inside k (suc (suc n)) (suc j) l = rw (add-suc, ← suc-add) (next_inside (suc k) (suc n) j (omega arith))

next_end : (k n j : ℕ) → suc j ≡ n → slice_get (next_from k n) j ≡ Some []
next_end k zero j e = absurd (omega arith)
next_end k (suc zero) zero e = refl
next_end k (suc zero) (suc j) e = absurd (omega arith)
next_end k (suc (suc n)) zero e = absurd (omega arith)
next_end k (suc (suc n)) (suc j) e = next_end (suc k) (suc n) j (omega arith)

last_inside : (n j : ℕ) → suc j < n → slice_get (last_of n) j ≡ Some false
last_inside zero j l = absurd (omega arith)
last_inside (suc zero) j l = absurd (omega arith)
last_inside (suc (suc n)) zero l = refl
last_inside (suc (suc n)) (suc j) l = last_inside (suc n) j (omega arith)

last_end : (n j : ℕ) → suc j ≡ n → slice_get (last_of n) j ≡ Some true
last_end zero j e = absurd (omega arith)
last_end (suc zero) zero e = refl
last_end (suc zero) (suc j) e = absurd (omega arith)
last_end (suc (suc n)) zero e = absurd (omega arith)
last_end (suc (suc n)) (suc j) e = last_end (suc n) j (omega arith)

numbers_run : (n j m : ℕ) → suc (j + m) ≡ n → Runs (row_graph n) (suc j) (numbers (suc (suc j)) m)
unfolding row_graph
numbers_run n j zero e = last_end n j (omega arith)
numbers_run n j (suc m) e = ((suc (suc j) ∷ [], next_inside 1 n j (omega arith) ∙ ap (λ k. Some (suc k ∷ [])) (one-add j), here), numbers_run n (suc j) m (omega arith))

run_numbers : (n j m : ℕ) (w : List ℕ) → suc (j + m) ≡ n → Runs (row_graph n) (suc j) w → w ≡ numbers (suc (suc j)) m
unfolding row_graph
run_numbers n j zero [] e f = refl
run_numbers n j (suc m) [] e f = let z : Some false ≡ Some true = sym (last_inside n j (omega arith)) ∙ f in cc
run_numbers n j zero (p ∷ w) e f = In-nil (rw (same_some _ _ (sym f.0.1 ∙ next_end 1 n j (omega arith))) at f.0.2)
run_numbers n j (suc m) (p ∷ w) e f =
    let is : f.0.0 ≡ suc (suc j) ∷ [] = same_some _ _ (sym f.0.1 ∙ next_inside 1 n j (omega arith)) ∙ ap (λ k. suc k ∷ []) (one-add j) in
    let q : p ≡ suc (suc j) = In-one (rw is at f.0.2) in
    let rest = run_numbers n (suc j) m w (omega arith) (rw q at f.1) in
    λ i. q i ∷ rest i

pub numbers_walk : (n : ℕ) → 1 ≤ n → Walks (row_graph n) (numbers 1 n)
unfolding row_graph
numbers_walk zero l = absurd (omega arith)
numbers_walk (suc n) l = (here, numbers_run (suc n) 0 n (omega arith))

pub walk_numbers : (n : ℕ) (w : List ℕ) → 1 ≤ n → Walks (row_graph n) w → w ≡ numbers 1 n
unfolding row_graph
walk_numbers n [] l f = absurd f
walk_numbers zero (p ∷ w) l f = absurd (omega arith)
walk_numbers (suc n) (p ∷ w) l f =
    let q : p ≡ 1 = In-one f.0 in
    let rest = run_numbers (suc n) 0 n w (omega arith) (rw q at f.1) in
    λ i. q i ∷ rest i

-- the phrase of a rule
pub record IsRuleOfPhrase (ps : List Phrase) (cat : Name) (r : Rule) : Type 0 where
  pub phrase : Phrase
  pub listed : In phrase ps
  pub category : phrase.cat ≡ cat
  pub is : rule_of_phrase phrase ≡ r

phrase_from : (ps : List Phrase) (cat : Name) (r : Rule) → find (λ x. same_name x.cat cat) (map rule_of_phrase ps) ≡ Some r → IsRuleOfPhrase ps cat r
phrase_from [] cat r e = cc
phrase_from (p ∷ ps) cat r e = go (same_name p.cat cat) refl (phrase_from ps cat r)
  where
    go : (b : Bool) → same_name p.cat cat ≡ b → (find (λ x. same_name x.cat cat) (map rule_of_phrase ps) ≡ Some r → IsRuleOfPhrase ps cat r) → IsRuleOfPhrase (p ∷ ps) cat r
    go true t rest = record { phrase = p; listed = here; category = same_from_test p.cat cat t; is = same_some _ _ (rw t at e) }
    go false t rest =
        let z = rest (rw t at e) in
        record { phrase = z.phrase; listed = later z.listed; category = z.category; is = z.is }

pub item_place : (items : List Item) (k : ℕ) (i : Item) → item_at items k ≡ Some i → (j : ℕ) × (slice_get items j ≡ Some i)
item_place items zero i e = cc
item_place items (suc k) i e = (k, e)

module _ (g : Grammar) (thin : IsThinGrammar g) where
  pub phrase_of : (cat : Name) (r : Rule) → rule_of g cat ≡ Some r → IsRuleOfPhrase thin.draft.phrases cat r
  phrase_of cat r is = phrase_from thin.draft.phrases cat r (rw thin.gives.rules at is)

  pub row_length : (p : Phrase) → In p thin.draft.phrases → 1 ≤ length p.daughters
  row_length p i = filled_length p.daughters (thin.filled p i)

  -- a rule allows one row of items: all of them
  pub row_of_rule : (cat : Name) (r : Rule) (q : IsRuleOfPhrase thin.draft.phrases cat r) (w : List ℕ) → Walks r.graph w → w ≡ numbers 1 (length q.phrase.daughters)
  row_of_rule cat r q w h =
      walk_numbers (length q.phrase.daughters) w (row_length q.phrase q.listed) (subst (λ (z : Rule). Walks z.graph w) (sym q.is) h)

  pub item_from : (cat : Name) (r : Rule) (q : IsRuleOfPhrase thin.draft.phrases cat r) (k : ℕ) (i : Item) → slice_get r.items k ≡ Some i
      → (x : Daughter) × (slice_get q.phrase.daughters k ≡ Some x) × (item_of x ≡ i)
  item_from cat r q k i at = from_map item_of q.phrase.daughters k i (subst (λ (z : Rule). slice_get z.items k ≡ Some i) (sym q.is) at)

  pub item_places : (cat : Name) (r : Rule) (k : ℕ) (i : Item) → rule_of g cat ≡ Some r → slice_get r.items k ≡ Some i → places (annotation_of i.schemata) ≡ []
  item_places cat r k i is at =
      let x = item_from cat r (phrase_of cat r is) k i at in
      subst (λ (z : Item). places (annotation_of z.schemata) ≡ []) x.2 (link_places x.0.function)

  pub entry_of : (k : ℕ) (x : Lex) → slice_get g.lexicon k ≡ Some x → (y : Entry) × (slice_get thin.draft.entries k ≡ Some y) × (lex_of_entry y ≡ x)
  entry_of k x at = from_map lex_of_entry thin.draft.entries k x (rw thin.gives.lexicon at at)

  pub entry_places : (k : ℕ) (x : Lex) → slice_get g.lexicon k ≡ Some x → places (annotation_of x.schemata) ≡ []
  entry_places k x at =
      let y = entry_of k x at in
      subst (λ (z : Lex). places (annotation_of z.schemata) ≡ []) y.2 (equation_places y.0.equations)

  pub no_word_of_rule : (cat : Name) (r : Rule) (k : ℕ) (x : Lex) → rule_of g cat ≡ Some r → slice_get g.lexicon k ≡ Some x → x.cat ≡ cat → ⊥
  no_word_of_rule cat r k x is at same =
      let q = phrase_of cat r is in
      let y = entry_of k x at in
      let one : q.phrase.cat ≡ y.0.cat = q.category ∙ sym same ∙ sym (ap (λ z. z.cat) y.2) in
      thin.consistent.apart y.0 (In-place_of thin.draft.entries k y.0 y.1) (rw one at (In-map (λ p. p.cat) q.listed))

  pub one_form : (j k : ℕ) (x y : Lex) → slice_get g.lexicon j ≡ Some x → slice_get g.lexicon k ≡ Some y → x.form ≡ y.form → j ≡ k
  one_form j k x y p q same =
      let a = entry_of j x p in
      let b = entry_of k y q in
      once_places (λ z. z.form) thin.draft.entries thin.consistent.one_entry j k a.0 b.0 a.1 b.1 (ap (λ z. z.form) a.2 ∙ same ∙ sym (ap (λ z. z.form) b.2))

-- the words of a thin sentence file have themselves as forms
pub own_forms : (ws : List Name) → HaveOwnForms (map token_of ws)
own_forms ws = record {
  each = λ k t at. let w = from_map token_of ws k t at in subst (λ (u : TokenForms). u.forms ≡ u.text ∷ []) w.2 refl;
}

pub no_choice : ThinLeavesNoChoice
no_choice g s thin own = record {
  one_row = λ cat r v w is a b. let q = phrase_of g thin cat r is in row_of_rule g thin cat r q v a ∙ sym (row_of_rule g thin cat r q w b);
  plain_items = λ cat r k i is at. let p = item_place r.items k i at in item_places g thin cat r p.0 i is p.1;
  plain_entries = λ k x at. entry_places g thin k x at;
  apart = λ cat r k x is at same. no_word_of_rule g thin cat r k x is at same;
  one_entry = λ i j k t x y read p q a b.
      let forms = own.each i t read in
      one_form g thin j k x y p q (In-one (rw forms at a) ∙ sym (In-one (rw forms at b)));
}

pub one_thin_derivation : OneThinDerivation
one_thin_derivation g s thin own d d' w w' =
    (one_derivation g s (no_choice g s thin own) d d' _ _ w.derives w'.derives refl refl).0
