-- What the tests of a draft say: it is consistent.
use Rattle.std.proofs.Common.{◌≡◌, ◌≢◌, ℕ, zero, suc, ◌+◌, ◌<◌, ◌&&◌, Bool, true, false, not, nat_lt, IsTrue, length, get_or, drop, drop-cons, Option, Some, None, is_some, List, [], ◌∷◌, map, slice_get, refl, ap, sym, ◌∙◌, subst, arith}
use Rattle.std.proofs.lemmas.Bool.{false≢true}
use Rattle.std.proofs.lemmas.Bool.Decides.{nat_tests}
use Rattle.std.specs.List.{list_all}
use Rattle.std.specs.Cmp.Lexicographic.{same_text}
use Rattle.lfg_model.specs.Lists.{In, here, later, Once}
use Rattle.lfg_model.specs.Terms.{Name}
use Rattle.lfg_model.specs.Thin as thin
use Rattle.lfg_model.specs.Thin.{IsConsistent, IsCategory, root, head, daughter, of_word, HeadsRule, empty_item}
use Rattle.lfg_model.specs.ThinText.{same}
use Rattle.lfg_model.proofs.ListLaws.{In-map, In_from_map}
use Rattle.xle_run.specs.declared.thin.draft.Daughter.{Daughter}
use Rattle.xle_run.specs.declared.thin.draft.Phrase.{Phrase}
use Rattle.xle_run.specs.declared.thin.draft.Entry.{Entry}
use Rattle.xle_run.specs.declared.thin.draft.Draft.{Draft}
use Rattle.xle_run.specs.Drafts.{daughter_view, phrase_view, entry_view, draft_view}
use Rattle.xle_run.specs.Heads.{HaveOwnRules, place_of, is_behind, is_later, are_later}
use Rattle.xle_run.proofs.HeadSteps.{differ}
use Rattle.xle_run.proofs.PlacesOf.{not_in, place_at, get_at_place, In_from_place}

-- ---- lists

fused : {X Y Z : Type 0} (f : Y → Z) (g : X → Y) (xs : List X) → map f (map g xs) ≡ map (λ x. f (g x)) xs
fused f g [] = refl
fused f g (x ∷ xs) = ap (λ (zs : List _). f (g x) ∷ zs) (fused f g xs)

both : (a b : Bool) → (a && b) ≡ true → (a ≡ true) × (b ≡ true)
both true true e = (refl, refl)
both true false e = cc
both false b e = cc

all_pass : {X : Type 0} (t : X → Bool) {x : X} {xs : List X} → list_all t xs ≡ true → In x xs → t x ≡ true
all_pass t {xs = []} e r = elim r [ ]
all_pass t {xs = y ∷ ys} e here = (both (t y) (list_all t ys) e).0
all_pass t {xs = y ∷ ys} e (later r) = all_pass t (both (t y) (list_all t ys) e).1 r

-- some element fails the test
record Fails {X : Type 0} (t : X → Bool) (xs : List X) : Type 0 where
  element : X
  stands : In element xs
  fails : t element ≡ false

fails_then : {X : Type 0} (t : X → Bool) (b : Bool) (y : X) (ys : List X) → t y ≡ b → (b && list_all t ys) ≡ false → (list_all t ys ≡ false → Fails t ys) → Fails t (y ∷ ys)
fails_then t true y ys s e go = let f = go e in record { element = f.element; stands = later f.stands; fails = f.fails }
fails_then t false y ys s e go = record { element = y; stands = here; fails = s }

one_fails : {X : Type 0} (t : X → Bool) (xs : List X) → list_all t xs ≡ false → Fails t xs
one_fails t [] e = absurd (false≢true (sym e))
one_fails t (y ∷ ys) e = fails_then t (t y) y ys refl e (λ f. one_fails t ys f)

-- an element stands at some place
record StandsAt {X : Type 0} (x : X) (xs : List X) : Type 0 where
  place : ℕ
  is : slice_get xs place ≡ Some x

at_place : {X : Type 0} {x : X} {xs : List X} → In x xs → StandsAt x xs
at_place here = record { place = 0; is = refl }
at_place (later r) = let a = at_place r in record { place = suc a.place; is = a.is }

in_from_get : {X : Type 0} (xs : List X) (k : ℕ) (x : X) → slice_get xs k ≡ Some x → In x xs
in_from_get {X} [] k x e = cc
in_from_get {X} (y ∷ ys) zero x e = subst (λ (z : X). In z (y ∷ ys)) (let s : y ≡ x = cc in s) here
in_from_get (y ∷ ys) (suc k) x e = later (in_from_get ys k x e)

-- what an element of a mapped list comes from
record ComesFrom {X Y : Type 0} (f : X → Y) (xs : List X) (k : ℕ) (y : Y) : Type 0 where
  source : X
  is : slice_get xs k ≡ Some source
  gives : f source ≡ y

get_from_map : {X Y : Type 0} (f : X → Y) (xs : List X) (k : ℕ) (y : Y) → slice_get (map f xs) k ≡ Some y → ComesFrom f xs k y
get_from_map f [] k y e = cc
get_from_map f (x ∷ xs) zero y e = record { source = x; is = refl; gives = cc }
get_from_map f (x ∷ xs) (suc k) y e = let c = get_from_map f xs k y e in record { source = c.source; is = c.is; gives = c.gives }

get_map : {X Y : Type 0} (f : X → Y) (xs : List X) (k : ℕ) (x : X) → slice_get xs k ≡ Some x → slice_get (map f xs) k ≡ Some (f x)
get_map f [] k x e = cc
get_map {X} {Y} f (y ∷ ys) zero x e = let s : y ≡ x = cc in ap (λ (z : X). Some (f z)) s
get_map f (y ∷ ys) (suc k) x e = get_map f ys k x e

get_unmap : {X Y : Type 0} (f : X → Y) (xs : List X) (k : ℕ) (y : Y) → slice_get (map f xs) k ≡ Some y → ComesFrom f xs k y
get_unmap = get_from_map

-- ---- later daughters

abbrev pub cat_of : Phrase → Name
cat_of p = p.cat

abbrev cat_of_word : Entry → Name
cat_of_word x = x.cat

abbrev pub form_of : Entry → Name
form_of x = x.form

abbrev pub later_test : (Name → Option ℕ) → ℕ → Daughter → Bool
later_test places k x = is_later places k x.cat

later_each : (places : Name → Option ℕ) (k n i : ℕ) (ps : List Phrase) (p : Phrase) (x : Daughter) → are_later places k ps ≡ true → slice_get ps i ≡ Some p → In x p.daughters.items → n ≡ k + i → is_later places n x.cat ≡ true
later_each places k n i [] p x e g r s = cc
later_each places k n zero (q ∷ ps) p x e g r s =
    let same_phrase : q ≡ p = cc in
    let at : k ≡ n = omega arith in
    subst (λ (m : ℕ). is_later places m x.cat ≡ true) at
    (all_pass (later_test places k) (both (list_all (later_test places k) q.daughters.items) (are_later places (k + 1) ps) e).0 (subst (λ (z : Phrase). In x z.daughters.items) (sym same_phrase) r))
later_each places k n (suc i) (q ∷ ps) p x e g r s =
    later_each places (k + 1) n i ps p x (both (list_all (later_test places k) q.daughters.items) (are_later places (k + 1) ps) e).1 g r (omega arith)

-- a daughter whose rule does not come later
record Early (places : Name → Option ℕ) (k : ℕ) (ps : List Phrase) : Type 0 where
  place : ℕ
  mother : Phrase
  child : Daughter
  is : slice_get ps place ≡ Some mother
  stands : In child mother.daughters.items
  early : is_later places (k + place) child.cat ≡ false

early_then : (places : Name → Option ℕ) (k : ℕ) (q : Phrase) (ps : List Phrase) (b : Bool) → list_all (later_test places k) q.daughters.items ≡ b → (b && are_later places (k + 1) ps) ≡ false → (are_later places (k + 1) ps ≡ false → Early places (k + 1) ps) → Early places k (q ∷ ps)
early_then places k q ps true t e go =
    let f = go e in
    let up : (k + 1) + f.place ≡ k + suc f.place = omega arith in
    record { place = suc f.place; mother = f.mother; child = f.child; is = f.is; stands = f.stands; early = subst (λ (m : ℕ). is_later places m f.child.cat ≡ false) up f.early }
early_then places k q ps false t e go =
    let f = one_fails (later_test places k) q.daughters.items t in
    let at : k ≡ k + 0 = omega arith in
    record { place = 0; mother = q; child = f.element; is = refl; stands = f.stands; early = subst (λ (m : ℕ). is_later places m f.element.cat ≡ false) at f.fails }

one_early : (places : Name → Option ℕ) (k : ℕ) (ps : List Phrase) → are_later places k ps ≡ false → Early places k ps
one_early places k [] e = absurd (false≢true (sym e))
one_early places k (q ∷ ps) e = early_then places k q ps (list_all (later_test places k) q.daughters.items) refl e (λ f. one_early places (k + 1) ps f)

-- ---- what a test says

not_true : (b : Bool) → not b ≡ true → false ≡ b
not_true true e = cc
not_true false e = refl

not_false : (b : Bool) → not b ≡ false → true ≡ b
not_false true e = refl
not_false false e = cc

behind_true : (k j : ℕ) → nat_lt k j ≡ true → k < j
behind_true k j e = grind (arith, nat_tests)

behind_false : (k j : ℕ) → nat_lt k j ≡ false → k < j → ⊥
behind_false k j e l = grind (arith, nat_tests)

abbrev pub apart_test : (Name → Option ℕ) → Entry → Bool
apart_test places x = not (same x.cat empty_item) && not (is_some (places x.cat))

unplaced : (o : Option ℕ) → false ≡ is_some o → o ≡ None
unplaced None e = refl
unplaced (Some n) e = cc

module _ (d : Draft) (places : Name → Option ℕ) (own : HaveOwnRules (map cat_of d.phrases.items)) (are : (cat : Name) → places cat ≡ place_of cat (map cat_of d.phrases.items)) where
  module _ (root_test : false ≡ same d.root empty_item) (later_all : are_later places 0 d.phrases.items ≡ true) (apart_all : list_all (apart_test places) d.entries.items ≡ true) where
    child_named : (p : thin.Phrase) (cat : Name) → In p (map phrase_view d.phrases.items) → In cat (map (λ (x : thin.Daughter). x.cat) p.daughters) → cat ≢ empty_item
    child_named p cat i r =
        let f = In_from_map phrase_view d.phrases.items i in
        let y = In_from_map (λ (x : thin.Daughter). x.cat) p.daughters r in
        let z = In_from_map daughter_view f.0.daughters.items (subst (λ (q : thin.Phrase). In y.0 q.daughters) (sym f.2) y.1) in
        let a = at_place f.1 in
        let t = both (not (same z.0.cat empty_item)) (is_behind a.place (places z.0.cat)) (later_each places 0 a.place a.place d.phrases.items f.0 z.0 later_all a.is z.1 (omega arith)) in
        let c : z.0.cat ≡ cat = ap (λ (x : thin.Daughter). x.cat) z.2 ∙ y.2 in
        subst (λ (n : Name). n ≢ empty_item) c (differ z.0.cat empty_item (not_true (same z.0.cat empty_item) t.0))

    word_test : (x : thin.Entry) → In x (map entry_view d.entries.items) → (x.cat ≢ empty_item) × (place_of x.cat (map cat_of d.phrases.items) ≡ None)
    word_test x i =
        let f = In_from_map entry_view d.entries.items i in
        let t = both (not (same f.0.cat empty_item)) (not (is_some (places f.0.cat))) (all_pass (apart_test places) apart_all f.1) in
        let c : f.0.cat ≡ x.cat = ap (λ (z : thin.Entry). z.cat) f.2 in (
          subst (λ (n : Name). n ≢ empty_item) c (differ f.0.cat empty_item (not_true (same f.0.cat empty_item) t.0)),
          subst (λ (n : Name). place_of n (map cat_of d.phrases.items) ≡ None) c (sym (are f.0.cat) ∙ unplaced (places f.0.cat) (not_true (is_some (places f.0.cat)) t.1)),
        )

    named : (cat : Name) → IsCategory (draft_view d) cat → cat ≢ empty_item
    named cat (root e) = subst (λ (n : Name). n ≢ empty_item) (sym e) (differ d.root empty_item root_test)
    named cat (head r) = λ s. own.named (subst (λ (n : Name). In n (map cat_of d.phrases.items)) s (subst (λ (ns : List Name). In cat ns) (fused (λ (p : thin.Phrase). p.cat) phrase_view d.phrases.items) r))
    named cat (daughter {p} i r) = child_named p cat i r
    named cat (of_word r) =
        let f = In_from_map (λ (x : thin.Entry). x.cat) (map entry_view d.entries.items) r in
        subst (λ (n : Name). n ≢ empty_item) f.2 (word_test f.0 f.1).0

    comes_later : (k j : ℕ) (mother other : thin.Phrase) (x : thin.Daughter) → slice_get (map phrase_view d.phrases.items) k ≡ Some mother → In x mother.daughters
        → slice_get (map phrase_view d.phrases.items) j ≡ Some other → other.cat ≡ x.cat → k < j
    comes_later k j mother other x m i o e =
        let p = get_from_map phrase_view d.phrases.items k mother m in
        let q = get_from_map phrase_view d.phrases.items j other o in
        let z = In_from_map daughter_view p.source.daughters.items (subst (λ (u : thin.Phrase). In x u.daughters) (sym p.gives) i) in
        let t = both (not (same z.0.cat empty_item)) (is_behind k (places z.0.cat)) (later_each places 0 k k d.phrases.items p.source z.0 later_all p.is z.1 (omega arith)) in
        let c : q.source.cat ≡ z.0.cat = ap (λ (u : thin.Phrase). u.cat) q.gives ∙ e ∙ sym (ap (λ (u : thin.Daughter). u.cat) z.2) in
        let at : places z.0.cat ≡ Some j = are z.0.cat ∙ place_at (map cat_of d.phrases.items) j z.0.cat own.once (get_map cat_of d.phrases.items j q.source q.is ∙ ap (λ (n : Name). Some n) c) in
        behind_true k j (subst (λ (u : Option ℕ). is_behind k u ≡ true) at t.1)

    pub consistent_from : Once (map form_of d.entries.items) → IsConsistent (draft_view d)
    consistent_from once = record {
      one_rule = subst (λ (ns : List Name). Once ns) (sym (fused (λ (p : thin.Phrase). p.cat) phrase_view d.phrases.items)) own.once;
      one_entry = subst (λ (ns : List Name). Once ns) (sym (fused (λ (x : thin.Entry). x.form) entry_view d.entries.items)) once;
      apart = λ x i r. not_in x.cat (map cat_of d.phrases.items) (word_test x i).1 (subst (λ (ns : List Name). In x.cat ns) (fused (λ (p : thin.Phrase). p.cat) phrase_view d.phrases.items) r);
      later = comes_later;
      no_empty_item = named;
    }

  -- ---- refusals

  pub early_rule : are_later places 0 d.phrases.items ≡ false → IsConsistent (draft_view d) → ⊥
  early_rule e c = early (one_early places 0 d.phrases.items e)
    where
      early : Early places 0 d.phrases.items → ⊥
      early f = decide (same f.child.cat empty_item) refl (places f.child.cat) refl f.early
        where
          mother_in : In (phrase_view f.mother) (map phrase_view d.phrases.items)
          mother_in = In-map phrase_view (in_from_get d.phrases.items f.place f.mother f.is)

          decide : (b : Bool) → same f.child.cat empty_item ≡ b → (o : Option ℕ) → places f.child.cat ≡ o → (not b && is_behind (0 + f.place) o) ≡ false → ⊥
          decide true s o p t = c.no_empty_item f.child.cat (daughter mother_in (In-map (λ (x : thin.Daughter). x.cat) (In-map daughter_view f.stands))) (same_text f.child.cat empty_item (sym s))
          decide false s None p t = false≢true (sym t)
          decide false s (Some j) p t =
              let g = get_from_map cat_of d.phrases.items j f.child.cat (get_at_place (map cat_of d.phrases.items) j f.child.cat (sym (are f.child.cat) ∙ p)) in
              let zero_on : 0 + f.place ≡ f.place = omega arith in
              behind_false f.place j (subst (λ (n : ℕ). nat_lt n j ≡ false) zero_on t)
              (c.later f.place j (phrase_view f.mother) (phrase_view g.source) (daughter_view f.child) (get_map phrase_view d.phrases.items f.place f.mother f.is) (In-map daughter_view f.stands)
              (get_map phrase_view d.phrases.items j g.source g.is) g.gives)

  pub shared_cat : list_all (apart_test places) d.entries.items ≡ false → IsConsistent (draft_view d) → ⊥
  shared_cat e c = shared (one_fails (apart_test places) d.entries.items e)
    where
      shared : Fails (apart_test places) d.entries.items → ⊥
      shared f = decide (same f.element.cat empty_item) refl (places f.element.cat) refl f.fails
        where
          decide : (b : Bool) → same f.element.cat empty_item ≡ b → (o : Option ℕ) → places f.element.cat ≡ o → (not b && not (is_some o)) ≡ false → ⊥
          decide true s o p t = c.no_empty_item f.element.cat (of_word (In-map (λ (x : thin.Entry). x.cat) (In-map entry_view f.stands))) (same_text f.element.cat empty_item (sym s))
          decide false s None p t = false≢true (sym t)
          decide false s (Some j) p t =
              c.apart (entry_view f.element) (In-map entry_view f.stands)
              (subst (λ (ns : List Name). In f.element.cat ns) (sym (fused (λ (p : thin.Phrase). p.cat) phrase_view d.phrases.items)) (In_from_place f.element.cat (map cat_of d.phrases.items) j (sym (are f.element.cat) ∙ p)))

pub rules_shared : (d : Draft) → (HaveOwnRules (map cat_of d.phrases.items) → ⊥) → IsConsistent (draft_view d) → ⊥
rules_shared d never c =
    let e = fused (λ (p : thin.Phrase). p.cat) phrase_view d.phrases.items in
    never (record { once = subst (λ (ns : List Name). Once ns) e c.one_rule; named = λ r. c.no_empty_item empty_item (head (subst (λ (ns : List Name). In empty_item ns) (sym e) r)) refl })

pub empty_root : (d : Draft) → true ≡ same d.root empty_item → IsConsistent (draft_view d) → ⊥
empty_root d t c = c.no_empty_item d.root (root refl) (same_text d.root empty_item t)

pub forms_once : (d : Draft) → IsConsistent (draft_view d) → Once (map form_of d.entries.items)
forms_once d c = subst (λ (ns : List Name). Once ns) (fused (λ (x : thin.Entry). x.form) entry_view d.entries.items) c.one_entry

-- ---- the loop over the rules

later_cut : (places : Name → Option ℕ) (ps : List Phrase) (i : ℕ) (p : Phrase) → i < length ps
    → are_later places i (drop i ps) ≡ (list_all (later_test places i) (get_or ps i p).daughters.items && are_later places (i + 1) (drop (i + 1) ps))
later_cut places ps i p l =
    ap (are_later places i) (drop-cons ps i p l)
    ∙ ap (λ (n : ℕ). list_all (later_test places i) (get_or ps i p).daughters.items && are_later places (i + 1) (drop n ps)) (let e : suc i ≡ i + 1 = omega arith in e)

module _ (places : Name → Option ℕ) (ps : List Phrase) (i : ℕ) (p : Phrase) (ds : List Daughter) (l : i < length ps) (read : are_later places i (drop i ps) ≡ are_later places 0 ps) (is : ds ≡ (get_or ps i p).daughters.items) where
  pub later_stops : false ≡ list_all (later_test places i) ds → false ≡ are_later places 0 ps
  later_stops e = sym (sym read ∙ later_cut places ps i p l ∙ ap (λ (b : Bool). b && are_later places (i + 1) (drop (i + 1) ps)) (sym (e ∙ ap (list_all (later_test places i)) is)))

  pub later_goes : true ≡ list_all (later_test places i) ds → are_later places (i + 1) (drop (i + 1) ps) ≡ are_later places 0 ps
  later_goes e = sym (sym read ∙ later_cut places ps i p l ∙ ap (λ (b : Bool). b && are_later places (i + 1) (drop (i + 1) ps)) (sym (e ∙ ap (list_all (later_test places i)) is)))

pub refuses : (d : Draft) → (IsConsistent (draft_view d) → ⊥) → (IsTrue false → IsConsistent (draft_view d)) × (IsConsistent (draft_view d) → IsTrue false)
refuses d never = (λ t. absurd (false≢true t), λ c. absurd (never c))
