-- The derivation of a small sentence, which is its only one.
use Rattle.std.proofs.Common.{◌≡◌, ℕ, zero, suc, Bool, true, false, cond, List, [], ◌∷◌, ap, refl, sym, ◌∙◌, arith, Some}
use Rattle.std.specs.Prelude.{slice_get, find, codes, if◌then◌else◌}
use Rattle.std.specs.List.{list_any}
use Rattle.std.specs.Cmp.Lexicographic.{same_text}
use Rattle.std.proofs.lemmas.Bool.{false≢true}
use Rattle.lfg_terms.specs.declared.grammar.Item.{Item}
use Rattle.lfg_terms.specs.declared.grammar.Rule.{Rule}
use Rattle.lfg_terms.specs.declared.grammar.Lex.{Lex}
use Rattle.lfg_terms.specs.declared.tree.TokenForms.{TokenForms}
use Rattle.lfg_model.specs.Lists.{In, here, later}
use Rattle.lfg_model.specs.Terms.{same_name, Name, annotation_of, Tree, leaf, inner, no_part, daughter}
use Rattle.lfg_model.specs.Places.{places}
use Rattle.lfg_model.specs.Derive.{rule_of, item_at, CanFollow, Runs, Walks, Whole}
use Rattle.lfg_model.specs.Unambiguous.{IsUnambiguous}
use Rattle.lfg_model.specs.ManWalks.{head, function, item, one_item, two_items, grammar, token, sentence}
use Rattle.lfg_model.proofs.ListLaws.{In-nil, In-one}
use Rattle.lfg_model.proofs.OneTree.{same_some, one_derivation}

abbrev pub tree : Tree
tree =
    inner (codes "S") (daughter 1 [] (inner (codes "NP") (daughter 1 [] (leaf (codes "D") 0 []) (daughter 2 [] (leaf (codes "N") 1 []) no_part)))
    (daughter 2 [] (inner (codes "VP") (daughter 1 [] (leaf (codes "V") 2 []) no_part)) no_part))

-- ---- lists

pub In_from_get : {X : Type 0} (xs : List X) (k : ℕ) (x : X) → slice_get xs k ≡ Some x → In x xs
In_from_get [] k x e = cc
In_from_get (y ∷ xs) zero x e = rw (same_some _ _ e) here
In_from_get (y ∷ xs) (suc k) x e = later (In_from_get xs k x e)

pub In_from_find : {X : Type 0} (p : X → Bool) (xs : List X) (x : X) → find p xs ≡ Some x → In x xs × (p x ≡ true)
In_from_find p [] x e = cc
In_from_find p (y ∷ xs) x e = go (p y) refl e (In_from_find p xs x)
  where
    go : (b : Bool) → p y ≡ b → cond b (Some y) (find p xs) ≡ Some x → (find p xs ≡ Some x → In x xs × (p x ≡ true)) → In x (y ∷ xs) × (p x ≡ true)
    go true t e' next = let same : y ≡ x = same_some _ _ e' in (rw (← same) here, ap p (sym same) ∙ t)
    go false t e' next = let r = next e' in (later r.0, r.1)

-- ---- rows of items

walks_one : (v : List ℕ) → Walks one_item v → v ≡ 1 ∷ []
walks_one [] w = absurd w
walks_one (p ∷ v) w = last (In-one w.0) v w.1
  where
    last : p ≡ 1 → (v : List ℕ) → Runs one_item p v → p ∷ v ≡ 1 ∷ []
    last e [] r = ap (λ n. n ∷ []) e
    last e (q ∷ v) r =
        let f : CanFollow one_item 1 q = rw e at r.0 in
        let none : [] ≡ f.0 = same_some _ _ f.1 in
        In-nil (rw (← none) at f.2)

walks_two : (v : List ℕ) → Walks two_items v → v ≡ 1 ∷ 2 ∷ []
walks_two [] w = absurd w
walks_two (p ∷ v) w = second (In-one w.0) v w.1
  where
    last : (q : ℕ) → q ≡ 2 → (v : List ℕ) → Runs two_items q v → q ∷ v ≡ 2 ∷ []
    last q e [] r = ap (λ n. n ∷ []) e
    last q e (o ∷ v) r =
        let f : CanFollow two_items 2 o = rw e at r.0 in
        let none : [] ≡ f.0 = same_some _ _ f.1 in
        In-nil (rw (← none) at f.2)

    second : p ≡ 1 → (v : List ℕ) → Runs two_items p v → p ∷ v ≡ 1 ∷ 2 ∷ []
    second e [] r = let f : Some false ≡ Some true = rw e at r in let z = same_some _ _ f in absurd (false≢true z)
    second e (q ∷ v) r =
        let f : CanFollow two_items 1 q = rw e at r.0 in
        let two : 2 ∷ [] ≡ f.0 = same_some _ _ f.1 in
        let q' : q ≡ 2 = In-one (rw (← two) at f.2) in
        let rest = last q q' v r.1 in
        λ i. e i ∷ rest i

-- ---- the grammar leaves no choice

module _ (number : Name) where
  rule_in : (cat : Name) (r : Rule) → rule_of (grammar number) cat ≡ Some r → In r (grammar number).rules × (same_name r.cat cat ≡ true)
  rule_in cat r e = In_from_find (λ r. same_name r.cat cat) (grammar number).rules r e

  one_row : (r : Rule) (v w : List ℕ) → In r (grammar number).rules → Walks r.graph v → Walks r.graph w → v ≡ w
  one_row r v w here a b = walks_two v a ∙ sym (walks_two w b)
  one_row r v w (later here) a b = walks_two v a ∙ sym (walks_two w b)
  one_row r v w (later (later here)) a b = walks_one v a ∙ sym (walks_one w b)
  one_row r v w (later (later (later i))) a b = In-nil i

  item_in : (items : List Item) (k : ℕ) (i : Item) → item_at items k ≡ Some i → In i items
  item_in items zero i e = cc
  item_in items (suc k) i e = In_from_get items k i e

  plain_item : (r : Rule) (i : Item) → In r (grammar number).rules → In i r.items → places (annotation_of i.schemata) ≡ []
  plain_item r i here here = refl
  plain_item r i here (later here) = refl
  plain_item r i here (later (later j)) = In-nil j
  plain_item r i (later here) here = refl
  plain_item r i (later here) (later here) = refl
  plain_item r i (later here) (later (later j)) = In-nil j
  plain_item r i (later (later here)) here = refl
  plain_item r i (later (later here)) (later j) = In-nil j
  plain_item r i (later (later (later h))) j = In-nil h

  plain_entry : (x : Lex) → In x (grammar number).lexicon → places (annotation_of x.schemata) ≡ []
  plain_entry x here = refl
  plain_entry x (later here) = refl
  plain_entry x (later (later here)) = refl
  plain_entry x (later (later (later i))) = In-nil i

  -- whether a category is one of words
  abbrev of_words : Name → Bool
  of_words cat = list_any (same_name cat) (codes "D" ∷ codes "N" ∷ codes "V" ∷ [])

  rule_of_words : (r : Rule) → In r (grammar number).rules → of_words r.cat ≡ false
  rule_of_words r here = refl
  rule_of_words r (later here) = refl
  rule_of_words r (later (later here)) = refl
  rule_of_words r (later (later (later i))) = In-nil i

  entry_of_words : (x : Lex) → In x (grammar number).lexicon → of_words x.cat ≡ true
  entry_of_words x here = refl
  entry_of_words x (later here) = refl
  entry_of_words x (later (later here)) = refl
  entry_of_words x (later (later (later i))) = In-nil i

  -- the place of an entry by its form
  abbrev place_of : Name → ℕ
  place_of form = if same_name form (codes "the") then 0 else (if same_name form (codes "man") then 1 else 2)

  entry_place : (j : ℕ) (x : Lex) → slice_get (grammar number).lexicon j ≡ Some x → j ≡ place_of x.form
  entry_place zero x e = ap (λ y. place_of y.form) (same_some _ _ e)
  entry_place (suc zero) x e = ap (λ y. place_of y.form) (same_some _ _ e)
  entry_place (suc (suc zero)) x e = ap (λ y. place_of y.form) (same_some _ _ e)
  entry_place (suc (suc (suc j))) x e = cc

  token_form : (t : TokenForms) (form : Name) → In t sentence → In form t.forms → form ≡ t.text
  token_form t form here i = In-one i
  token_form t form (later here) i = In-one i
  token_form t form (later (later here)) i = In-one i
  token_form t form (later (later (later h))) i = In-nil h

  pub unambiguous : IsUnambiguous (grammar number) sentence
  unambiguous = record {
    one_row = λ cat r v w e. one_row r v w (rule_in cat r e).0;
    plain_items = λ cat r k i e f. plain_item r i (rule_in cat r e).0 (item_in r.items k i f);
    plain_entries = λ k x e. plain_entry x (In_from_get (grammar number).lexicon k x e);
    apart = λ cat r k x e f c.
        let h = rule_in cat r e in
        let same : r.cat ≡ cat = same_text r.cat cat (sym h.1) in
        let z : false ≡ true = sym (rule_of_words r h.0) ∙ ap of_words (same ∙ sym c) ∙ entry_of_words x (In_from_get (grammar number).lexicon k x f) in
        false≢true z;
    one_entry = λ i j k t x y e f h a b.
        let there = In_from_get sentence i t e in
        entry_place j x f ∙ ap place_of (token_form t x.form there a ∙ sym (token_form t y.form there b)) ∙ sym (entry_place k y h);
  }

  pub whole : Whole (grammar number) sentence tree
  whole = record {
    some_token = omega arith;
    derives = (
      refl,
      (
        _,
        refl,
        (here, ((2 ∷ [], refl, here), refl)),
        (
          codes "NP",
          2,
          record { item = item (codes "NP") (function (codes "SUBJ")); listed = refl; category = refl; fits = tt },
          (
            refl,
            (
              _,
              refl,
              (here, ((2 ∷ [], refl, here), refl)),
              (
                codes "D",
                1,
                record { item = item (codes "D") head; listed = refl; category = refl; fits = tt },
                (refl, record { lex = _; listed = refl; category = refl; token = token (codes "the"); read = refl; offered = here; fits = tt }),
                (
                  codes "N",
                  2,
                  record { item = item (codes "N") head; listed = refl; category = refl; fits = tt },
                  (refl, record { lex = _; listed = refl; category = refl; token = token (codes "man"); read = refl; offered = here; fits = tt }),
                  refl,
                ),
              ),
            ),
          ),
          (
            codes "VP",
            3,
            record { item = item (codes "VP") head; listed = refl; category = refl; fits = tt },
            (
              refl,
              (
                _,
                refl,
                (here, refl),
                (
                  codes "V",
                  3,
                  record { item = item (codes "V") head; listed = refl; category = refl; fits = tt },
                  (refl, record { lex = _; listed = refl; category = refl; token = token (codes "walks"); read = refl; offered = here; fits = tt }),
                  refl,
                ),
              ),
            ),
            refl,
          ),
        ),
      ),
    );
  }

  pub only_tree : (d : Tree) → Whole (grammar number) sentence d → d ≡ tree
  only_tree d w = (one_derivation (grammar number) sentence unambiguous d tree _ _ w.derives whole.derives refl refl).0
