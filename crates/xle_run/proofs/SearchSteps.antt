-- The steps of the search.
use Rattle.std.proofs.Common.{◌≡◌, ℕ, zero, suc, ◌+◌, ◌<◌, ◌≤◌, Bool, List, [], ◌∷◌, ◌++◌, length, map, get_or, drop, Some, None, ap, refl, sym, ◌∙◌, subst, arith, inl, inr, length-drop, add-one}
use Rattle.std.specs.Prelude.{slice_get, find, position, nat_lt}
use Rattle.std.specs.List.{position_or_len}
use Rattle.std.proofs.lemmas.Bool.{cases_Bool, ltb-true, ltb-false}
use Rattle.std.proofs.lemmas.List.{drop_more, drop-drop, get_or-drop, length-map}
use Rattle.std.proofs.lemmas.List.Folds.{find_at}
use Rattle.std.proofs.lemmas.Option.{slice_get_read, slice_get_within, slice_get_past}
use Rattle.lfg_terms.specs.declared.grammar.Item.{Item}
use Rattle.lfg_terms.specs.declared.grammar.Rule.{Rule}
use Rattle.lfg_terms.specs.declared.grammar.Grammar.{Grammar}
use Rattle.lfg_terms.specs.declared.tree.TokenForms.{TokenForms}
use Rattle.lfg_model.specs.Lists.{In}
use Rattle.lfg_model.specs.Terms.{Name, same_name, Tree, leaf, inner, Parts, no_part, empty, daughter}
use Rattle.lfg_model.specs.Derive.{rule_of, item_at, Walks, occurrences, edge, Derives, Covers, Whole}
use Rattle.lfg_model.specs.Thin.{Phrase, item_of, rule_of_phrase, IsThinGrammar}
use Rattle.lfg_model.specs.ThinTrees.{HaveOwnForms, numbers}
use Rattle.lfg_model.proofs.OneTree.{same_some, same_cons, nil≢cons, one_derivation}
use Rattle.lfg_model.proofs.ListLaws.{In_from_map}
use Rattle.lfg_model.proofs.ThinTreeLaws.{same_from_test, from_map, numbers_walk, IsRuleOfPhrase, phrase_of, row_length, row_of_rule, item_from, item_places, no_word_of_rule, no_choice}
use Rattle.xle_run.specs.Search.{rule_in, AreRest, Know, KnowDaughters, Finds, Lacks, LacksWord, joined}
use Rattle.xle_run.proofs.PartRows.{occurrences-joined, Covers-joined, numbers-push}

add_assoc' : (a k : ℕ) → a + (k + 1) ≡ a + k + 1
add_assoc' a k = omega arith

-- the first that passes
pub position_found : {X : Type 0} (p : X → Bool) (xs : List X) (k : ℕ) → position p xs ≡ Some k → (k < length xs) × (find p xs ≡ slice_get xs k)
position_found p xs k e = elim (cases_Bool (nat_lt (position_or_len p xs) (length xs))) [
  | inl t ↦
      let same : position_or_len p xs ≡ k = same_some _ _ (rw t at e) in
      (rw same at (ltb-true _ _ t), find_at p xs ∙ ap (slice_get xs) same)
  | inr f ↦ let z : None ≡ Some k = rw f at e in absurd (none_some k z)
]
  where
    none_some : (k : ℕ) → None ≡ Some k → ⊥
    none_some k z = cc

pub position_none : {X : Type 0} (p : X → Bool) (xs : List X) → position p xs ≡ None → find p xs ≡ None
position_none p xs e = elim (cases_Bool (nat_lt (position_or_len p xs) (length xs))) [
  | inl t ↦ let z : Some (position_or_len p xs) ≡ None = rw t at e in absurd (some_none _ z)
  | inr f ↦ find_at p xs ∙ slice_get_past xs _ (ltb-false _ _ f)
]
  where
    some_none : (k : ℕ) → Some k ≡ None → ⊥
    some_none k z = cc

pub item_read : (r : Rule) (items : List Item) (k : ℕ) (i : Item) → items ≡ r.items → k < length items → i ≡ get_or items k i → slice_get r.items k ≡ Some i
item_read r items k i same l e = rw same at (slice_get_read items _ k i refl l e)

-- the parts of a rule from its item k + 1 on
pub record FindsParts (g : Grammar) (s : List TokenForms) (r : Rule) (k start end : ℕ) : Type 0 where
  pub parts : Parts
  pub occur : occurrences parts ≡ numbers (suc k) (length (drop k r.items))
  pub covers : Covers g s r parts start end

-- These parts are those of the rule's first k items, and each way to cover all items from the start
-- goes on from where they end.
pub record Reaches (g : Grammar) (s : List TokenForms) (r : Rule) (start : ℕ) (ps : Parts) (k end : ℕ) : Type 0 where
  pub occur : occurrences ps ≡ numbers 1 k
  pub covers : Covers g s r ps start end
  pub back : (e : ℕ) → FindsParts g s r 0 start e → FindsParts g s r k end e

pub Reaches-start : (g : Grammar) (s : List TokenForms) (r : Rule) (start : ℕ) → Reaches g s r start no_part 0 start
Reaches-start g s r start = record { occur = refl; covers = refl; back = λ e p. p }

numbers_here : (items : List Item) (k : ℕ) (i : Item) → slice_get items k ≡ Some i → numbers (suc k) (length (drop k items)) ≡ suc k ∷ numbers (suc (suc k)) (length (drop (suc k) items))
numbers_here items k i at = rw (drop_more items k i (slice_get_within items k i at), add-one) refl

module _ (g : Grammar) (s : List TokenForms) (thin : IsThinGrammar g) (own : HaveOwnForms s) where
  -- the tree that parts from k on begin with
  record Begins (r : Rule) (k start e : ℕ) (cat : Name) : Type 0 where
    below : Tree
    mid : ℕ
    derives : Derives g s below (edge cat start mid)
    rest : FindsParts g s r (suc k) mid e

  begins : (r : Rule) (k start e : ℕ) (i : Item) (cat : Name) → slice_get r.items k ≡ Some i → i.cat ≡ Some cat → FindsParts g s r k start e → Begins r k start e cat
  begins r k start e i cat at has p = go p.parts (p.occur ∙ numbers_here r.items k i at) p.covers
    where
      same_item : (o : ℕ) (j : Item) → o ≡ suc k → item_at r.items o ≡ Some j → j ≡ i
      same_item o j e' listed = same_some _ _ (sym (rw e' at listed) ∙ at)

      go : (ps : Parts) → occurrences ps ≡ suc k ∷ numbers (suc (suc k)) (length (drop (suc k) r.items)) → Covers g s r ps start e → Begins r k start e cat
      go no_part n c = absurd (nil≢cons _ _ n)
      go (empty o picks rest) n c =
          let h = same_cons _ _ _ _ n in
          let z : None ≡ Some cat = sym c.0.category ∙ ap (λ x. x.cat) (same_item o c.0.item h.0 c.0.listed) ∙ has in
          cc
      go (daughter o picks below rest) n c =
          let h = same_cons _ _ _ _ n in
          let same_cat : c.0 ≡ cat = same_some _ _ (sym c.2.category ∙ ap (λ x. x.cat) (same_item o c.2.item h.0 c.2.listed) ∙ has) in
          record {
            below = below;
            mid = c.1;
            derives = rw same_cat at c.3;
            rest = record { parts = rest; occur = h.1; covers = c.4 };
          }

  pub reaches_more : (r : Rule) (start : ℕ) (ps : Parts) (k mid end : ℕ) (i : Item) (cat : Name) (d : Tree) → rule_of g r.cat ≡ Some r → slice_get r.items k ≡ Some i → i.cat ≡ Some cat
      → Reaches g s r start ps k mid → Finds g s cat mid d end → Reaches g s r start (joined ps (daughter (suc k) [] d no_part)) (suc k) end
  reaches_more r start ps k mid end i cat d is at has before found = record {
    occur = occurrences-joined ps (daughter (suc k) [] d no_part) ∙ ap (λ ns. ns ++ suc k ∷ []) before.occur ∙ sym (numbers-push 1 k ∙ ap (λ n. numbers 1 k ++ n ∷ []) (omega arith));
    covers = Covers-joined g s r ps (daughter (suc k) [] d no_part) start mid end before.covers
        (cat, end, record { item = i; listed = at; category = has; fits = rw (item_places g thin r.cat r k i is at) tt }, found.derives, refl);
    back = λ e p.
        let b = begins r k mid e i cat at has (before.back e p) in
        let same : b.mid ≡ end = (one_derivation g s (no_choice g s thin own) b.below d _ _ b.derives found.derives refl refl).1 in
        rw (← same) b.rest;
  }

  pub reaches_pushed : (r : Rule) (start : ℕ) (ps new : Parts) (k n mid end : ℕ) (i : Item) (cat : Name) (d : Tree) → rule_of g r.cat ≡ Some r → slice_get r.items k ≡ Some i → i.cat ≡ Some cat
      → Reaches g s r start ps k mid → Finds g s cat mid d end → n ≡ k → new ≡ joined ps (daughter (n + 1) [] d no_part) → Reaches g s r start new (k + 1) end
  reaches_pushed r start ps new k n mid end i cat d is at has before found same pushed = rw (pushed, same, add-one) (reaches_more r start ps k mid end i cat d is at has before found)

  -- a daughter that cannot be derived
  pub stops : (r : Rule) (start : ℕ) (ps : Parts) (k mid : ℕ) (i : Item) (cat : Name) → slice_get r.items k ≡ Some i → i.cat ≡ Some cat → Reaches g s r start ps k mid → Lacks g s cat mid
      → (e : ℕ) → FindsParts g s r 0 start e → ⊥
  stops r start ps k mid i cat at has before none e p = let b = begins r k mid e i cat at has (before.back e p) in none.none b.below b.mid b.derives

  rule_length : (r : Rule) (q : IsRuleOfPhrase thin.draft.phrases r.cat r) → length q.phrase.daughters ≡ length r.items
  rule_length r q = sym (length-map q.phrase.daughters item_of) ∙ ap (λ z. length z.items) q.is

  -- all items of the rule
  pub finds_whole : (r : Rule) (start : ℕ) (ps : Parts) (k end : ℕ) → rule_of g r.cat ≡ Some r → k ≡ length r.items → Reaches g s r start ps k end → Finds g s r.cat start (inner r.cat ps) end
  finds_whole r start ps k end is all h =
      let q = phrase_of g thin r.cat r is in
      let n = length q.phrase.daughters in
      let same : k ≡ n = all ∙ sym (rule_length r q) in
      let walks : Walks r.graph (numbers 1 n) = subst (λ (z : Rule). Walks z.graph (numbers 1 n)) q.is (numbers_walk n (row_length g thin q.phrase q.listed)) in
      record { derives = (refl, (r, is, rw (h.occur, same) walks, h.covers)) }

  -- no way to cover the items is no tree
  pub lacks_whole : (r : Rule) (start : ℕ) → rule_of g r.cat ≡ Some r → ((e : ℕ) → FindsParts g s r 0 start e → ⊥) → Lacks g s r.cat start
  lacks_whole r start is absent = record { none = go }
    where
      go : (d : Tree) (end : ℕ) → Derives g s d (edge r.cat start end) → ⊥
      go (leaf c k picks) end h = no_word_of_rule g thin r.cat r k h.1.lex is h.1.listed (h.1.category ∙ sym (ap (λ x. x.cat) h.0))
      go (inner c parts) end h =
          let same : h.1.0 ≡ r = same_some _ _ (sym h.1.1 ∙ ap (rule_of g) (sym h.0) ∙ is) in
          let q = phrase_of g thin r.cat r is in
          let walks : Walks r.graph (occurrences parts) = subst (λ (z : Rule). Walks z.graph (occurrences parts)) same h.1.2 in
          absent end (record {
            parts = parts;
            occur = row_of_rule g thin r.cat r q (occurrences parts) walks ∙ ap (numbers 1) (rule_length r q);
            covers = subst (λ (z : Rule). Covers g s z parts start end) same h.1.3;
          })

  -- neither a word nor a rule
  pub lacks_both : (cat : Name) (at : ℕ) → LacksWord g s cat at → rule_of g cat ≡ None → Lacks g s cat at
  lacks_both cat at no_word no_rule = record { none = go }
    where
      go : (d : Tree) (end : ℕ) → Derives g s d (edge cat at end) → ⊥
      go (leaf c k picks) end h = no_word.none k picks (rw (← ap (λ x. x.cat) h.0) at h.1)
      go (inner c parts) end h = let z : None ≡ Some h.1.0 = sym no_rule ∙ ap (rule_of g) h.0 ∙ h.1.1 in cc

  -- the item has a category
  pub has_category : (r : Rule) (k : ℕ) (i : Item) → rule_of g r.cat ≡ Some r → slice_get r.items k ≡ Some i → i.cat ≡ None → ⊥
  has_category r k i is at none =
      let x = item_from g thin r.cat r (phrase_of g thin r.cat r is) k i at in
      let z : Some x.0.cat ≡ None = ap (λ y. y.cat) x.2 ∙ none in
      cc

  -- the rule at a place of the rest
  pub rest_after : (rules rest : List Rule) (k : ℕ) → AreRest g rules → rest ≡ drop (k + 1) rules → AreRest g rest
  rest_after rules rest k r e = record { place = r.place + (k + 1); is = e ∙ ap (drop (k + 1)) r.is ∙ drop-drop (k + 1) r.place g.rules }

  rule_cat : (rs : List Rule) (cat : Name) (r : Rule) → rule_in rs cat ≡ Some r → r.cat ≡ cat
  rule_cat [] cat r e = cc
  rule_cat (y ∷ rs) cat r e = elim (cases_Bool (same_name y.cat cat)) [
    | inl t ↦ ap (λ z. z.cat) (sym (same_some _ _ (rw t at e))) ∙ same_from_test y.cat cat t
    | inr f ↦ rule_cat rs cat r (rw f at e)
  ]

  pub rule_is : (rules : List Rule) (k : ℕ) (cat : Name) (r : Rule) → Know g rules cat → position (λ x. same_name x.cat cat) rules ≡ Some k → r ≡ get_or rules k r → (rule_of g r.cat ≡ Some r) × (r.cat ≡ cat)
  rule_is rules k cat r known first read =
      let f = position_found (λ x. same_name x.cat cat) rules k first in
      let is : rule_of g cat ≡ Some r = sym known.same ∙ f.1 ∙ slice_get_read rules _ k r refl f.0 read in
      let same : r.cat ≡ cat = rule_cat g.rules cat r is in
      (subst (λ (c : Name). rule_of g c ≡ Some r) (sym same) is, same)

  pub no_rule : (rules : List Rule) (cat : Name) → Know g rules cat → position (λ x. same_name x.cat cat) rules ≡ None → rule_of g cat ≡ None
  no_rule rules cat known none = sym known.same ∙ position_none (λ x. same_name x.cat cat) rules none

  -- what is said of the rules behind one
  skipped : (ps : List Phrase) (n : ℕ) (cat : Name) → ((j : ℕ) (p : Phrase) → slice_get ps j ≡ Some p → p.cat ≡ cat → n ≤ j) → rule_in (drop n (map rule_of_phrase ps)) cat ≡ rule_in (map rule_of_phrase ps) cat
  skipped ps zero cat h = refl
  skipped [] (suc n) cat h = refl
  skipped (p ∷ ps) (suc n) cat h = elim (cases_Bool (same_name p.cat cat)) [
    | inl t ↦ let z : suc n ≤ 0 = h 0 p refl (same_from_test p.cat cat t) in absurd (omega arith)
    | inr f ↦ rw f (skipped ps n cat (λ j q at e. let z : suc n ≤ suc j = h (suc j) q at e in omega arith))
  ]

  at_rest : (rules : List Rule) (k : ℕ) (r : Rule) (o : AreRest g rules) → k < length rules → r ≡ get_or rules k r → slice_get g.rules (o.place + k) ≡ Some r
  at_rest rules k r o l e =
      let there : r ≡ get_or g.rules (o.place + k) r = e ∙ ap (λ zs. get_or zs k r) o.is ∙ get_or-drop o.place g.rules k r in
      slice_get_read g.rules _ (o.place + k) r refl (omega (arith, ap length o.is, length-drop o.place g.rules)) there

  pub knows_after : (rules rest : List Rule) (k : ℕ) (r : Rule) (o : AreRest g rules) → rest ≡ drop (k + 1) rules → k < length rules → r ≡ get_or rules k r → KnowDaughters g rest r
  knows_after rules rest k r o is l read =
      let n = o.place + k in
      let mother = from_map rule_of_phrase thin.draft.phrases n r (rw thin.gives.rules at (at_rest rules k r o l read)) in
      let same : rest ≡ drop (n + 1) g.rules = is ∙ ap (drop (k + 1)) o.is ∙ drop-drop (k + 1) o.place g.rules ∙ ap (λ m. drop m g.rules) (add_assoc' o.place k) in
      record {
        each = λ i cat inside has.
            let x = In_from_map item_of mother.0.daughters (subst (λ (z : Rule). In i z.items) (sym mother.2) inside) in
            let is_cat : x.0.cat ≡ cat = same_some _ _ (ap (λ y. y.cat) x.2 ∙ has) in
            record {
              same = ap (λ rs. rule_in rs cat) same ∙ ap (λ rs. rule_in (drop (n + 1) rs) cat) thin.gives.rules
                  ∙ skipped thin.draft.phrases (n + 1) cat (λ j q at e.
                  let z : n < j = thin.consistent.later n j mother.0 q x.0 mother.1 x.1 at (e ∙ sym is_cat) in
                  omega arith)
                  ∙ ap (λ rs. rule_in rs cat) (sym thin.gives.rules);
            };
      }

  pub same_tree : (cat : Name) (start end : ℕ) (d d' : Tree) → Finds g s cat start d end → d' ≡ d → Finds g s cat start d' end
  same_tree cat start end d d' f e = rw e f

  -- what ends before the last token is the only derivation, so none covers the sentence
  pub ends_before : (d : Tree) (end : ℕ) → Finds g s g.root 0 d end → (end ≡ length s → ⊥) → (d' : Tree) → Whole g s d' → ⊥
  ends_before d end f n d' w = n (one_derivation g s (no_choice g s thin own) d d' _ _ f.derives w.derives refl refl).1
