-- Grammars that are the same as plain data give a sentence the same parse count, and a sentence has
-- one.
use Rattle.std.proofs.Common.{◌≡◌, ℕ, ◌≤◌, max, List, Some, length, slice_get, refl, sym, ap, ◌∙◌, subst, arith}
use Rattle.std.specs.List.{sum_by}
use Rattle.std.specs.Ordering.{nat_cmp, on, then_cmp}
use Rattle.lfg_terms.specs.declared.node.Edge.{Edge}
use Rattle.lfg_terms.specs.declared.node.Fact.{Fact}
use Rattle.lfg_terms.specs.declared.literal.Site.{Site}
use Rattle.lfg_terms.specs.declared.literal.Site.TheVariants as site
use Rattle.lfg_terms.specs.declared.grammar.Grammar.{Grammar}
use Rattle.lfg_terms.specs.declared.tree.TokenForms.{TokenForms}
use Rattle.lfg_terms.specs.Order.{fact_cmp}
use Rattle.lfg_terms.specs.OrderLaws.{fact_cmp_total}
use Rattle.lfg_model.specs.declared.point.Next.TheVariants as next
use Rattle.lfg_model.specs.Lists.{In, Lists}
use Rattle.lfg_model.specs.Loads.{AreAlike}
use Rattle.lfg_model.specs.Places.{places}
use Rattle.lfg_model.specs.Spots.{Spot, AnEdge, AStep, AWord, APick, Stands}
use Rattle.lfg_model.specs.Terms.{Name, Annotation}
use Rattle.lfg_model.proofs.Ascending.{one_list, once_from_total}
use Rattle.lfg_packed.specs.declared.key.ChoiceKey.{ChoiceKey}
use Rattle.lfg_packed.specs.ChoicePoints.{ChoicePoint, NextAt, EntryAt, BranchAt, key_cmp, key_of}
use Rattle.lfg_packed.specs.Choices.{IsSite, HasAlternatives, PlacedChoice, AreChoices}
use Rattle.lfg_packed.specs.Counts.{IsLiteralCount, IsTreeFact, IsInstanceCount}
use Rattle.lfg_packed.specs.ParseCounts.{IsReadingFact, IsParseCount, IsParseAbove, by_instances, by_facts}
use Rattle.lfg_packed.specs.Sizes.{literal_size}
use Rattle.lfg_packed.specs.SpotFacts.{under_facts, spot_facts}
use Rattle.lfg_packed.specs.Words.{form_place, forms_of, word_place, AreEntries}
use Rattle.lfg_instant.proofs.CountLaws.{one_instance_count}
use Rattle.lfg_output.proofs.LikeLookups.{alike_turned, form_of_entry, category_at_alike, annotation_at_alike}
use Rattle.lfg_output.proofs.LikeReadings.{lists_alike, whole_alike, facts_alike, assigned_alike}

module _ (g h : Grammar) (a : AreAlike g h) (s : List TokenForms) where
  -- what a whole derivation by the one grammar has, one by the other has
  pub stands_alike : (x : Spot) → Stands g s x → Stands h s x
  stands_alike x t = record { derivation = t.derivation; whole = whole_alike g h a s t.derivation t.whole; has = t.has }

  site_alike : (at : Site) → IsSite g s at → IsSite h s at
  site_alike at t = (t.0, stands_alike (APick at t.0) t.1)

  -- the places of forms, and with them the orders of entries and of choices
  word_place_alike : (e : Edge) (k : ℕ) → word_place g s e k ≡ word_place h s e k
  word_place_alike e k = ap (λ (f : Name). form_place (forms_of (slice_get s e.from)) f) (form_of_entry a.words k)

  key_alike : (c : ChoicePoint) → key_of g s c ≡ key_of h s c
  key_alike (NextAt p) = refl
  key_alike (EntryAt e) = refl
  key_alike (BranchAt (site.Item e occ at to) place) = refl
  key_alike (BranchAt (site.Entry e k) place) =
      let same = word_place_alike e k in
      λ i. record { edge = e; rank = 3; from = same i; to = 0; item = k; place = place }

  -- the facts of a tree
  spot_facts_alike : (x : Spot) → spot_facts g s x ≡ spot_facts h s x
  spot_facts_alike (AnEdge e) = refl
  spot_facts_alike (AStep p (next.Item occ to)) = ap (under_facts p.edge p.at to) (category_at_alike g h a p.edge occ)
  spot_facts_alike (AStep p next.End) = refl
  spot_facts_alike (AWord e k) = refl
  spot_facts_alike (APick at picks) = refl

  tree_fact_alike : (f : Fact) → IsTreeFact g s f → IsTreeFact h s f
  tree_fact_alike f t = (t.0, stands_alike t.0 t.1, subst (λ (fs : List Fact). In f fs) (spot_facts_alike t.0) t.2)

  -- the facts of f-structures
  reading_fact_alike : (f : Fact) → IsReadingFact g s f → IsReadingFact h s f
  reading_fact_alike f r = record {
    derivation = r.derivation;
    assigned = assigned_alike g h a s r.derivation r.assigned;
    fact = facts_alike g h a r.derivation f r.fact;
  }

module _ (g h : Grammar) (a : AreAlike g h) (s : List TokenForms) where
  entries_alike : (e : Edge) (ks : List ℕ) → AreEntries g s e ks → AreEntries h s e ks
  entries_alike e ks l =
      let same = word_place_alike g h a s e in
      let moved = lists_alike {Q = λ k. Stands h s (AWord e k)} (λ k. stands_alike g h a s (AWord e k)) (λ k. stands_alike h g (alike_turned g h a) s (AWord e k)) l in
      subst (λ (place : ℕ → ℕ). Lists (then_cmp (on place nat_cmp) nat_cmp) (λ k. Stands h s (AWord e k)) ks) (λ i k. same k i) moved

  alternatives_alike : (c : ChoicePoint) (n : ℕ) → HasAlternatives g s c n → HasAlternatives h s c n
  alternatives_alike (NextAt p) n x =
      (x.0, lists_alike (λ n. stands_alike g h a s (AStep p n)) (λ n. stands_alike h g (alike_turned g h a) s (AStep p n)) x.1, x.2)
  alternatives_alike (EntryAt e) n x = (x.0, entries_alike e x.0 x.1, x.2)
  alternatives_alike (BranchAt at place) n x =
      (site_alike g h a s at x.0, subst (λ (y : Annotation). slice_get (places y) place ≡ Some n) (annotation_at_alike g h a at) x.1)

  literal_count_alike : (n : ℕ) → IsLiteralCount g s n → IsLiteralCount h s n
  literal_count_alike n c =
      let same = annotation_at_alike g h a in
      record {
        sites = c.sites;
        all = record {
          once = c.all.once;
          exact = λ at. ((λ i. site_alike g h a s at ((c.all.exact at).0 i)), (λ p. (c.all.exact at).1 (site_alike h g (alike_turned g h a) s at p)));
        };
        sum = c.sum ∙ (λ i. sum_by (λ at. literal_size (same at i)) c.sites);
      }

module _ (g h : Grammar) (a : AreAlike g h) (s : List TokenForms) where
  choices_alike : (cs : List PlacedChoice) → AreChoices g s cs → AreChoices h s cs
  choices_alike cs l =
      let same = key_alike g h a s in
      let moved = lists_alike {Q = λ (c : PlacedChoice). HasAlternatives h s c.at c.alternatives × (2 ≤ c.alternatives)}
      (λ c x. (alternatives_alike g h a s c.at c.alternatives x.0, x.1)) (λ c x. (alternatives_alike h g (alike_turned g h a) s c.at c.alternatives x.0, x.1)) l in
      subst (λ (key : ChoicePoint → ChoiceKey). Lists (on (λ c. c.at) (on key key_cmp)) (λ (c : PlacedChoice). HasAlternatives h s c.at c.alternatives × (2 ≤ c.alternatives)) cs) (λ i c. same c i) moved

  pub instance_count_alike : (n : ℕ) → IsInstanceCount g s n → IsInstanceCount h s n
  instance_count_alike n c = record {
    literals = c.literals;
    counted = literal_count_alike g h a s c.literals c.counted;
    choices = c.choices;
    are_choices = choices_alike c.choices c.are_choices;
    facts = c.facts;
    are_facts = lists_alike (tree_fact_alike g h a s) (tree_fact_alike h g (alike_turned g h a) s) c.are_facts;
    is = c.is;
  }

  -- a sentence has the same parse count by both grammars
  pub parse_count_alike : (n : ℕ) → IsParseCount g s n → IsParseCount h s n
  parse_count_alike n c = record {
    instances = c.instances;
    counted = instance_count_alike c.instances c.counted;
    facts = c.facts;
    are_facts = lists_alike (reading_fact_alike g h a s) (reading_fact_alike h g (alike_turned g h a) s) c.are_facts;
    is = c.is;
  }

  pub parse_above_alike : (most : ℕ) → IsParseAbove g s most → IsParseAbove h s most
  parse_above_alike most (by_instances c l) = by_instances (instance_count_alike _ c) l
  parse_above_alike most (by_facts f l) = by_facts (lists_alike (reading_fact_alike g h a s) (reading_fact_alike h g (alike_turned g h a) s) f) l

-- a parse count that is not above a number is not above it in any way
pub not_above : (g : Grammar) (s : List TokenForms) (most count : ℕ) → IsParseCount g s count → count ≤ most → IsParseAbove g s most → ⊥
not_above g s most count c below (by_instances {n} d l) =
    let same = one_instance_count g s c.instances n c.counted d in
    let is = c.is in
    omega (arith, same, is, below, l)
not_above g s most count c below (by_facts {facts} f l) =
    let same = one_list fact_cmp (once_from_total fact_cmp_total) (IsReadingFact g s) c.facts facts c.are_facts f in
    let size : length c.facts ≡ length facts = ap length same in
    let is = c.is in
    omega (arith, size, is, below, l)

-- a sentence has one parse count
pub one_parse_count : (g : Grammar) (s : List TokenForms) (m n : ℕ) → IsParseCount g s m → IsParseCount g s n → m ≡ n
one_parse_count g s m n a b =
    let instances = one_instance_count g s a.instances b.instances a.counted b.counted in
    let facts = one_list fact_cmp (once_from_total fact_cmp_total) (IsReadingFact g s) a.facts b.facts a.are_facts b.are_facts in
    a.is ∙ (λ i. max (instances i) (length (facts i))) ∙ sym b.is
