-- Each selection picks a derivation, where there is a whole one.
use Rattle.std.proofs.Common.{◌≡◌, ℕ, zero, suc, ◌+◌, ◌-◌, ◌<◌, List, [], ◌∷◌, length, slice_get, ap, refl, sym, ◌∙◌, subst, arith, Some, None, inl, inr, ◌⊎◌}
use Rattle.lfg_terms.specs.declared.node.Edge.{Edge}
use Rattle.lfg_terms.specs.declared.literal.Site.{Site}
use Rattle.lfg_terms.specs.declared.literal.Site.TheVariants as site
use Rattle.lfg_terms.specs.declared.grammar.Item.{Item}
use Rattle.lfg_terms.specs.declared.grammar.Graph.{Graph}
use Rattle.lfg_terms.specs.declared.grammar.Rule.{Rule}
use Rattle.lfg_terms.specs.declared.grammar.Lex.{Lex}
use Rattle.lfg_terms.specs.declared.grammar.Grammar.{Grammar}
use Rattle.lfg_terms.specs.declared.tree.TokenForms.{TokenForms}
use Rattle.lfg_model.specs.declared.point.Point.{Point}
use Rattle.lfg_model.specs.declared.point.Next.{Next}
use Rattle.lfg_model.specs.declared.point.Next.TheVariants as next
use Rattle.lfg_model.specs.Lists.{In, here, later}
use Rattle.lfg_model.specs.Terms.{Name, annotation_of, Tree, leaf, inner, Parts, no_part, empty, daughter}
use Rattle.lfg_model.specs.Places.{places, PicksFit}
use Rattle.lfg_model.specs.Derive.{rule_of, item_at, CanFollow, CanEnd, Runs, occurrences, IsItem, edge, Derives, Covers}
use Rattle.lfg_model.specs.Trees.{width}
use Rattle.lfg_model.specs.Grounded.{EmptyStep, IsGrounded}
use Rattle.lfg_model.specs.Spots.{point, Spot, AnEdge, AStep, AWord, APick, spots_of, parts_spots}
use Rattle.lfg_model.specs.Kept.{Derivable, Crosses, by_none, by_edge, Reaches, at_start, go_on, Ends, at_end, before, Kept, as_root, as_daughter, IsEntry, KeptSpot, an_edge, a_word, a_step, an_end, item_pick, entry_pick, IsFillable}
use Rattle.lfg_model.specs.Picked.{Selection, IsSelection, IsTaken, SomeIsPicked}
use Rattle.lfg_model.proofs.Acyclic.{Acc, acc, acc_of, NumberFirst, lex_acc}
use Rattle.lfg_model.proofs.ListLaws.{In-append_cases, In-cons_cases, In-one}
use Rattle.lfg_model.proofs.OneTree.{same_some}
use Rattle.lfg_model.proofs.Spans.{tree_end, tree_edge, ends_of}
use Rattle.lfg_model.proofs.Grounding.{grows, back, Smaller, edges_end, below_less}
use Rattle.lfg_model.proofs.Standing.{word_of, leaf_of, root_kept, kept_stands, stands_kept}

-- the numbers below n
numbers : ℕ → List ℕ
numbers zero = []
numbers (suc n) = n ∷ numbers n

in_numbers : (n k : ℕ) → k < n → In k (numbers n)
unfolding numbers
in_numbers zero k h = absurd (omega arith)
in_numbers (suc n) k h = elim (cases k n) [ inl e ↦ (let P : ℕ → Type 0 = λ z. In z (n ∷ numbers n) in subst P (sym e) here) | inr l ↦ later (in_numbers n k (l h)) ]
  where
    cases : (k n : ℕ) → (k ≡ n) ⊎ (k < suc n → k < n)
    cases k n = grind arith

within_next : (xs : List (List ℕ)) (k : ℕ) (ps : List ℕ) → slice_get xs k ≡ Some ps → k < length xs
within_next [] k ps h = let never : None ≡ Some ps = h in absurd (cc)
within_next (x ∷ xs) zero ps h = omega arith
within_next (x ∷ xs) (suc k) ps h = let i = within_next xs k ps h in omega (arith, i)

-- only the items of a graph are followed
followed : (graph : Graph) (q p : ℕ) → CanFollow graph q p → q < suc (length graph.next)
followed graph zero p h = omega arith
followed graph (suc k) p h = let i = within_next graph.next k h.0 h.1 in omega (arith, i)

-- how many tokens of an edge are left behind a place
pub left : Edge → ℕ × ℕ → ℕ
left e x = e.to - x.1

-- fewer tokens are left, or as many behind one more empty item
abbrev pub Behind : Edge → Rule → ℕ × ℕ → ℕ × ℕ → Type 0
Behind e rule = NumberFirst (left e) (λ x. x.0) (EmptyStep rule)

module _ (g : Grammar) (s : List TokenForms) (ground : IsGrounded g) where
  left_ends : (e : Edge) (rule : Rule) → rule_of g e.cat ≡ Some rule → (x : ℕ × ℕ) → Acc (Behind e rule) x
  left_ends e rule is = lex_acc (left e) (λ x. x.0) (EmptyStep rule) (acc_of (EmptyStep rule) (numbers (suc (length rule.graph.next)))
      (λ p q h. in_numbers (suc (length rule.graph.next)) q (followed rule.graph q p h.0)) (λ q h. ground.empties e.cat rule q is h))

  -- what a kept step says
  abbrev pub StepFacts : Point → Next → Type 0
  StepFacts p (next.Item occ mid) = (rule : Rule) × (rule_of g p.edge.cat ≡ Some rule) × CanFollow rule.graph p.occ occ × Crosses g s rule occ p.at mid × Ends g s rule p.edge.to occ mid
  StepFacts p next.End = (rule : Rule) × (rule_of g p.edge.cat ≡ Some rule) × (p.at ≡ p.edge.to) × CanEnd rule.graph p.occ

  -- what kept picks say
  abbrev pub PickFacts : Site → List ℕ → Type 0
  PickFacts (site.Item e occ at to) picks =
      (rule : Rule) × (rule_of g e.cat ≡ Some rule) × (item : Item) × (item_at rule.items occ ≡ Some item) × PicksFit picks (places (annotation_of item.schemata))
  PickFacts (site.Entry e k) picks = (lex : Lex) × (slice_get g.lexicon k ≡ Some lex) × PicksFit picks (places (annotation_of lex.schemata))

  abbrev pub SpotFacts : Spot → Type 0
  SpotFacts (AnEdge e) = Unit {0}
  SpotFacts (AStep p n) = StepFacts p n
  SpotFacts (AWord e k) = IsEntry g s e k
  SpotFacts (APick at picks) = PickFacts at picks

  pub facts_of : (x : Spot) → KeptSpot g s x → SpotFacts x
  facts_of x (an_edge k) = tt
  facts_of x (a_word k w) = w
  facts_of x (a_step rule p k is reach follow crosses ends) = (rule, is, follow, crosses, ends)
  facts_of x (an_end rule k is reach end) = (rule, is, refl, end)
  facts_of x (item_pick rule p item k is reach follow crosses ends listed fits) = (rule, is, item, listed, fits)
  facts_of x (entry_pick lex k w listed fits) = (lex, listed, fits)

  -- where the rule can end there is a step
  some_step : (e : Edge) (rule : Rule) (q at : ℕ) → Kept g s e → rule_of g e.cat ≡ Some rule → Reaches g s rule e.from q at → Ends g s rule e.to q at → (n : Next) × KeptSpot g s (AStep (point e q at) n)
  some_step e rule q at k is reach (at_end h) = (next.End, an_end rule k is reach h)
  some_step e rule q at k is reach (before {mid = mid} p follow crosses ends) = (next.Item p mid, a_step rule p k is reach follow crosses ends)

  derivable_of : (e : Edge) → Kept g s e → Derivable g s e
  derivable_of e (as_root some d) = d
  derivable_of e (as_daughter rule p item cat k is reach follow h hc d ends) = d

  module _ (fill : IsFillable g) (c : Selection) (sel : IsSelection g s c) where
    -- what is selected is kept
    next_kept : (p : Point) (n : Next) → KeptSpot g s (AStep p n) → KeptSpot g s (AStep p (c.next_of p))
    next_kept p n k = stands_kept g s _ (sel.next p n (kept_stands g s fill _ k))

    entry_kept : (e : Edge) (n : ℕ) → KeptSpot g s (AWord e n) → KeptSpot g s (AWord e (c.entry_of e))
    entry_kept e n k = stands_kept g s _ (sel.entry e n (kept_stands g s fill _ k))

    picks_kept : (at : Site) (picks : List ℕ) → KeptSpot g s (APick at picks) → KeptSpot g s (APick at (c.picks_of at))
    picks_kept at picks k = stands_kept g s _ (sel.picks at picks (kept_stands g s fill _ k))

    -- the selected picks fit the item
    item_fits : (e : Edge) (rule : Rule) (q at p mid : ℕ) (item : Item) → Kept g s e → rule_of g e.cat ≡ Some rule → Reaches g s rule e.from q at → CanFollow rule.graph q p
        → Crosses g s rule p at mid → Ends g s rule e.to p mid → item_at rule.items p ≡ Some item → PicksFit (c.picks_of (site.Item e p at mid)) (places (annotation_of item.schemata))
    item_fits e rule q at p mid item k is reach follow crosses ends listed =
        let some = fill.items e.cat rule p item is listed in
        let f = facts_of _ (picks_kept (site.Item e p at mid) some.0 (item_pick rule p item k is reach follow crosses ends listed some.1)) in
        let same : f.0 ≡ rule = same_some _ _ (sym f.1 ∙ is) in
        let there : item_at rule.items p ≡ Some f.2 = (let P : Rule → Type 0 = λ r. item_at r.items p ≡ Some f.2 in subst P same f.3) in
        let P : Item → Type 0 = λ z. PicksFit (c.picks_of (site.Item e p at mid)) (places (annotation_of z.schemata)) in
        subst P (same_some _ _ (sym there ∙ listed)) f.4

    pub record Built (e : Edge) : Type 0 where
      pub tree : Tree
      pub derives : Derives g s tree e
      pub takes : (x : Spot) → In x (spots_of tree e.from) → IsTaken c x

    pub record BuiltParts (e : Edge) (rule : Rule) (q at : ℕ) : Type 0 where
      pub parts : Parts
      pub runs : Runs rule.graph q (occurrences parts)
      pub covers : Covers g s rule parts at e.to
      pub takes : (x : Spot) → In x (parts_spots e q parts at) → IsTaken c x

    stopped : (e : Edge) (rule : Rule) (q at : ℕ) → rule_of g e.cat ≡ Some rule → c.next_of (point e q at) ≡ next.End → StepFacts (point e q at) next.End → BuiltParts e rule q at
    stopped e rule q at is n f =
        let same : f.0 ≡ rule = same_some _ _ (sym f.1 ∙ is) in
        record {
          parts = no_part;
          runs = (let P : Rule → Type 0 = λ z. CanEnd z.graph q in subst P same f.3);
          covers = f.2;
          takes = λ x i. (let P : Spot → Type 0 = λ z. IsTaken c z in subst P (sym (In-one i)) (sym n));
        }

    empty_front : (e : Edge) (rule : Rule) (q at occ : ℕ) → c.next_of (point e q at) ≡ next.Item occ at → CanFollow rule.graph q occ
        → IsItem rule occ None (c.picks_of (site.Item e occ at at)) → BuiltParts e rule occ at → BuiltParts e rule q at
    empty_front e rule q at occ n follow item rest =
        let P : Spot → Type 0 = λ z. IsTaken c z in
        record {
          parts = empty occ (c.picks_of (site.Item e occ at at)) rest.parts;
          runs = (follow, rest.runs);
          covers = (item, rest.covers);
          takes = λ x i. elim (In-cons_cases i) [
            | inl same ↦ subst P (sym same) (sym n)
            | inr j ↦ elim (In-cons_cases j) [ inl same ↦ subst P (sym same) refl | inr l ↦ rest.takes x l ]
          ];
        }

    daughter_front : (e : Edge) (rule : Rule) (q at occ mid : ℕ) (cat : Name) → c.next_of (point e q at) ≡ next.Item occ mid → CanFollow rule.graph q occ
        → IsItem rule occ (Some cat) (c.picks_of (site.Item e occ at mid)) → Built (edge cat at mid) → BuiltParts e rule occ mid → BuiltParts e rule q at
    daughter_front e rule q at occ mid cat n follow item d rest =
        let w : at + width d.tree ≡ mid = tree_end g s d.tree _ d.derives in
        let P : Spot → Type 0 = λ z. IsTaken c z in
        let picks = c.picks_of (site.Item e occ at mid) in
        record {
          parts = daughter occ picks d.tree rest.parts;
          runs = (follow, rest.runs);
          covers = (cat, mid, item, d.derives, rest.covers);
          takes = λ x i. elim (In-cons_cases i) [
            | inl same ↦ subst P (sym same) (ap (λ m. next.Item occ m) w ∙ sym n)
            | inr j ↦ elim (In-cons_cases j) [
              | inl same ↦ subst P (sym same) (ap (λ m. c.picks_of (site.Item e occ at m)) (sym w))
              | inr z ↦ elim (In-append_cases (spots_of d.tree at) (parts_spots e occ rest.parts (at + width d.tree)) z) [
                | inl l ↦ d.takes x l
                | inr l ↦ rest.takes x (let Q : ℕ → Type 0 = λ m. In x (parts_spots e occ rest.parts m) in subst Q w l)
              ]
            ]
          ];
        }

    -- the parts behind a point, if the trees of smaller edges are there
    build_parts : (e : Edge) (rule : Rule) (x : ℕ × ℕ) → ((m : Edge) → Smaller g s ground m e → Kept g s m → Built m) → Kept g s e → rule_of g e.cat ≡ Some rule → Acc (Behind e rule) x
        → (q at : ℕ) → x ≡ (q, at) → Reaches g s rule e.from q at → Ends g s rule e.to q at → BuiltParts e rule q at
    unfolding left
    build_parts e rule x sub k is (acc step) q at here_is reach ends =
        let some = some_step e rule q at k is reach ends in
        chosen (c.next_of (point e q at)) refl (facts_of _ (next_kept (point e q at) some.0 some.1))
        (λ occ mid reach' ends' less'. build_parts e rule (occ, mid) sub k is (step (occ, mid) (let P : ℕ × ℕ → Type 0 = λ z. Behind e rule (occ, mid) z in subst P (sym here_is) less')) occ mid refl reach' ends')
      where
        by_cases : (occ mid : ℕ) → c.next_of (point e q at) ≡ next.Item occ mid → CanFollow rule.graph q occ → Crosses g s rule occ at mid → Ends g s rule e.to occ mid
            → ((occ mid : ℕ) → Reaches g s rule e.from occ mid → Ends g s rule e.to occ mid → Behind e rule (occ, mid) (q, at) → BuiltParts e rule occ mid) → BuiltParts e rule q at
        by_cases occ mid n follow (by_none item h none) ends' rec =
            let crosses : Crosses g s rule occ at at = by_none item h none in
            let fits = item_fits e rule q at occ at item k is reach follow crosses ends' h in
            empty_front e rule q at occ n follow (record { item = item; listed = h; category = none; fits = fits })
            (rec occ at (go_on occ reach follow crosses) ends' (inr (refl, (follow, (item, h, none)))))
        by_cases occ mid n follow (by_edge item cat h hc d) ends' rec =
            let crosses : Crosses g s rule occ at mid = by_edge item cat h hc d in
            let fits = item_fits e rule q at occ mid item k is reach follow crosses ends' h in
            let l : at < mid = grows g s ground (edge cat at mid) d in
            let shorter : e.to - mid < e.to - at = elim (back g s ground rule e.to occ mid ends') [ inl a ↦ omega (arith, a, l) | inr a ↦ omega (arith, a.0, l) ] in
            let tree = sub (edge cat at mid) (below_less g s ground e rule q at occ mid cat is reach follow (item, h, hc) d ends') (as_daughter rule occ item cat k is reach follow h hc d ends') in
            daughter_front e rule q at occ mid cat n follow (record { item = item; listed = h; category = hc; fits = fits }) tree
            (rec occ mid (go_on occ reach follow crosses) ends' (inl shorter))

        chosen : (n : Next) → c.next_of (point e q at) ≡ n → StepFacts (point e q at) n
            → ((occ mid : ℕ) → Reaches g s rule e.from occ mid → Ends g s rule e.to occ mid → Behind e rule (occ, mid) (q, at) → BuiltParts e rule occ mid) → BuiltParts e rule q at
        chosen next.End n f rec = stopped e rule q at is n f
        chosen (next.Item occ mid) n f rec =
            let same : f.0 ≡ rule = same_some _ _ (sym f.1 ∙ is) in
            let P : Rule → Type 0 = λ z. CanFollow z.graph q occ × Crosses g s z occ at mid × Ends g s z e.to occ mid in
            let h = subst P same (f.2, f.3, f.4) in
            by_cases occ mid n h.0 h.1 h.2 rec

    leaf_built : (e : Edge) (entry : ℕ) → Kept g s e → IsEntry g s e entry → Built e
    leaf_built e entry k word =
        let n = c.entry_of e in
        let w : IsEntry g s e n = facts_of (AWord e n) (entry_kept e entry (a_word k word)) in
        let some = fill.entries n w.lex w.listed in
        let f = facts_of _ (picks_kept (site.Entry e n) some.0 (entry_pick w.lex k w w.listed some.1)) in
        let d = leaf_of g s e n f.0 (c.picks_of (site.Entry e n)) w (same_some _ _ (sym f.1 ∙ w.listed)) f.2 in
        let same = tree_edge g s (leaf e.cat n (c.picks_of (site.Entry e n))) e d in
        let P : Spot → Type 0 = λ z. IsTaken c z in
        record {
          tree = leaf e.cat n (c.picks_of (site.Entry e n));
          derives = d;
          takes = λ x i. elim (In-cons_cases i) [
            | inl is ↦ subst P (sym is) tt
            | inr j ↦ elim (In-cons_cases j) [
              | inl is ↦ subst P (sym is) (ap c.entry_of (sym same))
              | inr l ↦ subst P (sym (In-one l)) (ap (λ z. c.picks_of (site.Entry z n)) (sym same))
            ]
          ];
        }

    of_tree : (t : Tree) (e : Edge) → Kept g s e → Derives g s t e → ((m : Edge) → Smaller g s ground m e → Kept g s m → Built m) → Built e
    of_tree (leaf cat entry picks) e k h sub = leaf_built e entry k (word_of g s cat entry picks e h)
    of_tree (inner cat parts) e k h sub =
        let rule : rule_of g e.cat ≡ Some h.1.0 = ap (rule_of g) h.0 ∙ h.1.1 in
        let b = build_parts e h.1.0 (0, e.from) sub k rule (left_ends e h.1.0 rule (0, e.from)) 0 e.from refl at_start (ends_of g s parts h.1.0 0 e.from e.to h.1.2 h.1.3) in
        let d : Derives g s (inner e.cat b.parts) e = (refl, (h.1.0, rule, b.runs, b.covers)) in
        let same = tree_edge g s (inner e.cat b.parts) e d in
        let P : Spot → Type 0 = λ z. IsTaken c z in
        record {
          tree = inner e.cat b.parts;
          derives = d;
          takes = λ x i. elim (In-cons_cases i) [
            | inl is ↦ subst P (sym is) tt
            | inr j ↦ b.takes x (let Q : Edge → Type 0 = λ z. In x (parts_spots z 0 b.parts e.from) in subst Q same j)
          ];
        }

    build : {e : Edge} → Acc (Smaller g s ground) e → Kept g s e → Built e
    build {e} (acc step) k = let d = derivable_of e k in of_tree d.tree e k d.derives (λ m less k'. build (step m less) k')

pub some_is_picked : SomeIsPicked
some_is_picked g s c ground fill sel d whole =
    let b = build g s ground fill c sel (edges_end g s ground (edge g.root 0 (length s))) (root_kept g s d whole.some_token whole.derives) in
    (b.tree, record { whole = record { some_token = whole.some_token; derives = b.derives }; takes = b.takes })
