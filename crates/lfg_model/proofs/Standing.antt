-- What is kept stands in a whole derivation, and back.
use Rattle.std.proofs.Common.{◌≡◌, ℕ, ◌+◌, ◌≤◌, List, [], ◌∷◌, ap, refl, sym, ◌∙◌, subst, length, Some, inl, inr}
use Rattle.lfg_terms.specs.declared.node.Edge.{Edge}
use Rattle.lfg_terms.specs.declared.literal.Site.TheVariants as site
use Rattle.lfg_terms.specs.declared.grammar.Item.{Item}
use Rattle.lfg_terms.specs.declared.grammar.Rule.{Rule}
use Rattle.lfg_terms.specs.declared.grammar.Lex.{Lex}
use Rattle.lfg_terms.specs.declared.grammar.Grammar.{Grammar}
use Rattle.lfg_terms.specs.declared.tree.TokenForms.{TokenForms}
use Rattle.lfg_model.specs.declared.point.Next.TheVariants as next
use Rattle.lfg_model.specs.Lists.{In, here, later}
use Rattle.lfg_model.specs.Terms.{Name, annotation_of, Tree, leaf, inner, Parts, no_part, empty, daughter}
use Rattle.lfg_model.specs.Places.{places, PicksFit}
use Rattle.lfg_model.specs.Derive.{rule_of, item_at, CanFollow, Runs, occurrences, edge, Derives, Covers}
use Rattle.lfg_model.specs.Trees.{width, edge_of}
use Rattle.lfg_model.specs.Spots.{point, Spot, AnEdge, AStep, AWord, APick, spots_of, parts_spots, Stands}
use Rattle.lfg_model.specs.Kept.{Crosses, by_none, by_edge, Reaches, at_start, go_on, Ends, Kept, as_root, as_daughter, IsEntry, KeptSpot, an_edge, a_word, a_step, an_end, item_pick, entry_pick, IsFillable, KeptIsStanding}
use Rattle.lfg_model.proofs.ListLaws.{In-append_left, In-append_right, In-append_cases, In-cons_cases, In-one}
use Rattle.lfg_model.proofs.OneTree.{same_some}
use Rattle.lfg_model.proofs.Spans.{tree_end, tree_edge, derivable, crosses_empty, crosses_daughter, ends_of}
use Rattle.lfg_model.proofs.Building.{Rest, has_edge, front_none, front_edge, rest_of, full}

-- a tree of the edge that has all that another tree has
pub record Grafted (g : Grammar) (s : List TokenForms) (e : Edge) (new : Tree) (m : Edge) : Type 0 where
  pub tree : Tree
  pub derives : Derives g s tree e
  pub keeps : (x : Spot) → In x (spots_of new m.from) → In x (spots_of tree e.from)

pub record GraftedParts (g : Grammar) (s : List TokenForms) (rule : Rule) (old : Parts) (at end : ℕ) (new : Tree) (m : Edge) : Type 0 where
  pub parts : Parts
  pub same : occurrences parts ≡ occurrences old
  pub covers : Covers g s rule parts at end
  pub keeps : (e : Edge) (q : ℕ) (x : Spot) → In x (spots_of new m.from) → In x (parts_spots e q parts at)

-- a leaf of the edge by an entry
pub word_of : (g : Grammar) (s : List TokenForms) (cat : Name) (entry : ℕ) (picks : List ℕ) (e : Edge) → Derives g s (leaf cat entry picks) e → IsEntry g s e entry
word_of g s cat entry picks e h = record {
  lex = h.1.lex;
  listed = h.1.listed;
  category = h.1.category ∙ (λ i. (sym h.0 i).cat);
  token = h.1.token;
  read = h.1.read;
  offered = h.1.offered;
  one_token = (λ i. (h.0 i).to);
}

pub leaf_of : (g : Grammar) (s : List TokenForms) (e : Edge) (entry : ℕ) (lex : Lex) (picks : List ℕ) → (w : IsEntry g s e entry) → lex ≡ w.lex → PicksFit picks (places (annotation_of lex.schemata))
    → Derives g s (leaf e.cat entry picks) e
leaf_of g s e entry lex picks w same fits =
    let to = w.one_token in
    let P : Lex → Type 0 = λ x. PicksFit picks (places (annotation_of x.schemata)) in (
      (λ i. record { cat = e.cat; from = e.from; to = to i }),
      record { lex = w.lex; listed = w.listed; category = w.category; token = w.token; read = w.read; offered = w.offered; fits = subst P same fits },
    )

module _ (g : Grammar) (s : List TokenForms) where
  itself : (d : Tree) (e m : Edge) → Derives g s d e → AnEdge m ≡ AnEdge (edge_of d e.from) → (new : Tree) → Derives g s new m → Grafted g s e new m
  itself d e m h is new h' =
      let same : m ≡ e = (let p : m ≡ edge_of d e.from = cc in p ∙ tree_edge g s d e h) in
      record {
        tree = new;
        derives = (let P : Edge → Type 0 = λ z. Derives g s new z in subst P same h');
        keeps = λ x i. (let P : Edge → Type 0 = λ z. In x (spots_of new z.from) in subst P same i);
      }

  -- another tree in place of the one at an edge
  mutual
    pub graft : (d : Tree) (e m : Edge) → Derives g s d e → In (AnEdge m) (spots_of d e.from) → (new : Tree) → Derives g s new m → Grafted g s e new m
    graft (leaf cat entry picks) e m h i new h' = elim (In-cons_cases i) [
      | inl is ↦ itself (leaf cat entry picks) e m h is new h'
      | inr j ↦ elim (In-cons_cases j) [ inl never ↦ absurd (cc) | inr k ↦ let never = In-one k in absurd (cc) ]
    ]
    graft (inner cat parts) e m h i new h' = elim (In-cons_cases i) [
      | inl is ↦ itself (inner cat parts) e m h is new h'
      | inr j ↦ let p = graft_parts parts (edge_of (inner cat parts) e.from) h.1.0 0 e.from e.to m h.1.3 j new h' in
          record {
            tree = inner cat p.parts;
            derives = (h.0, (h.1.0, h.1.1, (let P : List ℕ → Type 0 = λ w. Runs h.1.0.graph 0 w in subst P (sym p.same) h.1.2), p.covers));
            keeps = λ x k. later (p.keeps (edge_of (inner cat p.parts) e.from) 0 x k);
          }
    ]

    pub graft_parts : (parts : Parts) (e : Edge) (rule : Rule) (q at end : ℕ) (m : Edge) → Covers g s rule parts at end → In (AnEdge m) (parts_spots e q parts at)
        → (new : Tree) → Derives g s new m → GraftedParts g s rule parts at end new m
    graft_parts no_part e rule q at end m h i new h' = let never = In-one i in absurd (cc)
    graft_parts (empty occ picks rest) e rule q at end m h i new h' = elim (In-cons_cases i) [
      | inl never ↦ absurd (cc)
      | inr j ↦ elim (In-cons_cases j) [
        | inl never ↦ absurd (cc)
        | inr k ↦ let p = graft_parts rest e rule occ at end m h.1 k new h' in
            record { parts = empty occ picks p.parts; same = ap (λ w. occ ∷ w) p.same; covers = (h.0, p.covers); keeps = λ e q x l. later (later (p.keeps e occ x l)) }
      ]
    ]
    graft_parts (daughter occ picks below rest) e rule q at end m h i new h' =
        let w : at + width below ≡ h.1 = tree_end g s below _ h.3 in
        elim (In-cons_cases i) [
          | inl never ↦ absurd (cc)
          | inr j ↦ elim (In-cons_cases j) [
            | inl never ↦ absurd (cc)
            | inr z ↦ elim (In-append_cases (spots_of below at) (parts_spots e occ rest (at + width below)) z) [
              | inl k ↦ let t = graft below _ m h.3 k new h' in
                  record {
                    parts = daughter occ picks t.tree rest;
                    same = refl;
                    covers = (h.0, h.1, h.2, t.derives, h.4);
                    keeps = λ e q x l. later (later (In-append_left _ (t.keeps x l)));
                  }
              | inr k ↦
                  let P : Spot → ℕ → Type 0 = λ y n. In y (parts_spots e occ rest n) in
                  let p = graft_parts rest e rule occ h.1 end m h.4 (subst (λ (n : ℕ). P (AnEdge m) n) w k) new h' in
                  record {
                    parts = daughter occ picks below p.parts;
                    same = ap (λ v. occ ∷ v) p.same;
                    covers = (h.0, h.1, h.2, h.3, p.covers);
                    keeps = λ e q x l. later (later (In-append_right (spots_of below at) (let Q : ℕ → Type 0 = λ n. In x (parts_spots e occ p.parts n) in subst Q (sym w) (p.keeps e occ x l))));
                  }
            ]
          ]
        ]

  -- in a tree with the edge, the edge's parts may be any others
  put_in : (e : Edge) (rule : Rule) (x : Spot) → Stands g s (AnEdge e) → rule_of g e.cat ≡ Some rule → (all : Rest g s rule 0 e.from e.to)
      → In x (parts_spots e 0 all.parts e.from) → Stands g s x
  put_in e rule x st is all has =
      let h : Derives g s (inner e.cat all.parts) e = (refl, (rule, is, all.runs, all.covers)) in
      let t = graft st.derivation (edge g.root 0 (length s)) e st.whole.derives st.has (inner e.cat all.parts) h in
      record {
        derivation = t.tree;
        whole = record { some_token = st.whole.some_token; derives = t.derives };
        has = t.keeps x (later (let P : Edge → Type 0 = λ z. In x (parts_spots z 0 all.parts e.from) in subst P (sym (tree_edge g s (inner e.cat all.parts) e h)) has));
      }

  -- and so from a place on that is reached
  through : IsFillable g → (e : Edge) (rule : Rule) (q at : ℕ) → Stands g s (AnEdge e) → rule_of g e.cat ≡ Some rule → Reaches g s rule e.from q at → (rest : Rest g s rule q at e.to)
      → (x : Spot) → In x (parts_spots e q rest.parts at) → Stands g s x
  through fill e rule q at st is reach rest x has =
      let f = full g s fill e.cat rule is e.from e.to q at reach rest in
      put_in e rule x st is f.all (f.keeps e x has)

  kept_edge : IsFillable g → (e : Edge) → Kept g s e → Stands g s (AnEdge e)
  kept_edge fill e' (as_root some d) = record { derivation = d.tree; whole = record { some_token = some; derives = d.derives }; has = has_edge g s d.tree _ d.derives }
  kept_edge fill e' (as_daughter {e = e} {q = q} {at = at} {mid = mid} rule p item cat k is reach follow h hc d ends) =
      let f = fill.items e.cat rule p item is h in
      let rest = rest_of g s fill e.cat rule is e.to p mid ends in
      let l = front_edge g s rule q at mid p e.to f.0 follow item cat h hc f.1 d rest in
      through fill e rule q at (kept_edge fill e k) is reach l.longer.more (AnEdge (edge cat at mid)) (l.edge e)

  -- a step over an item, and picks at it
  pub record StepStands (e : Edge) (q at p mid : ℕ) (picks : List ℕ) : Type 0 where
    pub step : Stands g s (AStep (point e q at) (next.Item p mid))
    pub pick : Stands g s (APick (site.Item e p at mid) picks)

  step_stands : IsFillable g → (e : Edge) (rule : Rule) (q at p mid : ℕ) → Kept g s e → rule_of g e.cat ≡ Some rule → Reaches g s rule e.from q at → CanFollow rule.graph q p
      → Crosses g s rule p at mid → Ends g s rule e.to p mid → (item : Item) → item_at rule.items p ≡ Some item
      → (picks : List ℕ) → PicksFit picks (places (annotation_of item.schemata)) → StepStands e q at p mid picks
  step_stands fill e rule q at p mid k is reach follow (by_none item' h none) ends item listed picks fits =
      let P : Item → Type 0 = λ z. PicksFit picks (places (annotation_of z.schemata)) in
      let fits' = subst P (same_some _ _ (sym listed ∙ h)) fits in
      let l = front_none g s rule q at p e.to picks follow item' h none fits' (rest_of g s fill e.cat rule is e.to p at ends) in
      record {
        step = through fill e rule q at (kept_edge fill e k) is reach l.more _ (l.step e);
        pick = through fill e rule q at (kept_edge fill e k) is reach l.more _ (l.pick e);
      }
  step_stands fill e rule q at p mid k is reach follow (by_edge item' cat h hc d) ends item listed picks fits =
      let P : Item → Type 0 = λ z. PicksFit picks (places (annotation_of z.schemata)) in
      let fits' = subst P (same_some _ _ (sym listed ∙ h)) fits in
      let l = front_edge g s rule q at mid p e.to picks follow item' cat h hc fits' d (rest_of g s fill e.cat rule is e.to p mid ends) in
      record {
        step = through fill e rule q at (kept_edge fill e k) is reach l.longer.more _ (l.longer.step e);
        pick = through fill e rule q at (kept_edge fill e k) is reach l.longer.more _ (l.longer.pick e);
      }

  -- a leaf of the edge in a whole derivation
  leaf_stands : (e : Edge) (k : ℕ) (picks : List ℕ) (x : Spot) → Stands g s (AnEdge e) → Derives g s (leaf e.cat k picks) e
      → In x (AWord e k ∷ APick (site.Entry e k) picks ∷ []) → Stands g s x
  leaf_stands e k picks x st h i =
      let t = graft st.derivation (edge g.root 0 (length s)) e st.whole.derives st.has (leaf e.cat k picks) h in
      let P : Edge → Type 0 = λ z. In x (AWord z k ∷ APick (site.Entry z k) picks ∷ []) in
      record {
        derivation = t.tree;
        whole = record { some_token = st.whole.some_token; derives = t.derives };
        has = t.keeps x (later (subst P (sym (tree_edge g s (leaf e.cat k picks) e h)) i));
      }

  -- the item that is crossed
  pub crossed : (rule : Rule) (p at mid : ℕ) → Crosses g s rule p at mid → (item : Item) × (item_at rule.items p ≡ Some item)
  crossed rule p at mid (by_none item h none) = (item, h)
  crossed rule p at mid (by_edge item cat h hc d) = (item, h)

  pub kept_stands : IsFillable g → (x : Spot) → KeptSpot g s x → Stands g s x
  kept_stands fill x (an_edge {e = e} k) = kept_edge fill e k
  kept_stands fill x (a_word {e = e} {k = n} k w) =
      let f = fill.entries n w.lex w.listed in
      leaf_stands e n f.0 _ (kept_edge fill e k) (leaf_of g s e n w.lex f.0 w refl f.1) here
  kept_stands fill x (a_step {e = e} {q = q} {at = at} {mid = mid} rule p k is reach follow crosses ends) =
      let c = crossed rule p at mid crosses in
      let f = fill.items e.cat rule p c.0 is c.1 in
      (step_stands fill e rule q at p mid k is reach follow crosses ends c.0 c.1 f.0 f.1).step
  kept_stands fill x (an_end {e = e} {q = q} rule k is reach end) =
      through fill e rule q e.to (kept_edge fill e k) is reach (record { parts = no_part; runs = end; covers = refl }) _ here
  kept_stands fill x (item_pick {e = e} {q = q} {at = at} {mid = mid} {picks = picks} rule p item k is reach follow crosses ends listed fits) =
      (step_stands fill e rule q at p mid k is reach follow crosses ends item listed picks fits).pick
  kept_stands fill x (entry_pick {e = e} {k = n} {picks = picks} lex k w listed fits) =
      leaf_stands e n picks _ (kept_edge fill e k) (leaf_of g s e n lex picks w (same_some _ _ (sym listed ∙ w.listed)) fits) (later here)

  mutual
    pub down : (d : Tree) (e : Edge) (x : Spot) → Kept g s e → Derives g s d e → In x (spots_of d e.from) → KeptSpot g s x
    down (leaf cat entry picks) e x k h i =
        let same = tree_edge g s (leaf cat entry picks) e h in
        let P : Spot → Type 0 = λ z. KeptSpot g s z in
        let w = word_of g s cat entry picks e h in
        elim (In-cons_cases i) [
          | inl is ↦ subst P (sym (is ∙ ap AnEdge same)) (an_edge k)
          | inr j ↦ elim (In-cons_cases j) [
            | inl is ↦ subst P (sym (is ∙ ap (λ z. AWord z entry) same)) (a_word k w)
            | inr l ↦ subst P (sym (In-one l ∙ ap (λ z. APick (site.Entry z entry) picks) same)) (entry_pick h.1.lex k w h.1.listed h.1.fits)
          ]
        ]
    down (inner cat parts) e x k h i =
        let same = tree_edge g s (inner cat parts) e h in
        elim (In-cons_cases i) [
          | inl is ↦ let P : Spot → Type 0 = λ z. KeptSpot g s z in subst P (sym (is ∙ ap AnEdge same)) (an_edge k)
          | inr j ↦ let rule : rule_of g e.cat ≡ Some h.1.0 = ap (rule_of g) h.0 ∙ h.1.1 in
              let P : Edge → Type 0 = λ z. In x (parts_spots z 0 parts e.from) in
              down_parts parts e h.1.0 0 e.from x k rule at_start h.1.2 h.1.3 (subst P same j)
        ]

    pub down_parts : (parts : Parts) (e : Edge) (rule : Rule) (q at : ℕ) (x : Spot) → Kept g s e → rule_of g e.cat ≡ Some rule → Reaches g s rule e.from q at
        → Runs rule.graph q (occurrences parts) → Covers g s rule parts at e.to → In x (parts_spots e q parts at) → KeptSpot g s x
    down_parts no_part e rule q at x k is reach run h i =
        let P : ℕ → Type 0 = λ n. KeptSpot g s (AStep (point e q n) next.End) in
        let Q : Spot → Type 0 = λ z. KeptSpot g s z in
        let R : ℕ → Type 0 = λ n. Reaches g s rule e.from q n in
        subst Q (sym (In-one i)) (subst P (sym h) (an_end rule k is (subst R h reach) run))
    down_parts (empty occ picks rest) e rule q at x k is reach run h i =
        let P : Spot → Type 0 = λ z. KeptSpot g s z in
        let crosses = crosses_empty g s rule occ at picks h.0 in
        let ends = ends_of g s rest rule occ at e.to run.1 h.1 in
        elim (In-cons_cases i) [
          | inl same ↦ subst P (sym same) (a_step rule occ k is reach run.0 crosses ends)
          | inr j ↦ elim (In-cons_cases j) [
            | inl same ↦ subst P (sym same) (item_pick rule occ h.0.item k is reach run.0 crosses ends h.0.listed h.0.fits)
            | inr l ↦ down_parts rest e rule occ at x k is (go_on occ reach run.0 crosses) run.1 h.1 l
          ]
        ]
    down_parts (daughter occ picks below rest) e rule q at x k is reach run h i =
        let w : at + width below ≡ h.1 = tree_end g s below _ h.3 in
        let m = edge h.0 at h.1 in
        let d = derivable g s below m h.3 in
        let crosses = crosses_daughter g s rule occ at h.1 h.0 picks below h.2 h.3 in
        let ends = ends_of g s rest rule occ h.1 e.to run.1 h.4 in
        let P : Spot → Type 0 = λ z. KeptSpot g s z in
        elim (In-cons_cases i) [
          | inl same ↦ subst P (sym (same ∙ ap (λ n. AStep (point e q at) (next.Item occ n)) w)) (a_step rule occ k is reach run.0 crosses ends)
          | inr j ↦ elim (In-cons_cases j) [
            | inl same ↦ subst P (sym (same ∙ ap (λ n. APick (site.Item e occ at n) picks) w)) (item_pick rule occ h.2.item k is reach run.0 crosses ends h.2.listed h.2.fits)
            | inr z ↦ elim (In-append_cases (spots_of below at) (parts_spots e occ rest (at + width below)) z) [
              | inl l ↦ down below m x (as_daughter rule occ h.2.item h.0 k is reach run.0 h.2.listed h.2.category d ends) h.3 l
              | inr l ↦ down_parts rest e rule occ h.1 x k is (go_on occ reach run.0 crosses) run.1 h.4
                  (let Q : ℕ → Type 0 = λ n. In x (parts_spots e occ rest n) in subst Q w l)
            ]
          ]
        ]

  pub root_kept : (d : Tree) → 1 ≤ length s → Derives g s d (edge g.root 0 (length s)) → Kept g s (edge g.root 0 (length s))
  root_kept d some h = as_root some (derivable g s d (edge g.root 0 (length s)) h)

  pub stands_kept : (x : Spot) → Stands g s x → KeptSpot g s x
  stands_kept x st = down st.derivation (edge g.root 0 (length s)) x (root_kept st.derivation st.whole.some_token st.whole.derives) st.whole.derives st.has

pub kept_is_standing : KeptIsStanding
kept_is_standing g s fill x = (kept_stands g s fill x, stands_kept g s x)
