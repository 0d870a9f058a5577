-- The picked derivation has just what the selection reaches.
use Rattle.std.proofs.Common.{◌≡◌, ℕ, ◌+◌, List, ap, sym, ◌∙◌, subst, length, Some, None, inl, inr}
use Rattle.lfg_terms.specs.declared.node.Edge.{Edge}
use Rattle.lfg_terms.specs.declared.literal.Site.{Site}
use Rattle.lfg_terms.specs.declared.literal.Site.TheVariants as site
use Rattle.lfg_terms.specs.declared.grammar.Item.{Item}
use Rattle.lfg_terms.specs.declared.grammar.Rule.{Rule}
use Rattle.lfg_terms.specs.declared.grammar.Grammar.{Grammar}
use Rattle.lfg_terms.specs.declared.tree.TokenForms.{TokenForms}
use Rattle.lfg_model.specs.declared.point.Point.{Point}
use Rattle.lfg_model.specs.declared.point.Next.{Next}
use Rattle.lfg_model.specs.declared.point.Next.TheVariants as next
use Rattle.lfg_model.specs.Lists.{In, here, later}
use Rattle.lfg_model.specs.Terms.{Name, Tree, leaf, inner, Parts, no_part, empty, daughter}
use Rattle.lfg_model.specs.Derive.{rule_of, item_at, edge, Derives, Covers}
use Rattle.lfg_model.specs.Trees.{width, edge_of}
use Rattle.lfg_model.specs.Grounded.{IsItemOf}
use Rattle.lfg_model.specs.Spots.{point, Spot, AnEdge, AStep, AWord, APick, spots_of, parts_spots}
use Rattle.lfg_model.specs.Kept.{IsEntry}
use Rattle.lfg_model.specs.Picked.{Selection, IsTaken, IsPicked, Mark, OfEdge, OfPoint, Reached, the_root, starts, goes, enters, IsOver, IsWordOf, IsReached, IsApart, PickedIsReached}
use Rattle.lfg_model.proofs.ListLaws.{In-append_left, In-append_right, In-append_cases, In-cons_cases, In-one}
use Rattle.lfg_model.proofs.OneTree.{same_some}
use Rattle.lfg_model.proofs.Spans.{item_of, tree_end, tree_edge, derivable}
use Rattle.lfg_model.proofs.Building.{has_edge}
use Rattle.lfg_model.proofs.Standing.{word_of}
use Rattle.lfg_model.proofs.OnePick.{same_item}

-- the part of a list of spots that a derivation of an edge gives
pub record Within (g : Grammar) (s : List TokenForms) (m : Edge) (xs : List Spot) : Type 0 where
  pub tree : Tree
  pub derives : Derives g s tree m
  pub within : (x : Spot) → In x (spots_of tree m.from) → In x xs

-- the part that the parts behind a point give
pub record Tail (g : Grammar) (s : List TokenForms) (p : Point) (xs : List Spot) : Type 0 where
  pub parts : Parts
  pub rule : Rule
  pub is : rule_of g p.edge.cat ≡ Some rule
  pub covers : Covers g s rule parts p.at p.edge.to
  pub within : (x : Spot) → In x (parts_spots p.edge p.occ parts p.at) → In x xs

abbrev pub Has : Grammar → List TokenForms → List Spot → Mark → Type 0
Has g s xs (OfEdge e) = Within g s e xs
Has g s xs (OfPoint p) = Tail g s p xs

module _ (g : Grammar) (s : List TokenForms) (c : Selection) (apart : IsApart g) where
  -- what follows a point whose selected step goes over an item
  pub record Followed (e : Edge) (occ at mid : ℕ) (xs : List Spot) : Type 0 where
    pub tail : Tail g s (point e occ mid) xs
    pub daughter : (rule : Rule) (cat : Name) → rule_of g e.cat ≡ Some rule → IsItemOf rule occ cat → Within g s (edge cat at mid) xs
    pub pick : In (APick (site.Item e occ at mid) (c.picks_of (site.Item e occ at mid))) xs

  moved : (e : Edge) (o k n m : ℕ) (xs : List Spot) → o ≡ k → n ≡ m → Tail g s (point e o n) xs → Tail g s (point e k m) xs
  moved e o k n m xs eo en t =
      let P : ℕ → ℕ → Type 0 = λ x y. Tail g s (point e x y) xs in
      subst (λ (x : ℕ). P x m) eo (subst (λ (y : ℕ). P o y) en t)

  -- what is reached stands in the picked derivation
  module _ (d : Tree) (picked : IsPicked g s c d) where
    abbrev Stood : Spot → Type 0
    Stood x = In x (spots_of d 0)

    pick_there : (e : Edge) (occ o at n mid : ℕ) (picks : List ℕ) → occ ≡ o → n ≡ mid → Stood (APick (site.Item e occ at n) picks)
        → Stood (APick (site.Item e o at mid) (c.picks_of (site.Item e o at mid)))
    pick_there e occ o at n mid picks eo en i =
        let t = picked.takes _ i in
        let P : List ℕ → Type 0 = λ ps. Stood (APick (site.Item e occ at n) ps) in
        let Q : Site → Type 0 = λ z. Stood (APick z (c.picks_of z)) in
        subst Q (λ j. site.Item e (eo j) at (en j)) (subst P t i)

    next_step : (parts : Parts) (e : Edge) (rule : Rule) (q at occ mid : ℕ) → rule_of g e.cat ≡ Some rule → Covers g s rule parts at e.to
        → ((x : Spot) → In x (parts_spots e q parts at) → Stood x) → c.next_of (point e q at) ≡ next.Item occ mid → Followed e occ at mid (spots_of d 0)
    next_step no_part e rule q at occ mid is h within n = let t : next.End ≡ next.Item occ mid = picked.takes _ (within _ here) ∙ n in absurd (cc)
    next_step (empty o picks rest) e rule q at occ mid is h within n =
        let t : next.Item o at ≡ next.Item occ mid = picked.takes _ (within _ here) ∙ n in
        let f = same_item o occ at mid t in
        record {
          tail = moved e o occ at mid (spots_of d 0) f.0 f.1 (record { parts = rest; rule = rule; is = is; covers = h.1; within = λ x i. within x (later (later i)) });
          daughter = λ rule' cat is' there.
              (let same : rule ≡ rule' = same_some _ _ (sym is ∙ is') in
              let there' : item_at rule.items o ≡ Some there.0 = rw (same, f.0) there.1 in
              let i : h.0.item ≡ there.0 = same_some _ _ (sym h.0.listed ∙ there') in
              let never : None ≡ Some cat = sym h.0.category ∙ ap (λ (z : Item). z.cat) i ∙ there.2 in absurd (cc));
          pick = pick_there e o occ at at mid picks f.0 f.1 (within _ (later here));
        }
    next_step (daughter o picks below rest) e rule q at occ mid is h within n =
        let t : next.Item o (at + width below) ≡ next.Item occ mid = picked.takes _ (within _ here) ∙ n in
        let f = same_item o occ (at + width below) mid t in
        let w : at + width below ≡ h.1 = tree_end g s below _ h.3 in
        let covers : Covers g s rule rest (at + width below) e.to = (let P : ℕ → Type 0 = λ z. Covers g s rule rest z e.to in subst P (sym w) h.4) in
        record {
          tail = moved e o occ (at + width below) mid (spots_of d 0) f.0 f.1
              (record { parts = rest; rule = rule; is = is; covers = covers; within = λ x i. within x (later (later (In-append_right (spots_of below at) i))) });
          daughter = λ rule' cat is' there.
              (let same : rule ≡ rule' = same_some _ _ (sym is ∙ is') in
              let there' : item_at rule.items o ≡ Some there.0 = rw (same, f.0) there.1 in
              let i : h.2.item ≡ there.0 = same_some _ _ (sym h.2.listed ∙ there') in
              let same_cat : h.0 ≡ cat = same_some _ _ (sym h.2.category ∙ ap (λ (z : Item). z.cat) i ∙ there.2) in
              let same_end : h.1 ≡ mid = sym w ∙ f.1 in
              let P : Edge → Type 0 = λ z. Derives g s below z in
              record {
                tree = below;
                derives = subst P (λ j. edge (same_cat j) at (same_end j)) h.3;
                within = λ x i. within x (later (later (In-append_left _ i)));
              });
          pick = pick_there e o occ at (at + width below) mid picks f.0 f.1 (within _ (later here));
        }

    first_point : (t : Tree) (e : Edge) (rule : Rule) → rule_of g e.cat ≡ Some rule → Derives g s t e → ((x : Spot) → In x (spots_of t e.from) → Stood x) → Tail g s (point e 0 e.from) (spots_of d 0)
    first_point (leaf cat k picks) e rule is h within = let w = word_of g s cat k picks e h in absurd (apart e.cat rule k w.lex is w.listed w.category)
    first_point (inner cat parts) e rule is h within =
        let same = tree_edge g s (inner cat parts) e h in
        let own : rule_of g e.cat ≡ Some h.1.0 = ap (rule_of g) h.0 ∙ h.1.1 in
        record {
          parts = parts;
          rule = h.1.0;
          is = own;
          covers = h.1.3;
          within = λ x i. within x (later (let P : Edge → Type 0 = λ z. In x (parts_spots z 0 parts e.from) in subst P (sym same) i));
        }

    has : (m : Mark) → Reached g s c m → Has g s (spots_of d 0) m
    has m (the_root some h) = record { tree = d; derives = picked.whole.derives; within = λ x i. i }
    has m (starts {e = e} {rule = rule} reach is) = let p = has (OfEdge e) reach in first_point p.tree e rule is p.derives p.within
    has m (goes {e = e} {q = q} {at = at} {p = p} {mid = mid} reach is) =
        let t = has (OfPoint (point e q at)) reach in (next_step t.parts e t.rule q at p mid t.is t.covers t.within is).tail
    has m (enters {e = e} {q = q} {at = at} {p = p} {mid = mid} {rule = rule} {cat = cat} reach is own item) =
        let t = has (OfPoint (point e q at)) reach in (next_step t.parts e t.rule q at p mid t.is t.covers t.within is).daughter rule cat own item

    first_taken : (parts : Parts) (e : Edge) (q at : ℕ) → ((x : Spot) → In x (parts_spots e q parts at) → Stood x) → Stood (AStep (point e q at) (c.next_of (point e q at)))
    first_taken no_part e q at within = let P : Next → Type 0 = λ n. Stood (AStep (point e q at) n) in let i = within _ here in subst P (picked.takes _ i) i
    first_taken (empty occ picks rest) e q at within = let P : Next → Type 0 = λ n. Stood (AStep (point e q at) n) in let i = within _ here in subst P (picked.takes _ i) i
    first_taken (daughter occ picks below rest) e q at within = let P : Next → Type 0 = λ n. Stood (AStep (point e q at) n) in let i = within _ here in subst P (picked.takes _ i) i

    -- the entry of a reached lexical edge, and its picks
    word_taken : (t : Tree) (e : Edge) (k : ℕ) → IsEntry g s e k → k ≡ c.entry_of e → Derives g s t e → ((x : Spot) → In x (spots_of t e.from) → Stood x)
        → Stood (AWord e k) × Stood (APick (site.Entry e k) (c.picks_of (site.Entry e k)))
    word_taken (inner cat parts) e k w is h within =
        let own : rule_of g e.cat ≡ Some h.1.0 = ap (rule_of g) h.0 ∙ h.1.1 in absurd (apart e.cat h.1.0 k w.lex own w.listed w.category)
    word_taken (leaf cat entry picks) e k w is h within =
        let same = tree_edge g s (leaf cat entry picks) e h in
        let i = within _ (later here) in
        let j = within _ (later (later here)) in
        let to_entry : entry ≡ k = picked.takes _ i ∙ ap c.entry_of same ∙ sym is in
        let P : Edge → ℕ → Type 0 = λ z n. Stood (AWord z n) in
        let Q : Site → List ℕ → Type 0 = λ z ps. Stood (APick z ps) in
        let R : Site → Type 0 = λ z. Stood (APick z (c.picks_of z)) in
        let own = edge_of (leaf cat entry picks) e.from in (
          subst (λ (n : ℕ). P e n) to_entry (subst (λ (z : Edge). P z entry) same i),
          subst R (λ l. site.Entry (same l) (to_entry l)) (subst (λ (ps : List ℕ). Q (site.Entry own entry) ps) (picked.takes _ j) j),
        )

    pub reached_stands : (x : Spot) → IsReached g s c x → Stood x
    reached_stands (AnEdge e) r = let p = has (OfEdge e) r in p.within (AnEdge e) (has_edge g s p.tree e p.derives)
    reached_stands (AStep p n) r =
        let t = has (OfPoint p) r.0 in
        let P : Next → Type 0 = λ m. Stood (AStep p m) in
        subst P (sym r.1) (first_taken t.parts p.edge p.occ p.at t.within)
    reached_stands (AWord e k) r = let p = has (OfEdge e) r.reached in (word_taken p.tree e k r.fits r.selected p.derives p.within).0
    reached_stands (APick (site.Item e occ at to) picks) r =
        let t = has (OfPoint (point e r.0.behind at)) r.0.reached in
        let P : List ℕ → Type 0 = λ ps. Stood (APick (site.Item e occ at to) ps) in
        subst P (sym r.1) (next_step t.parts e t.rule r.0.behind at occ to t.is t.covers t.within r.0.goes_over).pick
    reached_stands (APick (site.Entry e k) picks) r =
        let p = has (OfEdge e) r.0.reached in
        let P : List ℕ → Type 0 = λ ps. Stood (APick (site.Entry e k) ps) in
        subst P (sym r.1) (word_taken p.tree e k r.0.fits r.0.selected p.derives p.within).1

  -- what stands in a derivation that takes what is selected is reached
  mutual
    pub down : (d : Tree) (e : Edge) (x : Spot) → Reached g s c (OfEdge e) → Derives g s d e → ((y : Spot) → In y (spots_of d e.from) → IsTaken c y) → In x (spots_of d e.from) → IsReached g s c x
    down (leaf cat entry picks) e x k h takes i =
        let same = tree_edge g s (leaf cat entry picks) e h in
        let P : Spot → Type 0 = λ z. IsReached g s c z in
        let own = edge_of (leaf cat entry picks) e.from in
        let word : IsWordOf g s c e entry = record { reached = k; fits = word_of g s cat entry picks e h; selected = takes (AWord own entry) (later here) ∙ ap c.entry_of same } in
        elim (In-cons_cases i) [
          | inl is ↦ subst P (sym (is ∙ ap AnEdge same)) k
          | inr j ↦ elim (In-cons_cases j) [
            | inl is ↦ subst P (sym (is ∙ ap (λ z. AWord z entry) same)) word
            | inr l ↦ subst P (sym (In-one l ∙ ap (λ z. APick (site.Entry z entry) picks) same))
                (word, takes (APick (site.Entry own entry) picks) (later (later here)) ∙ ap (λ z. c.picks_of (site.Entry z entry)) same)
          ]
        ]
    down (inner cat parts) e x k h takes i =
        let same = tree_edge g s (inner cat parts) e h in
        let P : Spot → Type 0 = λ z. IsReached g s c z in
        let rule : rule_of g e.cat ≡ Some h.1.0 = ap (rule_of g) h.0 ∙ h.1.1 in
        let Q : Spot → Edge → Type 0 = λ y z. In y (parts_spots z 0 parts e.from) in
        elim (In-cons_cases i) [
          | inl is ↦ subst P (sym (is ∙ ap AnEdge same)) k
          | inr j ↦ down_parts parts e h.1.0 0 e.from x (starts k rule) rule h.1.3 (λ y l. takes y (later (subst (λ (z : Edge). Q y z) (sym same) l))) (subst (λ (z : Edge). Q x z) same j)
        ]

    pub down_parts : (parts : Parts) (e : Edge) (rule : Rule) (q at : ℕ) (x : Spot) → Reached g s c (OfPoint (point e q at)) → rule_of g e.cat ≡ Some rule
        → Covers g s rule parts at e.to → ((y : Spot) → In y (parts_spots e q parts at) → IsTaken c y) → In x (parts_spots e q parts at) → IsReached g s c x
    down_parts no_part e rule q at x k is h takes i =
        let P : Spot → Type 0 = λ z. IsReached g s c z in
        let t : next.End ≡ c.next_of (point e q at) = takes _ here in
        subst P (sym (In-one i)) (k, t)
    down_parts (empty occ picks rest) e rule q at x k is h takes i =
        let P : Spot → Type 0 = λ z. IsReached g s c z in
        let t : next.Item occ at ≡ c.next_of (point e q at) = takes _ here in
        let u : picks ≡ c.picks_of (site.Item e occ at at) = takes _ (later here) in
        let over : IsOver g s c e occ at at = record { behind = q; reached = k; goes_over = sym t } in
        elim (In-cons_cases i) [
          | inl same ↦ subst P (sym same) (k, t)
          | inr j ↦ elim (In-cons_cases j) [
            | inl same ↦ subst P (sym same) (over, u)
            | inr l ↦ down_parts rest e rule occ at x (goes k (sym t)) is h.1 (λ y z. takes y (later (later z))) l
          ]
        ]
    down_parts (daughter occ picks below rest) e rule q at x k is h takes i =
        let P : Spot → Type 0 = λ z. IsReached g s c z in
        let w : at + width below ≡ h.1 = tree_end g s below _ h.3 in
        let t : next.Item occ (at + width below) ≡ c.next_of (point e q at) = takes _ here in
        let u : picks ≡ c.picks_of (site.Item e occ at (at + width below)) = takes _ (later here) in
        let over : IsOver g s c e occ at (at + width below) = record { behind = q; reached = k; goes_over = sym t } in
        let t' : c.next_of (point e q at) ≡ next.Item occ h.1 = sym t ∙ ap (λ n. next.Item occ n) w in
        let Q : Spot → ℕ → Type 0 = λ y n. In y (parts_spots e occ rest n) in
        elim (In-cons_cases i) [
          | inl same ↦ subst P (sym same) (k, t)
          | inr j ↦ elim (In-cons_cases j) [
            | inl same ↦ subst P (sym same) (over, u)
            | inr v ↦ elim (In-append_cases (spots_of below at) (parts_spots e occ rest (at + width below)) v) [
              | inl l ↦ down below (edge h.0 at h.1) x (enters k t' is (item_of rule occ h.0 picks h.2)) h.3 (λ y z. takes y (later (later (In-append_left _ z)))) l
              | inr l ↦ down_parts rest e rule occ h.1 x (goes k t') is h.4 (λ y z. takes y (later (later (In-append_right (spots_of below at) (subst (λ (n : ℕ). Q y n) (sym w) z))))) (subst (λ (n : ℕ). Q x n) w l)
            ]
          ]
        ]

pub picked_is_reached : PickedIsReached
picked_is_reached g s c d apart picked x =
    let root = edge g.root 0 (length s) in
    let top : Reached g s c (OfEdge root) = the_root picked.whole.some_token (derivable g s d root picked.whole.derives) in
    (λ i. down g s c apart d root x top picked.whole.derives picked.takes i, reached_stands g s c apart d picked x)
