-- A derivation has one thing at most at each place: one way to go on at a point, one entry at an
-- edge, and one list of picks at an item or entry.
use Rattle.std.proofs.Common.{◌≡◌, ℕ, ◌+◌, ◌<◌, Some, List, [], ◌∷◌, ◌++◌, refl, sym, ap, subst, ◌∙◌, arith, inl, inr, ◌⊎◌}
use Rattle.std.specs.List.{flat_map}
use Rattle.lfg_terms.specs.declared.node.Edge.{Edge}
use Rattle.lfg_terms.specs.declared.literal.Site.{Site}
use Rattle.lfg_terms.specs.declared.grammar.Rule.{Rule}
use Rattle.lfg_terms.specs.declared.grammar.Grammar.{Grammar}
use Rattle.lfg_terms.specs.declared.tree.TokenForms.{TokenForms}
use Rattle.lfg_model.specs.declared.point.Point.{Point}
use Rattle.lfg_model.specs.declared.point.Next.{Next}
use Rattle.lfg_model.specs.Brackets.{edges, parts_edges}
use Rattle.lfg_model.specs.Lists.{In, here, later, Once, none, more}
use Rattle.lfg_model.specs.Loaded.{Loaded}
use Rattle.lfg_model.specs.Derive.{rule_of, Runs, occurrences, Derives, Covers}
use Rattle.lfg_model.specs.Grounded.{Chain, link, links, EmptyStep, IsGrounded}
use Rattle.lfg_model.specs.Picked.{Mark, OfEdge, OfPoint}
use Rattle.lfg_model.specs.Spots.{point, Spot, AnEdge, AStep, AWord, APick, spots_of, parts_spots}
use Rattle.lfg_model.specs.Terms.{Tree, leaf, inner, Parts, no_part, empty, daughter}
use Rattle.lfg_model.specs.Trees.{width, edge_of}
use Rattle.lfg_model.proofs.EdgesOnce.{no_edge_twice, Once-append}
use Rattle.lfg_model.proofs.Grounding.{tree_grows}
use Rattle.lfg_model.proofs.ListLaws.{In-nil, In-one, In-cons_cases, In-append_cases, In-append_left, In-append_right, In-flat_map}
use Rattle.lfg_model.proofs.Spans.{empty_item, tree_end, tree_edge}
use Rattle.lfg_packed.specs.Picks.{spot_sites}
use Rattle.lfg_packed.proofs.Listing.{flat_append}
use Rattle.lfg_packed.proofs.SiteLaws.{no_site_twice}

-- the parts of a list that stands once
record Halves {X : Type 0} (xs ys : List X) : Type 0 where
  front : Once xs
  back : Once ys
  apart : (x : X) → In x xs → In x ys → ⊥

halves : {X : Type 0} (xs ys : List X) → Once (xs ++ ys) → Halves xs ys
halves [] ys o = record { front = none; back = o; apart = λ x i j. In-nil i }
halves {X} (x ∷ xs) ys (more n o) =
    let r = halves xs ys o in
    record {
      front = more (λ i. n (In-append_left ys i)) r.front;
      back = r.back;
      apart = λ z i j. elim (In-cons_cases i) [ inl e ↦ n (let P : X → Type 0 = λ w. In w (xs ++ ys) in subst P e (In-append_right xs j)) | inr k ↦ r.apart z k j ];
    }

-- what is listed once is listed at one element
one_from : {X Y : Type 0} (f : X → List Y) (xs : List X) (x y : X) (k : Y) → Once (flat_map f xs) → In x xs → In y xs → In k (f x) → In k (f y) → x ≡ y
one_from f [] x y k o i j a b = In-nil i
one_from {X} f (z ∷ xs) x y k o i j a b =
    let r = halves (f z) (flat_map f xs) o in
    let P : X → Type 0 = λ w. In k (f w) in
    elim (In-cons_cases i) [
      | inl first ↦ elim (In-cons_cases j) [
        | inl second ↦ first ∙ sym second
        | inr below ↦ absurd (r.apart k (subst P first a) (In-flat_map f below b))
      ]
      | inr under ↦ elim (In-cons_cases j) [
        | inl second ↦ absurd (r.apart k (subst P second b) (In-flat_map f under a))
        | inr below ↦ one_from f xs x y k r.back under below a b
      ]
    ]

-- the point of a step, and the edge of an entry
abbrev pub spot_marks : Spot → List Mark
spot_marks (AnEdge e) = []
spot_marks (AStep p n) = OfPoint p ∷ []
spot_marks (AWord e k) = OfEdge e ∷ []
spot_marks (APick at picks) = []

abbrev pub marks_in : List Spot → List Mark
marks_in xs = flat_map spot_marks xs

abbrev edge_at : Mark → Edge
edge_at (OfEdge e) = e
edge_at (OfPoint p) = p.edge

-- each is at one of the tree's edges
mutual
  tree_mark : (d : Tree) (from : ℕ) (x : Mark) → In x (marks_in (spots_of d from)) → In (edge_at x) (edges d from)
  tree_mark (leaf cat entry picks) from x i = let P : Mark → Type 0 = λ z. In (edge_at z) (edges (leaf cat entry picks) from) in subst P (sym (In-one i)) here
  tree_mark (inner cat parts) from x i = elim (part_mark parts (edge_of (inner cat parts) from) 0 from x i) [
    | inl own ↦ (let P : Edge → Type 0 = λ z. In z (edges (inner cat parts) from) in subst P (sym own) here)
    | inr below ↦ later below
  ]

  part_mark : (parts : Parts) (e : Edge) (q at : ℕ) (x : Mark) → In x (marks_in (parts_spots e q parts at)) → (edge_at x ≡ e) ⊎ In (edge_at x) (parts_edges parts at)
  part_mark no_part e q at x i = inl (ap edge_at (In-one i))
  part_mark (empty occ picks rest) e q at x i = elim (In-cons_cases i) [
    | inl same ↦ inl (ap edge_at same)
    | inr j ↦ part_mark rest e occ at x j
  ]
  part_mark (daughter occ picks below rest) e q at x i = elim (In-cons_cases i) [
    | inl same ↦ inl (ap edge_at same)
    | inr j ↦ (let P : List Mark → Type 0 = λ zs. In x zs in
        let k = subst P (flat_append spot_marks (spots_of below at) (parts_spots e occ rest (at + width below))) j in
        elim (In-append_cases (marks_in (spots_of below at)) (marks_in (parts_spots e occ rest (at + width below))) k) [
          | inl l ↦ inr (In-append_left (parts_edges rest (at + width below)) (tree_mark below at x l))
          | inr r ↦ elim (part_mark rest e occ (at + width below) x r) [ inl own ↦ inl own | inr m ↦ inr (In-append_right (edges below at) m) ]
        ])
  ]

module _ (g : Grammar) (s : List TokenForms) (ground : IsGrounded g) where
  -- the item itself, or one that is reached from it over empty items
  abbrev Behind : Rule → ℕ → ℕ → Type 0
  Behind rule q o = (o ≡ q) ⊎ Chain (EmptyStep rule) o q

  -- a point of the parts is further on, or at their start and behind the item read last
  abbrev IsOwn : Rule → Edge → ℕ → ℕ → Mark → Type 0
  IsOwn rule e q at (OfPoint p) = (p.edge ≡ e) × ((at < p.at) ⊎ ((p.at ≡ at) × Behind rule q p.occ))
  IsOwn rule e q at (OfEdge m) = ⊥

  step_back : (rule : Rule) (e : Edge) (q p at : ℕ) (x : Mark) → EmptyStep rule p q → IsOwn rule e p at x → IsOwn rule e q at x
  step_back rule e q p at (OfPoint x) step own =
      let P : ℕ → Type 0 = λ z. EmptyStep rule z q in (
        own.0,
        elim own.1 [
          | inl far ↦ inl far
          | inr near ↦ inr (near.0, elim near.1 [ inl same ↦ inr (link (subst P (sym same) step)) | inr chain ↦ inr (links step chain) ])
        ],
      )
  step_back rule e q p at (OfEdge m) step own = absurd own

  further : (rule : Rule) (e : Edge) (q p at to : ℕ) (x : Mark) → at < to → IsOwn rule e p to x → IsOwn rule e q at x
  further rule e q p at to (OfPoint x) less own = (own.0, inl (elim own.1 [ inl far ↦ (omega arith) | inr near ↦ (let n = near.0 in omega arith) ]))
  further rule e q p at to (OfEdge m) less own = absurd own

  own_mark : (parts : Parts) (e : Edge) (rule : Rule) (q at to : ℕ) (x : Mark) → Covers g s rule parts at to → Runs rule.graph q (occurrences parts)
      → In x (marks_in (parts_spots e q parts at)) → IsOwn rule e q at x ⊎ In (edge_at x) (parts_edges parts at)
  own_mark no_part e rule q at to x h run i =
      let P : Mark → Type 0 = λ z. IsOwn rule e q at z in
      inl (subst P (sym (In-one i)) (refl, inr (refl, inl refl)))
  own_mark (empty occ picks rest) e rule q at to x h run i =
      let step : EmptyStep rule occ q = (run.0, empty_item rule occ picks h.0) in
      let P : Mark → Type 0 = λ z. IsOwn rule e q at z in
      elim (In-cons_cases i) [
        | inl same ↦ inl (subst P (sym same) (refl, inr (refl, inl refl)))
        | inr j ↦ elim (own_mark rest e rule occ at to x h.1 run.1 j) [ inl own ↦ inl (step_back rule e q occ at x step own) | inr below ↦ inr below ]
      ]
  own_mark (daughter occ picks below rest) e rule q at to x h run i =
      let w : at + width below ≡ h.1 = tree_end g s below _ h.3 in
      let grows : at < h.1 = tree_grows g s ground below _ h.3 in
      let C : ℕ → Type 0 = λ n. Covers g s rule rest n to in
      let P : Mark → Type 0 = λ z. IsOwn rule e q at z in
      elim (In-cons_cases i) [
        | inl same ↦ inl (subst P (sym same) (refl, inr (refl, inl refl)))
        | inr j ↦ (let Q : List Mark → Type 0 = λ zs. In x zs in
            let k = subst Q (flat_append spot_marks (spots_of below at) (parts_spots e occ rest (at + width below))) j in
            elim (In-append_cases (marks_in (spots_of below at)) (marks_in (parts_spots e occ rest (at + width below))) k) [
              | inl l ↦ inr (In-append_left (parts_edges rest (at + width below)) (tree_mark below at x l))
              | inr r ↦ elim (own_mark rest e rule occ (at + width below) to x (subst C (sym w) h.4) run.1 r) [
                | inl own ↦ inl (further rule e q occ at (at + width below) x (rw w grows) own)
                | inr m ↦ inr (In-append_right (edges below at) m)
              ]
            ])
      ]

  -- behind an empty item the point before it does not come again
  not_again : (e : Edge) (rule : Rule) (q occ at : ℕ) → rule_of g e.cat ≡ Some rule → EmptyStep rule occ q → IsOwn rule e occ at (OfPoint (point e q at)) → ⊥
  not_again e rule q occ at is step own =
      let P : ℕ → Type 0 = λ z. EmptyStep rule z q in
      elim own.1 [
        | inl far ↦ (omega arith)
        | inr near ↦ elim near.1 [
          | inl same ↦ ground.empties e.cat rule q is (link (subst P (sym same) step))
          | inr chain ↦ ground.empties e.cat rule q is (links step chain)
        ]
      ]

  mutual
    once_tree : (d : Tree) (e : Edge) → Derives g s d e → Once (edges d e.from) → Once (marks_in (spots_of d e.from))
    once_tree (leaf cat entry picks) e h o = more (λ i. In-nil i) none
    once_tree (inner cat parts) e h (more n o) =
        let own : rule_of g e.cat ≡ Some h.1.0 = ap (rule_of g) h.0 ∙ h.1.1 in
        let same = tree_edge g s (inner cat parts) e h in
        let P : Edge → Type 0 = λ z. In z (parts_edges parts e.from) → ⊥ in
        let Q : Edge → Type 0 = λ z. Once (marks_in (parts_spots z 0 parts e.from)) in
        subst Q (sym same) (once_parts parts e h.1.0 0 e.from own h.1.3 h.1.2 o (subst P same n))

    once_parts : (parts : Parts) (e : Edge) (rule : Rule) (q at : ℕ) → rule_of g e.cat ≡ Some rule → Covers g s rule parts at e.to → Runs rule.graph q (occurrences parts)
        → Once (parts_edges parts at) → (In e (parts_edges parts at) → ⊥) → Once (marks_in (parts_spots e q parts at))
    once_parts no_part e rule q at is h run o away = more (λ i. In-nil i) none
    once_parts (empty occ picks rest) e rule q at is h run o away =
        more (λ i. elim (own_mark rest e rule occ at e.to (OfPoint (point e q at)) h.1 run.1 i) [
          | inl own ↦ not_again e rule q occ at is (run.0, empty_item rule occ picks h.0) own
          | inr below ↦ away below
        ]) (once_parts rest e rule occ at is h.1 run.1 o away)
    once_parts (daughter occ picks below rest) e rule q at is h run o away =
        let w : at + width below ≡ h.1 = tree_end g s below _ h.3 in
        let grows : at < h.1 = tree_grows g s ground below _ h.3 in
        let C : ℕ → Type 0 = λ n. Covers g s rule rest n e.to in
        let covers : Covers g s rule rest (at + width below) e.to = subst C (sym w) h.4 in
        let to = at + width below in
        let both = halves (edges below at) (parts_edges rest to) o in
        let front = once_tree below _ h.3 both.front in
        let back = once_parts rest e rule occ to is covers run.1 both.back (λ i. away (In-append_right (edges below at) i)) in
        let P : List Mark → Type 0 = λ zs. Once zs in
        let flat = flat_append spot_marks (spots_of below at) (parts_spots e occ rest to) in
        let joined : Once (marks_in (spots_of below at) ++ marks_in (parts_spots e occ rest to)) =
        Once-append (marks_in (spots_of below at)) (marks_in (parts_spots e occ rest to)) front back
        (λ x i j. elim (part_mark rest e occ to x j) [
          | inl own ↦ away (In-append_left (parts_edges rest to) (let E : Edge → Type 0 = λ z. In z (edges below at) in subst E own (tree_mark below at x i)))
          | inr m ↦ both.apart (edge_at x) (tree_mark below at x i) m
        ]) in
        let Q : List Mark → Type 0 = λ zs. In (OfPoint (point e q at)) zs in
        more (λ i. elim (In-append_cases (marks_in (spots_of below at)) (marks_in (parts_spots e occ rest to)) (subst Q flat i)) [
          | inl l ↦ away (In-append_left (parts_edges rest to) (tree_mark below at (OfPoint (point e q at)) l))
          | inr r ↦ elim (own_mark rest e rule occ to e.to (OfPoint (point e q at)) covers run.1 r) [
            | inl own ↦ elim own.1 [ inl far ↦ (omega (arith, w, grows)) | inr near ↦ (let n = near.0 in omega (arith, w, grows, n)) ]
            | inr m ↦ away (In-append_right (edges below at) m)
          ]
        ]) (subst P (sym flat) joined)

module _ (g : Grammar) (s : List TokenForms) (loaded : Loaded g) (d : Tree) (e : Edge) (h : Derives g s d e) where
  once : Once (marks_in (spots_of d e.from))
  once = once_tree g s loaded.grounded d e h (no_edge_twice g s loaded.grounded d e h)

  pub one_step : (p : Point) (m n : Next) → In (AStep p m) (spots_of d e.from) → In (AStep p n) (spots_of d e.from) → m ≡ n
  one_step p m n i j = let same = one_from spot_marks (spots_of d e.from) (AStep p m) (AStep p n) (OfPoint p) once i j here here in cc

  pub one_word : (x : Edge) (m n : ℕ) → In (AWord x m) (spots_of d e.from) → In (AWord x n) (spots_of d e.from) → m ≡ n
  one_word x m n i j = let same = one_from spot_marks (spots_of d e.from) (AWord x m) (AWord x n) (OfEdge x) once i j here here in cc

  pub one_pick : (at : Site) (m n : List ℕ) → In (APick at m) (spots_of d e.from) → In (APick at n) (spots_of d e.from) → m ≡ n
  one_pick at m n i j = let same = one_from spot_sites (spots_of d e.from) (APick at m) (APick at n) at (no_site_twice g s d e loaded h) i j here here in cc
