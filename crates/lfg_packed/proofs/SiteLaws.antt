-- No derivation has an item or an entry twice, and its literals are those of its items and entries.
use Rattle.std.proofs.Common.{◌≡◌, ◌↔◌, ℕ, ◌+◌, ◌<◌, Option, Some, None, List, [], ◌∷◌, ◌++◌, refl, sym, ap, subst, ◌∙◌, arith, inl, inr, ◌⊎◌}
use Rattle.std.specs.List.{flat_map}
use Rattle.std.specs.List.Sorted.{IsPermutation}
use Rattle.std.proofs.lemmas.Option.{same_Some}
use Rattle.lfg_terms.specs.declared.node.Edge.{Edge}
use Rattle.lfg_terms.specs.declared.literal.Site.{Site}
use Rattle.lfg_terms.specs.declared.literal.Site.TheVariants as site
use Rattle.lfg_terms.specs.declared.literal.Literal.{Literal}
use Rattle.lfg_terms.specs.declared.grammar.Item.{Item}
use Rattle.lfg_terms.specs.declared.grammar.Rule.{Rule}
use Rattle.lfg_terms.specs.declared.grammar.Grammar.{Grammar}
use Rattle.lfg_terms.specs.declared.tree.TokenForms.{TokenForms}
use Rattle.lfg_context.specs.Sets.{Assignment}
use Rattle.lfg_model.specs.Brackets.{edges, parts_edges}
use Rattle.lfg_model.specs.Lists.{In, here, later, Once, none, more}
use Rattle.lfg_model.specs.Loaded.{Loaded}
use Rattle.lfg_model.specs.Derive.{rule_of, item_at, Runs, occurrences, edge, Derives, Covers, Whole}
use Rattle.lfg_model.specs.Grounded.{Chain, link, links, IsEmptyItem, IsItemOf, EmptyStep, IsGrounded}
use Rattle.lfg_model.specs.Spots.{Spot, AnEdge, AStep, AWord, APick, spots_of, parts_spots}
use Rattle.lfg_model.specs.Terms.{Name, Tree, leaf, inner, Parts, no_part, empty, daughter}
use Rattle.lfg_model.specs.Trees.{width, edge_of, literals}
use Rattle.lfg_model.proofs.EdgesOnce.{no_edge_twice, Once-append}
use Rattle.lfg_model.proofs.Grounding.{tree_grows}
use Rattle.lfg_model.proofs.ListLaws.{In-nil, In-one, In-cons_cases, In-append_cases, In-append_left, In-append_right}
use Rattle.lfg_model.proofs.Spans.{empty_item, item_of, tree_end, tree_edge}
use Rattle.lfg_packed.specs.Choices.{PlacedChoice}
use Rattle.lfg_packed.specs.Assignments.{picks_at, IsAlternative, IsPickedBy}
use Rattle.lfg_packed.specs.SpotFacts.{site_literals, spot_literals}
use Rattle.lfg_packed.specs.Picks.{spot_sites, sites_in, NoSiteTwice, LiteralsByPicks}
use Rattle.lfg_packed.proofs.Listing.{flat_append, same_lists}
use Rattle.lfg_packed.proofs.SpotLaws.{literals_are_of_spots}

-- the edge of an item or entry
abbrev pub edge_at : Site → Edge
edge_at (site.Item e occ at to) = e
edge_at (site.Entry e k) = e

-- the parts of a list that stands once
record Halves {X : Type 0} (xs ys : List X) : Type 0 where
  front : Once xs
  back : Once ys
  apart : (x : X) → In x xs → In x ys → ⊥

halves : {X : Type 0} (xs ys : List X) → Once (xs ++ ys) → Halves xs ys
halves [] ys o = record { front = none; back = o; apart = λ x i j. In-nil i }
halves {X} (x ∷ xs) ys (more n o) =
    let r = halves xs ys o in
    record {
      front = more (λ i. n (In-append_left ys i)) r.front;
      back = r.back;
      apart = λ z i j. elim (In-cons_cases i) [ inl e ↦ n (let P : X → Type 0 = λ w. In w (xs ++ ys) in subst P e (In-append_right xs j)) | inr k ↦ r.apart z k j ];
    }

-- an item and entry of a tree is at one of its edges
mutual
  tree_site : (d : Tree) (from : ℕ) (x : Site) → In x (sites_in (spots_of d from)) → In (edge_at x) (edges d from)
  tree_site (leaf cat entry picks) from x i = let P : Site → Type 0 = λ z. In (edge_at z) (edges (leaf cat entry picks) from) in subst P (sym (In-one i)) here
  tree_site (inner cat parts) from x i = elim (part_site parts (edge_of (inner cat parts) from) 0 from x i) [
    | inl own ↦ (let P : Edge → Type 0 = λ z. In z (edges (inner cat parts) from) in subst P (sym own) here)
    | inr below ↦ later below
  ]

  part_site : (parts : Parts) (e : Edge) (q at : ℕ) (x : Site) → In x (sites_in (parts_spots e q parts at)) → (edge_at x ≡ e) ⊎ In (edge_at x) (parts_edges parts at)
  part_site no_part e q at x i = In-nil i
  part_site (empty occ picks rest) e q at x i = elim (In-cons_cases i) [
    | inl same ↦ inl (ap edge_at same)
    | inr j ↦ part_site rest e occ at x j
  ]
  part_site (daughter occ picks below rest) e q at x i = elim (In-cons_cases i) [
    | inl same ↦ inl (ap edge_at same)
    | inr j ↦ (let P : List Site → Type 0 = λ zs. In x zs in
        let k = subst P (flat_append spot_sites (spots_of below at) (parts_spots e occ rest (at + width below))) j in
        elim (In-append_cases (sites_in (spots_of below at)) (sites_in (parts_spots e occ rest (at + width below))) k) [
          | inl l ↦ inr (In-append_left (parts_edges rest (at + width below)) (tree_site below at x l))
          | inr r ↦ elim (part_site rest e occ (at + width below) x r) [ inl own ↦ inl own | inr m ↦ inr (In-append_right (edges below at) m) ]
        ])
  ]

module _ (g : Grammar) (s : List TokenForms) (ground : IsGrounded g) where
  -- an item that comes behind another before the next token: one with a category, or one that is
  -- reached over empty items
  abbrev Behind : Rule → ℕ → ℕ → Type 0
  Behind rule q o = ((cat : Name) × IsItemOf rule o cat) ⊎ Chain (EmptyStep rule) o q

  -- an item of the parts is further on, or at their start and behind the item read last
  abbrev IsOwn : Rule → Edge → ℕ → ℕ → Site → Type 0
  IsOwn rule e q at (site.Item m o a t) = (m ≡ e) × ((at < a) ⊎ ((a ≡ at) × Behind rule q o))
  IsOwn rule e q at (site.Entry m k) = ⊥

  step_back : (rule : Rule) (e : Edge) (q p at : ℕ) (x : Site) → EmptyStep rule p q → IsOwn rule e p at x → IsOwn rule e q at x
  step_back rule e q p at (site.Item m o a t) step own = (
    own.0,
    elim own.1 [
      | inl far ↦ inl far
      | inr near ↦ inr (near.0, elim near.1 [ inl item ↦ inl item | inr chain ↦ inr (links step chain) ])
    ],
  )
  step_back rule e q p at (site.Entry m k) step own = absurd own

  further : (rule : Rule) (e : Edge) (q p at to : ℕ) (x : Site) → at < to → IsOwn rule e p to x → IsOwn rule e q at x
  further rule e q p at to (site.Item m o a t) less own = (own.0, inl (elim own.1 [ inl far ↦ (omega arith) | inr near ↦ (let n = near.0 in omega arith) ]))
  further rule e q p at to (site.Entry m k) less own = absurd own

  own_site : (parts : Parts) (e : Edge) (rule : Rule) (q at to : ℕ) (x : Site) → Covers g s rule parts at to → Runs rule.graph q (occurrences parts)
      → In x (sites_in (parts_spots e q parts at)) → IsOwn rule e q at x ⊎ In (edge_at x) (parts_edges parts at)
  own_site no_part e rule q at to x h run i = In-nil i
  own_site (empty occ picks rest) e rule q at to x h run i =
      let step : EmptyStep rule occ q = (run.0, empty_item rule occ picks h.0) in
      let P : Site → Type 0 = λ z. IsOwn rule e q at z in
      elim (In-cons_cases i) [
        | inl same ↦ inl (subst P (sym same) (refl, inr (refl, inr (link step))))
        | inr j ↦ elim (own_site rest e rule occ at to x h.1 run.1 j) [ inl own ↦ inl (step_back rule e q occ at x step own) | inr below ↦ inr below ]
      ]
  own_site (daughter occ picks below rest) e rule q at to x h run i =
      let w : at + width below ≡ h.1 = tree_end g s below _ h.3 in
      let grows : at < h.1 = tree_grows g s ground below _ h.3 in
      let C : ℕ → Type 0 = λ n. Covers g s rule rest n to in
      let P : Site → Type 0 = λ z. IsOwn rule e q at z in
      elim (In-cons_cases i) [
        | inl same ↦ inl (subst P (sym same) (refl, inr (refl, inl (h.0, item_of rule occ h.0 picks h.2))))
        | inr j ↦ (let Q : List Site → Type 0 = λ zs. In x zs in
            let k = subst Q (flat_append spot_sites (spots_of below at) (parts_spots e occ rest (at + width below))) j in
            elim (In-append_cases (sites_in (spots_of below at)) (sites_in (parts_spots e occ rest (at + width below))) k) [
              | inl l ↦ inr (In-append_left (parts_edges rest (at + width below)) (tree_site below at x l))
              | inr r ↦ elim (own_site rest e rule occ (at + width below) to x (subst C (sym w) h.4) run.1 r) [
                | inl own ↦ inl (further rule e q occ at (at + width below) x (rw w grows) own)
                | inr m ↦ inr (In-append_right (edges below at) m)
              ]
            ])
      ]

  -- an empty item is not behind itself
  not_again : (e : Edge) (rule : Rule) (occ at to : ℕ) (picks : List ℕ) → rule_of g e.cat ≡ Some rule → IsEmptyItem rule occ → IsOwn rule e occ at (site.Item e occ at to) → ⊥
  not_again e rule occ at to picks is item own = elim own.1 [
    | inl far ↦ (omega arith)
    | inr near ↦ elim near.1 [
      | inl other ↦ (let there : item.0 ≡ other.1.0 = same_Some _ _ (sym item.1 ∙ other.1.1) in
          let never : None ≡ Some other.0 = sym item.2 ∙ ap (λ (z : Item). z.cat) there ∙ other.1.2 in absurd (cc))
      | inr chain ↦ ground.empties e.cat rule occ is chain
    ]
  ]

  mutual
    once_tree : (d : Tree) (e : Edge) → Derives g s d e → Once (edges d e.from) → Once (sites_in (spots_of d e.from))
    once_tree (leaf cat entry picks) e h o = more (λ i. In-nil i) none
    once_tree (inner cat parts) e h (more n o) =
        let own : rule_of g e.cat ≡ Some h.1.0 = ap (rule_of g) h.0 ∙ h.1.1 in
        let same = tree_edge g s (inner cat parts) e h in
        let P : Edge → Type 0 = λ z. In z (parts_edges parts e.from) → ⊥ in
        let Q : Edge → Type 0 = λ z. Once (sites_in (parts_spots z 0 parts e.from)) in
        subst Q (sym same) (once_parts parts e h.1.0 0 e.from own h.1.3 h.1.2 o (subst P same n))

    once_parts : (parts : Parts) (e : Edge) (rule : Rule) (q at : ℕ) → rule_of g e.cat ≡ Some rule → Covers g s rule parts at e.to → Runs rule.graph q (occurrences parts)
        → Once (parts_edges parts at) → (In e (parts_edges parts at) → ⊥) → Once (sites_in (parts_spots e q parts at))
    once_parts no_part e rule q at is h run o away = none
    once_parts (empty occ picks rest) e rule q at is h run o away =
        more (λ i. elim (own_site rest e rule occ at e.to (site.Item e occ at at) h.1 run.1 i) [
          | inl own ↦ not_again e rule occ at at picks is (empty_item rule occ picks h.0) own
          | inr below ↦ away below
        ]) (once_parts rest e rule occ at is h.1 run.1 o away)
    once_parts (daughter occ picks below rest) e rule q at is h run o away =
        let w : at + width below ≡ h.1 = tree_end g s below _ h.3 in
        let grows : at < h.1 = tree_grows g s ground below _ h.3 in
        let C : ℕ → Type 0 = λ n. Covers g s rule rest n e.to in
        let covers : Covers g s rule rest (at + width below) e.to = subst C (sym w) h.4 in
        let to = at + width below in
        let both = halves (edges below at) (parts_edges rest to) o in
        let front = once_tree below _ h.3 both.front in
        let back = once_parts rest e rule occ to is covers run.1 both.back (λ i. away (In-append_right (edges below at) i)) in
        let P : List Site → Type 0 = λ zs. Once zs in
        let flat = flat_append spot_sites (spots_of below at) (parts_spots e occ rest to) in
        let joined : Once (sites_in (spots_of below at) ++ sites_in (parts_spots e occ rest to)) =
        Once-append (sites_in (spots_of below at)) (sites_in (parts_spots e occ rest to)) front back
        (λ x i j. elim (part_site rest e occ to x j) [
          | inl own ↦ away (In-append_left (parts_edges rest to) (let E : Edge → Type 0 = λ z. In z (edges below at) in subst E own (tree_site below at x i)))
          | inr m ↦ both.apart (edge_at x) (tree_site below at x i) m
        ]) in
        let Q : List Site → Type 0 = λ zs. In (site.Item e occ at to) zs in
        more (λ i. elim (In-append_cases (sites_in (spots_of below at)) (sites_in (parts_spots e occ rest to)) (subst Q flat i)) [
          | inl l ↦ away (In-append_left (parts_edges rest to) (tree_site below at (site.Item e occ at to) l))
          | inr r ↦ elim (own_site rest e rule occ to e.to (site.Item e occ at to) covers run.1 r) [
            | inl own ↦ elim own.1 [ inl far ↦ (omega (arith, w, grows)) | inr near ↦ (let n = near.0 in omega (arith, w, grows, n)) ]
            | inr m ↦ away (In-append_right (edges below at) m)
          ]
        ]) (subst P (sym flat) joined)

pub no_site_twice : NoSiteTwice
no_site_twice g s d e loaded h = once_tree g s loaded.grounded d e h (no_edge_twice g s loaded.grounded d e h)

-- with the picks of an assignment the literals of all things are those of the items and entries
by_sites : (g : Grammar) (s : List TokenForms) (cs : List PlacedChoice) (a : Assignment) (xs : List Spot) → ((x : Spot) → In x xs → IsAlternative g s cs a x)
    → flat_map (spot_literals g) xs ≡ flat_map (λ at. site_literals g at (picks_at g s cs a at)) (sites_in xs)
by_sites g s cs a [] h = refl
by_sites g s cs a (AnEdge e ∷ xs) h = by_sites g s cs a xs (λ x i. h x (later i))
by_sites g s cs a (AStep p n ∷ xs) h = by_sites g s cs a xs (λ x i. h x (later i))
by_sites g s cs a (AWord e k ∷ xs) h = by_sites g s cs a xs (λ x i. h x (later i))
by_sites g s cs a (APick at picks ∷ xs) h =
    let first : picks ≡ picks_at g s cs a at = h (APick at picks) here in
    let rest = by_sites g s cs a xs (λ x i. h x (later i)) in
    λ i. site_literals g at (first i) ++ rest i

pub literals_by_picks : LiteralsByPicks
literals_by_picks g s cs a d loaded picked sites once same =
    let whole = picked.whole in
    let is : literals g d 0 ≡ flat_map (λ at. site_literals g at (picks_at g s cs a at)) (sites_in (spots_of d 0)) =
    literals_are_of_spots g s d _ whole.derives ∙ by_sites g s cs a (spots_of d 0) picked.takes in
    let f : Site → List Literal = λ at. site_literals g at (picks_at g s cs a at) in
    let P : List Literal → Type 0 = λ ls. IsPermutation (flat_map f sites) ls in
    subst P (sym is) (same_lists f sites (sites_in (spots_of d 0)) once (no_site_twice g s d _ loaded whole.derives) (λ z i. (same z).0 i) (λ z i. (same z).1 i))
