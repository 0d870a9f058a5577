-- Equality under a renaming of nodes, as by their numbers in a table.
use Rattle.std.proofs.Common.{◌≡◌, List, map, ap, sym, ◌∙◌, subst}
use Rattle.lfg_model.specs.Lists.{In}
use Rattle.lfg_model.specs.Equal.{Equal, itself, stated, turned, joined, along}
use Rattle.lfg_model.specs.Rounds.{AreBetween}
use Rattle.lfg_model.proofs.ListLaws.{In-map, In_from_map}

module _ {X Y A : Type 0} (f : X → Y) (nodes : List X) (given : List (X × X)) (arcs : List (X × A × X)) where
  abbrev pub pairs : List (Y × Y)
  pairs = map (λ p. (f p.0, f p.1)) given

  abbrev pub sides : List (Y × A × Y)
  sides = map (λ p. (f p.0, p.1, f p.2)) arcs

  pub forth : {x y : X} → Equal nodes given arcs x y → Equal (map f nodes) pairs sides (f x) (f y)
  forth (itself i) = itself (In-map f i)
  forth (stated i) = stated (In-map (λ p. (f p.0, f p.1)) i)
  forth (turned i) = turned (In-map (λ p. (f p.0, f p.1)) i)
  forth (joined a b) = joined (forth a) (forth b)
  forth (along e i j) = along (forth e) (In-map (λ p. (f p.0, p.1, f p.2)) i) (In-map (λ p. (f p.0, p.1, f p.2)) j)

  Shown : Y → Y → Type 0
  Shown u v = (x : X) × (y : X) × In x nodes × In y nodes × (f x ≡ u) × (f y ≡ v) × Equal nodes given arcs x y

  back : AreBetween nodes given arcs → ((x y : X) → In x nodes → In y nodes → f x ≡ f y → x ≡ y) → {u v : Y} → Equal (map f nodes) pairs sides u v → Shown u v
  unfolding Shown
  back ok apart (itself i) = let r = In_from_map f nodes i in (r.0, r.0, r.1, r.1, r.2, r.2, itself r.1)
  back ok apart (stated i) =
      let r = In_from_map (λ p. (f p.0, f p.1)) given i in
      let e = ok.given_pairs r.0.0 r.0.1 r.1 in
      (r.0.0, r.0.1, e.0, e.1, ap (λ p. p.0) r.2, ap (λ p. p.1) r.2, stated r.1)
  back ok apart (turned i) =
      let r = In_from_map (λ p. (f p.0, f p.1)) given i in
      let e = ok.given_pairs r.0.0 r.0.1 r.1 in
      (r.0.1, r.0.0, e.1, e.0, ap (λ p. p.1) r.2, ap (λ p. p.0) r.2, turned r.1)
  back ok apart (joined a b) =
      let p = back ok apart a in
      let q = back ok apart b in
      let same : p.1 ≡ q.0 = apart p.1 q.0 p.3 q.2 (p.5 ∙ sym q.4) in
      (p.0, q.1, p.2, q.3, p.4, q.5, joined p.6 (subst (λ (x : X). Equal nodes given arcs x q.1) (sym same) q.6))
  back ok apart (along {a = a} e i j) =
      let p = back ok apart e in
      let r = In_from_map (λ p. (f p.0, p.1, f p.2)) arcs i in
      let s = In_from_map (λ p. (f p.0, p.1, f p.2)) arcs j in
      let er = ok.arc_ends r.0.0 r.0.1 r.0.2 r.1 in
      let es = ok.arc_ends s.0.0 s.0.1 s.0.2 s.1 in
      let left : p.0 ≡ r.0.0 = apart p.0 r.0.0 p.2 er.0 (p.4 ∙ sym (ap (λ z. z.0) r.2)) in
      let right : p.1 ≡ s.0.0 = apart p.1 s.0.0 p.3 es.0 (p.5 ∙ sym (ap (λ z. z.0) s.2)) in
      let k : In (p.0, a, r.0.2) arcs = subst (λ (z : X × A × X). In z arcs) (λ i. (sym left i, ap (λ z. z.1) r.2 i, r.0.2)) r.1 in
      let l : In (p.1, a, s.0.2) arcs = subst (λ (z : X × A × X). In z arcs) (λ i. (sym right i, ap (λ z. z.1) s.2 i, s.0.2)) s.1 in
      (r.0.2, s.0.2, er.1, es.1, ap (λ z. z.2) r.2, ap (λ z. z.2) s.2, along p.6 k l)

  at_ends : (x x' y y' : X) → x ≡ x' → y ≡ y' → Equal nodes given arcs x y → Equal nodes given arcs x' y'
  at_ends x x' y y' a b h = rw (← a, ← b) h

  -- the equality of the numbers is that of the nodes
  pub numbered : AreBetween nodes given arcs → ((x y : X) → In x nodes → In y nodes → f x ≡ f y → x ≡ y) → (x y : X) → In x nodes → In y nodes
      → Equal (map f nodes) pairs sides (f x) (f y) → Equal nodes given arcs x y
  unfolding Shown
  numbered ok apart x y hx hy e =
      let p = back ok apart e in
      let a : p.0 ≡ x = apart p.0 x p.2 hx p.4 in
      let b : p.1 ≡ y = apart p.1 y p.3 hy p.5 in
      at_ends p.0 x p.1 y a b p.6
