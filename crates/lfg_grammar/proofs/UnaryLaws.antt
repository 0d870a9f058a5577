-- What the links of a rule's graph say, and which categories can be its only daughter.
use Rattle.std.proofs.Common.{◌≡◌, ℕ, zero, suc, ◌+◌, ◌<◌, ◌≤◌, Bool, true, false, List, [], ◌∷◌, ◌++◌, length, map, take, get_or, Some, Vec, Global, refl, sym, ap, ◌∙◌, subst, arith, inl, inr, ◌⊎◌, append_assoc}
use Rattle.std.specs.Prelude.{◌↔◌, slice_get, Option, None, IfNone}
use Rattle.std.proofs.lemmas.Bool.{false≢true}
use Rattle.std.proofs.lemmas.List.{take_more, take_all, append-nil, length-take}
use Rattle.lfg_terms.specs.declared.grammar.Graph.{Graph}
use Rattle.lfg_terms.specs.declared.grammar.Item.{Item}
use Rattle.lfg_terms.specs.declared.grammar.Rule.{Rule}
use Rattle.lfg_model.specs.Derive.{CanFollow, CanEnd, Runs}
use Rattle.lfg_model.specs.Graphs.{IsGraph}
use Rattle.lfg_model.specs.Grounded.{IsEmptyItem, IsItemOf, AreEmptyItems, HasOnlyCategory, EmptyStep}
use Rattle.lfg_model.specs.Lists.{In, here}
use Rattle.lfg_model.specs.Terms.{Name}
use Rattle.lfg_model.proofs.ListLaws.{In-nil, In-one, In-append_left, In-append_right, In-append_cases, In-push, In-push_cases, In-map, In_from_map}
use Rattle.lfg_model.proofs.OneTree.{same_some}
use Rattle.lfg_grammar.specs.declared.reach.Link.{Link}
use Rattle.lfg_grammar.specs.Reach.{link, turned, IsTableOf, IsReached, begin, go_on, Marks}
use Rattle.lfg_grammar.specs.OnlyDaughters.{IsOnlyDaughter, FromStart, at_start, go_over, ToEnd, at_end, come_over, LinksOnly, links_from}
use Rattle.lfg_grammar.proofs.Reaching.{in_turned}

-- ---- the links of a graph

abbrev ListedAt : List (List ℕ) → ℕ → ℕ → Type 0
ListedAt rows i p = (ps : List ℕ) × (slice_get rows i ≡ Some ps) × In p ps

in_links_from : (k q p : ℕ) (rows : List (List ℕ)) → In (link q p) (links_from k rows) → (i : ℕ) × (q ≡ k + i) × ListedAt rows i p
in_links_from k q p [] h = In-nil h
in_links_from k q p (ps ∷ rest) h = elim (In-append_cases (map (link k) ps) (links_from (suc k) rest) h) [
  | inl a ↦
      let r = In_from_map (link k) ps a in
      let from : k ≡ q = ap (λ (l : Link). l.from) r.2 in
      (0, omega (arith, from), (ps, refl, subst (λ (x : ℕ). In x ps) (ap (λ (l : Link). l.to) r.2) r.1))
  | inr b ↦ let r = in_links_from (suc k) q p rest b in (suc r.0, omega (arith, r.1), r.2)
]

links_from_in : (k i p : ℕ) (rows : List (List ℕ)) → ListedAt rows i p → In (link (k + i) p) (links_from k rows)
links_from_in k i p [] h = let e = h.1 in cc
links_from_in k zero p (ps ∷ rest) h =
    let same : ps ≡ h.0 = same_some _ _ h.1 in
    let n : k ≡ k + 0 = omega arith in
    In-append_left (links_from (suc k) rest) (subst (λ (x : ℕ). In (link x p) (map (link k) ps)) n (In-map (link k) (subst (λ (xs : List ℕ). In p xs) (sym same) h.2)))
links_from_in k (suc i) p (ps ∷ rest) h =
    let n : suc k + i ≡ k + suc i = omega arith in
    In-append_right (map (link k) ps) (subst (λ (x : ℕ). In (link x p) (links_from (suc k) rest)) n (links_from_in (suc k) i p rest h))

follow_of : (g : Graph) (i p : ℕ) → ListedAt (g.first ∷ g.next) i p → CanFollow g i p
follow_of g zero p h = let same : g.first ≡ h.0 = same_some _ _ h.1 in subst (λ (xs : List ℕ). In p xs) (sym same) h.2
follow_of g (suc i) p h = h

listed_of : (g : Graph) (i p : ℕ) → CanFollow g i p → ListedAt (g.first ∷ g.next) i p
listed_of g zero p h = (g.first, refl, h)
listed_of g (suc i) p h = h

pub graph_links : (g : Graph) (q p : ℕ) → In (link q p) (links_from 0 (g.first ∷ g.next)) ↔ CanFollow g q p
graph_links g q p = (there, back)
  where
    there : In (link q p) (links_from 0 (g.first ∷ g.next)) → CanFollow g q p
    there h =
        let r = in_links_from 0 q p (g.first ∷ g.next) h in
        let e : r.0 ≡ q = omega (arith, r.1) in
        subst (λ (x : ℕ). CanFollow g x p) e (follow_of g r.0 p r.2)

    back : CanFollow g q p → In (link q p) (links_from 0 (g.first ∷ g.next))
    back h = let e : 0 + q ≡ q = omega arith in subst (λ (x : ℕ). In (link x p) (links_from 0 (g.first ∷ g.next))) e (links_from_in 0 q p (g.first ∷ g.next) (listed_of g q p h))

links_from_push : (k n : ℕ) (rows : List (List ℕ)) (ps : List ℕ) → n ≡ k + length rows → links_from k (rows ++ ps ∷ []) ≡ links_from k rows ++ map (link n) ps
links_from_push k n [] ps e = let f : k ≡ n = omega (arith, e) in append-nil (map (link k) ps) ∙ ap (λ (x : ℕ). map (link x) ps) f
links_from_push k n (r ∷ rows) ps e =
    ap (λ (ls : List Link). map (link k) r ++ ls) (links_from_push (suc k) n rows ps (omega (arith, e)))
    ∙ sym (append_assoc (map (link k) r) (links_from (suc k) rows) (map (link n) ps))

-- the links of one more item
pub links_more : (g : Graph) (i : ℕ) (d : List ℕ) (old new : List Link) → i < length g.next → old ≡ links_from 0 (g.first ∷ take i g.next)
    → new ≡ old ++ map (link (i + 1)) (get_or g.next i d) → new ≡ links_from 0 (g.first ∷ take (i + 1) g.next)
links_more g i d old new l e f =
    let n : i + 1 ≡ 0 + length (g.first ∷ take i g.next) = omega (arith, length-take i g.next) in
    let p = links_from_push 0 (i + 1) (g.first ∷ take i g.next) (get_or g.next i d) n in
    f ∙ ap (λ (ls : List Link). ls ++ map (link (i + 1)) (get_or g.next i d)) e ∙ sym p ∙ ap (λ (rows : List (List ℕ)). links_from 0 (g.first ∷ rows)) (sym (take_more g.next i d l))

pub push_more : (from : ℕ) (items : List ℕ) (i : ℕ) (start old new : List Link) → i < length items → old ≡ start ++ map (link from) (take i items)
    → new ≡ old ++ link from (get_or items i 0) ∷ [] → new ≡ start ++ map (link from) (take (i + 1) items)
push_more from items i start old new l e f =
    f ∙ ap (λ (ls : List Link). ls ++ link from (get_or items i 0) ∷ []) e
    ∙ append_assoc start (map (link from) (take i items)) (link from (get_or items i 0) ∷ [])
    ∙ ap (λ (ls : List Link). start ++ ls) (pushed (take i items) ∙ ap (map (link from)) (sym (take_more items i 0 l)))
  where
    pushed : (xs : List ℕ) → map (link from) xs ++ link from (get_or items i 0) ∷ [] ≡ map (link from) (xs ++ get_or items i 0 ∷ [])
    pushed [] = refl
    pushed (x ∷ xs) = ap (λ (ls : List Link). link from x ∷ ls) (pushed xs)

-- the numbers at the ends of a link are those of items, or 0 for the start
listed_place : (rows : List (List ℕ)) (i p : ℕ) → ListedAt rows i p → i < length rows
listed_place [] i p h = absurd (let e = h.1 in let no : ⊥ = cc in no)
listed_place (r ∷ rows) zero p h = omega arith
listed_place (r ∷ rows) (suc i) p h = let l = listed_place rows i p h in omega arith

listed_in : (rows : List (List ℕ)) (i : ℕ) (ps : List ℕ) → slice_get rows i ≡ Some ps → In ps rows
listed_in [] i ps e = cc
listed_in (r ∷ rows) zero ps e = let same : r ≡ ps = same_some _ _ e in subst (λ (x : List ℕ). In x (r ∷ rows)) same here
listed_in (r ∷ rows) (suc i) ps e = In-append_right (r ∷ []) (listed_in rows i ps e)

pub follow_before : (g : Graph) (q p : ℕ) → IsGraph g → CanFollow g q p → q < g.size + 1
follow_before g zero p w h = omega arith
follow_before g (suc k) p w h = let l = listed_place g.next k p h in omega (arith, w.next)

pub follow_after : (g : Graph) (q p : ℕ) → IsGraph g → CanFollow g q p → p < g.size + 1
follow_after g zero p w h = let r = w.begin.within p h in omega (arith, r.1)
follow_after g (suc k) p w h = let r = (w.follow h.0 (listed_in g.next k h.0 h.1)).within p h.2 in omega (arith, r.1)

-- ---- the items at an end

-- a row may end behind the item, which is one of the first n
abbrev pub EndsWithin : Graph → ℕ → ℕ → Type 0
EndsWithin g n q = CanEnd g q × (q ≤ n)

pub ends_none : (g : Graph) (q : ℕ) → In q [] ↔ EndsWithin g 0 q
ends_none g zero = ((λ h. In-nil h), (λ h. absurd h.0))
ends_none g (suc k) = ((λ h. In-nil h), (λ h. absurd (let l = h.1 in let no : ⊥ = omega arith in no)))

mark_at : (marks : List Bool) (k : ℕ) (d : Bool) → k < length marks → slice_get marks k ≡ Some (get_or marks k d)
mark_at [] k d l = absurd (let no : ⊥ = omega arith in no)
mark_at (m ∷ marks) zero d l = refl
mark_at (m ∷ marks) (suc k) d l = mark_at marks k d (omega arith)

mark_place : (marks : List Bool) (k : ℕ) → slice_get marks k ≡ Some true → k < length marks
mark_place [] k e = absurd (let no : ⊥ = cc in no)
mark_place (m ∷ marks) zero e = omega arith
mark_place (m ∷ marks) (suc k) e = let l = mark_place marks k e in omega arith

last_or_before : (q n : ℕ) → q ≤ n + 1 → (q ≤ n) ⊎ (q ≡ n + 1)
last_or_before zero n l = inl (omega arith)
last_or_before (suc q) zero l = inr (omega arith)
last_or_before (suc q) (suc n) l = elim (last_or_before q n (omega arith)) [ inl a ↦ inl (omega arith) | inr b ↦ inr (omega (arith, b)) ]

end_at : (g : Graph) (q k : ℕ) → q ≡ k + 1 → CanEnd g q → slice_get g.last k ≡ Some true
end_at g zero k e h = absurd h
end_at g (suc j) k e h = let same : j ≡ k = omega (arith, e) in subst (λ (x : ℕ). slice_get g.last x ≡ Some true) same h

end_of : (g : Graph) (q k : ℕ) → q ≡ k + 1 → slice_get g.last k ≡ Some true → CanEnd g q
end_of g zero k e h = absurd (let no : ⊥ = omega (arith, e) in no)
end_of g (suc j) k e h = let same : k ≡ j = omega (arith, e) in subst (λ (x : ℕ). slice_get g.last x ≡ Some true) same h

pub ends_more : (g : Graph) (n : ℕ) (items : List ℕ) (d : Bool) → n < length g.last → get_or g.last n d ≡ true → ((q : ℕ) → In q items ↔ EndsWithin g n q) → (q : ℕ) → In q (items ++ (n + 1) ∷ []) ↔ EndsWithin g (n + 1) q
ends_more g n items d l e h q = (there, back)
  where
    there : In q (items ++ (n + 1) ∷ []) → EndsWithin g (n + 1) q
    there i = elim (In-push_cases items (n + 1) i) [
      | inl a ↦ let r = (h q).0 a in (r.0, let m = r.1 in omega arith)
      | inr b ↦ (end_of g q n b (mark_at g.last n d l ∙ ap Some e), omega (arith, b))
    ]

    back : EndsWithin g (n + 1) q → In q (items ++ (n + 1) ∷ [])
    back r = elim (last_or_before q n r.1) [
      | inl a ↦ In-append_left ((n + 1) ∷ []) ((h q).1 (r.0, a))
      | inr b ↦ subst (λ (x : ℕ). In x (items ++ (n + 1) ∷ [])) (sym b) (In-push items (n + 1))
    ]

pub ends_skip : (g : Graph) (n : ℕ) (items : List ℕ) (d : Bool) → n < length g.last → get_or g.last n d ≡ false → ((q : ℕ) → In q items ↔ EndsWithin g n q) → (q : ℕ) → In q items ↔ EndsWithin g (n + 1) q
ends_skip g n items d l e h q = (there, back)
  where
    there : In q items → EndsWithin g (n + 1) q
    there i = let r = (h q).0 i in (r.0, let m = r.1 in omega arith)

    back : EndsWithin g (n + 1) q → In q items
    back r = elim (last_or_before q n r.1) [
      | inl a ↦ (h q).1 (r.0, a)
      | inr b ↦ absurd (false≢true (sym e ∙ same_some _ _ (sym (mark_at g.last n d l) ∙ end_at g q n b r.0)))
    ]

end_within : (g : Graph) (q : ℕ) → CanEnd g q → q ≤ length g.last
end_within g zero h = absurd h
end_within g (suc k) h = let l = mark_place g.last k h in omega arith

pub ends_all : (g : Graph) (n : ℕ) (items : List ℕ) → length g.last ≤ n → ((q : ℕ) → In q items ↔ EndsWithin g n q) → (q : ℕ) → In q items ↔ CanEnd g q
ends_all g n items l h q = ((λ i. ((h q).0 i).0), (λ e. (h q).1 (e, let m = end_within g q e in omega arith)))

-- ---- links to `e` items

-- the link is among the first n, and leads to an `e` item
abbrev pub EmptyWithin : Rule → List Link → ℕ → ℕ → ℕ → Type 0
EmptyWithin rule links n q p = In (link q p) (take n links) × IsEmptyItem rule p

pub empty_none : (rule : Rule) (links : List Link) (q p : ℕ) → In (link q p) [] ↔ EmptyWithin rule links 0 q p
empty_none rule links q p = ((λ h. In-nil h), (λ h. In-nil h.0))

pub empty_more : (rule : Rule) (links : List Link) (n : ℕ) (l d : Link) (empty : List Link) → n < length links → l ≡ get_or links n d → IsEmptyItem rule l.to → ((q p : ℕ) → In (link q p) empty ↔ EmptyWithin rule links n q p)
    → (q p : ℕ) → In (link q p) (empty ++ l ∷ []) ↔ EmptyWithin rule links (n + 1) q p
empty_more rule links n l d empty m e is h q p = (there, back)
  where
    whole : take (n + 1) links ≡ take n links ++ l ∷ []
    whole = take_more links n d m ∙ ap (λ (x : Link). take n links ++ x ∷ []) (sym e)

    there : In (link q p) (empty ++ l ∷ []) → EmptyWithin rule links (n + 1) q p
    there i = elim (In-push_cases empty l i) [
      | inl a ↦ let r = (h q p).0 a in (subst (λ (ls : List Link). In (link q p) ls) (sym whole) (In-append_left (l ∷ []) r.0), r.1)
      | inr b ↦ (
        subst (λ (ls : List Link). In (link q p) ls) (sym whole) (subst (λ (x : Link). In x (take n links ++ l ∷ [])) (sym b) (In-push (take n links) l)),
        subst (λ (x : Link). IsEmptyItem rule x.to) (sym b) is,
      )
    ]

    back : EmptyWithin rule links (n + 1) q p → In (link q p) (empty ++ l ∷ [])
    back r = elim (In-push_cases (take n links) l (subst (λ (ls : List Link). In (link q p) ls) whole r.0)) [
      | inl a ↦ In-append_left (l ∷ []) ((h q p).1 (a, r.1))
      | inr b ↦ subst (λ (x : Link). In x (empty ++ l ∷ [])) (sym b) (In-push empty l)
    ]

pub empty_skip : (rule : Rule) (links : List Link) (n : ℕ) (l d : Link) (empty : List Link) → n < length links → l ≡ get_or links n d → ¬ IsEmptyItem rule l.to → ((q p : ℕ) → In (link q p) empty ↔ EmptyWithin rule links n q p)
    → (q p : ℕ) → In (link q p) empty ↔ EmptyWithin rule links (n + 1) q p
empty_skip rule links n l d empty m e not h q p = (there, back)
  where
    whole : take (n + 1) links ≡ take n links ++ l ∷ []
    whole = take_more links n d m ∙ ap (λ (x : Link). take n links ++ x ∷ []) (sym e)

    there : In (link q p) empty → EmptyWithin rule links (n + 1) q p
    there i = let r = (h q p).0 i in (subst (λ (ls : List Link). In (link q p) ls) (sym whole) (In-append_left (l ∷ []) r.0), r.1)

    back : EmptyWithin rule links (n + 1) q p → In (link q p) empty
    back r = elim (In-push_cases (take n links) l (subst (λ (ls : List Link). In (link q p) ls) whole r.0)) [
      | inl a ↦ (h q p).1 (a, r.1)
      | inr b ↦ absurd (not (subst (λ (x : Link). IsEmptyItem rule x.to) b r.1))
    ]

pub empty_all : (rule : Rule) (links : List Link) (n : ℕ) (empty : List Link) → length links ≤ n → ((q p : ℕ) → In (link q p) links ↔ CanFollow rule.graph q p) → ((q p : ℕ) → In (link q p) empty ↔ EmptyWithin rule links n q p)
    → (q p : ℕ) → In (link q p) empty ↔ EmptyStep rule p q
empty_all rule links n empty l f h q p =
    let whole : take n links ≡ links = take_all n links l in (
      (λ i. let r = (h q p).0 i in ((f q p).0 (subst (λ (ls : List Link). In (link q p) ls) whole r.0), r.1)),
      (λ s. (h q p).1 (subst (λ (ls : List Link). In (link q p) ls) (sym whole) ((f q p).1 s.0), s.1)),
    )

-- ---- from the start, and to an end

module _ (rule : Rule) (empty : List Link) (steps : (q p : ℕ) → In (link q p) empty ↔ EmptyStep rule p q) where
  pub start_reached : (next : List (Vec ℕ Global)) → IsTableOf empty next → (q : ℕ) → IsReached next (0 ∷ []) q ↔ FromStart rule q
  start_reached next t q = (there, back)
    where
      there : {q : ℕ} → IsReached next (0 ∷ []) q → FromStart rule q
      there (begin i) = subst (λ (x : ℕ). FromStart rule x) (sym (In-one i)) at_start
      there (go_on {i} {j} r a) = go_over (there r) ((steps i j).0 ((t.each i j).0 a))

      back : {q : ℕ} → FromStart rule q → IsReached next (0 ∷ []) q
      back at_start = begin here
      back (go_over {q} {p} r s) = go_on (back r) ((t.each q p).1 ((steps q p).1 s))

  pub end_reached : (next : List (Vec ℕ Global)) (ends : List ℕ) → IsTableOf (map turned empty) next → ((q : ℕ) → In q ends ↔ CanEnd rule.graph q) → (q : ℕ) → IsReached next ends q ↔ ToEnd rule q
  end_reached next ends t e q = (there, back)
    where
      there : {q : ℕ} → IsReached next ends q → ToEnd rule q
      there (begin {i} h) = at_end ((e i).0 h)
      there (go_on {i} {j} r a) = come_over ((steps j i).0 ((in_turned empty i j).0 ((t.each i j).0 a))) (there r)

      back : {q : ℕ} → ToEnd rule q → IsReached next ends q
      back (at_end {q} h) = begin ((e q).1 h)
      back (come_over {q} {p} s r) = go_on (back r) ((t.each p q).1 ((in_turned empty p q).1 ((steps q p).1 s)))

-- ---- the only category of a row

module _ (rule : Rule) where
  -- a walk that goes on from an item that is reached over `e` items
  walked : (cat : Name) {q : ℕ} (rest : List ℕ) → FromStart rule q → Runs rule.graph q rest → HasOnlyCategory rule rest cat → IsOnlyDaughter rule cat
  walked cat rest at_start r h = (rest, r, h)
  walked cat rest (go_over {q} {p} f s) r h = walked cat (p ∷ rest) f (s.0, r) (inl (s.1, h))

  ended : {q : ℕ} → ToEnd rule q → (v : List ℕ) × Runs rule.graph q v × AreEmptyItems rule v
  ended (at_end e) = ([], e, tt)
  ended (come_over {p} s t) = let r = ended t in (p ∷ r.0, (s.0, r.1), (s.1, r.2))

  pub only_from_link : (l : Link) (cat : Name) → CanFollow rule.graph l.from l.to → LinksOnly rule l cat → IsOnlyDaughter rule cat
  only_from_link l cat f h =
      let v = ended h.behind in
      walked cat (l.to ∷ v.0) h.before (f, v.1) (inr (h.item, v.2))

  to_end : {q : ℕ} (v : List ℕ) → Runs rule.graph q v → AreEmptyItems rule v → ToEnd rule q
  to_end [] r e = at_end r
  to_end (p ∷ v) r e = come_over (r.0, e.0) (to_end v r.1 e.1)

  link_from_only : (cat : Name) {q : ℕ} (w : List ℕ) → FromStart rule q → Runs rule.graph q w → HasOnlyCategory rule w cat → (l : Link) × CanFollow rule.graph l.from l.to × LinksOnly rule l cat
  link_from_only cat [] f r h = absurd h
  link_from_only cat {q} (p ∷ w) f r h = elim h [
    | inl a ↦ link_from_only cat w (go_over f (r.0, a.0)) r.1 a.1
    | inr b ↦ (link q p, r.0, record { before = f; behind = to_end w r.1 b.1; item = b.0 })
  ]

  one_category : (p : ℕ) {c d : Name} → IsItemOf rule p c → IsItemOf rule p d → c ≡ d
  one_category p x y =
      let same : x.0 ≡ y.0 = same_some _ _ (sym x.1 ∙ y.1) in
      same_some _ _ (sym x.2 ∙ ap (λ (i : Item). i.cat) same ∙ y.2)

  -- a link among these gives the category
  abbrev pub SomeLink : List Link → Name → Type 0
  SomeLink links cat = (l : Link) × In l links × LinksOnly rule l cat

  pub only_links : (links : List Link) → ((q p : ℕ) → In (link q p) links ↔ CanFollow rule.graph q p) → (cat : Name) → SomeLink links cat ↔ IsOnlyDaughter rule cat
  only_links links f cat = (
    (λ s. only_from_link s.0 cat ((f s.0.from s.0.to).0 s.1) s.2),
    (λ d. let r = link_from_only cat d.0 at_start d.1 d.2 in (r.0, (f r.0.from r.0.to).1 r.1, r.2)),
  )

  pub some_none : (cat : Name) → In cat [] ↔ SomeLink [] cat
  some_none cat = ((λ h. In-nil h), (λ s. In-nil s.1))

  pub some_more : (links : List Link) (n : ℕ) (l d : Link) (cats : List Name) (c : Name) → n < length links → l ≡ get_or links n d → LinksOnly rule l c → ((cat : Name) → In cat cats ↔ SomeLink (take n links) cat)
      → (cat : Name) → In cat (cats ++ c ∷ []) ↔ SomeLink (take (n + 1) links) cat
  some_more links n l d cats c m e is h cat = (there, back)
    where
      whole : take (n + 1) links ≡ take n links ++ l ∷ []
      whole = take_more links n d m ∙ ap (λ (x : Link). take n links ++ x ∷ []) (sym e)

      there : In cat (cats ++ c ∷ []) → SomeLink (take (n + 1) links) cat
      there i = elim (In-push_cases cats c i) [
        | inl a ↦ let r = (h cat).0 a in (r.0, subst (λ (ls : List Link). In r.0 ls) (sym whole) (In-append_left (l ∷ []) r.1), r.2)
        | inr b ↦ (l, subst (λ (ls : List Link). In l ls) (sym whole) (In-push (take n links) l), subst (λ (x : Name). LinksOnly rule l x) (sym b) is)
      ]

      back : SomeLink (take (n + 1) links) cat → In cat (cats ++ c ∷ [])
      back r = elim (In-push_cases (take n links) l (subst (λ (ls : List Link). In r.0 ls) whole r.1)) [
        | inl a ↦ In-append_left (c ∷ []) ((h cat).1 (r.0, a, r.2))
        | inr b ↦ subst (λ (x : Name). In x (cats ++ c ∷ [])) (one_category l.to is.item (subst (λ (x : Link). IsItemOf rule x.to cat) b r.2.item)) (In-push cats c)
      ]

  pub some_skip : (links : List Link) (n : ℕ) (l d : Link) (cats : List Name) → n < length links → l ≡ get_or links n d → ((c : Name) → ¬ LinksOnly rule l c) → ((cat : Name) → In cat cats ↔ SomeLink (take n links) cat)
      → (cat : Name) → In cat cats ↔ SomeLink (take (n + 1) links) cat
  some_skip links n l d cats m e not h cat = (there, back)
    where
      whole : take (n + 1) links ≡ take n links ++ l ∷ []
      whole = take_more links n d m ∙ ap (λ (x : Link). take n links ++ x ∷ []) (sym e)

      there : In cat cats → SomeLink (take (n + 1) links) cat
      there i = let r = (h cat).0 i in (r.0, subst (λ (ls : List Link). In r.0 ls) (sym whole) (In-append_left (l ∷ []) r.1), r.2)

      back : SomeLink (take (n + 1) links) cat → In cat cats
      back r = elim (In-push_cases (take n links) l (subst (λ (ls : List Link). In r.0 ls) whole r.1)) [
        | inl a ↦ (h cat).1 (r.0, a, r.2)
        | inr b ↦ absurd (not cat (subst (λ (x : Link). LinksOnly rule x cat) b r.2))
      ]

  pub some_all : (links : List Link) (n : ℕ) (cats : List Name) → length links ≤ n → ((q p : ℕ) → In (link q p) links ↔ CanFollow rule.graph q p) → ((cat : Name) → In cat cats ↔ SomeLink (take n links) cat)
      → (cat : Name) → In cat cats ↔ IsOnlyDaughter rule cat
  some_all links n cats l f h cat =
      let whole = take_all n links l in
      let at_all : In cat cats ↔ SomeLink links cat = subst (λ (ls : List Link). In cat cats ↔ SomeLink ls cat) whole (h cat) in
      let only = only_links links f cat in
      ((λ i. only.0 (at_all.0 i)), (λ d. at_all.1 (only.1 d)))

-- ---- what the program holds

pub map_push : {X Y : Type 0} (f : X → Y) (xs : List X) (x : X) → map f (xs ++ x ∷ []) ≡ map f xs ++ f x ∷ []
map_push f [] x = refl
map_push f (y ∷ xs) x = ap (λ ys. f y ∷ ys) (map_push f xs x)

pub none_weaker : {X : Type 0} (r : Option X) {P Q : Type 0} → IfNone r P → (P → Q) → IfNone r Q
none_weaker None p go = go p
none_weaker (Some x) p go = tt

pub Marks-same : {P Q : ℕ → Type 0} (n m : ℕ) (marks : List Bool) → n ≡ m → ((i : ℕ) → P i ↔ Q i) → Marks n P marks → Marks m Q marks
Marks-same n m marks e same h = record {
  wide = h.wide ∙ e;
  exact = λ i l.
      let k : i < n = omega (arith, e) in
      let x = h.exact i k in
      ((λ t. (same i).0 (x.0 t)), (λ q. x.1 ((same i).1 q)));
}

pub all_links : (g : Graph) (i : ℕ) (links : List Link) → length g.next ≤ i → links ≡ links_from 0 (g.first ∷ take i g.next) → (q p : ℕ) → In (link q p) links ↔ CanFollow g q p
all_links g i links l e q p =
    let whole : links ≡ links_from 0 (g.first ∷ g.next) = e ∙ ap (λ (rows : List (List ℕ)). links_from 0 (g.first ∷ rows)) (take_all i g.next l) in
    subst (λ (ls : List Link). In (link q p) ls ↔ CanFollow g q p) (sym whole) (graph_links g q p)

module _ (rule : Rule) (w : IsGraph rule.graph) (empty : List Link) (steps : (q p : ℕ) → In (link q p) empty ↔ EmptyStep rule p q) where
  pub starts_within : (l : Link) → In l empty → l.from < rule.graph.size + 1
  starts_within l i = follow_before rule.graph l.from l.to w ((steps l.from l.to).0 i).0

  pub turned_within : (l : Link) → In l (map turned empty) → l.from < rule.graph.size + 1
  turned_within l i =
      let j : In (link l.to l.from) empty = (in_turned empty l.from l.to).0 i in
      follow_after rule.graph l.to l.from w ((steps l.to l.from).0 j).0
