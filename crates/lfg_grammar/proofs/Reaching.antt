-- What a search over a table finds, and how a table is made of links.
use Rattle.std.proofs.Common.{◌≡◌, ℕ, zero, suc, ◌+◌, ◌<◌, ◌≤◌, Bool, true, false, List, [], ◌∷◌, ◌++◌, length, map, take, get_or, Vec, Global, refl, sym, ap, ◌∙◌, subst, arith, inl, inr}
use Rattle.std.specs.Prelude.{◌↔◌}
use Rattle.std.proofs.lemmas.List.{take_more, take_all}
use Rattle.lfg_model.specs.Lists.{In, here, Extends}
use Rattle.lfg_model.proofs.ListLaws.{In-nil, In-at, In-append_left, In-append_right, In-take_more, In-extended, In-map, In_from_map}
use Rattle.lfg_rulegraph.specs.Followers.{IsAt, AreEmpty, Pushed}
use Rattle.lfg_templates.specs.Graphs.{Tied, Reached}
use Rattle.lfg_grammar.specs.declared.reach.Link.{Link}
use Rattle.lfg_grammar.specs.Reach.{link, turned, IsTableOf, IsReached, begin, go_on, Search}

-- ---- tables

pub has_list : (next : List (Vec ℕ Global)) (i j : ℕ) → IsAt next i j → i < length next
has_list [] i j h = absurd h
has_list (v ∷ next) zero j h = omega arith
has_list (v ∷ next) (suc i) j h = let l = has_list next i j h in omega arith

at_list : (next : List (Vec ℕ Global)) (i j : ℕ) (d : Vec ℕ Global) → i < length next → IsAt next i j ↔ In j (get_or next i d).items
at_list [] i j d l = absurd (let no : ⊥ = omega arith in no)
at_list (v ∷ next) zero j d l = ((λ h. h), (λ h. h))
at_list (v ∷ next) (suc i) j d l = at_list next i j d (omega arith)

-- what stands in the list that the program reads
pub at_item : (next : List (Vec ℕ Global)) (i j : ℕ) (v : Vec ℕ Global) → i < length next → v ≡ get_or next i v → IsAt next i j ↔ In j v.items
at_item next i j v l e = subst (λ (w : Vec ℕ Global). IsAt next i j ↔ In j w.items) (sym e) (at_list next i j v l)

pub table_none : (next : List (Vec ℕ Global)) → AreEmpty next → IsTableOf [] next
table_none next h = record { each = λ i j. ((λ a. absurd (h.each i j a)), (λ a. In-nil a)) }

pub table_more : (links : List Link) (k : ℕ) (l d : Link) (old new : List (Vec ℕ Global)) → k < length links → l ≡ get_or links k d → IsTableOf (take k links) old → Pushed old l.from l.to new → IsTableOf (take (k + 1) links) new
table_more links k l d old new m e t p = record { each = λ i j. (there i j, back i j) }
  where
    whole : take (k + 1) links ≡ take k links ++ l ∷ []
    whole = take_more links k d m ∙ ap (λ (x : Link). take k links ++ x ∷ []) (sym e)

    there : (i j : ℕ) → IsAt new i j → In (link i j) (take (k + 1) links)
    there i j a = subst (λ (ls : List Link). In (link i j) ls) (sym whole) (elim ((p.each i j).0 a) [
      | inl b ↦ In-append_left (l ∷ []) ((t.each i j).0 b)
      | inr b ↦ let same : link i j ≡ l = λ x. link (b.0 x) (b.1 x) in In-append_right (take k links) (subst (λ (x : Link). In (link i j) (x ∷ [])) same here)
    ])

    back : (i j : ℕ) → In (link i j) (take (k + 1) links) → IsAt new i j
    back i j a = elim (In-take_more links k d m a) [
      | inl b ↦ (p.each i j).1 (inl ((t.each i j).1 b))
      | inr b ↦ let same : link i j ≡ l = b ∙ sym e in (p.each i j).1 (inr (ap (λ (x : Link). x.from) same, ap (λ (x : Link). x.to) same))
    ]

-- ---- links the other way

pub in_turned : (links : List Link) (i j : ℕ) → In (link i j) (map turned links) ↔ In (link j i) links
in_turned links i j = ((λ h. there (In_from_map turned links h)), (λ h. In-map turned h))
  where
    there : ((l : Link) × In l links × (turned l ≡ link i j)) → In (link j i) links
    there r = let same : r.0 ≡ link j i = ap turned r.2 in subst (λ (l : Link). In l links) same r.1

-- ---- the search

pub search_begun : (next : List (Vec ℕ Global)) (starts : List ℕ) (marks : List Bool) (found : List ℕ) → Tied (length next) marks found → Reached (length next) starts [] found → Search next starts marks found []
search_begun next starts marks found t r = record {
  tied = t;
  sound = λ j i. elim (r.added j i) [ inl z ↦ In-nil z | inr s ↦ begin s ];
  begun = r.all;
  closed = λ i h. In-nil h;
}

take_front : (xs zs : List ℕ) (i : ℕ) → i ≤ length xs → take i (xs ++ zs) ≡ take i xs
take_front xs zs zero l = refl
take_front [] zs (suc i) l = absurd (let no : ⊥ = omega arith in no)
take_front (x ∷ xs) zs (suc i) l = ap (λ (ws : List ℕ). x ∷ ws) (take_front xs zs i (omega arith))

take_extended : (xs ys : List ℕ) (i : ℕ) → i ≤ length xs → Extends xs ys → take i ys ≡ take i xs
take_extended xs ys i l e = ap (take i) e.is ∙ take_front xs e.added i l

pub search_more : (next : List (Vec ℕ Global)) (starts : List ℕ) (marks after : List Bool) (found new row : List ℕ) (k n : ℕ) → k < length found → n ≡ get_or found k n → ((j : ℕ) → IsAt next n j ↔ In j row)
    → Search next starts marks found (take k found) → Tied (length next) after new → Reached (length next) row found new → Search next starts after new (take (k + 1) new)
search_more next starts marks after found new row k n l e is s t r =
    let there : In n found = subst (λ (x : ℕ). In x found) (sym e) (In-at found k n l) in
    record {
      tied = t;
      sound = λ j h. elim (r.added j h) [ inl o ↦ s.sound j o | inr q ↦ go_on (s.sound n there) ((is j).1 q) ];
      begun = λ j h m. In-extended r.extends (s.begun j h m);
      closed = λ i h. elim (In-take_more found k n l (subst (λ (xs : List ℕ). In i xs) (take_extended found new (k + 1) (omega arith) r.extends) h)) [
        | inl o ↦ λ j q m. In-extended r.extends (s.closed i o j q m)
        | inr f ↦ λ j q m. r.all j ((is j).0 (subst (λ (y : ℕ). IsAt next y j) (f ∙ sym e) q)) m
      ];
    }

search_finds : (next : List (Vec ℕ Global)) (starts : List ℕ) (marks : List Bool) (found : List ℕ) → Search next starts marks found found → {j : ℕ} → IsReached next starts j → j < length next → In j found
search_finds next starts marks found s (begin i) l = s.begun _ i l
search_finds next starts marks found s (go_on {i} r a) l = s.closed i (search_finds next starts marks found s r (has_list next i _ a)) _ a l

-- at the end the marks say what is reached
pub search_done : (next : List (Vec ℕ Global)) (starts : List ℕ) (marks : List Bool) (found : List ℕ) (k : ℕ) → length found ≤ k → Search next starts marks found (take k found) → (j : ℕ) → j < length next
    → (get_or marks j false ≡ true) ↔ IsReached next starts j
search_done next starts marks found k l s j m =
    let whole = subst (λ (xs : List ℕ). Search next starts marks found xs) (take_all k found l) s in
    ((λ e. s.sound j (s.tied.told j e)), (λ r. s.tied.back j (search_finds next starts marks found whole r m)))
