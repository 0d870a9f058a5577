-- Tables of contexts at one assignment.
use Rattle.std.proofs.Common.{◌≡◌, ℕ, zero, suc, ◌+◌, ◌<◌, Bool, true, false, ◌&&◌, ◌||◌, ◌==◌, ◌⊎◌, inl, inr, Some, None, List, [], ◌∷◌, ◌++◌, length, get_or, slice_set, drop, sym, refl, ◌∙◌, ap, subst, arith}
use Rattle.std.specs.Prelude.{slice_get, ◌↔◌}
use Rattle.std.proofs.lemmas.List.{map-set, get_or-map, length-map, set-get_or}
use native.Mathlib.Numerals.{unary_clauses}
use Rattle.lfg_context.specs.Seen.{Set}
use Rattle.lfg_context.specs.Sets.{Assignment, member}
use Rattle.lfg_model.proofs.ListLaws.{In-at}
use Rattle.lfg_instant.specs.declared.flow.Passage.{Passage}
use Rattle.lfg_instant.specs.Flow.{Flows, at_root, along, IsFlow, IsWithin, AreWithin, at, held, after, after_all}
use Rattle.lfg_instant.proofs.FlowRounds.{opens, EndWithin, GoesAlong, IsDone, Progress}

-- a place is held at the assignments of its set
pub held_at : (t : List Set) (i : ℕ) (x : Set) (a : Assignment) → i < length t → x ≡ get_or t i x → held (at t a) i ≡ member x a
held_at t i x a h e = get_or-map (λ y. member y a) t i x false h ∙ ap (λ y. member y a) (sym e)

held_get : (t : List Set) (i : ℕ) (x : Set) (a : Assignment) → slice_get t i ≡ Some x → held (at t a) i ≡ member x a
held_get [] i x a h = let never : None ≡ Some x = h in absurd (cc)
held_get (y ∷ t) zero x a h = let e : y ≡ x = (let f : Some y ≡ Some x = h in cc) in ap (λ z. member z a) e
held_get (y ∷ t) (suc i) x a h = held_get t i x a h

get_held : (t : List Set) (i : ℕ) (a : Assignment) → held (at t a) i ≡ true → (x : Set) × (slice_get t i ≡ Some x) × (member x a ≡ true)
get_held [] i a h = let never : false ≡ true = h in absurd (cc)
get_held (y ∷ t) zero a h = (y, refl, h)
get_held (y ∷ t) (suc i) a h = get_held t i a h

pub held_within : (bs : List Bool) (i : ℕ) → held bs i ≡ true → i < length bs
held_within [] i h = let never : false ≡ true = h in absurd (cc)
held_within (b ∷ bs) zero h = omega arith
held_within (b ∷ bs) (suc i) h = let l = held_within bs i h in omega arith

-- a passage from a place that has nothing changes nothing
pub step_none : (t qs : List Set) (p : Passage) (x : Set) (a : Assignment) → p.from < length t → x ≡ get_or t p.from x → member x a ≡ false → at t a ≡ after (at qs a) p (at t a)
step_none t qs p x a within e none =
    let f : opens (at qs a) p (at t a) ≡ false = ap (λ b. b && held (at qs a) p.pick) (held_at t p.from x a within e ∙ none) in
    sym (ap (λ b. slice_set (at t a) p.to (held (at t a) p.to || b)) f ∙ ap (λ b. slice_set (at t a) p.to b) (or_false (held (at t a) p.to)) ∙ set-get_or (at t a) p.to false)
  where
    or_false : (b : Bool) → (b || false) ≡ b
    or_false true = refl
    or_false false = refl

-- what a passage gives
pub gives : (t qs : List Set) (p : Passage) (x q y z : Set) (a : Assignment) → IsWithin (length t) (length qs) p
    → x ≡ get_or t p.from x → q ≡ get_or qs p.pick q → y ≡ get_or t p.to y
    → member z a ≡ (member y a || (member x a && member q a)) → member z a ≡ (held (at t a) p.to || opens (at qs a) p (at t a))
gives t qs p x q y z a within ex eq ey e =
    let hx = held_at t p.from x a within.0 ex in
    let hq = held_at qs p.pick q a within.1 eq in
    let hy = held_at t p.to y a within.2 ey in
    e ∙ ap (λ b. b || (member x a && member q a)) (sym hy)
    ∙ ap (λ b. held (at t a) p.to || (b && member q a)) (sym hx)
    ∙ ap (λ b. held (at t a) p.to || (held (at t a) p.from && b)) (sym hq)

pub step_set : (t qs : List Set) (p : Passage) (x q y z : Set) (a : Assignment) → IsWithin (length t) (length qs) p
    → x ≡ get_or t p.from x → q ≡ get_or qs p.pick q → y ≡ get_or t p.to y
    → member z a ≡ (member y a || (member x a && member q a)) → at (slice_set t p.to z) a ≡ after (at qs a) p (at t a)
step_set t qs p x q y z a within ex eq ey e =
    map-set (λ v. member v a) t p.to z ∙ ap (λ b. slice_set (at t a) p.to b) (gives t qs p x q y z a within ex eq ey e)

pub step_same : (t qs : List Set) (p : Passage) (x q y z : Set) (a : Assignment) → IsWithin (length t) (length qs) p
    → x ≡ get_or t p.from x → q ≡ get_or qs p.pick q → y ≡ get_or t p.to y
    → member z a ≡ (member y a || (member x a && member q a)) → member z a ≡ member y a → at t a ≡ after (at qs a) p (at t a)
step_same t qs p x q y z a within ex eq ey e same =
    let f : held (at t a) p.to ≡ (held (at t a) p.to || opens (at qs a) p (at t a)) = held_at t p.to y a within.2 ey ∙ sym same ∙ gives t qs p x q y z a within ex eq ey e in
    sym (ap (λ b. slice_set (at t a) p.to b) (sym f) ∙ set-get_or (at t a) p.to false)

-- the passages that are left after one
pub after_next : (qs : List Bool) (ps : List Passage) (i : ℕ) (d : Passage) (bs : List Bool) → i < length ps → after_all qs (drop (i + 1) ps) (after qs (get_or ps i d) bs) ≡ after_all qs (drop i ps) bs
after_next qs [] i d bs h = absurd (omega arith)
after_next qs (r ∷ ps) zero d bs h = refl
after_next qs (r ∷ ps) (suc i) d bs h = simp unary_clauses (simp unary_clauses at (after_next qs ps i d bs (omega arith)))

pub within_at : {n m k : ℕ} {ps : List Passage} (i : ℕ) (d : Passage) → AreWithin n m ps → i < length ps → k ≡ n → IsWithin k m (get_or ps i d)
within_at {n} {m} {k} {ps} i d w h e = let P : ℕ → Type 0 = λ x. IsWithin x m (get_or ps i d) in subst P (sym e) (w.each (get_or ps i d) (In-at ps i d h))

pub neither : (x y : Bool) → (x || y) ≡ false → (x ≡ false) × (y ≡ false)
neither x y e = grind arith

pub ends_within : {n m : ℕ} {ps : List Passage} → AreWithin n m ps → EndWithin n ps
ends_within w = record { each = λ p h. (w.each p h).2 }

-- one place more
held_front : (xs ys : List Bool) (i : ℕ) → i < length xs → held (xs ++ ys) i ≡ held xs i
held_front [] ys i h = absurd (omega arith)
held_front (x ∷ xs) ys zero h = refl
held_front (x ∷ xs) ys (suc i) h = held_front xs ys i (omega arith)

held_last : (xs : List Bool) (b : Bool) → held (xs ++ b ∷ []) (length xs) ≡ b
held_last [] b = refl
held_last (x ∷ xs) b = held_last xs b

at_push : (t : List Set) (x : Set) (a : Assignment) → at (t ++ x ∷ []) a ≡ at t a ++ member x a ∷ []
at_push [] x a = refl
at_push (y ∷ t) x a = ap (λ bs. member y a ∷ bs) (at_push t x a)

pub starts_push : (t : List Set) (x : Set) (n root : ℕ) → length t ≡ n → ((a : Assignment) → member x a ≡ (n == root))
    → ((a : Assignment) (i : ℕ) → i < n → held (at t a) i ≡ (i == root)) → (a : Assignment) (i : ℕ) → i < n + 1 → held (at (t ++ x ∷ []) a) i ≡ (i == root)
starts_push t x n root l one before a i h =
    ap (λ bs. held bs i) (at_push t x a) ∙ elim (split i n h) [
      | inl less ↦ held_front (at t a) (member x a ∷ []) i (let e = length-map t (λ y. member y a) in omega arith) ∙ before a i less
      | inr same ↦
          let k : i ≡ length (at t a) = (let e = length-map t (λ y. member y a) in omega arith) in
          ap (λ j. held (at t a ++ member x a ∷ []) j) k ∙ held_last (at t a) (member x a) ∙ one a ∙ ap (λ j. j == root) (sym same)
    ]
  where
    split : (i n : ℕ) → i < n + 1 → (i < n) ⊎ (i ≡ n)
    split i n h = grind arith

module _ (ps : List Passage) (picks : List Set) (root : ℕ) (a : Assignment) where
  pub goes_along : GoesAlong (Flows ps picks root a) (at picks a) ps
  goes_along = record { each = λ p i h f. (let g = get_held picks p.pick a h in along p g.0 i g.1 g.2 f) }

  -- the first table
  pub first_progress : (n : ℕ) (t : List Set) → root < n → length t ≡ n → ((i : ℕ) → i < n → held (at t a) i ≡ (i == root)) → Progress (Flows ps picks root a) n (at picks a) ps root (at t a) 0
  first_progress n t some l start = record {
    len = length-map t (λ x. member x a) ∙ l;
    has_root = start root some ∙ is_itself root;
    sound = λ i h.
        let within : i < n = (let w = held_within (at t a) i h in let e = length-map t (λ x. member x a) in omega arith) in
        let same : root ≡ i = sym (is_equal i root (sym (start i within) ∙ h)) in
        subst (Flows ps picks root a) same at_root;
    grown = inr (omega arith);
  }
    where
      is_itself : (n : ℕ) → (n == n) ≡ true
      is_itself n = grind arith

      is_equal : (m n : ℕ) → (m == n) ≡ true → m ≡ n
      is_equal m n e = grind arith

  reached : (found : List Bool) → IsDone (Flows ps picks root a) (at picks a) ps root found → {i : ℕ} → Flows ps picks root a i → held found i ≡ true
  reached found d at_root = d.has_root
  reached found d (along p pick there get has f) =
      d.met.each p there (ap (λ b. b && held (at picks a) p.pick) (reached found d f) ∙ held_get picks p.pick pick a get ∙ has)

  pub flow_at : (t : List Set) → IsDone (Flows ps picks root a) (at picks a) ps root (at t a) → (i : ℕ) (x : Set) → slice_get t i ≡ Some x → (member x a ≡ true) ↔ Flows ps picks root a i
  flow_at t d i x get = ((λ h. d.sound i (held_get t i x a get ∙ h)), λ f. sym (held_get t i x a get) ∙ reached (at t a) d f)

pub is_flow : (ps : List Passage) (picks : List Set) (root : ℕ) (t : List Set) → ((a : Assignment) → IsDone (Flows ps picks root a) (at picks a) ps root (at t a)) → IsFlow ps picks root t
is_flow ps picks root t d = record { exact = λ i x get a. flow_at ps picks root a t (d a) i x get }
