-- How lists of things under sets grow: part after part, string by string, branch by branch.
use Rattle.std.proofs.Common.{◌≡◌, ℕ, zero, suc, ◌&&◌, Bool, true, false, List, [], ◌∷◌, ◌++◌, ◌+◌, ◌-◌, ◌*◌, ◌^◌, ◌<◌, ◌≤◌, min, get_or, length, map, take, drop, refl, sym, ap, ◌∙◌, subst, if◌then◌else◌, arith}
use Rattle.std.specs.Prelude.{slice_get, Some}
use Rattle.std.proofs.lemmas.List.{append-nil, append_assoc, at_drop_more}
use Rattle.std.proofs.Math.Nat.{add-mul}
use Rattle.lfg_model.specs.Places.{PicksFit}
use Rattle.lfg_model.specs.Resolve.{own, others}
use Rattle.lfg_context.specs.Seen.{Set}
use Rattle.lfg_context.specs.Sets.{Assignment, member}
use Rattle.lfg_instant.specs.Annotations.{holding, IsPick, ArePicks, Appends}
use Rattle.lfg_instant.proofs.Holding.{holding-append, holding-map, nothing_given, given-append, given-map}
use Rattle.lfg_instant.proofs.PickLaws.{later_is_none, picks_before, picks_behind, fit_before, fit_behind, pick_first, pick_later, pick_past}

-- ---- parts

-- nothing comes
pub appends_none : {X : Type 0} (ns : List ℕ) (given : List ℕ → List X) (picks : List (List Set)) (c : Set) (old new : List (X × Set))
    → ((ps : List ℕ) → given ps ≡ []) → new ≡ old → Appends ns given picks c old new
appends_none {X} ns given picks c old new none e = record {
  exact = λ a ps p f. ap (λ xs. holding xs a) e ∙ sym (append-nil (holding old a))
      ∙ ap (λ xs. holding old a ++ xs) (sym (ap (λ xs. if member c a then xs else []) (none ps) ∙ nothing_given (member c a)));
}

-- one thing comes, whatever is picked
pub appends_one : {X : Type 0} (ns : List ℕ) (given : List ℕ → List X) (picks : List (List Set)) (c : Set) (old new : List (X × Set)) (x : X)
    → ((ps : List ℕ) → x ∷ [] ≡ given ps) → new ≡ old ++ (x, c) ∷ [] → Appends ns given picks c old new
appends_one {X} ns given picks c old new x is e = record {
  exact = λ a ps p f. ap (λ xs. holding xs a) e ∙ holding-append old ((x, c) ∷ []) a
      ∙ ap (λ xs. holding old a ++ (if member c a then xs else [])) (is ps);
}

-- one part after another
pub appends_both : {X : Type 0} (ns ms : List ℕ) (f g : List ℕ → List X) (picks first rest : List (List Set)) (c : Set) (old mid new : List (X × Set))
    → first ≡ take (length ns) picks → rest ≡ drop (length ns) picks → Appends ns f first c old mid → Appends ms g rest c mid new
    → Appends (ns ++ ms) (λ ps. f (own ns ps) ++ g (others ns ps)) picks c old new
appends_both {X} ns ms f g picks first rest c old mid new e d one two = record { exact = both }
  where
    both : (a : Assignment) (ps : List ℕ) → ArePicks picks a ps → PicksFit ps (ns ++ ms)
        → holding new a ≡ holding old a ++ (if member c a then f (own ns ps) ++ g (others ns ps) else [])
    both a ps p fits =
        let m = member c a in
        let p1 = (let P : List (List Set) → Type 0 = λ q. ArePicks q a (take (length ns) ps) in subst P (sym e) (picks_before picks a ps (length ns) p)) in
        let p2 = (let P : List (List Set) → Type 0 = λ q. ArePicks q a (drop (length ns) ps) in subst P (sym d) (picks_behind picks a ps (length ns) p)) in
        let h1 = one.exact a (own ns ps) p1 (fit_before ps ns ms fits) in
        let h2 = two.exact a (others ns ps) p2 (fit_behind ps ns ms fits) in
        h2 ∙ ap (λ xs. xs ++ (if m then g (others ns ps) else [])) h1
        ∙ append_assoc (holding old a) (if m then f (own ns ps) else []) (if m then g (others ns ps) else [])
        ∙ ap (λ xs. holding old a ++ xs) (given-append m (f (own ns ps)) (g (others ns ps)))

-- ---- one thing for each of a list

-- at each assignment new has what old has, and what each of the things that hold there gives
pub record AppendsEach {X Y : Type 0} (ns : List ℕ) (given : X → List ℕ → Y) (picks : List (List Set)) (xs : List (X × Set)) (old new : List (Y × Set)) : Type 0 where
  pub exact : (a : Assignment) (ps : List ℕ) → ArePicks picks a ps → PicksFit ps ns
      → holding new a ≡ holding old a ++ map (λ x. given x ps) (holding xs a)

pub each_none : {X Y : Type 0} (ns : List ℕ) (given : X → List ℕ → Y) (picks : List (List Set)) (old : List (Y × Set)) → AppendsEach ns given picks [] old old
each_none {X} {Y} ns given picks old = record { exact = λ a ps p f. sym (append-nil (holding old a)) }

pub each_step : {X Y : Type 0} (ns : List ℕ) (given : X → List ℕ → Y) (picks : List (List Set)) (x : X × Set) (xs : List (X × Set)) (old mid new : List (Y × Set))
    → Appends ns (λ ps. given x.0 ps ∷ []) picks x.1 old mid → AppendsEach ns given picks xs mid new → AppendsEach ns given picks (x ∷ xs) old new
each_step {X} {Y} ns given picks x xs old mid new one rest = record { exact = both }
  where
    both : (a : Assignment) (ps : List ℕ) → ArePicks picks a ps → PicksFit ps ns
        → holding new a ≡ holding old a ++ map (λ z. given z ps) (holding (x ∷ xs) a)
    both a ps p f = rest.exact a ps p f ∙ ap (λ zs. zs ++ map (λ z. given z ps) (holding xs a)) (one.exact a ps p f)
        ∙ append_assoc (holding old a) (if member x.1 a then given x.0 ps ∷ [] else []) (map (λ z. given z ps) (holding xs a))
        ∙ ap (λ zs. holding old a ++ zs) (by_member (member x.1 a))
      where
        by_member : (b : Bool) → (if b then given x.0 ps ∷ [] else []) ++ map (λ z. given z ps) (holding xs a)
            ≡ map (λ z. given z ps) (if b then x.0 ∷ holding xs a else holding xs a)
        by_member true = refl
        by_member false = refl

-- where the things of the list are those of one part, by its own picks
pub each_done : {X Y : Type 0} (ns ms : List ℕ) (f : List ℕ → X) (given : X → List ℕ → Y) (picks first rest : List (List Set)) (c : Set) (found xs : List (X × Set)) (old new : List (Y × Set))
    → first ≡ take (length ns) picks → rest ≡ drop (length ns) picks → Appends ns (λ ps. f ps ∷ []) first c [] found → xs ≡ found → AppendsEach ms given rest xs old new
    → Appends (ns ++ ms) (λ ps. given (f (own ns ps)) (others ns ps) ∷ []) picks c old new
each_done {X} {Y} ns ms f given picks first rest c found xs old new e d given_first same each = record { exact = both }
  where
    both : (a : Assignment) (ps : List ℕ) → ArePicks picks a ps → PicksFit ps (ns ++ ms)
        → holding new a ≡ holding old a ++ (if member c a then given (f (own ns ps)) (others ns ps) ∷ [] else [])
    both a ps p fits =
        let p1 = (let P : List (List Set) → Type 0 = λ q. ArePicks q a (take (length ns) ps) in subst P (sym e) (picks_before picks a ps (length ns) p)) in
        let p2 = (let P : List (List Set) → Type 0 = λ q. ArePicks q a (drop (length ns) ps) in subst P (sym d) (picks_behind picks a ps (length ns) p)) in
        let h1 = ap (λ zs. holding zs a) same ∙ given_first.exact a (own ns ps) p1 (fit_before ps ns ms fits) in
        let h2 = each.exact a (others ns ps) p2 (fit_behind ps ns ms fits) in
        h2 ∙ ap (λ zs. holding old a ++ map (λ z. given z (others ns ps)) zs) h1
        ∙ ap (λ zs. holding old a ++ zs) (given-map (λ z. given z (others ns ps)) (member c a) (f (own ns ps) ∷ []))

-- things made of the things of a part, each under the same set
pub appends_map : {X Y : Type 0} (ns : List ℕ) (f : List ℕ → X) (h : X → Y) (picks : List (List Set)) (c : Set) (found xs : List (X × Set)) (old new : List (Y × Set))
    → Appends ns (λ ps. f ps ∷ []) picks c [] found → xs ≡ found → new ≡ old ++ map (λ x. (h x.0, x.1)) xs → Appends ns (λ ps. h (f ps) ∷ []) picks c old new
appends_map {X} {Y} ns f h picks c found xs old new one same e = record {
  exact = λ a ps p fits. ap (λ zs. holding zs a) e ∙ holding-append old (map (λ x. (h x.0, x.1)) xs) a
      ∙ ap (λ zs. holding old a ++ zs) (holding-map h xs a ∙ ap (map h) (ap (λ zs. holding zs a) same ∙ one.exact a ps p fits) ∙ given-map h (member c a) (f ps ∷ []));
}

-- ---- branches

-- At each assignment of the set c new has, behind what old has, what is given by the alternative
-- that is picked here and the picks of the places that follow; the alternatives are those that are
-- left of a place, so the pick may be past them.
pub record AppendsTaken {X : Type 0} (ns : List ℕ) (given : ℕ → List ℕ → List X) (alternatives : List Set) (picks : List (List Set)) (c : Set) (old new : List (X × Set)) : Type 0 where
  pub exact : (a : Assignment) (k : ℕ) (ps : List ℕ) → IsPick alternatives a k → ArePicks picks a ps → PicksFit ps ns
      → holding new a ≡ holding old a ++ (if member c a then given k ps else [])

pub taken_none : {X : Type 0} (ns : List ℕ) (given : ℕ → List ℕ → List X) (alternatives : List Set) (picks : List (List Set)) (c : Set) (old : List (X × Set))
    → ((k : ℕ) (ps : List ℕ) → given k ps ≡ []) → AppendsTaken ns given alternatives picks c old old
taken_none {X} ns given alternatives picks c old none = record {
  exact = λ a k ps q p f. sym (append-nil (holding old a))
      ∙ ap (λ xs. holding old a ++ xs) (sym (ap (λ xs. if member c a then xs else []) (none k ps) ∙ nothing_given (member c a)));
}

-- the first alternative, with what it gives, and those behind it
pub taken_step : {X : Type 0} (ns ms : List ℕ) (f : List ℕ → List X) (g given : ℕ → List ℕ → List X) (x : Set) (xs : List Set) (picks first rest : List (List Set)) (c m : Set) (old mid new : List (X × Set))
    → first ≡ take (length ns) picks → rest ≡ drop (length ns) picks → ((a : Assignment) → member m a ≡ member c a && member x a)
    → ((ps : List ℕ) → given 0 ps ≡ f (own ns ps)) → ((k : ℕ) (ps : List ℕ) → given (suc k) ps ≡ g k (others ns ps)) → ((ps : List ℕ) → g (length xs) ps ≡ [])
    → Appends ns f first m old mid → AppendsTaken ms g xs rest c mid new → AppendsTaken (ns ++ ms) given (x ∷ xs) picks c old new
taken_step {X} ns ms f g given x xs picks first rest c m old mid new e d meets here later past one two = record { exact = both }
  where
    both : (a : Assignment) (k : ℕ) (ps : List ℕ) → IsPick (x ∷ xs) a k → ArePicks picks a ps → PicksFit ps (ns ++ ms)
        → holding new a ≡ holding old a ++ (if member c a then given k ps else [])
    both a k ps q p fits = by_pick k q
      where
        p1 : ArePicks first a (own ns ps)
        p1 = let P : List (List Set) → Type 0 = λ z. ArePicks z a (take (length ns) ps) in subst P (sym e) (picks_before picks a ps (length ns) p)

        p2 : ArePicks rest a (others ns ps)
        p2 = let P : List (List Set) → Type 0 = λ z. ArePicks z a (drop (length ns) ps) in subst P (sym d) (picks_behind picks a ps (length ns) p)

        h1 : holding mid a ≡ holding old a ++ (if member m a then f (own ns ps) else [])
        h1 = one.exact a (own ns ps) p1 (fit_before ps ns ms fits)

        with_true : (b : Bool) → b && true ≡ b
        with_true true = refl
        with_true false = refl

        with_false : (b : Bool) → b && false ≡ false
        with_false true = refl
        with_false false = refl

        by_pick : (k : ℕ) → IsPick (x ∷ xs) a k → holding new a ≡ holding old a ++ (if member c a then given k ps else [])
        by_pick zero q =
            let h2 = two.exact a (length xs) (others ns ps) (pick_past x xs a q) p2 (fit_behind ps ns ms fits) in
            let here_only : member m a ≡ member c a = meets a ∙ ap (λ b. member c a && b) (pick_first x xs a 0 q) ∙ with_true (member c a) in
            h2 ∙ ap (λ zs. holding mid a ++ zs) (ap (λ zs. if member c a then zs else []) (past (others ns ps)) ∙ nothing_given (member c a))
            ∙ append-nil (holding mid a) ∙ h1 ∙ ap (λ b. holding old a ++ (if b then f (own ns ps) else [])) here_only
            ∙ ap (λ zs. holding old a ++ (if member c a then zs else [])) (sym (here ps))
        by_pick (suc k) q =
            let h2 = two.exact a k (others ns ps) (pick_later x xs a k q) p2 (fit_behind ps ns ms fits) in
            let not_here : member m a ≡ false = meets a ∙ ap (λ b. member c a && b) (pick_first x xs a (suc k) q ∙ later_is_none k) ∙ with_false (member c a) in
            let same : holding mid a ≡ holding old a = h1 ∙ ap (λ b. holding old a ++ (if b then f (own ns ps) else [])) not_here ∙ append-nil (holding old a) in
            h2 ∙ ap (λ zs. zs ++ (if member c a then g k (others ns ps) else [])) same
            ∙ ap (λ zs. holding old a ++ (if member c a then zs else [])) (sym (later k ps))

-- a place with its alternatives, and the places behind it
pub taken_done : {X : Type 0} (n : ℕ) (ns : List ℕ) (f : ℕ → List ℕ → List X) (given : List ℕ → List X) (alternatives : List Set) (picks rest : List (List Set)) (c : Set) (old new : List (X × Set))
    → picks ≡ alternatives ∷ rest → ((k : ℕ) (ps : List ℕ) → given (k ∷ ps) ≡ f k ps) → AppendsTaken ns f alternatives rest c old new → Appends (n ∷ ns) given picks c old new
taken_done {X} n ns f given alternatives picks rest c old new e is taken = record { exact = λ a ps p fits. by_picks a ps (let P : List (List Set) → Type 0 = λ z. ArePicks z a ps in subst P e p) fits }
  where
    by_picks : (a : Assignment) (ps : List ℕ) → ArePicks (alternatives ∷ rest) a ps → PicksFit ps (n ∷ ns) → holding new a ≡ holding old a ++ (if member c a then given ps else [])
    by_picks a [] p fits = absurd p
    by_picks a (k ∷ ps) p fits = taken.exact a k ps p.0 p.1 fits.1 ∙ ap (λ zs. holding old a ++ (if member c a then zs else [])) (sym (is k ps))

-- an option: what its first alternative gives
pub option_done : {X : Type 0} (ns : List ℕ) (f given : List ℕ → List X) (x : Set) (alternatives : List Set) (picks rest : List (List Set)) (c m : Set) (old new : List (X × Set))
    → picks ≡ alternatives ∷ rest → slice_get alternatives 0 ≡ Some x → ((a : Assignment) → member m a ≡ member c a && member x a)
    → ((ps : List ℕ) → given (0 ∷ ps) ≡ f ps) → ((k : ℕ) (ps : List ℕ) → given (suc k ∷ ps) ≡ [])
    → Appends ns f rest m old new → Appends (2 ∷ ns) given picks c old new
option_done {X} ns f given x alternatives picks rest c m old new e at meets here later one = record { exact = λ a ps p fits. by_picks a ps (let P : List (List Set) → Type 0 = λ z. ArePicks z a ps in subst P e p) fits }
  where
    with_true : (b : Bool) → b && true ≡ b
    with_true true = refl
    with_true false = refl

    with_false : (b : Bool) → b && false ≡ false
    with_false true = refl
    with_false false = refl

    by_picks : (a : Assignment) (ps : List ℕ) → ArePicks (alternatives ∷ rest) a ps → PicksFit ps (2 ∷ ns) → holding new a ≡ holding old a ++ (if member c a then given ps else [])
    by_picks a [] p fits = absurd p
    by_picks a (zero ∷ ps) p fits =
        one.exact a ps p.1 fits.1
        ∙ ap (λ b. holding old a ++ (if b then f ps else [])) (meets a ∙ ap (λ b. member c a && b) (p.0.exact 0 x at) ∙ with_true (member c a))
        ∙ ap (λ zs. holding old a ++ (if member c a then zs else [])) (sym (here ps))
    by_picks a (suc k ∷ ps) p fits =
        one.exact a ps p.1 fits.1
        ∙ ap (λ b. holding old a ++ (if b then f ps else [])) (meets a ∙ ap (λ b. member c a && b) (p.0.exact 0 x at ∙ later_is_none k) ∙ with_false (member c a))
        ∙ ap (λ zs. holding old a ++ zs) (sym (ap (λ zs. if member c a then zs else []) (later k ps) ∙ nothing_given (member c a)))

-- ---- one after another of a list

pub drop_next : {X : Type 0} (xs : List X) (i : ℕ) (x : X) → i < length xs → x ≡ get_or xs i x → drop i xs ≡ x ∷ drop (i + 1) xs
drop_next {X} xs i x h e = at_drop_more (λ z. z) xs i x h ∙ ap (λ v. v ∷ drop (i + 1) xs) (sym e)

pub each_next : {X Y : Type 0} (ns : List ℕ) (given : X → List ℕ → Y) (picks : List (List Set)) (all left behind : List (X × Set)) (x : X × Set) (old now mid : List (Y × Set))
    → left ≡ x ∷ behind → Appends ns (λ ps. given x.0 ps ∷ []) picks x.1 now mid
    → ((new : List (Y × Set)) → AppendsEach ns given picks left now new → AppendsEach ns given picks all old new)
    → (new : List (Y × Set)) → AppendsEach ns given picks behind mid new → AppendsEach ns given picks all old new
each_next {X} {Y} ns given picks all left behind x old now mid l one kept new w =
    kept new (let P : List (X × Set) → Type 0 = λ z. AppendsEach ns given picks z now new in subst P (sym l) (each_step ns given picks x behind now mid new one w))

pub each_finished : {X Y : Type 0} (ns : List ℕ) (given : X → List ℕ → Y) (picks : List (List Set)) (all left : List (X × Set)) (old now : List (Y × Set))
    → left ≡ [] → ((new : List (Y × Set)) → AppendsEach ns given picks left now new → AppendsEach ns given picks all old new) → AppendsEach ns given picks all old now
each_finished {X} {Y} ns given picks all left old now l kept =
    kept now (let P : List (X × Set) → Type 0 = λ z. AppendsEach ns given picks z now now in subst P (sym l) (each_none ns given picks now))

-- the count after one more of equal parts
pub counted_more : (a b c i m : ℕ) → b ≡ a + i * m → c ≡ b + m → c ≡ a + (i + 1) * m
counted_more a b c i m e f = let g = add-mul i 1 m in omega (arith, e, f, g)

-- a list that grows by what is made of each of another
pub map_finished : {X Y : Type 0} (h : X → Y) (old now : List Y) (all left : List X) → left ≡ [] → now ++ map h left ≡ old ++ map h all → now ≡ old ++ map h all
map_finished {X} {Y} h old now all left l e = sym (append-nil now) ∙ ap (λ xs. now ++ map h xs) (sym l) ∙ e

pub map_next : {X Y : Type 0} (h : X → Y) (old now mid : List Y) (all left behind : List X) (x : X) (y : Y) → left ≡ x ∷ behind → y ≡ h x → mid ≡ now ++ y ∷ []
    → now ++ map h left ≡ old ++ map h all → mid ++ map h behind ≡ old ++ map h all
map_next {X} {Y} h old now mid all left behind x y l is e kept =
    ap (λ zs. zs ++ map h behind) e ∙ append_assoc now (y ∷ []) (map h behind) ∙ ap (λ v. now ++ v ∷ map h behind) is ∙ ap (λ zs. now ++ map h zs) (sym l) ∙ kept

-- a count of one place or none did not stop
pub counted_few : (k n : ℕ) → k ≤ 1 → k ≡ n → k ≡ min n (2 ^ 64 - 1)
counted_few k n few e = omega (arith, few, e)
