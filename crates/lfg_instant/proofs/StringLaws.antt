-- The nodes of a designator, string by string.
use Rattle.std.proofs.Common.{◌≡◌, ℕ, zero, suc, ◌<◌, ◌==◌, ◌&&◌, Bool, true, false, Option, None, Some, List, [], ◌∷◌, ◌++◌, length, refl, sym, ap, ◌∙◌, subst, if◌then◌else◌, arith, get_or}
use Rattle.std.specs.Prelude.{slice_get}
use Rattle.lfg_terms.specs.declared.grammar.Des.{Des}
use Rattle.lfg_terms.specs.declared.node.Node.{Node}
use Rattle.lfg_terms.specs.declared.node.Node as node
use Rattle.lfg_model.specs.Terms.{Path, Paths}
use Rattle.lfg_model.specs.Places.{path_places, PicksFit}
use Rattle.lfg_model.specs.Resolve.{Instance, edge_at, string_at, string_taken, node_of}
use Rattle.lfg_context.specs.Seen.{Set}
use Rattle.lfg_context.specs.Sets.{Assignment, member}
use Rattle.lfg_instant.specs.Annotations.{holding, IsPick, ArePicks, arities, Appends}
use Rattle.lfg_packed.specs.Sizes.{string_count}
use Rattle.lfg_instant.proofs.Holding.{holding-push}
use Rattle.lfg_instant.proofs.PickLaws.{later_is_none, none_is_later, same_later}

-- the string with a number, as a place of the list
pub string_at-get_or : (ps : List Path) (k : ℕ) → string_at ps k ≡ get_or ps k []
string_at-get_or [] zero = refl
string_at-get_or [] (suc k) = refl
string_at-get_or (p ∷ ps) zero = refl
string_at-get_or (p ∷ ps) (suc k) = string_at-get_or ps k

-- what the pick k gives of the first i strings
abbrev pub one_below : {X : Type 0} → (ℕ → X) → ℕ → ℕ → List X
one_below f zero k = []
one_below f (suc i) zero = f 0 ∷ []
one_below f (suc i) (suc k) = one_below (λ n. f (suc n)) i k

below_more : {X : Type 0} (f : ℕ → X) (i k : ℕ) → one_below f i k ++ (if (k == i) then f i ∷ [] else []) ≡ one_below f (suc i) k
below_more {X} f zero zero = refl
below_more {X} f zero (suc k) = ap (λ b. if b then f 0 ∷ [] else []) (later_is_none k)
below_more {X} f (suc i) zero = ap (λ b. f 0 ∷ (if b then f (suc i) ∷ [] else [])) (none_is_later i)
below_more {X} f (suc i) (suc k) = ap (λ b. one_below (λ n. f (suc n)) i k ++ (if b then f (suc i) ∷ [] else [])) (same_later k i) ∙ below_more (λ n. f (suc n)) i k

below_all : {X : Type 0} (f : ℕ → X) (n k : ℕ) → k < n → one_below f n k ≡ f k ∷ []
below_all {X} f zero k h = absurd (omega arith)
below_all {X} f (suc n) zero h = refl
below_all {X} f (suc n) (suc k) h = below_all (λ m. f (suc m)) n k (omega arith)

-- at each assignment of c the nodes found so far have that of the pick, if it is below i
pub record HasStrings (it : Instance) (d : Des Paths) (alternatives : List Set) (c : Set) (i : ℕ) (found : List (Node × Set)) : Type 0 where
  pub exact : (a : Assignment) (k : ℕ) → IsPick alternatives a k → holding found a ≡ (if member c a then one_below (λ n. node_of it d (n ∷ [])) i k else [])

pub strings_start : (it : Instance) (d : Des Paths) (alternatives : List Set) (c : Set) → HasStrings it d alternatives c 0 []
strings_start it d alternatives c = record { exact = λ a k p. by_member (member c a) }
  where
    by_member : (b : Bool) → (let none : List Node = [] in none) ≡ (if b then [] else [])
    by_member true = refl
    by_member false = refl

pub strings_step : (it : Instance) (d : Des Paths) (alternatives : List Set) (c : Set) (i j : ℕ) (found new : List (Node × Set)) (x m : Set) (n : Node)
    → slice_get alternatives i ≡ Some x → ((a : Assignment) → member m a ≡ member c a && member x a) → n ≡ node_of it d (i ∷ []) → new ≡ found ++ (n, m) ∷ [] → j ≡ suc i
    → HasStrings it d alternatives c i found → HasStrings it d alternatives c j new
strings_step it d alternatives c i j found new x m n at meets is e more so_far = let P : ℕ → Type 0 = λ z. HasStrings it d alternatives c z new in subst P (sym more) (record { exact = both })
  where
    by_member : (b : Bool) (k : ℕ) → (if b then one_below (λ z. node_of it d (z ∷ [])) i k else []) ++ (if (b && (k == i)) then node_of it d (i ∷ []) ∷ [] else [])
        ≡ (if b then one_below (λ z. node_of it d (z ∷ [])) (suc i) k else [])
    by_member true k = below_more (λ z. node_of it d (z ∷ [])) i k
    by_member false k = refl

    both : (a : Assignment) (k : ℕ) → IsPick alternatives a k → holding new a ≡ (if member c a then one_below (λ z. node_of it d (z ∷ [])) (suc i) k else [])
    both a k p = ap (λ xs. holding xs a) e ∙ holding-push found n m a
        ∙ ap (λ xs. xs ++ (if member m a then n ∷ [] else [])) (so_far.exact a k p)
        ∙ (λ j. (if member c a then one_below (λ z. node_of it d (z ∷ [])) i k else []) ++ (if (meets a ∙ ap (λ b. member c a && b) (p.exact i x at)) j then is j ∷ [] else []))
        ∙ by_member (member c a) k

-- a path with a place has no other
one_place : (path : Option Paths) (xs : List Set) (others : List (List Set)) → arities (xs ∷ others) ≡ path_places path → (path_places path ≡ length xs ∷ []) × (string_count path ≡ length xs)
one_place None xs others e = absurd (cons_is_nil e)
  where
    cons_is_nil : {n : ℕ} {ns : List ℕ} → n ∷ ns ≡ [] → ⊥
    cons_is_nil {n} {ns} h = let e2 = ap length h in omega (arith, e2)
one_place (Some []) xs others e = absurd (let e2 = ap length e in omega (arith, e2))
one_place (Some (p ∷ [])) xs others e = absurd (let e2 = ap length e in omega (arith, e2))
one_place (Some (p ∷ q ∷ ps)) xs others e = let same = ap first e in (ap (λ n. n ∷ []) (sym same), sym same)
  where
    first : List ℕ → ℕ
    first [] = 0
    first (n ∷ ns) = n

pub strings_done : (it : Instance) (d : Des Paths) (picks : List (List Set)) (alternatives : List Set) (others : List (List Set)) (c : Set) (found : List (Node × Set)) (i : ℕ)
    → picks ≡ alternatives ∷ others → arities picks ≡ path_places d.path → i ≡ length alternatives → HasStrings it d alternatives c i found
    → Appends (path_places d.path) (λ ps. node_of it d ps ∷ []) picks c [] found
strings_done it d picks alternatives others c found i e shape all so_far = record {
  exact = λ a ps p fits.
      by_picks a ps (let P : List (List Set) → Type 0 = λ z. ArePicks z a ps in subst P e p)
      (let Q : List ℕ → Type 0 = PicksFit ps in subst Q (one_place d.path alternatives others (sym (ap arities e) ∙ shape)).0 fits);
}
  where
    by_picks : (a : Assignment) (ps : List ℕ) → ArePicks (alternatives ∷ others) a ps → PicksFit ps (length alternatives ∷ []) → holding found a ≡ (if member c a then node_of it d ps ∷ [] else [])
    by_picks a [] p fits = absurd p
    by_picks a (k ∷ []) p fits = so_far.exact a k p.0 ∙ ap (λ xs. if member c a then xs else []) (below_all (λ z. node_of it d (z ∷ [])) i k (let f0 = fits.0 in omega (arith, all, f0)))
    by_picks a (k ∷ l ∷ ps) p fits = absurd fits.1

pub strings_counted : (path : Option Paths) (picks : List (List Set)) (alternatives : List Set) (others : List (List Set)) → picks ≡ alternatives ∷ others → arities picks ≡ path_places path
    → string_count path ≡ length alternatives
strings_counted path picks alternatives others e shape = (one_place path alternatives others (sym (ap arities e) ∙ shape)).1

-- where there is no place
no_pick : (path : Option Paths) → string_taken path (0 ∷ []) ≡ string_taken path []
no_pick None = refl
no_pick (Some ps) = refl

pub string_alone : (it : Instance) (d : Des Paths) (picks : List (List Set)) (c : Set) (found : List (Node × Set)) (n : Node)
    → picks ≡ [] → n ≡ node_of it d (0 ∷ []) → found ≡ (n, c) ∷ [] → Appends (path_places d.path) (λ ps. node_of it d ps ∷ []) picks c [] found
string_alone it d picks c found n e is f = record { exact = λ a ps p fits. by_picks a ps (let P : List (List Set) → Type 0 = λ z. ArePicks z a ps in subst P e p) }
  where
    by_picks : (a : Assignment) (ps : List ℕ) → ArePicks [] a ps → holding found a ≡ (if member c a then node_of it d ps ∷ [] else [])
    by_picks a [] p = ap (λ xs. holding xs a) f ∙ ap (λ v. if member c a then v ∷ [] else []) (is ∙ ap (node.At (edge_at it d.arrow)) (no_pick d.path))
    by_picks a (k ∷ ps) p = absurd p

pub alone_counted : (path : Option Paths) (picks : List (List Set)) → picks ≡ [] → arities picks ≡ path_places path → string_count path ≡ 1
alone_counted path picks e shape = by_path path (sym (ap arities e) ∙ shape)
  where
    by_path : (path : Option Paths) → (let none : List ℕ = [] in none) ≡ path_places path → string_count path ≡ 1
    by_path None h = refl
    by_path (Some []) h = refl
    by_path (Some (p ∷ [])) h = refl
    by_path (Some (p ∷ q ∷ ps)) h = absurd (let e2 = ap length h in omega (arith, e2))
