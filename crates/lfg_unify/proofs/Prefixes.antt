-- The nodes on the way to a node, and the steps between them.
use Rattle.std.proofs.Common.{◌≡◌, ℕ, zero, suc, ◌+◌, ◌<◌, ◌≤◌, List, [], ◌∷◌, ◌++◌, map, length, take, get_or, refl, sym, ap, ◌∙◌, arith, append_assoc, add-one}
use Rattle.std.specs.List.{flat_map}
use Rattle.std.proofs.lemmas.List.{append-nil, map-append, take_more}
use Rattle.lfg_terms.specs.declared.node.Edge.{Edge}
use Rattle.lfg_terms.specs.declared.node.Node as node
use Rattle.lfg_terms.specs.declared.node.Node.{Node}
use Rattle.lfg_model.specs.Terms.{Name, Path}
use Rattle.lfg_model.specs.Literals.{prefixes, with_prefixes}

-- the prefixes of a path that are shorter than a number, the shortest first
pub shorter : ℕ → Path → List Path
shorter zero p = []
shorter (suc k) p = shorter k p ++ take k p ∷ []

shorter-cons : (k : ℕ) (a : Name) (p : Path) → shorter (suc k) (a ∷ p) ≡ [] ∷ map (λ q. a ∷ q) (shorter k p)
unfolding shorter
shorter-cons zero a p = refl
shorter-cons (suc k) a p =
    ap (λ qs. qs ++ (a ∷ take k p) ∷ []) (shorter-cons k a p)
    ∙ ap (λ qs. [] ∷ qs) (sym (map-append (λ q. a ∷ q) (shorter k p) (take k p ∷ [])))

prefixes_shorter : (p : Path) → prefixes p ≡ shorter (suc (length p)) p
unfolding shorter
prefixes_shorter [] = refl
prefixes_shorter (a ∷ p) = ap (λ qs. [] ∷ map (λ q. a ∷ q) qs) (prefixes_shorter p) ∙ sym (shorter-cons (suc (length p)) a p)

-- the nodes before a number of attributes
pub on_the_way : ℕ → Edge → Path → List Node
on_the_way k e p = map (λ q. node.At e q) (shorter k p)

pub on_the_way-none : (e : Edge) (p : Path) → on_the_way 0 e p ≡ []
unfolding on_the_way shorter
on_the_way-none e p = refl

pub on_the_way-more : (k : ℕ) (e : Edge) (p : Path) → on_the_way (k + 1) e p ≡ on_the_way k e p ++ node.At e (take k p) ∷ []
unfolding on_the_way shorter
on_the_way-more k e p = ap (λ n. on_the_way n e p) (add-one k) ∙ map-append (λ q. node.At e q) (shorter k p) (take k p ∷ [])

take_all : {X : Type 0} (xs : List X) → take (length xs) xs ≡ xs
take_all [] = refl
take_all (x ∷ xs) = ap (λ ys. x ∷ ys) (take_all xs)

pub on_the_way-all : (e : Edge) (p : Path) → on_the_way (length p) e p ++ node.At e p ∷ [] ≡ with_prefixes (node.At e p)
unfolding on_the_way shorter
on_the_way-all e p =
    ap (λ q. on_the_way (length p) e p ++ node.At e q ∷ []) (sym (take_all p))
    ∙ sym (map-append (λ q. node.At e q) (shorter (length p) p) (take (length p) p ∷ []))
    ∙ ap (λ qs. map (λ q. node.At e q) qs) (sym (prefixes_shorter p))

-- what a loop appends
pub flat_map-append : {X Y : Type 0} (f : X → List Y) (xs ys : List X) → flat_map f (xs ++ ys) ≡ flat_map f xs ++ flat_map f ys
flat_map-append f [] ys = refl
flat_map-append f (x ∷ xs) ys = ap (λ zs. f x ++ zs) (flat_map-append f xs ys) ∙ sym (append_assoc (f x) (flat_map f xs) (flat_map f ys))

pub flat_map-take_more : {X Y : Type 0} (f : X → List Y) (xs : List X) (k : ℕ) (x : X) → k < length xs → x ≡ get_or xs k x → flat_map f (take (k + 1) xs) ≡ flat_map f (take k xs) ++ f x
flat_map-take_more f xs k x l e =
    ap (λ ys. flat_map f ys) (take_more xs k x l)
    ∙ flat_map-append f (take k xs) (get_or xs k x ∷ [])
    ∙ ap (λ zs. flat_map f (take k xs) ++ zs) (append-nil (f (get_or xs k x)) ∙ ap f (sym e))

pub take_whole : {X : Type 0} (k : ℕ) (xs : List X) → length xs ≤ k → take k xs ≡ xs
take_whole zero [] l = refl
take_whole zero (x ∷ xs) l = absurd (omega arith)
take_whole (suc k) [] l = refl
take_whole (suc k) (x ∷ xs) l = ap (λ ys. x ∷ ys) (take_whole k xs (omega arith))
