-- The literals of an item or entry in contexts, and of one more of them.
use Rattle.std.proofs.Common.{◌≡◌, ℕ, zero, suc, ◌+◌, ◌<◌, Bool, true, false, Some, List, [], ◌∷◌, ◌++◌, length, take, get_or, slice_get, if◌then◌else◌, sym, subst, ap, ◌∙◌, refl, arith, append_assoc}
use Rattle.std.specs.Prelude.{◌==◌}
use Rattle.std.specs.List.{sum_by}
use Rattle.std.proofs.lemmas.List.{append-nil, take_more}
use Rattle.std.proofs.lemmas.List.Sums.{sum_by-append}
use Rattle.std.proofs.lemmas.Option.{same_Some}
use Rattle.lfg_terms.specs.declared.node.Edge.{Edge}
use Rattle.lfg_terms.specs.declared.literal.Site.{Site}
use Rattle.lfg_terms.specs.declared.literal.Site.TheVariants as site
use Rattle.lfg_terms.specs.declared.literal.Literal.{Literal}
use Rattle.lfg_terms.specs.declared.grammar.Grammar.{Grammar}
use Rattle.lfg_terms.specs.declared.tree.TokenForms.{TokenForms}
use Rattle.lfg_context.specs.Seen.{Set}
use Rattle.lfg_context.specs.Sets.{Assignment, member}
use Rattle.lfg_model.specs.Loaded.{Loaded}
use Rattle.lfg_model.specs.Places.{places, PicksFit}
use Rattle.lfg_model.specs.Resolve.{Instance, resolved}
use Rattle.lfg_model.specs.Terms.{Annotation}
use Rattle.lfg_packed.specs.declared.key.ChoiceKey.{ChoiceKey}
use Rattle.lfg_packed.specs.Assignments.{alternative_at, picks_from, picks_at}
use Rattle.lfg_packed.specs.ChoicePoints.{BranchAt}
use Rattle.lfg_packed.specs.Choices.{IsSite, annotation_at, PlacedChoice, AreChoices}
use Rattle.lfg_packed.specs.SpotFacts.{instance_at}
use Rattle.lfg_packed.proofs.Selecting.{within, picks_stand}
use Rattle.lfg_instant.specs.Annotations.{ArePicks, Appends}
use Rattle.lfg_instant.specs.Holding.{holding}
use Rattle.lfg_instant.specs.Literals.{IsSiteKey, key_literals, listed_of}
use Rattle.lfg_instant.specs.Sites.{site_key, site_of_key}
use Rattle.lfg_instant.proofs.SiteLaws.{site_of_its_key}

-- picks that are within the numbers of alternatives fit
picks_within : (f : ℕ → ℕ) (k : ℕ) (ns : List ℕ) → ((j n : ℕ) → slice_get ns j ≡ Some n → f (k + j) < n) → PicksFit (picks_from f k ns) ns
picks_within f k [] h = tt
picks_within f k (n ∷ ns) h =
    let P : ℕ → Type 0 = λ z. f z < n in
    let z : k + 0 ≡ k = omega arith in
    (subst P z (h 0 n refl), picks_within f (k + 1) ns (λ j m e. (let Q : ℕ → Type 0 = λ w. f w < m in let s : k + suc j ≡ k + 1 + j = omega arith in subst Q s (h (suc j) m e))))

some_alternative : (picks ns : List ℕ) → PicksFit picks ns → (j n : ℕ) → slice_get ns j ≡ Some n → 0 < n
some_alternative [] [] fit j n e = cc
some_alternative [] (m ∷ ns) fit j n e = absurd fit
some_alternative (k ∷ picks) [] fit j n e = absurd fit
some_alternative (k ∷ picks) (m ∷ ns) fit zero n e = let same : m ≡ n = same_Some m n e in let w = fit.0 in omega (arith, same, w)
some_alternative (k ∷ picks) (m ∷ ns) fit (suc j) n e = some_alternative picks ns fit.1 j n e

-- what an assignment picks for an item or entry fits its annotation
pub picks_fit : (g : Grammar) (s : List TokenForms) (cs : List PlacedChoice) (a : Assignment) (at : Site) → Loaded g → AreChoices g s cs → IsSite g s at
    → PicksFit (picks_at g s cs a at) (places (annotation_at g at))
picks_fit g s cs a at loaded choices is =
    let fit = (picks_stand g s loaded at is.0 is.1).0 in
    picks_within (λ k. alternative_at g s cs a (BranchAt at k)) 0 (places (annotation_at g at))
    (λ j n e. (let P : ℕ → Type 0 = λ z. alternative_at g s cs a (BranchAt at z) < n in let z : j ≡ 0 + j = omega arith in
    subst P z (within g s cs a (BranchAt at j) n choices (is, e) (some_alternative is.0 (places (annotation_at g at)) fit j n e))))

-- the item or entry of such a key
pub its_site : (g : Grammar) (s : List TokenForms) (key : ChoiceKey) → IsSiteKey g s key → IsSite g s (site_of_key key) × (key ≡ site_key g s (site_of_key key))
its_site g s key h =
    let same : site_of_key key ≡ h.0 = ap site_of_key h.2 ∙ site_of_its_key g s h.0 in
    let P : Site → Type 0 = λ at. IsSite g s at × (key ≡ site_key g s at) in
    subst P (sym same) (h.1, h.2)

-- an annotation where it stands, by its key
pub instance_is : (g : Grammar) (key : ChoiceKey) (down : Edge) (at : Site) → at ≡ site_of_key key → down ≡ (instance_at g (site_of_key key)).down
    → record { up = key.edge; down = down; site = at } ≡ instance_at g (site_of_key key)
instance_is g key down at h k = (λ i. record { up = key.edge; down = k i; site = h i }) ∙ go (key.rank == 2)
  where
    go : (b : Bool) → let z : Site = if b then site.Item key.edge key.item key.from key.to else site.Entry key.edge key.item in
        record { up = key.edge; down = (instance_at g z).down; site = z } ≡ instance_at g z
    go true = refl
    go false = refl

-- what holds behind one annotation more
pub one_site : (g : Grammar) (s : List TokenForms) (cs : List PlacedChoice) (a : Assignment) (key : ChoiceKey) (own : Annotation) (it : Instance) (sets : List (List Set)) (ctx : Set) (old new : List (Literal × Set))
    → own ≡ annotation_at g (site_of_key key) → it ≡ instance_at g (site_of_key key) → ArePicks sets a (picks_at g s cs a (site_of_key key)) → PicksFit (picks_at g s cs a (site_of_key key)) (places (annotation_at g (site_of_key key)))
    → Appends (places own) (λ ps. resolved it own ps 0) sets ctx old new
    → holding new a ≡ holding old a ++ (if member ctx a then key_literals g s cs a key else [])
one_site g s cs a key own it sets ctx old new same instance picks fit appends =
    let ps = picks_at g s cs a (site_of_key key) in
    let P : Annotation → Type 0 = λ z. PicksFit ps (places z) in
    appends.exact a ps picks (subst P (sym same) fit) ∙ (λ i. holding old a ++ (if member ctx a then resolved (instance i) (same i) ps 0 else []))

-- one thing more of a list
pub listed_one_more : {X Y : Type 0} (f : X → List Y) (xs : List X) (sets : List Set) (a : Assignment) (i : ℕ) (x : X) (z : Set) → i < length xs → i < length sets → x ≡ get_or xs i x → z ≡ get_or sets i z
    → listed_of f (take (i + 1) xs) sets a ≡ listed_of f (take i xs) sets a ++ (if member z a then f x else [])
listed_one_more f [] sets a i x z l m e h = absurd (omega arith)
listed_one_more f (y ∷ xs) [] a i x z l m e h = absurd (omega arith)
listed_one_more {X} {Y} f (y ∷ xs) (w ∷ sets) a zero x z l m e h =
    append-nil (if member w a then f y else []) ∙ (λ j. (if member (sym h j) a then f (sym e j) else []))
listed_one_more {X} {Y} f (y ∷ xs) (w ∷ sets) a (suc i) x z l m e h =
    let n : suc (i + 1) ≡ suc i + 1 = omega arith in
    let P : ℕ → Type 0 = λ k. listed_of f (take k (y ∷ xs)) (w ∷ sets) a ≡ listed_of f (take (suc i) (y ∷ xs)) (w ∷ sets) a ++ (if member z a then f x else []) in
    subst P n (ap (λ (ys : List Y). (if member w a then f y else []) ++ ys) (listed_one_more f xs sets a i x z (omega arith) (omega arith) e h)
    ∙ sym (append_assoc (if member w a then f y else []) (listed_of f (take i xs) sets a) (if member z a then f x else [])))

pub sum_one_more : {X : Type 0} (f : X → ℕ) (xs : List X) (i : ℕ) (x : X) → i < length xs → x ≡ get_or xs i x → sum_by f (take (i + 1) xs) ≡ sum_by f (take i xs) + f x
sum_one_more f xs i x l e =
    let one : sum_by f (get_or xs i x ∷ []) ≡ f x = (let z : 0 + f (get_or xs i x) ≡ f (get_or xs i x) = omega arith in z ∙ ap f (sym e)) in
    ap (sum_by f) (take_more xs i x l) ∙ sum_by-append f (take i xs) (get_or xs i x ∷ []) ∙ ap (λ n. sum_by f (take i xs) + n) one
