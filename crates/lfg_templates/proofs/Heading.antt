-- Heads, and those before them.
use Rattle.std.proofs.Common.{◌≡◌, ◌≢◌, ℕ, zero, suc, arith, ◌+◌, ◌<◌, ◌⊎◌, inl, inr, Option, List, [], ◌∷◌, ◌++◌, length, map, take, get_or, sym, ap, ◌∙◌, subst, append_assoc, append-nil}
use Rattle.std.proofs.lemmas.List.{take_more, map_more, map-append}
use Rattle.lfg_model.specs.Lists.{In, here, later}
use Rattle.lfg_model.specs.Terms.{Name}
use Rattle.lfg_model.specs.TemplateRules.{Head, head_entry, Repeated, Headed, headed_from, headed, HeadsBefore, Twice, at_once, further, head_name}
use Rattle.lfg_model.proofs.ListLaws.{In-push_cases, In-nil, In-cons_cases, In-map, In_from_map, In-take_more}
use Rattle.lfg_templates.proofs.Measures.{In_item}
use Rattle.lfg_templates.specs.declared.heads.Head as held
use Rattle.lfg_templates.specs.Spots.{Spot, Finds}
use Rattle.lfg_templates.specs.Views.{head_of}

headed_from_push : (earlier hs : List Head) (h : Head) → headed_from earlier (hs ++ h ∷ []) ≡ headed_from earlier hs ++ record { head = h; earlier = earlier ++ hs } ∷ []
headed_from_push earlier [] h = ap (λ (e : List Head). let r : List Headed = record { head = h; earlier = e } ∷ [] in r) (sym (append-nil earlier))
headed_from_push earlier (x ∷ hs) h =
    ap (λ (r : List Headed). record { head = x; earlier = earlier } ∷ r)
    (headed_from_push (earlier ++ x ∷ []) hs h ∙ ap (λ (e : List Head). headed_from (earlier ++ x ∷ []) hs ++ record { head = h; earlier = e } ∷ []) (append_assoc earlier (x ∷ []) hs))

pub headed_push : (hs : List Head) (h : Head) → headed (hs ++ h ∷ []) ≡ headed hs ++ record { head = h; earlier = hs } ∷ []
headed_push hs h = headed_from_push [] hs h

-- one more head, as a loop takes it
pub headed_more : (hs : List held.Head) (i : ℕ) (h : held.Head) → i < length hs → h ≡ get_or hs i h
    → headed (map head_of (take (i + 1) hs)) ≡ headed (map head_of (take i hs)) ++ record { head = head_of h; earlier = map head_of (take i hs) } ∷ []
headed_more hs i h l e =
    ap (λ (xs : List held.Head). headed (map head_of xs)) (take_more hs i h l ∙ ap (λ (x : held.Head). take i hs ++ x ∷ []) (sym e))
    ∙ ap headed (map-append head_of (take i hs) (h ∷ [])) ∙ headed_push (map head_of (take i hs)) (head_of h)

pub heads_taken : (hs : List held.Head) (i : ℕ) (h : held.Head) → i < length hs → h ≡ get_or hs i h → map head_of (take (i + 1) hs) ≡ map head_of (take i hs) ++ head_of h ∷ []
heads_taken hs i h l e = map_more head_of hs i h l ∙ ap (λ (x : held.Head). map head_of (take i hs) ++ head_of x ∷ []) (sym e)

-- ---- what was passed

twice_push : (xs : List Name) (x : Name) → Twice (xs ++ x ∷ []) → Twice xs ⊎ In x xs
twice_push [] x (at_once h) = In-nil h
twice_push [] x (further h) = elim h [ ]
twice_push (y ∷ xs) x (at_once h) = elim (In-push_cases xs x h) [ inl a ↦ inl (at_once a) | inr e ↦ inr (rw e here) ]
twice_push (y ∷ xs) x (further h) = elim (twice_push xs x h) [ inl a ↦ inl (further a) | inr b ↦ inr (later b) ]

pub twice_found : (xs : List Name) (i : ℕ) (x : Name) → i < length xs → x ≡ get_or xs i x → In x (take i xs) → Twice xs
twice_found [] i x l e h = absurd (let no : ⊥ = omega arith in no)
twice_found (y ∷ xs) zero x l e h = In-nil h
twice_found (y ∷ xs) (suc i) x l e h = elim (In-cons_cases h) [
  | inl f ↦ at_once (subst (λ (z : Name). In z xs) f (In_item xs i x x (omega arith) e))
  | inr g ↦ further (twice_found xs i x (omega arith) e g)
]

pub not_twice_more : (xs : List Name) (i : ℕ) (x : Name) → i < length xs → x ≡ get_or xs i x → (Twice (take i xs) → ⊥) → (In x (take i xs) → ⊥) → Twice (take (i + 1) xs) → ⊥
not_twice_more xs i x l e h g t =
    elim (twice_push (take i xs) x (subst (λ (ys : List Name). Twice ys) (take_more xs i x l ∙ ap (λ (y : Name). take i xs ++ y ∷ []) (sym e)) t)) [ inl a ↦ h a | inr b ↦ g b ]

-- heads that are these
pub finds_at : (o : Option Spot) (hs gs : List Head) → hs ≡ gs → Finds head_entry head_name Repeated (headed hs) o → Finds head_entry head_name Repeated (headed gs) o
finds_at o hs gs e f = subst (λ (xs : List Head). Finds head_entry head_name Repeated (headed xs) o) e f
