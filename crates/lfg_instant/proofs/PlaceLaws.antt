-- Places that were found.
use Rattle.std.proofs.Common.{◌≡◌, ◌↔◌, ℕ, inl, inr, Option, Some, None, List, [], ◌∷◌, ◌++◌, slice_get, ap, subst, ◌∙◌}
use Rattle.std.proofs.lemmas.Option.{same_Some}
use Rattle.std.specs.Prelude.{Result, Ok, Err, OnOk}
use Rattle.lfg_model.specs.Lists.{In, here, Once}
use Rattle.lfg_model.proofs.ListLaws.{In-nil, In-one, In-append_left, In-append_right, In-append_cases}
use Rattle.lfg_packed.proofs.Listing.{get_In}
use Rattle.lfg_instant.specs.Collects.{Collects}
use Rattle.lfg_instant.specs.Ways.{Thing, IsPlaceOf, IsPlaceIn, ArePlacesOf}
use Rattle.lfg_instant.proofs.CollectLaws.{collects_trans, collects_along, collected}
use Rattle.lfg_instant.proofs.WayLaws.{once_place}

-- a place that was found is all places of its thing
pub place_found : (things : List Thing) (t : Thing) (place : Option ℕ) → Once things → IsPlaceOf things t place → (i : ℕ) → (place ≡ Some i) ↔ IsPlaceIn things (t ∷ []) i
place_found things t None once away i = (
  (λ h. (let never : None ≡ Some i = h in cc)),
  (λ w. absurd (away (let P : Thing → Type 0 = λ u. In u things in subst P (In-one w.1) (get_In things i w.0 w.2)))),
)
place_found things t (Some j) once there i = (
  (λ h. (let P : ℕ → Type 0 = λ k. slice_get things k ≡ Some t in (t, here, subst P (same_Some j i h) there))),
  (λ w. ap Some (once_place things once j i t there (w.2 ∙ ap Some (In-one w.1)))),
)

pub add_found : (things : List Thing) (t : Thing) (place : Option ℕ) (old new : List ℕ) → Once things → IsPlaceOf things t place
    → Collects old new (λ i. place ≡ Some i) → Collects old new (IsPlaceIn things (t ∷ []))
add_found things t place old new once at h = collects_along old new (λ i. place ≡ Some i) (IsPlaceIn things (t ∷ [])) (place_found things t place once at) h

-- the places of some things, then of others
pub add_both : (things us vs : List Thing) (old mid new : List ℕ) → Collects old mid (IsPlaceIn things us) → Collects mid new (IsPlaceIn things vs) → Collects old new (IsPlaceIn things (us ++ vs))
add_both things us vs old mid new f h = collects_trans old mid new (IsPlaceIn things us) (IsPlaceIn things vs) (IsPlaceIn things (us ++ vs)) f h (λ i. (
  (λ w. elim (In-append_cases us vs w.1) [ inl a ↦ inl (w.0, a, w.2) | inr b ↦ inr (w.0, b, w.2) ]),
  (λ h. elim h [ inl w ↦ (w.0, In-append_left vs w.1, w.2) | inr w ↦ (w.0, In-append_right us w.1, w.2) ]),
))

-- no thing has no place
pub add_none : (things : List Thing) (old : List ℕ) → Collects old old (IsPlaceIn things [])
add_none things old = record { exact = λ i. ((λ h. inl h), (λ h. elim h [ inl a ↦ a | inr w ↦ In-nil w.1 ])) }

-- what holds after a call that went well
pub on_ok : {X E : Type 0} (P Q : Type 0) (r : Result X E) → (P → Q) → OnOk r P → OnOk r Q
on_ok P Q (Ok x) f h = f h
on_ok P Q (Err e) f h = h

-- the places of the things of some lists, one after the other, each said in another way
module _ (things : List Thing) where
  said : (us vs : List Thing) (old new : List ℕ) → us ≡ vs → Collects old new (IsPlaceIn things us) → Collects old new (IsPlaceIn things vs)
  said us vs old new e h = let P : List Thing → Type 0 = λ xs. Collects old new (IsPlaceIn things xs) in subst P e h

  from_none : (us : List Thing) (old new : List ℕ) → old ≡ [] → Collects old new (IsPlaceIn things us) → Collects [] new (IsPlaceIn things us)
  from_none us old new e h = let P : List ℕ → Type 0 = λ xs. Collects xs new (IsPlaceIn things us) in subst P e h

  pub all_one : (ts ts' : List Thing) (z a : List ℕ) → z ≡ [] → ts ≡ ts' → Collects z a (IsPlaceIn things ts) → ArePlacesOf things ts' a
  all_one ts ts' z a none et f i = collected a (IsPlaceIn things ts') (from_none ts' z a none (said ts ts' z a et f)) i

  pub all_two : (ts ts' us us' : List Thing) (z a b : List ℕ) → z ≡ [] → ts ≡ ts' → us ≡ us'
      → Collects z a (IsPlaceIn things ts) → Collects a b (IsPlaceIn things us) → ArePlacesOf things (ts' ++ us') b
  all_two ts ts' us us' z a b none et eu f g i =
      collected b (IsPlaceIn things (ts' ++ us')) (from_none (ts' ++ us') z b none (add_both things ts' us' z a b (said ts ts' z a et f) (said us us' a b eu g))) i

  pub all_four : (ts ts' us us' vs vs' ws ws' : List Thing) (z a b d e : List ℕ) → z ≡ [] → ts ≡ ts' → us ≡ us' → vs ≡ vs' → ws ≡ ws'
      → Collects z a (IsPlaceIn things ts) → Collects a b (IsPlaceIn things us) → Collects b d (IsPlaceIn things vs) → Collects d e (IsPlaceIn things ws)
      → ArePlacesOf things (ts' ++ (us' ++ (vs' ++ ws'))) e
  all_four ts ts' us us' vs vs' ws ws' z a b d e none et eu ev ew f g h k i =
      let behind = add_both things us' (vs' ++ ws') a b e (said us us' a b eu g) (add_both things vs' ws' b d e (said vs vs' b d ev h) (said ws ws' d e ew k)) in
      collected e (IsPlaceIn things (ts' ++ (us' ++ (vs' ++ ws')))) (from_none (ts' ++ (us' ++ (vs' ++ ws'))) z e none (add_both things ts' (us' ++ (vs' ++ ws')) z a e (said ts ts' z a et f) behind)) i
