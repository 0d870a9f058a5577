-- The sets of the picks of a part are made, as those of the whole are.
use Rattle.std.proofs.Common.{◌≡◌, ℕ, zero, suc, List, [], ◌∷◌, ◌++◌, take, drop, sym, subst}
use Rattle.lfg_model.specs.Lists.{In, here, later}
use Rattle.lfg_model.proofs.ListLaws.{In-take}
use Rattle.lfg_context.specs.Seen.{Set, Known}
use Rattle.lfg_context.specs.Sets.{IsMade, IsGrown, IsSetOf, AreMade}
use Rattle.lfg_context.proofs.Growing.{made_grown, grown_trans, grown_refl, same_picks_trans, same_picks_refl, are_made_grown, are_made_nil, are_made_push, set_made_at, pair_made_at}
use Rattle.lfg_instant.specs.Annotations.{ArePicksMade}

pub picks_made_grown : {k l : Known} {picks : List (List Set)} → IsGrown k l → ArePicksMade k picks → ArePicksMade l picks
picks_made_grown {k} {l} {picks} g m = record { each = λ xs h. are_made_grown g (m.each xs h) }

In-drop : {X : Type 0} {x : X} (n : ℕ) (xs : List X) → In x (drop n xs) → In x xs
In-drop {X} {x} zero xs h = h
In-drop {X} {x} (suc n) [] h = h
In-drop {X} {x} (suc n) (y ∷ ys) h = later (In-drop n ys h)

pub picks_made_before : {k : Known} (n : ℕ) (picks own : List (List Set)) → own ≡ take n picks → ArePicksMade k picks → ArePicksMade k own
picks_made_before {k} n picks own e m = let P : List (List Set) → Type 0 = ArePicksMade k in subst P (sym e) (record { each = λ xs h. m.each xs (In-take n picks h) })

pub picks_made_behind : {k : Known} (n : ℕ) (picks others : List (List Set)) → others ≡ drop n picks → ArePicksMade k picks → ArePicksMade k others
picks_made_behind {k} n picks others e m = let P : List (List Set) → Type 0 = ArePicksMade k in subst P (sym e) (record { each = λ xs h. m.each xs (In-drop n picks h) })

pub picks_made_first : {k : Known} (picks others : List (List Set)) (alternatives : List Set) → picks ≡ alternatives ∷ others → ArePicksMade k picks → AreMade k (λ x. x) alternatives
picks_made_first {k} picks others alternatives e m = m.each alternatives (let P : List (List Set) → Type 0 = λ z. In alternatives z in subst P (sym e) here)

pub picks_made_others : {k : Known} (picks others : List (List Set)) (alternatives : List Set) → picks ≡ alternatives ∷ others → ArePicksMade k picks → ArePicksMade k others
picks_made_others {k} picks others alternatives e m = record { each = λ xs h. m.each xs (let P : List (List Set) → Type 0 = λ z. In xs z in subst P (sym e) (later h)) }

-- the set that a call of `and` or the like gives was made
pub set_made : {k : Known} {x : Set} {p : (ℕ → ℕ) → _} → IsSetOf k x p → IsMade k x
set_made {k} {x} {p} s = s.made

pub made_pushed : {X : Type 0} {k l : Known} (set_of : X → Set) (xs new : List X) (x : X) → IsGrown k l → AreMade k set_of xs → IsMade l (set_of x) → new ≡ xs ++ x ∷ [] → AreMade l set_of new
made_pushed {X} {k} {l} set_of xs new x g m one e = let P : List X → Type 0 = AreMade l set_of in subst P (sym e) (are_made_push (are_made_grown g m) one)

pub made_nothing : {X : Type 0} (k : Known) (set_of : X → Set) (xs : List X) → xs ≡ [] → AreMade k set_of xs
made_nothing {X} k set_of xs e = let P : List X → Type 0 = AreMade k set_of in subst P (sym e) (are_made_nil k set_of)

pub ruleset making = (made_grown, grown_trans, grown_refl, same_picks_trans, same_picks_refl, are_made_grown, are_made_nil, are_made_push, set_made_at, pair_made_at, picks_made_grown, set_made)
