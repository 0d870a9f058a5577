-- The turns of the loop that repeats, and the strings of a star and a plus.
use Rattle.std.proofs.Common.{◌≡◌, ℕ, zero, suc, ◌+◌, ◌≤◌, ◌<◌, List, [], ◌∷◌, ◌++◌, length, refl, sym, ap, subst, ◌∙◌, add-one, arith, inl, inr, ◌⊎◌, append_assoc}
use Rattle.std.proofs.lemmas.List.{length-append, append-nil}
use Rattle.lfg_model.specs.Lists.{In, here}
use Rattle.lfg_model.specs.Terms.{Name, Path}
use Rattle.lfg_model.specs.PathExpressions.{PathExpression, attribute, star, plus, HasString, HasShort, Joins, Repeats, no_more, once_more}
use Rattle.lfg_model.proofs.ListLaws.{In-one}
use Rattle.lfg_regpath.specs.declared.fault.PathFault.{PathFault}
use Rattle.lfg_regpath.specs.Sets.{Holds, IsJoin, IsRepeat, IsSet, Overfull}
use Rattle.lfg_regpath.proofs.Places.{one_ascends}
use Rattle.lfg_regpath.proofs.SetLaws.{is_set, set_same, over_same}

-- ---- joined strings

pub repeats_push : {P : Path → Type 0} (u v : Path) → Repeats P u → P v → Repeats P (u ++ v)
repeats_push u v no_more p = once_more p no_more (sym (append-nil v))
repeats_push u v (once_more {u = x} {v = y} p r e) q = once_more p (repeats_push y v r q) (ap (λ z. z ++ v) e ∙ append_assoc x y v)

pub repeats_map : {P Q : Path → Type 0} {w : Path} → ((u : Path) → P u → Q u) → Repeats P w → Repeats Q w
repeats_map f no_more = no_more
repeats_map f (once_more {u = x} p r e) = once_more (f x p) (repeats_map f r) e

repeats_short : {P Q : Path → Type 0} (n : ℕ) (w : Path) → ((u : Path) → P u → length u ≤ n → Q u) → Repeats P w → length w ≤ n → Repeats Q w
repeats_short n w f no_more l = no_more
repeats_short n w f (once_more {u = x} {v = y} p r e) l =
    let a : length w ≡ length x + length y = ap length e ∙ length-append x y in
    once_more (f x p (omega arith)) (repeats_short n y f r (omega arith)) e

pub repeats_cases : {P : Path → Type 0} {w : Path} → Repeats P w → (w ≡ []) ⊎ Joins P (Repeats P) w
repeats_cases no_more = inl refl
repeats_cases (once_more {u = x} {v = y} p r e) = inr (record { front = x; back = y; is = e; first = p; second = r })

-- ---- chains

-- w is one string of xs and then this number of further ones
abbrev pub Chain : List Path → ℕ → Path → Type 0
Chain xs zero w = In w xs
Chain xs (suc k) w = Joins (Chain xs k) (λ v. In v xs) w

pub record Chained (xs : List Path) (w : Path) : Type 0 where
  pub links : ℕ
  pub few : links ≤ length w
  pub chain : Chain xs links w

chained_at : (xs : List Path) (v w : Path) → w ≡ v → Chained xs v → Chained xs w
chained_at xs v w e c = subst (λ (z : Path). Chained xs z) (sym e) c

-- empty strings need no link
chain_on : (xs : List Path) (j : ℕ) (u v : Path) → Chain xs j u → j ≤ length u → Repeats (λ z. In z xs) v → Chained xs (u ++ v)
chain_on xs j u v c l no_more = chained_at xs u (u ++ []) (append-nil u) (record { links = j; few = l; chain = c })
chain_on xs j u v c l (once_more {u = []} {v = y} i r e) = chained_at xs (u ++ y) (u ++ v) (ap (λ z. u ++ z) e) (chain_on xs j u y c l r)
chain_on xs j u v c l (once_more {u = a ∷ x} {v = y} i r e) =
    chained_at xs ((u ++ a ∷ x) ++ y) (u ++ v) (ap (λ z. u ++ z) e ∙ sym (append_assoc u (a ∷ x) y))
    (chain_on xs (suc j) (u ++ a ∷ x) y (record { front = u; back = a ∷ x; is = refl; first = c; second = i }) (omega (arith, length-append u (a ∷ x))) r)

pub chain_of : (xs : List Path) (limit : ℕ) (w : Path) → IsRepeat xs limit w → Chained xs w
chain_of xs limit w r = chained_at xs (r.joins.front ++ r.joins.back) w r.joins.is (chain_on xs 0 r.joins.front r.joins.back r.joins.first (omega arith) r.joins.second)

-- ---- the loop

-- how often is repeated: last has the strings of xs with k further ones of xs behind it, and set
-- has those with at most k
pub record RepeatState (xs : List Path) (limit k : ℕ) (set last : List Path) : Type 0 where
  pub is : IsSet set
  pub sound : (w : Path) → In w set → IsRepeat xs limit w
  pub last_sound : (w : Path) → In w last → IsRepeat xs limit w
  pub last_has : (w : Path) → Chain xs k w → length w ≤ limit → In w last
  pub reached : (j : ℕ) (w : Path) → j ≤ k → Chain xs j w → length w ≤ limit → In w set

pub repeat_start : (xs : List Path) (limit : ℕ) → IsSet xs → ((w : Path) → In w xs → length w ≤ limit) → RepeatState xs limit 0 xs xs
repeat_start xs limit s short = record {
  is = s;
  sound = one_repeat;
  last_sound = one_repeat;
  last_has = λ w c m. c;
  reached = at_start;
}
  where
    one_repeat : (w : Path) → In w xs → IsRepeat xs limit w
    one_repeat w i = record { joins = record { front = w; back = []; is = sym (append-nil w); first = i; second = no_more }; short = short w i }

    at_start : (j : ℕ) (w : Path) → j ≤ 0 → Chain xs j w → length w ≤ limit → In w xs
    at_start zero w l c m = c
    at_start (suc j) w l c m = absurd (let no : ⊥ = omega arith in no)

last_or_before : (j k : ℕ) → j ≤ k + 1 → (j ≤ k) ⊎ (j ≡ suc k)
last_or_before j k l = grind arith

module _ (xs : List Path) (limit k : ℕ) (set last : List Path) (s : RepeatState xs limit k set last) where
  pub joined_repeat : (w : Path) → IsJoin last xs limit w → IsRepeat xs limit w
  joined_repeat w j =
      let r = s.last_sound j.joins.front j.joins.first in
      record {
        joins = record {
          front = r.joins.front;
          back = r.joins.back ++ j.joins.back;
          is = j.joins.is ∙ ap (λ z. z ++ j.joins.back) r.joins.is ∙ append_assoc r.joins.front r.joins.back j.joins.back;
          first = r.joins.first;
          second = repeats_push r.joins.back j.joins.back r.joins.second j.joins.second;
        };
        short = j.short;
      }

  pub repeat_stop : (fault : PathFault) → Overfull (IsJoin last xs limit) fault → Overfull (IsRepeat xs limit) fault
  repeat_stop fault over = over_same (IsJoin last xs limit) (IsRepeat xs limit) joined_repeat fault over

  module _ (longer : List Path) (m : Holds (IsJoin last xs limit) longer) where
    either_repeat : (w : Path) → In w set ⊎ In w longer → IsRepeat xs limit w
    either_repeat w j = elim j [ inl a ↦ s.sound w a | inr b ↦ joined_repeat w ((m.exact w).0 b) ]

    pub repeat_stop_added : (fault : PathFault) → Overfull (λ w. In w set ⊎ In w longer) fault → Overfull (IsRepeat xs limit) fault
    repeat_stop_added fault over = over_same (λ w. In w set ⊎ In w longer) (IsRepeat xs limit) either_repeat fault over

    longer_has : (w : Path) → Chain xs (suc k) w → length w ≤ limit → In w longer
    longer_has w c h =
        let a : length w ≡ length c.front + length c.back = ap length c.is ∙ length-append c.front c.back in
        (m.exact w).1 (record { joins = record { front = c.front; back = c.back; is = c.is; first = s.last_has c.front c.first (omega arith); second = c.second }; short = h })

    next_reached : (j : ℕ) (w : Path) → j ≤ k + 1 → Chain xs j w → length w ≤ limit → In w set ⊎ In w longer
    next_reached j w l c h = elim (last_or_before j k l) [
      | inl a ↦ inl (s.reached j w a c h)
      | inr e ↦ inr (longer_has w (subst (λ (i : ℕ). Chain xs i w) e c) h)
    ]

    pub repeat_step : (next : List Path) → Holds (λ w. In w set ⊎ In w longer) next → RepeatState xs limit (k + 1) next longer
    repeat_step next n = record {
      is = is_set _ n;
      sound = λ w i. either_repeat w ((n.exact w).0 i);
      last_sound = λ w i. joined_repeat w ((m.exact w).0 i);
      last_has = λ w c h. longer_has w (subst (λ (i : ℕ). Chain xs i w) (add-one k) c) h;
      reached = λ j w l c h. (n.exact w).1 (next_reached j w l c h);
    }

  pub repeat_end : limit ≤ k → Holds (IsRepeat xs limit) set
  repeat_end l = record {
    ascends = s.is.ascends;
    few = s.is.few;
    exact = λ w. (λ i. s.sound w i, λ r. let c = chain_of xs limit w r in s.reached c.links w (omega (arith, c.few, r.short)) c.chain r.short);
  }

-- ---- plus and star

-- where the inside has too many strings, so have the plus and the star
once_plus : (inside : PathExpression) (limit : ℕ) (w : Path) → HasShort inside limit w → HasShort (plus inside) limit w
once_plus inside limit w h = record { has = record { front = w; back = []; is = sym (append-nil w); first = h.has; second = no_more }; short = h.short }

once_star : (inside : PathExpression) (limit : ℕ) (w : Path) → HasShort inside limit w → HasShort (star inside) limit w
once_star inside limit w h = record { has = once_more h.has no_more (sym (append-nil w)); short = h.short }

pub plus_full : (inside : PathExpression) (limit : ℕ) (fault : PathFault) → Overfull (HasShort inside limit) fault → Overfull (HasShort (plus inside) limit) fault
plus_full inside limit fault over = over_same (HasShort inside limit) (HasShort (plus inside) limit) (once_plus inside limit) fault over

pub star_full : (inside : PathExpression) (limit : ℕ) (fault : PathFault) → Overfull (HasShort inside limit) fault → Overfull (HasShort (star inside) limit) fault
star_full inside limit fault over = over_same (HasShort inside limit) (HasShort (star inside) limit) (once_star inside limit) fault over

module _ (inside : PathExpression) (limit : ℕ) (found : List Path) (f : Holds (HasShort inside limit) found) where
  inside_of : (u : Path) → In u found → HasString inside u
  inside_of u i = ((f.exact u).0 i).has

  found_of : (u : Path) → HasString inside u → length u ≤ limit → In u found
  found_of u h l = (f.exact u).1 (record { has = h; short = l })

  pub short_of : (u : Path) → In u found → length u ≤ limit
  short_of u i = ((f.exact u).0 i).short

  pub plus_sound : (w : Path) → IsRepeat found limit w → HasShort (plus inside) limit w
  plus_sound w r = record {
    has = record { front = r.joins.front; back = r.joins.back; is = r.joins.is; first = inside_of r.joins.front r.joins.first; second = repeats_map inside_of r.joins.second };
    short = r.short;
  }

  plus_complete : (w : Path) → HasShort (plus inside) limit w → IsRepeat found limit w
  plus_complete w h =
      let j = h.has in
      let a : length w ≡ length j.front + length j.back = ap length j.is ∙ length-append j.front j.back in
      let l = h.short in
      record {
        joins = record { front = j.front; back = j.back; is = j.is; first = found_of j.front j.first (omega arith); second = repeats_short limit j.back found_of j.second (omega arith) };
        short = h.short;
      }

  pub plus_set : {set : List Path} → Holds (IsRepeat found limit) set → Holds (HasShort (plus inside) limit) set
  plus_set s = set_same (IsRepeat found limit) (HasShort (plus inside) limit) plus_sound plus_complete s

  pub plus_stop : (fault : PathFault) → Overfull (IsRepeat found limit) fault → Overfull (HasShort (plus inside) limit) fault
  plus_stop fault over = over_same (IsRepeat found limit) (HasShort (plus inside) limit) plus_sound fault over

  star_from_plus : (w : Path) → HasShort (plus inside) limit w → HasShort (star inside) limit w
  star_from_plus w h = record { has = once_more h.has.first h.has.second h.has.is; short = h.short }

  star_sound : (w : Path) → IsRepeat found limit w ⊎ (w ≡ []) → HasShort (star inside) limit w
  star_sound w j = elim j [
    | inl a ↦ star_from_plus w (plus_sound w a)
    | inr e ↦ subst (λ (z : Path). HasShort (star inside) limit z) (sym e) (record { has = no_more; short = omega arith })
  ]

  star_complete : (w : Path) → HasShort (star inside) limit w → IsRepeat found limit w ⊎ (w ≡ [])
  star_complete w h = elim (repeats_cases h.has) [ inl e ↦ inr e | inr j ↦ inl (plus_complete w (record { has = j; short = h.short })) ]

  pub star_set : {set : List Path} → Holds (λ w. IsRepeat found limit w ⊎ (w ≡ [])) set → Holds (HasShort (star inside) limit) set
  star_set s = set_same (λ w. IsRepeat found limit w ⊎ (w ≡ [])) (HasShort (star inside) limit) star_sound star_complete s

  pub star_stop : (fault : PathFault) → Overfull (λ w. IsRepeat found limit w ⊎ (w ≡ [])) fault → Overfull (HasShort (star inside) limit) fault
  star_stop fault over = over_same (λ w. IsRepeat found limit w ⊎ (w ≡ [])) (HasShort (star inside) limit) star_sound fault over

-- ---- attributes

pub attribute_none : (name : Name) (w : Path) → ¬ HasShort (attribute name) 0 w
attribute_none name w h = let no : ⊥ = omega (arith, ap length h.has, h.short) in no

pub attribute_set : (name : Name) (limit : ℕ) (set : List Path) → 0 < limit → set ≡ (name ∷ []) ∷ [] → Holds (HasShort (attribute name) limit) set
attribute_set name limit set l e = subst (λ (z : List Path). Holds (HasShort (attribute name) limit) z) (sym e) (record {
  ascends = one_ascends (name ∷ []);
  few = omega arith;
  exact = λ w. (λ i. let f = In-one i in record { has = f; short = omega (arith, ap length f) }, λ h. rw h.has here);
})
