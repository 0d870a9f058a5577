-- The first in written order of two lists, one behind the other.
use Rattle.std.proofs.Common.{◌≡◌, ℕ, ◌<◌, ◌≤◌, Bool, true, false, cond, nat_lt, Option, Some, None, List, [], ◌∷◌, ◌++◌, refl, sym, ap, ◌∙◌, subst, arith, inl, inr, append_assoc}
use Rattle.std.proofs.lemmas.Bool.{ltb-true, ltb-false}
use Rattle.std.specs.Option.{option_map}
use Rattle.lfg_model.specs.Lists.{In}
use Rattle.lfg_model.specs.Terms.{Name}
use Rattle.lfg_model.specs.TemplateRules.{FirstWritten, NoneHas}
use Rattle.lfg_model.proofs.ListLaws.{In-append_cases, In-cons_cases, In-one}
use Rattle.lfg_templates.specs.Spots.{Spot, Best, spot_by, Finds, earlier_of}

module _ {X : Type 0} (entry : X → ℕ) (P : X → Type 0) where
  pub none_joined : (xs ys : List X) → NoneHas P xs → NoneHas P ys → NoneHas P (xs ++ ys)
  none_joined xs ys h g = λ x i p. elim (In-append_cases xs ys i) [ inl a ↦ h x a p | inr b ↦ g x b p ]

  left_first : (xs ys : List X) (x : X) → FirstWritten entry P xs x → ((y : X) → In y ys → P y → entry x ≤ entry y) → FirstWritten entry P (xs ++ ys) x
  left_first xs ys x f h = record {
    front = f.front;
    back = f.back ++ ys;
    is = ap (λ (zs : List X). zs ++ ys) f.is ∙ append_assoc f.front (x ∷ f.back) ys;
    has = f.has;
    before = f.before;
    behind = λ y i p. elim (In-append_cases f.back ys i) [ inl a ↦ f.behind y a p | inr b ↦ h y b p ];
  }

  right_first : (xs ys : List X) (y : X) → FirstWritten entry P ys y → ((x : X) → In x xs → P x → entry y < entry x) → FirstWritten entry P (xs ++ ys) y
  right_first xs ys y f h = record {
    front = xs ++ f.front;
    back = f.back;
    is = ap (λ (zs : List X). xs ++ zs) f.is ∙ sym (append_assoc xs f.front (y ∷ f.back));
    has = f.has;
    before = λ x i p. elim (In-append_cases xs f.front i) [ inl a ↦ h x a p | inr b ↦ f.before x b p ];
    behind = f.behind;
  }

  -- the first is of the least entry
  pub first_least : (xs : List X) (x : X) → FirstWritten entry P xs x → (y : X) → In y xs → P y → entry x ≤ entry y
  first_least xs x f y i p = elim (In-append_cases f.front (x ∷ f.back) (subst (λ (zs : List X). In y zs) f.is i)) [
    | inl a ↦ let l = f.before y a p in omega arith
    | inr b ↦ elim (In-cons_cases b) [ inl e ↦ let same : entry y ≡ entry x = ap entry e in omega arith | inr c ↦ f.behind y c p ]
  ]

module _ {X : Type 0} (entry : X → ℕ) (name : X → Name) (P : X → Type 0) where
  both : (xs ys : List X) (x y : X) (b : Bool) → nat_lt (entry y) (entry x) ≡ b → FirstWritten entry P xs x → FirstWritten entry P ys y
      → Finds entry name P (xs ++ ys) (cond b (Some (spot_by entry name y)) (Some (spot_by entry name x)))
  both xs ys x y true e f g = record {
    first = Some y;
    best = right_first entry P xs ys y g (λ z i p. let l = ltb-true (entry y) (entry x) e in let m = first_least entry P xs x f z i p in omega arith);
    is = refl;
  }
  both xs ys x y false e f g = record {
    first = Some x;
    best = left_first entry P xs ys x f (λ z i p. let l = ltb-false (entry y) (entry x) e in let m = first_least entry P ys y g z i p in omega arith);
    is = refl;
  }

  joined : (xs ys : List X) (a b : Option X) → Best entry P xs a → Best entry P ys b → Finds entry name P (xs ++ ys) (earlier_of (option_map (spot_by entry name) a) (option_map (spot_by entry name) b))
  joined xs ys None None h g = record { first = None; best = none_joined entry P xs ys h g; is = refl }
  joined xs ys None (Some y) h g = record { first = Some y; best = right_first entry P xs ys y g (λ z i p. absurd (h z i p)); is = refl }
  joined xs ys (Some x) None h g = record { first = Some x; best = left_first entry P xs ys x h (λ z i p. absurd (g z i p)); is = refl }
  joined xs ys (Some x) (Some y) h g = both xs ys x y (nat_lt (entry y) (entry x)) refl h g

  pub finds_joined : (xs ys : List X) (a b : Option Spot) → Finds entry name P xs a → Finds entry name P ys b → Finds entry name P (xs ++ ys) (earlier_of a b)
  finds_joined xs ys a b f g = subst (λ (o : Option Spot). Finds entry name P (xs ++ ys) (earlier_of o b)) (sym f.is) (subst (λ (o : Option Spot). Finds entry name P (xs ++ ys) (earlier_of (option_map (spot_by entry name) f.first) o)) (sym g.is) (joined xs ys f.first g.first f.best g.best))

  pub finds_nothing : Finds entry name P [] None
  finds_nothing = record { first = None; best = λ x i p. elim i [ ]; is = refl }

  finds_one : (x : X) → P x → Finds entry name P (x ∷ []) (Some (spot_by entry name x))
  finds_one x p = record { first = Some x; best = record { front = []; back = []; is = refl; has = p; before = λ y i q. absurd (elim i [ ]); behind = λ y i q. absurd (elim i [ ]) }; is = refl }

  -- one more that has P, and one more that has not
  pub finds_more : (xs : List X) (a : Option Spot) (x : X) → Finds entry name P xs a → P x → Finds entry name P (xs ++ x ∷ []) (earlier_of a (Some (spot_by entry name x)))
  finds_more xs a x f p = finds_joined xs (x ∷ []) a (Some (spot_by entry name x)) f (finds_one x p)

  earlier_none : (a : Option Spot) → earlier_of a None ≡ a
  earlier_none None = refl
  earlier_none (Some x) = refl

  pub finds_same : (xs : List X) (a : Option Spot) (x : X) → Finds entry name P xs a → (P x → ⊥) → Finds entry name P (xs ++ x ∷ []) a
  finds_same xs a x f n = subst (λ (o : Option Spot). Finds entry name P (xs ++ x ∷ []) o) (earlier_none a) (finds_joined xs (x ∷ []) a None f (record { first = None; best = λ y i p. n (subst P (In-one i) p); is = refl }))
