-- What stands at an assignment.
use Rattle.std.proofs.Common.{◌≡◌, Bool, true, false, cond, List, [], ◌∷◌, ◌++◌, refl, sym, ◌∙◌, ap, subst, inl, inr, ◌⊎◌}
use Rattle.lfg_terms.specs.declared.node.Fact.{Fact}
use Rattle.lfg_model.specs.Lists.{In, here, later}
use Rattle.lfg_model.proofs.ListLaws.{In-nil, In-cons_cases}
use Rattle.lfg_context.specs.Seen.{Set}
use Rattle.lfg_context.specs.Sets.{Assignment, member}
use Rattle.lfg_store.specs.Facts.{held}

module _ {X : Type 0} where
  pub held-append : (xs ys : List (X × Set)) (a : Assignment) → held (xs ++ ys) a ≡ held xs a ++ held ys a
  held-append [] ys a = refl
  held-append (e ∷ xs) ys a = by_member (member e.1 a) (held-append xs ys a)
    where
      by_member : (b : Bool) → held (xs ++ ys) a ≡ held xs a ++ held ys a
          → cond b (e.0 ∷ held (xs ++ ys) a) (held (xs ++ ys) a) ≡ cond b (e.0 ∷ held xs a) (held xs a) ++ held ys a
      by_member true ih = ap (λ v. e.0 ∷ v) ih
      by_member false ih = ih

  -- an entry from which a thing that stands at the assignment comes
  abbrev pub Source : List (X × Set) → Assignment → X → Type 0
  Source es a x = (e : X × Set) × In e es × (e.0 ≡ x) × (member e.1 a ≡ true)

  source_later : (e : X × Set) (es : List (X × Set)) (a : Assignment) (x : X) → Source es a x → Source (e ∷ es) a x
  source_later e es a x s = (s.0, later s.1, s.2, s.3)

  pub held_from : (es : List (X × Set)) (a : Assignment) (x : X) → In x (held es a) → Source es a x
  held_from [] a x h = In-nil h
  held_from (e ∷ es) a x h = by_member (member e.1 a) refl (held_from es a x) h
    where
      by_member : (b : Bool) → member e.1 a ≡ b → (In x (held es a) → Source es a x) → In x (cond b (e.0 ∷ held es a) (held es a)) → Source (e ∷ es) a x
      by_member true m ih i = elim (In-cons_cases i) [ inl same ↦ (e, here, sym same, m) | inr rest ↦ source_later e es a x (ih rest) ]
      by_member false m ih i = source_later e es a x (ih i)

  in_if_true : (b : Bool) (x : X) (xs : List X) → b ≡ true → In x (cond b (x ∷ xs) xs)
  in_if_true true x xs e = here
  in_if_true false x xs e = absurd (cc)

  in_if_rest : (b : Bool) (x y : X) (xs : List X) → In x xs → In x (cond b (y ∷ xs) xs)
  in_if_rest true x y xs i = later i
  in_if_rest false x y xs i = i

  -- what has the assignment stands
  pub In-held : (es : List (X × Set)) (a : Assignment) (e : X × Set) → In e es → member e.1 a ≡ true → In e.0 (held es a)
  In-held [] a e h m = In-nil h
  In-held (d ∷ es) a e here m = in_if_true (member d.1 a) d.0 (held es a) m
  In-held (d ∷ es) a e (later h) m = in_if_rest (member d.1 a) e.0 d.0 (held es a) (In-held es a e h m)
