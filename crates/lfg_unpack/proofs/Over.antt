-- Sets of one contexts that depend on the choices of one space.
use Rattle.std.proofs.Common.{◌≡◌, ℕ, ◌<◌, List, [], ◌∷◌, ◌++◌, length, get_or, refl, sym, subst, inl, inr, ◌⊎◌, arith}
use Rattle.lfg_terms.specs.declared.node.Fact.{Fact}
use Rattle.lfg_model.specs.Lists.{In, here, later}
use Rattle.lfg_model.proofs.ListLaws.{In-nil, In-at, In_from_map}
use Rattle.lfg_context.specs.Seen.{Set, Known}
use Rattle.lfg_context.specs.Sets.{IsMade, DependsOnFirst}
use Rattle.lfg_store.specs.Facts.{Entries}
use Rattle.lfg_store.specs.Packing.{DependOnFirst}
use Rattle.lfg_unpack.specs.Pieces.{AllMade, AllDepend, Includes, Gathers}

-- sets among others
pub included_made : {k : Known} {xs ys : List Set} → Includes xs ys → AllMade k ys → AllMade k xs
included_made {k} {xs} {ys} i m = record { each = λ x j. m.each x (i x j) }

pub included_depend : {n : ℕ} {xs ys : List Set} → Includes xs ys → AllDepend n ys → AllDepend n xs
included_depend {n} {xs} {ys} i d = record { each = λ x j. d.each x (i x j) }

pub first_made : {k : Known} {x : Set} {xs : List Set} → AllMade k (x ∷ xs) → IsMade k x
first_made {k} {x} {xs} m = m.each x here

pub first_depends : {n : ℕ} {x : Set} {xs : List Set} → AllDepend n (x ∷ xs) → DependsOnFirst n x
first_depends {n} {x} {xs} d = d.each x here

pub rest_made : {k : Known} {x : Set} {xs : List Set} → AllMade k (x ∷ xs) → AllMade k xs
rest_made {k} {x} {xs} m = record { each = λ y i. m.each y (later i) }

pub rest_depend : {n : ℕ} {x : Set} {xs : List Set} → AllDepend n (x ∷ xs) → AllDepend n xs
rest_depend {n} {x} {xs} d = record { each = λ y i. d.each y (later i) }

-- gathered contexts depend on what the entries depend on
pub none_depend : (n : ℕ) → AllDepend n []
none_depend n = record { each = λ x i. In-nil i }

pub gathered_depend : {n : ℕ} {es : Entries} {old new : List Set} → Gathers es old new → AllDepend n old → DependOnFirst n es → AllDepend n new
gathered_depend {n} {es} {old} {new} g o d = record {
  each = λ x i. elim (g.only x i) [
    | inl j ↦ o.each x j
    | inr j ↦ (let s = In_from_map (λ (e : Fact × Set). e.1) es j in subst (λ (v : Set). DependsOnFirst n v) s.2 (d.each s.0 s.1))
  ];
}

pub nil_from_length : {X : Type 0} (xs : List X) → length xs ≡ 0 → xs ≡ []
nil_from_length [] e = refl
nil_from_length (x ∷ xs) e = absurd (omega arith)
