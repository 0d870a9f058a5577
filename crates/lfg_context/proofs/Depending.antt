-- On which choices sets depend. Crates above name these lemmas in
-- `using(lfg_context::proofs::Depending::depending)`.
use Rattle.std.proofs.Common.{◌≡◌, ℕ, ◌-◌, ◌<◌, ◌≤◌, ◌⊎◌, inl, inr, true, false, ◌&&◌, ◌||◌, ◌==◌, not, min, List, length, sym, ◌∙◌, ap, subst, arith}
use Rattle.std.proofs.Math.Path.{fun_ext}
use Rattle.lfg_terms.specs.declared.choice.Choice.{Choice}
use Rattle.lfg_choice.specs.Choices.{alternatives_of}
use Rattle.lfg_context.specs.Cubes.{taken, set_at}
use Rattle.lfg_context.specs.Seen.{Set, Known}
use Rattle.lfg_context.specs.Sets.{Assignment, TakeAlike, member, arity_of, IsInTable, IsMade, HasPicksOf, IsSetOf, IsConstant, IsBlindTo, Reads, IsFirstChoice, DependsOnFirst, IsOver}

-- membership depends on the alternative taken of each choice alone
pub taken_alike : {k : Known} {x : Set} (a b : Assignment) → IsMade k x → TakeAlike (arity_of k) a b → member x a ≡ member x b
unfolding IsInTable
taken_alike {k} {x} a b m alike = m.in_table.2 a b alike

-- a set does not read a choice that was not picked
pub unpicked_blind : {k : Known} {x : Set} (c : ℕ) → IsMade k x → arity_of k c < 2 → IsBlindTo x c
unpicked_blind {k} {x} c m low a v = taken_alike a (set_at a c v) m (λ e. elim (split e c) [
  | inl here ↦
      let P : ℕ → Type 0 = λ w. taken a w (arity_of k w) ≡ taken (set_at a c v) w (arity_of k w) in
      subst P (sym here) (none a (arity_of k c) low ∙ sym (none (set_at a c v) (arity_of k c) low))
  | inr other ↦ let same : set_at a c v e ≡ a e = grind arith in sym (ap (λ w. min w (arity_of k e - 1)) same)
])
  where
    split : (e c : ℕ) → (e ≡ c) ⊎ (e ≡ c → ⊥)
    split e c = grind arith

    none : (b : ℕ → ℕ) (n : ℕ) → n < 2 → taken b c n ≡ 0
    none b n h = omega arith

-- a choice that a set reads was picked
pub read_was_picked : {k : Known} {x : Set} (c : ℕ) → IsMade k x → Reads x c → 2 ≤ arity_of k c
read_was_picked {k} {x} c m reads = elim (split (arity_of k c)) [ inl low ↦ absurd (reads (unpicked_blind c m low)) | inr two ↦ two ]
  where
    split : (n : ℕ) → (n < 2) ⊎ (2 ≤ n)
    split n = grind arith

-- a set has one first choice
pub one_first : {x : Set} {c t : ℕ} → IsFirstChoice x c → IsFirstChoice x t → c ≡ t
one_first {x} {c} {t} p q = elim (three c t) [
  | inl less ↦ absurd (p.reads (q.blind c less))
  | inr (inl eq) ↦ eq
  | inr (inr more) ↦ absurd (q.reads (p.blind t more))
]
  where
    three : (m n : ℕ) → (m < n) ⊎ ((m ≡ n) ⊎ (n < m))
    three m n = grind arith

-- a set with a first choice is neither empty nor full
pub first_not_constant : {x : Set} {c : ℕ} → IsFirstChoice x c → IsConstant x → ⊥
first_not_constant {x} {c} f (inl none) = f.reads (λ a v. none a ∙ sym (none (set_at a c v)))
first_not_constant {x} {c} f (inr all) = f.reads (λ a v. all a ∙ sym (all (set_at a c v)))

-- an alternative of the one first choice
pub first_within : (k : Known) {x : Set} {c : ℕ} (alt : ℕ) → IsFirstChoice x c → alt < arity_of k c → (e : ℕ) → IsFirstChoice x e → alt < arity_of k e
first_within k {x} {c} alt f h e g = let P : ℕ → Type 0 = λ v. alt < arity_of k v in subst P (one_first f g) h

-- the first choice of a set of the first n choices is one of them
pub first_before : {n c : ℕ} {x : Set} → DependsOnFirst n x → IsFirstChoice x c → c < n
first_before {n} {c} {x} d f = elim (split c n) [ inl less ↦ less | inr past ↦ absurd (f.reads (d.blind c past)) ]
  where
    split : (m k : ℕ) → (m < k) ⊎ (k ≤ m)
    split m k = grind arith

-- a choice of the space that was picked has there the number of its alternatives
pub arity_in_space : {k : Known} {space : List Choice} (c : ℕ) → HasPicksOf k space → c < length space → 2 ≤ arity_of k c → arity_of k c ≡ alternatives_of space c
arity_in_space {k} {space} c p h two = p.agrees c h (λ none. omega arith)

-- a set of the choices of the space
pub over_space : {k : Known} {space : List Choice} {x : Set} → IsMade k x → HasPicksOf k space → DependsOnFirst (length space) x → IsOver k space x
over_space {k} {space} {x} m p d = record { depends = d; picked = λ c h reads. arity_in_space c p h (read_was_picked c m reads) }

-- what sets depend on, call by call
pub depends_more : {n : ℕ} {x : Set} (m : ℕ) → n ≤ m → DependsOnFirst n x → DependsOnFirst m x
depends_more {n} {x} m h d = record { blind = λ c le. d.blind c (omega arith) }

pub depends_none : {k : Known} {x : Set} (n : ℕ) → IsSetOf k x (λ _. false) → DependsOnFirst n x
depends_none {k} {x} n is = record { blind = λ c h a v. is.members a ∙ sym (is.members (set_at a c v)) }

pub depends_all : {k : Known} {x : Set} (n : ℕ) → IsSetOf k x (λ _. true) → DependsOnFirst n x
depends_all {k} {x} n is = record { blind = λ c h a v. is.members a ∙ sym (is.members (set_at a c v)) }

pub depends_pick : {k : Known} {x : Set} (n choice arity alt : ℕ) → choice < n → IsSetOf k x (λ a. taken a choice arity == alt) → DependsOnFirst n x
depends_pick {k} {x} n choice arity alt h is = record {
  blind = λ c le a v.
      (let same : set_at a c v choice ≡ a choice = grind arith in is.members a ∙ ap (λ w. min w (arity - 1) == alt) (sym same) ∙ sym (is.members (set_at a c v)));
}

pub depends_and : {k : Known} {n : ℕ} {x y z : Set} → DependsOnFirst n x → DependsOnFirst n y → IsSetOf k z (λ a. member x a && member y a) → DependsOnFirst n z
depends_and {k} {n} {x} {y} {z} p q is = record {
  blind = λ c h a v.
      is.members a ∙ ap (λ b. b && member y a) (p.blind c h a v) ∙ ap (λ b. member x (set_at a c v) && b) (q.blind c h a v) ∙ sym (is.members (set_at a c v));
}

pub depends_or : {k : Known} {n : ℕ} {x y z : Set} → DependsOnFirst n x → DependsOnFirst n y → IsSetOf k z (λ a. member x a || member y a) → DependsOnFirst n z
depends_or {k} {n} {x} {y} {z} p q is = record {
  blind = λ c h a v.
      is.members a ∙ ap (λ b. b || member y a) (p.blind c h a v) ∙ ap (λ b. member x (set_at a c v) || b) (q.blind c h a v) ∙ sym (is.members (set_at a c v));
}

pub depends_without : {k : Known} {n : ℕ} {x y z : Set} → DependsOnFirst n x → DependsOnFirst n y → IsSetOf k z (λ a. member x a && not (member y a)) → DependsOnFirst n z
depends_without {k} {n} {x} {y} {z} p q is = record {
  blind = λ c h a v.
      is.members a ∙ ap (λ b. b && not (member y a)) (p.blind c h a v) ∙ ap (λ b. member x (set_at a c v) && not b) (q.blind c h a v) ∙ sym (is.members (set_at a c v));
}

-- writes at two choices may be made in either order
exchanged : (c alt e : ℕ) (a : Assignment) (v : ℕ) → (e ≡ c → ⊥) → set_at (set_at a c alt) e v ≡ set_at (set_at a e v) c alt
exchanged c alt e a v other = fun_ext (λ k. at_choice k)
  where
    at_choice : (k : ℕ) → set_at (set_at a c alt) e v k ≡ set_at (set_at a e v) c alt k
    at_choice k = grind arith

-- a child depends on no choice that its set does not depend on
pub depends_child : {n : ℕ} {x z : Set} (c alt : ℕ) → DependsOnFirst n x → ((b : Assignment) → member z b ≡ member x (set_at b c alt)) → DependsOnFirst n z
depends_child {n} {x} {z} c alt d is = record {
  blind = λ e h a v.
      is a ∙ by_place e h a v (split e c) ∙ sym (is (set_at a e v));
}
  where
    split : (e c : ℕ) → (e ≡ c) ⊎ (e ≡ c → ⊥)
    split e c = grind arith

    by_place : (e : ℕ) → n ≤ e → (a : Assignment) (v : ℕ) → (e ≡ c) ⊎ (e ≡ c → ⊥) → member x (set_at a c alt) ≡ member x (set_at (set_at a e v) c alt)
    by_place e h a v (inl same) = sym (d.blind c (omega arith) a alt) ∙ d.blind e h a v ∙ d.blind c (omega arith) (set_at a e v) alt
    by_place e h a v (inr other) = d.blind e h (set_at a c alt) v ∙ ap (member x) (exchanged c alt e a v other)

-- Lemmas for a function that asks for first choices, children or a member.
pub ruleset depending = (first_not_constant, first_within, first_before, arity_in_space, over_space, depends_none, depends_all, depends_pick, depends_child, depends_and, depends_or, depends_without)
