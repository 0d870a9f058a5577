-- Each of the answers comes exactly where its cause is.
use Rattle.std.proofs.Common.{ℕ, ◌≤◌, ◌<◌, List, [], ◌∷◌, length, refl, arith, inl, inr}
use Rattle.std.specs.Prelude.{Result, Ok, Err, IfOk, IfErr, IsOkUnless}
use Rattle.lfg_terms.specs.PathOrder.{path_cmp}
use Rattle.lfg_model.specs.Lists.{In, here, Lists}
use Rattle.lfg_model.specs.Terms.{Path}
use Rattle.lfg_model.specs.PathExpressions.{PathExpression, MoreThan, Strings}
use Rattle.lfg_model.proofs.ListLaws.{length-le_from_Once}
use Rattle.lfg_regpath.specs.declared.fault.PathFault.{PathFault}
use Rattle.lfg_regpath.specs.declared.fault.PathFault.TheVariants.{TooManyPaths, NoPath, Memory}
use Rattle.lfg_regpath.specs.Faults.{FailsBy, IsRefused}

module _ (e : PathExpression) (depth : ℕ) where
  -- a list has no fewer than different members
  not_many : (ws : List Path) → Lists path_cmp (Strings e depth) ws → length ws ≤ 256 → ¬ MoreThan 256 (Strings e depth)
  not_many ws l few m =
      let n = length-le_from_Once m.strings ws m.different (λ w i. (l.exact w).1 (m.each w i)) in
      let no : ⊥ = omega (arith, n, few, m.enough) in
      no

  first_of_many : (m : MoreThan 256 (Strings e depth)) → (w : Path) × Strings e depth w
  first_of_many m = go m.strings m.enough m.each
    where
      go : (ws : List Path) → 256 < length ws → ((w : Path) → In w ws → Strings e depth w) → (w : Path) × Strings e depth w
      go [] l f = absurd (omega arith)
      go (w ∷ ws) l f = (w, f w here)

  first_of_list : (ws : List Path) → Lists path_cmp (Strings e depth) ws → 0 < length ws → (w : Path) × Strings e depth w
  first_of_list [] l s = absurd (omega arith)
  first_of_list (w ∷ ws) l s = (w, (l.exact w).0 here)

  pub too_many : (r : Result (List Path) PathFault) → IfOk r (λ ws. Lists path_cmp (Strings e depth) ws) → IfOk r (λ ws. length ws ≤ 256) → IfErr r (λ fault. IsRefused e depth fault)
      → MoreThan 256 (Strings e depth) → FailsBy TooManyPaths r
  too_many (Ok ws) l few f m = not_many ws l few m
  too_many (Err TooManyPaths) l few f m = inl refl
  too_many (Err NoPath) l few f m = let w = first_of_many m in absurd (f w.0 w.1)
  too_many (Err Memory) l few f m = inr refl

  pub no_path : (r : Result (List Path) PathFault) → IfOk r (λ ws. Lists path_cmp (Strings e depth) ws) → IfOk r (λ ws. 0 < length ws) → IfErr r (λ fault. IsRefused e depth fault)
      → ((w : Path) → ¬ Strings e depth w) → FailsBy NoPath r
  no_path (Ok ws) l some f n = let w = first_of_list ws l some in n w.0 w.1
  no_path (Err TooManyPaths) l some f n = let w = first_of_many f in absurd (n w.0 w.1)
  no_path (Err NoPath) l some f n = inl refl
  no_path (Err Memory) l some f n = inr refl

  pub accepted : (r : Result (List Path) PathFault) → IfErr r (λ fault. IsRefused e depth fault)
      → (ws : List Path) → Lists path_cmp (Strings e depth) ws → 0 < length ws → length ws ≤ 256 → IsOkUnless r Memory
  accepted (Ok vs) f ws l some few = tt
  accepted (Err TooManyPaths) f ws l some few = absurd (not_many ws l few f)
  accepted (Err NoPath) f ws l some few = let w = first_of_list ws l some in absurd (f w.0 w.1)
  accepted (Err Memory) f ws l some few = refl
