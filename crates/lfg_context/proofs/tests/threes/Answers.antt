use Rattle.std.proofs.Common.{◌≡◌, ◌<◌, ◌⊎◌, inl, inr, ◌+◌, ◌∷◌, [], ◌++◌, ◌∙◌, ℕ, List, length, ap, sym, subst, arith}
use Rattle.std.proofs.lemmas.List.{length-append}
use Rattle.lfg_terms.specs.declared.choice.Choice.{Choice}
use Rattle.lfg_choice.specs.Choices.{alternatives_of}
use Rattle.lfg_choice.proofs.Pushing.{alternatives_of-push_old, alternatives_of-push_new}
use Rattle.lfg_context.proofs.tests.threes.Goals as goal

one_more : (cs ds : List Choice) (x : Choice) → ds ≡ cs ++ x ∷ [] → x.alternatives ≡ 3 → ((c : ℕ) → c < length cs → alternatives_of cs c ≡ 3) → (c : ℕ) → c < length ds → alternatives_of ds c ≡ 3
one_more cs ds x e three before c h = ap (λ v. alternatives_of v c) e ∙ elim (split c (length cs) (omega (arith, ap length e, length-append cs (x ∷ [])))) [
  | inl old ↦ alternatives_of-push_old cs x c old ∙ before c old
  | inr new ↦ alternatives_of-push_new cs x c new ∙ three
]
  where
    split : (i j : ℕ) → i < j + 1 → (i < j) ⊎ (i ≡ j)
    split i j h = grind arith

pub loop-place-preserved : goal.loop-place-preserved
loop-place-preserved c = record {
  len = ap length c.in_ok-push.ensures.grown ∙ omega (arith, length-append c.loop-place.space (c.branch.result ∷ []), c.loop-place.invariant.len);
  three = one_more c.loop-place.space _ c.branch.result c.in_ok-push.ensures.grown c.branch.ensures c.loop-place.invariant.three;
}
