-- The least member in the words of contracts.
use Rattle.std.proofs.Common.{◌≡◌, ℕ, ◌<◌, ◌≤◌, inl, inr, List, length, get_or, refl, sym, ◌∙◌, subst, arith}
use Rattle.lfg_terms.specs.declared.choice.Choice.{Choice}
use Rattle.lfg_choice.specs.Choices.{alternatives_of}
use Rattle.lfg_context.specs.Cubes.{set_at}
use Rattle.lfg_context.specs.Tables.{Entry, cubes_at, arity_in}
use Rattle.lfg_context.specs.Least.{AreBlindTo, IsLeastOf}
use Rattle.lfg_context.specs.Seen.{Set, Known}
use Rattle.lfg_context.specs.Sets.{IsBlindTo, IsOver, IsLeast}
use Rattle.lfg_context.proofs.SeenLaws.{seen, member_in, arity_is}

pub blind_in : (es : List Entry) (x : Set) (n c : ℕ) → x.1 ≡ cubes_at es x.0 → n ≡ x.0 → IsBlindTo x c → AreBlindTo (cubes_at es n) c
blind_in es x n c e en blind =
    let P : ℕ → Type 0 = λ v. AreBlindTo (cubes_at es v) c in
    subst P (sym en) (λ a v. sym (member_in es x a e) ∙ blind a v ∙ member_in es x (set_at a c v) e)

pub blind_out : (es : List Entry) (x : Set) (n c : ℕ) → x.1 ≡ cubes_at es x.0 → n ≡ x.0 → AreBlindTo (cubes_at es n) c → IsBlindTo x c
blind_out es x n c e en blind =
    let P : ℕ → Type 0 = λ v. AreBlindTo (cubes_at es v) c in
    let there = subst P en blind in
    λ a v. member_in es x a e ∙ there a v ∙ sym (member_in es x (set_at a c v) e)

pub least_in : (k : Known) (es : List Entry) (as' : List ℕ) (space : List Choice) (x : Set) (n len : ℕ) (xs : List ℕ) → seen es as' ≡ k → x.1 ≡ cubes_at es x.0 → n ≡ x.0 → len ≡ length space
    → ((c : ℕ) → c < length space → 2 ≤ alternatives_of space c) → IsOver k space x → IsLeastOf es (arity_in as') n len xs → IsLeast space x xs
least_in k es as' space x n len xs ek e en el two over is =
    let P : ℕ → Type 0 = λ v. IsLeastOf es (arity_in as') v len xs in
    let Q : ℕ → Type 0 = λ v. IsLeastOf es (arity_in as') x.0 v xs in
    let here = subst Q el (subst P en is) in
    record {
      len = here.len;
      within = (λ c h. elim (here.alternatives c h) [
        | inl none ↦ (let t = two c h in omega arith)
        | inr some ↦
            let same = over.picked c h (λ blind. some.1 (blind_in es x x.0 c e refl blind)) in
            let is_arity = arity_is k es as' c ek in
            (let less = some.0 in omega arith)
      ]);
      is_member = member_in es x (λ c. get_or xs c 0) e ∙ here.is_member;
      least = (λ a m c h before. here.least a (sym (member_in es x a e) ∙ m) c h before);
    }
