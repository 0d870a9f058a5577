-- Settings have one fault at most, and what they set is one number.
use Rattle.std.proofs.Common.{◌≡◌, ℕ, ◌≤◌, Option, Some, None, List, [], decimal, codes, refl, sym, ap, ◌∙◌, arith}
use Rattle.std.proofs.lemmas.Fmt.{decimal_injective}
use Rattle.lfg_terms.specs.declared.draft.Setting.{Setting}
use Rattle.lfg_model.specs.Settings.{IsNumberTo, Placed, AreSettings, HasBadSetting, bad_setting, no_root, words_set, IsNumberOr, IsSetTo, IsDepth}
use Rattle.lfg_model.specs.Terms.{Name}
use Rattle.lfg_model.proofs.FirstLaws.{one_first, none_first}
use Rattle.lfg_model.proofs.OneTree.{same_cons}

-- ---- faults

pub one_bad_setting : {settings : List Setting} {m n : ℕ} → HasBadSetting settings m → HasBadSetting settings n → m ≡ n
one_bad_setting (bad_setting f) (bad_setting g) = ap (λ (p : Placed). p.setting.entry) (one_first f g)
one_bad_setting (bad_setting f) (no_root n r) = absurd (none_first n f)
one_bad_setting (no_root n r) (bad_setting g) = absurd (none_first n g)
one_bad_setting (no_root n r) (no_root m s) = refl

pub no_bad_setting : {settings : List Setting} {n : ℕ} → AreSettings settings → HasBadSetting settings n → ⊥
no_bad_setting a (bad_setting f) = none_first a.good f
no_bad_setting a (no_root n r) = r a.rooted

-- ---- numbers

one_number : (greatest : ℕ) (words : List Name) (m n : ℕ) → greatest ≤ 200000 → IsNumberTo greatest words m → IsNumberTo greatest words n → m ≡ n
one_number greatest words m n l h k =
    let a : m ≤ greatest = h.most in
    let b : n ≤ greatest = k.most in
    decimal_injective m n (omega arith) (omega arith) (same_cons (decimal m) (decimal n) [] [] (sym h.is ∙ k.is)).0

one_number_or : (greatest otherwise : ℕ) (words : Option (List Name)) (m n : ℕ) → greatest ≤ 200000 → IsNumberOr greatest otherwise words m → IsNumberOr greatest otherwise words n → m ≡ n
one_number_or greatest otherwise None m n l h k = h ∙ sym k
one_number_or greatest otherwise (Some words) m n l h k = one_number greatest words m n l h k

-- what a key is set to is one number
pub one_setting : (key : Name) (greatest otherwise : ℕ) (settings : List Setting) (m n : ℕ) → greatest ≤ 200000 → IsSetTo key greatest otherwise settings m → IsSetTo key greatest otherwise settings n → m ≡ n
one_setting key greatest otherwise settings m n l h k = one_number_or greatest otherwise (words_set key settings) m n l h k

pub one_depth : (settings : List Setting) (m n : ℕ) → IsDepth settings m → IsDepth settings n → m ≡ n
one_depth settings m n h k = one_setting (codes "UNCERTAINTYDEPTH") 8 3 settings m n (omega arith) h k
