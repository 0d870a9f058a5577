-- The settings of a grammar: which are at fault, and what they set.
use Rattle.std.specs.Prelude.{◌≡◌, ℕ, ◌≤◌, ◌⊎◌, cond, Option, Some, None, List, [], ◌∷◌, decimal, codes}
use Rattle.lfg_terms.specs.declared.draft.Setting.{Setting}
use Rattle.lfg_model.specs.Firsts.{First}
use Rattle.lfg_model.specs.Lists.{In}
use Rattle.lfg_model.specs.TemplateRules.{NoneHas}
use Rattle.lfg_model.specs.Terms.{Name, same_name}

-- ---- faults

-- the greatest number that a key can be set to, where it is set to a number; the least is 1
abbrev pub greatest_of : Name → Option ℕ
greatest_of key =
    cond (same_name key (codes "UNCERTAINTYDEPTH")) (Some 8)
    (cond (same_name key (codes "GENSIZE")) (Some 400)
    (cond (same_name key (codes "MAXFACTS")) (Some 200000) None))

-- the words are this number, which is from 1 to the greatest, without a zero in front
pub record IsNumberTo (greatest : ℕ) (words : List Name) (number : ℕ) : Type 0 where
  pub is : words ≡ decimal number ∷ []
  pub least : 1 ≤ number
  pub most : number ≤ greatest

-- a number of this kind is asked for, and the words are none
abbrev pub IsOutOfRange : Option ℕ → List Name → Type 0
IsOutOfRange None words = ⊥
IsOutOfRange (Some greatest) words = (number : ℕ) → ¬ IsNumberTo greatest words number

-- a setting, and the keys of those before it
pub record Placed : Type 0 where
  pub setting : Setting
  pub earlier : List Name

-- the settings behind those with these keys, each with the keys before it
abbrev pub placed_from : List Name → List Setting → List Placed
placed_from earlier [] = []
placed_from earlier (s ∷ ss) = record { setting = s; earlier = earlier } ∷ placed_from (s.key ∷ earlier) ss

-- the settings, each with the keys before it
abbrev pub placed : List Setting → List Placed
placed settings = placed_from [] settings

-- the setting's key came before, or its number is out of range
abbrev pub IsBadSetting : Placed → Type 0
IsBadSetting p = In p.setting.key p.earlier ⊎ IsOutOfRange (greatest_of p.setting.key) p.setting.words

-- the words that the key is set to, if it is set
abbrev pub words_set : Name → List Setting → Option (List Name)
words_set key [] = None
words_set key (s ∷ ss) = cond (same_name s.key key) (Some s.words) (words_set key ss)

-- the root category is set, to one name
abbrev pub SetsRoot : List Setting → Type 0
SetsRoot settings = (root : Name) × (words_set (codes "ROOTCAT") settings ≡ Some (root ∷ []))

-- no setting is at fault, and the root category is set
pub record AreSettings (settings : List Setting) : Type 0 where
  pub good : NoneHas IsBadSetting (placed settings)
  pub rooted : SetsRoot settings

-- the settings are at fault: that of this entry is the first that is; or none is, the root category
-- is not set, and the number is 0
pub data HasBadSetting (settings : List Setting) : ℕ → Type 0 where
  bad_setting : {p : Placed} → First IsBadSetting (placed settings) p → HasBadSetting settings p.setting.entry
  no_root : NoneHas IsBadSetting (placed settings) → ¬ SetsRoot settings → HasBadSetting settings 0

-- ---- what is set

-- the number of these words, at most the greatest, or this one where there are none
abbrev pub IsNumberOr : ℕ → ℕ → Option (List Name) → ℕ → Type 0
IsNumberOr greatest otherwise None number = number ≡ otherwise
IsNumberOr greatest otherwise (Some words) number = IsNumberTo greatest words number

-- the key is set to the number, at most the greatest, or is not set and the number is this one
abbrev pub IsSetTo : Name → ℕ → ℕ → List Setting → ℕ → Type 0
IsSetTo key greatest otherwise settings number = IsNumberOr greatest otherwise (words_set key settings) number

-- the greatest number of attributes of a string of a path: 3 where it is not set
abbrev pub IsDepth : List Setting → ℕ → Type 0
IsDepth settings depth = IsSetTo (codes "UNCERTAINTYDEPTH") 8 3 settings depth

-- these words, or none
abbrev pub words_or_none : Option (List Name) → List Name
words_or_none None = []
words_or_none (Some words) = words
