-- What was read from the settings of a grammar.
use Rattle.std.specs.Prelude.{◌≡◌, Some, List, [], ◌∷◌, codes}
use Rattle.lfg_terms.specs.declared.draft.Setting.{Setting}
use Rattle.lfg_model.specs.Settings.{IsDepth, IsSetTo, words_set, words_or_none}
use Rattle.lfg_grammar.specs.declared.settings.Settings.{Settings}
use Rattle.lfg_grammar.specs.Answers.{IsRange}

-- this is what the settings say
pub record AreRead (settings : List Setting) (s : Settings) : Type 0 where
  pub root : words_set (codes "ROOTCAT") settings ≡ Some (s.root ∷ [])
  pub governable : s.governable ≡ words_or_none (words_set (codes "GOVERNABLERELATIONS") settings)
  pub gensize : IsSetTo (codes "GENSIZE") 400 60 settings s.gensize
  pub maxfacts : IsSetTo (codes "MAXFACTS") 200000 200000 settings s.maxfacts
  pub depth : IsDepth settings s.depth
  pub range : IsRange s.depth
