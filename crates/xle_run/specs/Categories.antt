-- The categories of a draft as they come.
use Rattle.std.specs.Prelude.{List, ◌∷◌, ◌++◌, map}
use Rattle.std.specs.List.{flat_map}
use Rattle.lfg_model.specs.Terms.{Name}
use Rattle.lfg_model.specs.Thin.{Draft, Phrase}

-- the category of a rule and those of its daughters
abbrev pub phrase_cats : Phrase → List Name
phrase_cats p = p.cat ∷ map (λ x. x.cat) p.daughters

-- the root, then the categories of the rules, then those of the words
abbrev pub all_cats : Draft → List Name
all_cats d = d.root ∷ (flat_map phrase_cats d.phrases ++ map (λ x. x.cat) d.entries)
