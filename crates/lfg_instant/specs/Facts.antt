-- The facts of trees, by the steps and words that give them.
use Rattle.std.specs.Prelude.{Option, Some, None, List, [], ◌∷◌, slice_get}
use Rattle.lfg_terms.specs.declared.node.Fact.{Fact}
use Rattle.lfg_terms.specs.declared.grammar.Grammar.{Grammar}
use Rattle.lfg_terms.specs.declared.tree.TokenForms.{TokenForms}
use Rattle.lfg_model.specs.Lists.{In}
use Rattle.lfg_model.specs.Trees.{word_facts}
use Rattle.lfg_packed.specs.SpotFacts.{category_at, under_facts}
use Rattle.lfg_instant.specs.declared.steps.Step.{Step}
use Rattle.lfg_instant.specs.declared.steps.Word.{Word}

-- what was found, as a list
abbrev pub as_list : {X : Type 0} → Option X → List X
as_list None = []
as_list (Some x) = x ∷ []

-- a step goes over a daughter whose fact this is
abbrev pub IsUnderOf : Grammar → List Step → Fact → Type 0
IsUnderOf g steps f = (st : Step) × In st steps × In f (under_facts st.point.edge st.point.at st.to (category_at g st.point.edge st.occ))

-- a word has this fact
abbrev pub IsWordFactOf : List TokenForms → List Word → Fact → Type 0
IsWordFactOf s words f = (w : Word) × In w words × In f (word_facts (slice_get s w.edge.from) w.edge)
