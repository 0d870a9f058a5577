-- What the search for the derivation of a sentence finds.
use Rattle.std.specs.Prelude.{◌≡◌, ℕ, Option, Some, None, List, [], ◌∷◌, drop, find, slice_get}
use Rattle.std.specs.declared.alloc.Global.{Global}
use Rattle.std.specs.declared.boxed.Box.{Box}
use Rattle.lfg_terms.specs.declared.grammar.Item.{Item}
use Rattle.lfg_terms.specs.declared.grammar.Rule.{Rule}
use Rattle.lfg_terms.specs.declared.grammar.Lex.{Lex}
use Rattle.lfg_terms.specs.declared.grammar.Grammar.{Grammar}
use Rattle.lfg_terms.specs.declared.tree.TokenForms.{TokenForms}
use Rattle.lfg_terms.specs.declared.tree.Derivation.{Derivation}
use Rattle.lfg_terms.specs.declared.tree.Part.{Part}
use Rattle.lfg_model.specs.Lists.{In}
use Rattle.lfg_model.specs.Terms.{Name, same_name, Tree, Parts, no_part, empty, daughter, tree_of}
use Rattle.lfg_model.specs.Derive.{rule_of, edge, IsWord, Derives}

-- the first of the rules that heads the category
abbrev pub rule_in : List Rule → Name → Option Rule
rule_in rules cat = find (λ r. same_name r.cat cat) rules

-- the rules are the grammar's from a place on
pub record AreRest (g : Grammar) (rules : List Rule) : Type 0 where
  pub place : ℕ
  pub is : rules ≡ drop place g.rules

-- the rules have what the grammar has for the category
pub record Know (g : Grammar) (rules : List Rule) (cat : Name) : Type 0 where
  pub same : rule_in rules cat ≡ rule_of g cat

-- so for each daughter of the rule
pub record KnowDaughters (g : Grammar) (rules : List Rule) (rule : Rule) : Type 0 where
  pub each : (i : Item) (cat : Name) → In i rule.items → i.cat ≡ Some cat → Know g rules cat

-- the entry has a form of the token, and the category
pub record IsEntry (token : TokenForms) (cat : Name) (entry : Lex) : Type 0 where
  pub offered : In entry.form token.forms
  pub category : entry.cat ≡ cat

-- such an entry stands at a place of the lexicon
pub record IsEntryAt (lexicon : List Lex) (token : TokenForms) (cat : Name) (place : ℕ) : Type 0 where
  pub entry : Lex
  pub listed : slice_get lexicon place ≡ Some entry
  pub is : IsEntry token cat entry

-- the tree derives the category from a place to a place
pub record Finds (g : Grammar) (s : List TokenForms) (cat : Name) (start : ℕ) (d : Tree) (end : ℕ) : Type 0 where
  pub derives : Derives g s d (edge cat start end)

-- no tree derives the category from the place on
pub record Lacks (g : Grammar) (s : List TokenForms) (cat : Name) (start : ℕ) : Type 0 where
  pub none : (d : Tree) (end : ℕ) → ¬ Derives g s d (edge cat start end)

-- the token at the place has no entry of the category
pub record LacksWord (g : Grammar) (s : List TokenForms) (cat : Name) (at : ℕ) : Type 0 where
  pub none : (entry : ℕ) (picks : List ℕ) → ¬ IsWord g s cat entry picks at

-- a part in front of others
abbrev pub part_before : ℕ → List ℕ → Option (Box Derivation Global) → Parts → Parts
part_before occ picks None rest = empty occ picks rest
part_before occ picks (Some below) rest = daughter occ picks (tree_of below.value) rest

-- the plain form of a list of parts
abbrev pub list_parts : List Part → Parts
list_parts [] = no_part
list_parts (p ∷ ps) = part_before p.occ p.picks.items p.below (list_parts ps)

-- parts, and others behind them
abbrev pub joined : Parts → Parts → Parts
joined no_part qs = qs
joined (empty occ picks rest) qs = empty occ picks (joined rest qs)
joined (daughter occ picks below rest) qs = daughter occ picks below (joined rest qs)
