-- Thin grammars (this project's own): what a thin grammar file says, and the grammar that it gives.
use Rattle.std.specs.Prelude.{◌≡◌, ◌≢◌, ℕ, zero, suc, ◌<◌, Bool, true, false, Option, Some, None, List, [], ◌∷◌, length, map, slice_get, codes}
use Rattle.lfg_terms.specs.Order.{name_cmp}
use Rattle.lfg_terms.specs.declared.grammar.Arrow.TheVariants.{Up, Down}
use Rattle.lfg_terms.specs.declared.grammar.Val.TheVariants as val
use Rattle.lfg_terms.specs.declared.grammar.Schema as declared
use Rattle.lfg_terms.specs.declared.grammar.Schema.TheVariants as schema
use Rattle.lfg_terms.specs.declared.grammar.Item.{Item}
use Rattle.lfg_terms.specs.declared.grammar.Graph.{Graph}
use Rattle.lfg_terms.specs.declared.grammar.Rule.{Rule}
use Rattle.lfg_terms.specs.declared.grammar.Lex.{Lex}
use Rattle.lfg_terms.specs.declared.grammar.Grammar.{Grammar}
use Rattle.lfg_model.specs.Lists.{In, Once, Lists}
use Rattle.lfg_model.specs.Terms.{Name, Path, Paths}

-- an item of a rule: a category, and the function that its f-structure has in the mother's; without
-- a function the two f-structures are one
pub record Daughter : Type 0 where
  pub cat : Name
  pub function : Option Name

-- a rule: a category and its items in a row
pub record Phrase : Type 0 where
  pub cat : Name
  pub daughters : List Daughter

-- an equation of a word: the path leads to the atom
pub record Equation : Type 0 where
  pub path : Path
  pub atom : Name

-- a lexicon entry
pub record Entry : Type 0 where
  pub form : Name
  pub cat : Name
  pub equations : List Equation

-- what a thin grammar file says
pub record Draft : Type 0 where
  pub root : Name
  pub phrases : List Phrase
  pub entries : List Entry

-- the name of the empty item, which is no category
abbrev pub empty_item : Name
empty_item = codes "e"

-- the category heads a rule
abbrev pub HeadsRule : Draft → Name → Type 0
HeadsRule d cat = In cat (map (λ p. p.cat) d.phrases)

-- the category is the root, heads a rule, is a daughter or has a word
pub data IsCategory (d : Draft) (cat : Name) : Type 0 where
  root : cat ≡ d.root → IsCategory d cat
  head : In cat (map (λ p. p.cat) d.phrases) → IsCategory d cat
  daughter : {p : Phrase} → In p d.phrases → In cat (map (λ x. x.cat) p.daughters) → IsCategory d cat
  of_word : In cat (map (λ x. x.cat) d.entries) → IsCategory d cat

-- Each category has one rule at most, or words; each form has one entry; a daughter with a rule has
-- a later one than its mother; and no category is called `e`.
pub record IsConsistent (d : Draft) : Type 0 where
  pub one_rule : Once (map (λ p. p.cat) d.phrases)
  pub one_entry : Once (map (λ x. x.form) d.entries)
  pub apart : (x : Entry) → In x d.entries → ¬ HeadsRule d x.cat
  pub later : (k j : ℕ) (mother other : Phrase) (x : Daughter) → slice_get d.phrases k ≡ Some mother → In x mother.daughters
      → slice_get d.phrases j ≡ Some other → other.cat ≡ x.cat → k < j
  pub no_empty_item : (cat : Name) → IsCategory d cat → cat ≢ empty_item

-- the only string of a path
abbrev pub one_string : Path → Option Paths
one_string p = Some (p ∷ [])

-- the link of a daughter to its mother: `^=!`, or `(^ A)=!` for the function A
abbrev pub link : Option Name → declared.Schema Paths
link None = schema.Define (record { arrow = Up; path = None }) (val.Des (record { arrow = Down; path = None }))
link (Some a) = schema.Define (record { arrow = Up; path = one_string (a ∷ []) }) (val.Des (record { arrow = Down; path = None }))

abbrev pub item_of : Daughter → Item
item_of x = record { cat = Some x.cat; schemata = link x.function ∷ [] }

-- the items behind the k-th of a row, n of them
abbrev pub next_from : ℕ → ℕ → List (List ℕ)
next_from k zero = []
next_from k (suc zero) = [] ∷ []
next_from k (suc (suc n)) = (suc k ∷ []) ∷ next_from (suc k) (suc n)

-- the last of n items ends a row
abbrev pub last_of : ℕ → List Bool
last_of zero = []
last_of (suc zero) = true ∷ []
last_of (suc (suc n)) = false ∷ last_of (suc n)

-- the graph of n items in a row, numbered from 1
unfoldable pub row_graph : ℕ → Graph
row_graph n = record { size = n; first = 1 ∷ []; next = next_from 1 n; last = last_of n }

abbrev pub rule_of_phrase : Phrase → Rule
rule_of_phrase p = record { cat = p.cat; items = map item_of p.daughters; graph = row_graph (length p.daughters) }

-- (^ P)=a
abbrev pub schema_of_equation : Equation → declared.Schema Paths
schema_of_equation e = schema.Define (record { arrow = Up; path = one_string e.path }) (val.Atom e.atom)

abbrev pub lex_of_entry : Entry → Lex
lex_of_entry x = record { form = x.form; cat = x.cat; schemata = map schema_of_equation x.equations }

-- The grammar that the draft gives. What a thin file cannot say has the value that it has where a
-- grammar does not say it: no governable function, 60 category nodes of a generated tree and 200,000
-- facts of a sentence at most.
pub record Gives (d : Draft) (g : Grammar) : Type 0 where
  pub root : g.root ≡ d.root
  pub governable : g.governable ≡ []
  pub gensize : g.gensize ≡ 60
  pub maxfacts : g.maxfacts ≡ 200000
  pub cats : Lists name_cmp (IsCategory d) g.cats
  pub rules : g.rules ≡ map rule_of_phrase d.phrases
  pub lexicon : g.lexicon ≡ map lex_of_entry d.entries

-- the grammar is that of a thin draft, in which each rule has a daughter
pub record IsThinGrammar (g : Grammar) : Type 0 where
  pub draft : Draft
  pub consistent : IsConsistent draft
  pub filled : (p : Phrase) → In p draft.phrases → p.daughters ≢ []
  pub gives : Gives draft g
