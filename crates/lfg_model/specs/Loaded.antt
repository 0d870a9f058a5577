-- What each loaded grammar keeps: a test on the grammar alone, and the condition of each call that
-- takes a grammar.
use Rattle.std.specs.Prelude.{◌≡◌, ◌≢◌, ℕ, suc, ◌+◌, ◌≤◌, Bool, true, false, ◌&&◌, cond, Option, Some, None, List, [], ◌∷◌, length, map, codes}
use Rattle.std.specs.List.{sum_by}
use Rattle.std.specs.List.Sorted.{IsStrictlySortedBy}
use Rattle.lfg_terms.specs.Order.{name_cmp, path_cmp}
use Rattle.lfg_terms.specs.declared.node.Edge.{Edge}
use Rattle.lfg_terms.specs.declared.grammar.Arrow.{Arrow}
use Rattle.lfg_terms.specs.declared.grammar.Arrow.TheVariants.{Up, Down}
use Rattle.lfg_terms.specs.declared.grammar.Des.{Des}
use Rattle.lfg_terms.specs.declared.grammar.Form.{Form}
use Rattle.lfg_terms.specs.declared.grammar.Val.{Val}
use Rattle.lfg_terms.specs.declared.grammar.Val.TheVariants as val
use Rattle.lfg_terms.specs.declared.grammar.Item.{Item}
use Rattle.lfg_terms.specs.declared.grammar.Rule.{Rule}
use Rattle.lfg_terms.specs.declared.grammar.Lex.{Lex}
use Rattle.lfg_terms.specs.declared.grammar.Grammar.{Grammar}
use Rattle.lfg_terms.specs.declared.tree.TokenForms.{TokenForms}
use Rattle.lfg_model.specs.Brackets.{edges}
use Rattle.lfg_model.specs.Derive.{Derives}
use Rattle.lfg_model.specs.Graphs.{IsGraph}
use Rattle.lfg_model.specs.Grounded.{IsGrounded}
use Rattle.lfg_model.specs.Lists.{In, Once, Lists}
use Rattle.lfg_model.specs.Loads.{IsCategoryOf, HasWords, IsUnlinked, Loads, path_limit}
use Rattle.lfg_model.specs.Terms.{Name, Path, Paths, Schema, define, constrain, exists, member, mark, either, maybe, call, Annotation, no_schema, and_schema, Branches, no_branch, or_branch, annotation_of, Tree}
use Rattle.lfg_model.specs.TemplateRules.{NoneHas, schema_limit}

-- ---- annotations

-- the name is not `in_set`, which names membership in the facts of f-structures
abbrev pub IsFree : Name → Type 0
IsFree name = name ≢ codes "in_set"

-- each of the names is free
abbrev pub AreFree : List Name → Type 0
AreFree names = (name : Name) → In name names → IsFree name

-- the strings of a path: from 1 to 256, in order and each once, of free attributes
pub record ArePaths (ps : Paths) : Type 0 where
  pub ascend : IsStrictlySortedBy path_cmp ps
  pub some : 1 ≤ length ps
  pub few : length ps ≤ path_limit
  pub free : (p : Path) → In p ps → AreFree p

-- the same, if there is a path
abbrev pub IsSoundPath : Option Paths → Type 0
IsSoundPath None = Unit {0}
IsSoundPath (Some ps) = ArePaths ps

abbrev pub IsSoundDes : Des Paths → Type 0
IsSoundDes d = IsSoundPath d.path

-- a semantic form has a free name and free functions
pub record IsSoundForm (f : Form) : Type 0 where
  pub name : IsFree f.name
  pub inner : AreFree f.inner
  pub outer : AreFree f.outer

-- the right side of a defining equation
abbrev pub IsSoundVal : Val Paths → Type 0
IsSoundVal (val.Des d) = IsSoundDes d
IsSoundVal (val.Atom name) = IsFree name
IsSoundVal (val.Form f) = IsSoundForm f

-- the right side of a constraint, which is no form
abbrev pub IsSoundTest : Val Paths → Type 0
IsSoundTest (val.Des d) = IsSoundDes d
IsSoundTest (val.Atom name) = IsFree name
IsSoundTest (val.Form f) = ⊥

-- An annotation as a loaded grammar has it: its paths have strings, its names are free, a semantic
-- form is the value of a defining equation, a disjunction has a branch, and there is no call of a
-- template.
abbrev mutual
  pub IsSound : Annotation → Type 0
  IsSound no_schema = Unit {0}
  IsSound (and_schema s rest) = IsSoundSchema s × IsSound rest

  pub IsSoundSchema : Schema → Type 0
  IsSoundSchema (define left right) = IsSoundDes left × IsSoundVal right
  IsSoundSchema (constrain negated left right) = IsSoundDes left × IsSoundTest right
  IsSoundSchema (exists negated left) = IsSoundDes left
  IsSoundSchema (member item set) = IsSoundDes item × IsSoundDes set
  IsSoundSchema (mark name) = IsFree name
  IsSoundSchema (either branches) = HasBranch branches × AreSound branches
  IsSoundSchema (maybe inside) = IsSound inside
  IsSoundSchema (call name args) = ⊥

  -- each branch
  pub AreSound : Branches → Type 0
  AreSound no_branch = Unit {0}
  AreSound (or_branch b bs) = IsSound b × AreSound bs

  -- there is a branch
  pub HasBranch : Branches → Type 0
  HasBranch no_branch = ⊥
  HasBranch (or_branch b bs) = Unit {0}

-- ---- the number of schemata

-- how many schemata an annotation has; a disjunction and an option count besides what is in them
abbrev mutual
  pub schema_count : Annotation → ℕ
  schema_count no_schema = 0
  schema_count (and_schema s rest) = count_of s + schema_count rest

  pub count_of : Schema → ℕ
  count_of (define left right) = 1
  count_of (constrain negated left right) = 1
  count_of (exists negated left) = 1
  count_of (member item set) = 1
  count_of (mark name) = 1
  count_of (either branches) = suc (branches_count branches)
  count_of (maybe inside) = suc (schema_count inside)
  count_of (call name args) = 1

  pub branches_count : Branches → ℕ
  branches_count no_branch = 0
  branches_count (or_branch b bs) = schema_count b + branches_count bs

abbrev pub is_up : Arrow → Bool
is_up Up = true
is_up Down = false

-- the designator has no path
abbrev pub is_bare : Option Paths → Bool
is_bare None = true
is_bare (Some ps) = false

-- the annotation is `^=!` alone
abbrev pub is_same_structure : Annotation → Bool
is_same_structure (and_schema (define left (val.Des right)) no_schema) = (is_up left.arrow && is_bare left.path) && (cond (is_up right.arrow) false true && is_bare right.path)
is_same_structure _ = false

-- how many schemata an item counts: none where its annotation is `^=!` alone and it is a category,
-- which has that annotation where none is written
abbrev pub item_count : Option Name → Annotation → ℕ
item_count None a = schema_count a
item_count (Some cat) a = cond (is_same_structure a) 0 (schema_count a)

-- how many schemata a rule and a word have
abbrev pub rule_count : Rule → ℕ
rule_count r = sum_by (λ i. item_count i.cat (annotation_of i.schemata)) r.items

abbrev pub word_count : Lex → ℕ
word_count x = schema_count (annotation_of x.schemata)

-- how many schemata a grammar has
abbrev pub grammar_count : Grammar → ℕ
grammar_count g = sum_by rule_count g.rules + sum_by word_count g.lexicon

-- ---- grammars

-- the name `in_set` stands nowhere among the categories, the words and the governable functions
pub record HasFreeNames (g : Grammar) : Type 0 where
  pub governable : AreFree g.governable
  pub categories : (cat : Name) → IsCategoryOf g cat → IsFree cat
  pub forms : (x : Lex) → In x g.lexicon → IsFree x.form

-- The conditions of a loaded grammar.
pub record Loaded (g : Grammar) : Type 0 where
  -- each rule's graph is one of its items
  pub graphs : (r : Rule) → In r g.rules → IsGraph r.graph
  pub sizes : (r : Rule) → In r g.rules → r.graph.size ≡ length r.items
  -- no category reaches itself alone, no item by empty items, and each walk has a category
  pub grounded : IsGrounded g
  -- no category has two rules, or a rule and a word
  pub one_rule : Once (map (λ r. r.cat) g.rules)
  pub apart : NoneHas (HasWords g) g.rules
  -- each daughter is linked in every way of resolving its annotation
  pub linked : NoneHas IsUnlinked g.rules
  -- the annotations
  pub items : (r : Rule) (i : Item) → In r g.rules → In i r.items → IsSound (annotation_of i.schemata)
  pub words : (x : Lex) → In x g.lexicon → IsSound (annotation_of x.schemata)
  -- the names and the list of the categories
  pub free : HasFreeNames g
  pub cats : Lists name_cmp (IsCategoryOf g) g.cats
  -- the limits
  pub few : grammar_count g ≤ schema_limit
  pub some_nodes : 1 ≤ g.gensize
  pub most_nodes : g.gensize ≤ 400
  pub some_facts : 1 ≤ g.maxfacts
  pub most_facts : g.maxfacts ≤ 200000

-- ---- laws

-- Law: a grammar that is loaded from a file keeps the conditions.
abbrev pub LoadsGivesLoaded : Type 0
LoadsGivesLoaded = (bytes : List ℕ) (g : Grammar) → Loads bytes g → Loaded g

-- Law: by a loaded grammar no derivation has an edge twice.
abbrev pub LoadedHasNoEdgeTwice : Type 0
LoadedHasNoEdgeTwice = (g : Grammar) (s : List TokenForms) → Loaded g → (d : Tree) (e : Edge) → Derives g s d e → Once (edges d e.from)
