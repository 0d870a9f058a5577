-- Annotations of which each disjunction has a branch, and the law that picks fit each of them.
use Rattle.std.specs.Prelude.{◌≡◌, ℕ, ◌≤◌, Some, slice_get}
use Rattle.lfg_terms.specs.declared.grammar.Item.{Item}
use Rattle.lfg_terms.specs.declared.grammar.Rule.{Rule}
use Rattle.lfg_terms.specs.declared.grammar.Lex.{Lex}
use Rattle.lfg_terms.specs.declared.grammar.Grammar.{Grammar}
use Rattle.lfg_model.specs.Terms.{Name, annotation_of, Schema, define, constrain, exists, member, mark, either, maybe, call, Annotation, no_schema, and_schema, Branches, no_branch, or_branch}
use Rattle.lfg_model.specs.Places.{branch_count}
use Rattle.lfg_model.specs.Derive.{rule_of, item_at}
use Rattle.lfg_model.specs.Kept.{IsFillable}

-- each disjunction of the annotation has a branch, also inside branches and options
abbrev mutual
  pub HasBranches : Annotation → Type 0
  HasBranches no_schema = Unit {0}
  HasBranches (and_schema schema rest) = SchemaHasBranches schema × HasBranches rest

  pub SchemaHasBranches : Schema → Type 0
  SchemaHasBranches (define left right) = Unit {0}
  SchemaHasBranches (constrain negated left right) = Unit {0}
  SchemaHasBranches (exists negated left) = Unit {0}
  SchemaHasBranches (member item set) = Unit {0}
  SchemaHasBranches (mark name) = Unit {0}
  SchemaHasBranches (either branches) = (1 ≤ branch_count branches) × BranchesHaveBranches branches
  SchemaHasBranches (maybe inside) = HasBranches inside
  SchemaHasBranches (call name args) = Unit {0}

  pub BranchesHaveBranches : Branches → Type 0
  BranchesHaveBranches no_branch = Unit {0}
  BranchesHaveBranches (or_branch branch rest) = HasBranches branch × BranchesHaveBranches rest

-- each disjunction of the grammar has a branch
pub record HasNoEmptyDisjunction (g : Grammar) : Type 0 where
  pub items : (cat : Name) (rule : Rule) (occ : ℕ) (item : Item) → rule_of g cat ≡ Some rule → item_at rule.items occ ≡ Some item → HasBranches (annotation_of item.schemata)
  pub entries : (k : ℕ) (lex : Lex) → slice_get g.lexicon k ≡ Some lex → HasBranches (annotation_of lex.schemata)

-- Law: then each annotation of the grammar has picks that fit it.
abbrev pub FillableWithoutEmptyDisjunctions : Type 0
FillableWithoutEmptyDisjunctions = (g : Grammar) → HasNoEmptyDisjunction g → IsFillable g
