-- What the plain data of a draft keep, before their templates are expanded and after: their names
-- are free, a disjunction has a branch, and the right side of a constraint is no form.
use Rattle.std.proofs.Common.{Option, Some, None, List, [], ◌∷◌}
use Rattle.lfg_terms.specs.declared.grammar.Des.{Des}
use Rattle.lfg_terms.specs.declared.grammar.Val.{Val}
use Rattle.lfg_terms.specs.declared.grammar.Val.TheVariants as val
use Rattle.lfg_terms.specs.declared.draft.Setting.{Setting}
use Rattle.lfg_model.specs.DraftForms.{RuleForm, TemplateForm, WordForm}
use Rattle.lfg_model.specs.Loaded.{IsFree, AreFree, IsSoundForm}
use Rattle.lfg_model.specs.PathExpressions as path
use Rattle.lfg_model.specs.PathExpressions.{PathExpression, PathExpressions, attribute, no_path, and_path}
use Rattle.lfg_model.specs.RightSides.{DraftSchema, define, constrain, exists, member, mark, either, maybe, call, DraftAnnotation, no_schema, and_schema, DraftBranches, no_branch, or_branch, RightSide, RightSides, item, row, one_of, optional, star, plus, no_side, and_side}

-- ---- annotations

-- each attribute of the path expression is free
abbrev mutual
  pub IsFreePath : PathExpression → Type 0
  IsFreePath (attribute name) = IsFree name
  IsFreePath (path.row parts) = AreFreePaths parts
  IsFreePath (path.one_of branches) = AreFreePaths branches
  IsFreePath (path.star inside) = IsFreePath inside
  IsFreePath (path.plus inside) = IsFreePath inside

  pub AreFreePaths : PathExpressions → Type 0
  AreFreePaths no_path = Unit {0}
  AreFreePaths (and_path part parts) = IsFreePath part × AreFreePaths parts

-- so it is if there is a path
abbrev pub IsFreeOption : Option PathExpression → Type 0
IsFreeOption None = Unit {0}
IsFreeOption (Some expression) = IsFreePath expression

abbrev pub IsFreeDes : Des PathExpression → Type 0
IsFreeDes d = IsFreeOption d.path

-- the right side of a defining equation
abbrev pub IsFreeVal : Val PathExpression → Type 0
IsFreeVal (val.Des d) = IsFreeDes d
IsFreeVal (val.Atom name) = IsFree name
IsFreeVal (val.Form f) = IsSoundForm f

-- the right side of a constraint
abbrev pub IsFreeTest : Val PathExpression → Type 0
IsFreeTest (val.Des d) = IsFreeDes d
IsFreeTest (val.Atom name) = IsFree name
IsFreeTest (val.Form f) = ⊥

-- there is a branch
abbrev pub HasDraftBranch : DraftBranches → Type 0
HasDraftBranch no_branch = ⊥
HasDraftBranch (or_branch annotation branches) = Unit {0}

-- an annotation of a draft: the arguments of a call are free too
abbrev mutual
  pub IsFreeSchema : DraftSchema → Type 0
  IsFreeSchema (define left right) = IsFreeDes left × IsFreeVal right
  IsFreeSchema (constrain negated left right) = IsFreeDes left × IsFreeTest right
  IsFreeSchema (exists negated left) = IsFreeDes left
  IsFreeSchema (member it set) = IsFreeDes it × IsFreeDes set
  IsFreeSchema (mark name) = IsFree name
  IsFreeSchema (either branches) = HasDraftBranch branches × AreFreeBranches branches
  IsFreeSchema (maybe inside) = IsFreeAnnotation inside
  IsFreeSchema (call name args) = AreFree args

  pub IsFreeAnnotation : DraftAnnotation → Type 0
  IsFreeAnnotation no_schema = Unit {0}
  IsFreeAnnotation (and_schema schema annotation) = IsFreeSchema schema × IsFreeAnnotation annotation

  pub AreFreeBranches : DraftBranches → Type 0
  AreFreeBranches no_branch = Unit {0}
  AreFreeBranches (or_branch annotation branches) = IsFreeAnnotation annotation × AreFreeBranches branches

-- these schemata, and these annotations
abbrev pub AreFreeSchemata : List DraftSchema → Type 0
AreFreeSchemata [] = Unit {0}
AreFreeSchemata (s ∷ ss) = IsFreeSchema s × AreFreeSchemata ss

abbrev pub AreFreeAnnotations : List DraftAnnotation → Type 0
AreFreeAnnotations [] = Unit {0}
AreFreeAnnotations (a ∷ more) = IsFreeAnnotation a × AreFreeAnnotations more

-- ---- right sides

-- the annotation of an item, if it has one
abbrev pub IsFreeNote : Option DraftAnnotation → Type 0
IsFreeNote None = Unit {0}
IsFreeNote (Some annotation) = IsFreeAnnotation annotation

-- there is a right side
abbrev pub HasSide : RightSides → Type 0
HasSide no_side = ⊥
HasSide (and_side side sides) = Unit {0}

-- a right side: its categories and its annotations are free, and there is a branch where one is taken
abbrev mutual
  pub IsFreeSide : RightSide → Type 0
  IsFreeSide (item cat annotation) = IsFree cat × IsFreeNote annotation
  IsFreeSide (row parts) = AreFreeSides parts
  IsFreeSide (one_of branches) = HasSide branches × AreFreeSides branches
  IsFreeSide (optional inside) = IsFreeSide inside
  IsFreeSide (star inside) = IsFreeSide inside
  IsFreeSide (plus inside) = IsFreeSide inside

  pub AreFreeSides : RightSides → Type 0
  AreFreeSides no_side = Unit {0}
  AreFreeSides (and_side side sides) = IsFreeSide side × AreFreeSides sides

-- ---- rules, templates and words

pub record IsFreeRule (r : RuleForm) : Type 0 where
  pub cat : IsFree r.cat
  pub side : IsFreeSide r.side

-- of a template the body alone counts: its parameters are replaced
abbrev pub IsFreeTemplate : TemplateForm → Type 0
IsFreeTemplate t = IsFreeAnnotation t.body

pub record IsFreeWord (w : WordForm) : Type 0 where
  pub form : IsFree w.form
  pub cat : IsFree w.cat
  pub annotation : IsFreeAnnotation w.annotation

-- the words of a setting
abbrev pub IsFreeSetting : Setting → Type 0
IsFreeSetting s = AreFree s.words
