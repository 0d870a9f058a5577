-- What a grammar draft becomes once each call of a template is replaced by the template's
-- annotation, with the arguments of the call in place of the parameters.
use Rattle.std.specs.Prelude.{◌≡◌, cond, Option, Some, None, List, [], ◌∷◌, ◌++◌, map}
use Rattle.std.specs.Option.{option_map}
use Rattle.lfg_terms.specs.declared.grammar.Des.{Des}
use Rattle.lfg_terms.specs.declared.grammar.Form.{Form}
use Rattle.lfg_terms.specs.declared.grammar.Val.{Val}
use Rattle.lfg_terms.specs.declared.grammar.Val.TheVariants as val
use Rattle.lfg_model.specs.Terms.{Name, same_name}
use Rattle.lfg_model.specs.PathExpressions.{PathExpression, attribute, row, one_of, star, plus, PathExpressions, no_path, and_path}
use Rattle.lfg_model.specs.RightSides.{DraftSchema, define, constrain, exists, member, mark, either, maybe, call, DraftAnnotation, no_schema, and_schema, DraftBranches, no_branch, or_branch, draft_annotation_from, draft_branches_from, RightSide, RightSides, item, optional, no_side, and_side}
use Rattle.lfg_model.specs.RightSides as side
use Rattle.lfg_model.specs.DraftForms.{TemplateForm, RuleForm, WordForm, DraftForm, PlainForm}

-- ---- arguments in place of parameters

-- the parameters of a template, and the arguments of a call of it
pub record Binding : Type 0 where
  pub params : List Name
  pub args : List Name

-- outside of templates nothing is a parameter
abbrev pub unbound : Binding
unbound = record { params = []; args = [] }

-- the name, or the argument that stands for it
abbrev pub name_by : List Name → List Name → Name → Name
name_by [] args name = name
name_by (p ∷ ps) [] name = name
name_by (p ∷ ps) (a ∷ args) name = cond (same_name p name) a (name_by ps args name)

-- a name with the argument in its place, if it is a parameter
abbrev pub name_with : Binding → Name → Name
name_with b name = name_by b.params b.args name

-- a path expression with arguments in place of the parameters among its attributes
abbrev mutual
  pub path_with : Binding → PathExpression → PathExpression
  path_with b (attribute name) = attribute (name_with b name)
  path_with b (row parts) = row (paths_with b parts)
  path_with b (one_of branches) = one_of (paths_with b branches)
  path_with b (star inside) = star (path_with b inside)
  path_with b (plus inside) = plus (path_with b inside)

  pub paths_with : Binding → PathExpressions → PathExpressions
  paths_with b no_path = no_path
  paths_with b (and_path path paths) = and_path (path_with b path) (paths_with b paths)

-- a designator: the attributes of its path
abbrev pub des_with : Binding → Des PathExpression → Des PathExpression
des_with b d = record { arrow = d.arrow; path = option_map (path_with b) d.path }

-- a semantic form: its name and its functions
abbrev pub form_with : Binding → Form → Form
form_with b f = record { name = name_with b f.name; inner = map (name_with b) f.inner; outer = map (name_with b) f.outer }

-- the right side of an equation: the attributes of a path, an atom, or a form
abbrev pub val_with : Binding → Val PathExpression → Val PathExpression
val_with b (val.Des d) = val.Des (des_with b d)
val_with b (val.Atom name) = val.Atom (name_with b name)
val_with b (val.Form form) = val.Form (form_with b form)

-- ---- a call is replaced by its template's body

-- the template of this name: the first one
abbrev pub template_named : List TemplateForm → Name → Option TemplateForm
template_named [] name = None
template_named (t ∷ ts) name = cond (same_name t.name name) (Some t) (template_named ts name)

mutual
  -- A schema in the body of a template, or outside of templates, becomes these schemata. A call
  -- becomes what the body of its template becomes, where the parameters are bound to the arguments;
  -- an argument that is itself a parameter is replaced first.
  pub data Becomes (ts : List TemplateForm) : Binding → DraftSchema → List DraftSchema → Type 0 where
    defining : {b : Binding} {left : Des PathExpression} {right : Val PathExpression} → Becomes ts b (define left right) (define (des_with b left) (val_with b right) ∷ [])
    constraining : {b : Binding} {negated : _} {left : Des PathExpression} {right : Val PathExpression} → Becomes ts b (constrain negated left right) (constrain negated (des_with b left) (val_with b right) ∷ [])
    existential : {b : Binding} {negated : _} {left : Des PathExpression} → Becomes ts b (exists negated left) (exists negated (des_with b left) ∷ [])
    membership : {b : Binding} {it set : Des PathExpression} → Becomes ts b (member it set) (member (des_with b it) (des_with b set) ∷ [])
    marked : {b : Binding} {name : Name} → Becomes ts b (mark name) (mark (name_with b name) ∷ [])
    disjunction : {b : Binding} {branches : DraftBranches} {out : List DraftAnnotation} → BranchesBecome ts b branches out → Becomes ts b (either branches) (either (draft_branches_from out) ∷ [])
    option : {b : Binding} {inside : DraftAnnotation} {out : List DraftSchema} → AllBecome ts b inside out → Becomes ts b (maybe inside) (maybe (draft_annotation_from out) ∷ [])
    called : {b : Binding} {name : Name} {args : List Name} {t : TemplateForm} {out : List DraftSchema} → template_named ts name ≡ Some t
        → AllBecome ts (record { params = t.params; args = map (name_with b) args }) t.body out → Becomes ts b (call name args) out

  -- an annotation becomes what its schemata become, one behind the other
  pub data AllBecome (ts : List TemplateForm) : Binding → DraftAnnotation → List DraftSchema → Type 0 where
    nothing : {b : Binding} → AllBecome ts b no_schema []
    one_more : {b : Binding} {schema : DraftSchema} {annotation : DraftAnnotation} {first rest : List DraftSchema} → Becomes ts b schema first → AllBecome ts b annotation rest → AllBecome ts b (and_schema schema annotation) (first ++ rest)

  -- each branch of a disjunction becomes a branch
  pub data BranchesBecome (ts : List TemplateForm) : Binding → DraftBranches → List DraftAnnotation → Type 0 where
    no_more : {b : Binding} → BranchesBecome ts b no_branch []
    branch_more : {b : Binding} {annotation : DraftAnnotation} {branches : DraftBranches} {out : List DraftSchema} {rest : List DraftAnnotation} → AllBecome ts b annotation out → BranchesBecome ts b branches rest → BranchesBecome ts b (or_branch annotation branches) (draft_annotation_from out ∷ rest)

-- ---- right sides and drafts

mutual
  -- a right side becomes one of the same form, each annotation replaced
  pub data SideBecomes (ts : List TemplateForm) : RightSide → RightSide → Type 0 where
    bare : {cat : Name} → SideBecomes ts (item cat None) (item cat None)
    annotated : {cat : Name} {annotation : DraftAnnotation} {out : List DraftSchema} → AllBecome ts unbound annotation out → SideBecomes ts (item cat (Some annotation)) (item cat (Some (draft_annotation_from out)))
    in_row : {parts out : RightSides} → SidesBecome ts parts out → SideBecomes ts (side.row parts) (side.row out)
    in_branches : {branches out : RightSides} → SidesBecome ts branches out → SideBecomes ts (side.one_of branches) (side.one_of out)
    in_option : {inside out : RightSide} → SideBecomes ts inside out → SideBecomes ts (optional inside) (optional out)
    in_star : {inside out : RightSide} → SideBecomes ts inside out → SideBecomes ts (side.star inside) (side.star out)
    in_plus : {inside out : RightSide} → SideBecomes ts inside out → SideBecomes ts (side.plus inside) (side.plus out)

  -- each of the right sides becomes one
  pub data SidesBecome (ts : List TemplateForm) : RightSides → RightSides → Type 0 where
    no_part : SidesBecome ts no_side no_side
    part_more : {part becomes : RightSide} {parts rest : RightSides} → SideBecomes ts part becomes → SidesBecome ts parts rest → SidesBecome ts (and_side part parts) (and_side becomes rest)

-- each of the one list, in order, is related to one of the other
pub data Each {X Y : Type 0} (R : X → Y → Type 0) : List X → List Y → Type 0 where
  end : Each R [] []
  and : {x : X} {y : Y} {xs : List X} {ys : List Y} → R x y → Each R xs ys → Each R (x ∷ xs) (y ∷ ys)

-- a rule keeps its entry and its category
pub record RuleBecomes (ts : List TemplateForm) (r q : RuleForm) : Type 0 where
  pub entry : q.entry ≡ r.entry
  pub cat : q.cat ≡ r.cat
  pub side : SideBecomes ts r.side q.side

-- a reading keeps its entry, its form and its category
pub record ReadingBecomes (ts : List TemplateForm) (r q : WordForm) : Type 0 where
  pub entry : q.entry ≡ r.entry
  pub form : q.form ≡ r.form
  pub cat : q.cat ≡ r.cat
  pub out : List DraftSchema
  pub all : AllBecome ts unbound r.annotation out
  pub is : q.annotation ≡ draft_annotation_from out

-- p is the draft with each call of a template replaced
pub record Expands (d : DraftForm) (p : PlainForm) : Type 0 where
  pub settings : p.settings ≡ d.settings
  pub rules : Each (RuleBecomes d.templates) d.rules p.rules
  pub words : Each (ReadingBecomes d.templates) d.words p.words
