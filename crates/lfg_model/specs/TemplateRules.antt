-- What a grammar draft has to keep so that its templates can be expanded, and the first place at
-- which it does not.
use Rattle.std.specs.Prelude.{◌≡◌, ◌≢◌, ℕ, suc, ◌+◌, ◌<◌, ◌≤◌, ◌⊎◌, nat_lt, cond, Option, Some, None, List, [], ◌∷◌, ◌++◌, length, map}
use Rattle.std.specs.List.{flat_map, sum_by}
use Rattle.lfg_model.specs.Lists.{In}
use Rattle.lfg_model.specs.Terms.{Name}
use Rattle.lfg_model.specs.RightSides.{DraftSchema, define, constrain, exists, member, mark, either, maybe, call, DraftAnnotation, no_schema, and_schema, DraftBranches, no_branch, or_branch, RightSide, RightSides, item, optional, no_side, and_side}
use Rattle.lfg_model.specs.RightSides as side
use Rattle.lfg_model.specs.DraftForms.{TemplateForm, RuleForm, WordForm, DraftForm, PlainForm}
use Rattle.lfg_model.specs.Templates.{template_named, Expands}

-- ---- written order

-- x is the first with P in written order: that of the least entry, and of those of one entry the
-- one that comes first in the list
pub record FirstWritten {X : Type 0} (entry : X → ℕ) (P : X → Type 0) (xs : List X) (x : X) : Type 0 where
  pub front : List X
  pub back : List X
  pub is : xs ≡ front ++ x ∷ back
  pub has : P x
  pub before : (y : X) → In y front → P y → entry x < entry y
  pub behind : (y : X) → In y back → P y → entry x ≤ entry y

-- the name is that of the first with P in written order
pub record FirstNamed {X : Type 0} (entry : X → ℕ) (naming : X → Name) (P : X → Type 0) (xs : List X) (name : Name) : Type 0 where
  pub first : X
  pub is : FirstWritten entry P xs first
  pub named : naming first ≡ name

-- nothing in the list has P
abbrev pub NoneHas : {X : Type 0} → (X → Type 0) → List X → Type 0
NoneHas {X} P xs = (x : X) → In x xs → P x → ⊥

-- ---- what heads an entry

-- what heads an entry: the number of the entry, and a category, a template's name or a word form;
-- and the parameters of a template
pub record Head : Type 0 where
  pub entry : ℕ
  pub name : Name
  pub params : List Name

-- a head, and the heads that come before it in its section
pub record Headed : Type 0 where
  pub head : Head
  pub earlier : List Head

-- the heads of a section behind these, each with those before it
abbrev pub headed_from : List Head → List Head → List Headed
headed_from earlier [] = []
headed_from earlier (h ∷ hs) = record { head = h; earlier = earlier } ∷ headed_from (earlier ++ h ∷ []) hs

-- the heads of a section, each with those before it
abbrev pub headed : List Head → List Headed
headed hs = headed_from [] hs

-- a rule is headed by its category, a template by its name, a reading of the lexicon by its form
abbrev pub rule_head : RuleForm → Head
rule_head r = record { entry = r.entry; name = r.cat; params = [] }

abbrev pub template_head : TemplateForm → Head
template_head t = record { entry = t.entry; name = t.name; params = t.params }

abbrev pub reading_head : WordForm → Head
reading_head r = record { entry = r.entry; name = r.form; params = [] }

-- all heads of a draft
abbrev pub heads : DraftForm → List Headed
heads d = headed (map rule_head d.rules) ++ headed (map template_head d.templates) ++ headed (map reading_head d.words)

-- the number of the entry that is headed, and the name that heads it
abbrev pub head_entry : Headed → ℕ
head_entry h = h.head.entry

abbrev pub head_name : Headed → Name
head_name h = h.head.name

-- something stands in the list twice
pub data Twice {X : Type 0} : List X → Type 0 where
  at_once : {x : X} {xs : List X} → In x xs → Twice (x ∷ xs)
  further : {x : X} {xs : List X} → Twice xs → Twice (x ∷ xs)

-- the name heads another entry before
pub record HeadsBefore (h : Head) (earlier : List Head) : Type 0 where
  pub other : Head
  pub before : In other earlier
  pub same : other.name ≡ h.name
  pub another : other.entry ≢ h.entry

-- the name heads a second entry of its section, or the template names a parameter twice
abbrev pub Repeated : Headed → Type 0
Repeated h = HeadsBefore h.head h.earlier ⊎ Twice h.head.params

-- ---- calls

-- a call of a template
pub record Call : Type 0 where
  pub name : Name
  pub args : List Name

abbrev mutual
  -- the calls in a schema, in written order
  pub schema_calls : DraftSchema → List Call
  schema_calls (define left right) = []
  schema_calls (constrain negated left right) = []
  schema_calls (exists negated left) = []
  schema_calls (member it set) = []
  schema_calls (mark name) = []
  schema_calls (either branches) = branches_calls branches
  schema_calls (maybe inside) = calls inside
  schema_calls (call name args) = record { name = name; args = args } ∷ []

  -- the calls in an annotation
  pub calls : DraftAnnotation → List Call
  calls no_schema = []
  calls (and_schema schema annotation) = schema_calls schema ++ calls annotation

  -- the calls in the branches of a disjunction
  pub branches_calls : DraftBranches → List Call
  branches_calls no_branch = []
  branches_calls (or_branch annotation branches) = calls annotation ++ branches_calls branches

-- the calls in an annotation, if there is one
abbrev pub option_calls : Option DraftAnnotation → List Call
option_calls None = []
option_calls (Some annotation) = calls annotation

abbrev mutual
  -- the calls in a right side
  pub side_calls : RightSide → List Call
  side_calls (item cat annotation) = option_calls annotation
  side_calls (side.row parts) = sides_calls parts
  side_calls (side.one_of branches) = sides_calls branches
  side_calls (optional inside) = side_calls inside
  side_calls (side.star inside) = side_calls inside
  side_calls (side.plus inside) = side_calls inside

  pub sides_calls : RightSides → List Call
  sides_calls no_side = []
  sides_calls (and_side part parts) = side_calls part ++ sides_calls parts

-- a call, with the number of the entry in which it stands
pub record CallAt : Type 0 where
  pub entry : ℕ
  pub call : Call

abbrev pub call_at : ℕ → Call → CallAt
call_at entry c = record { entry = entry; call = c }

abbrev pub rule_calls : RuleForm → List CallAt
rule_calls r = map (call_at r.entry) (side_calls r.side)

abbrev pub template_calls : TemplateForm → List CallAt
template_calls t = map (call_at t.entry) (calls t.body)

abbrev pub reading_calls : WordForm → List CallAt
reading_calls r = map (call_at r.entry) (calls r.annotation)

-- all calls of a draft
abbrev pub draft_calls : DraftForm → List CallAt
draft_calls d = flat_map rule_calls d.rules ++ flat_map template_calls d.templates ++ flat_map reading_calls d.words

-- the number of the entry in which the call stands, and the name that is called
abbrev pub call_entry : CallAt → ℕ
call_entry c = c.entry

abbrev pub call_name : CallAt → Name
call_name c = c.call.name

-- the call names no template
abbrev pub IsUndefined : List TemplateForm → CallAt → Type 0
IsUndefined ts c = template_named ts c.call.name ≡ None

-- the call has another number of arguments than its template has parameters
pub record HasOtherArity (ts : List TemplateForm) (c : CallAt) : Type 0 where
  pub template : TemplateForm
  pub named : template_named ts c.call.name ≡ Some template
  pub other : length template.params ≢ length c.call.args

-- the template of this name calls the other one, at once or through others
pub data Reaches (ts : List TemplateForm) : Name → Name → Type 0 where
  at_once : {name : Name} {t : TemplateForm} {c : Call} → template_named ts name ≡ Some t → In c (calls t.body) → Reaches ts name c.name
  through : {name between other : Name} → Reaches ts name between → Reaches ts between other → Reaches ts name other

-- the template calls itself
abbrev pub IsCyclic : List TemplateForm → TemplateForm → Type 0
IsCyclic ts t = Reaches ts t.name t.name

-- the number of the entry of a template, and its name
abbrev pub template_entry : TemplateForm → ℕ
template_entry t = t.entry

abbrev pub template_name : TemplateForm → Name
template_name t = t.name

-- ---- the number of schemata

abbrev mutual
  -- how many schemata a schema is: a disjunction and an option count besides what is in them
  pub schema_size : DraftSchema → ℕ
  schema_size (define left right) = 1
  schema_size (constrain negated left right) = 1
  schema_size (exists negated left) = 1
  schema_size (member it set) = 1
  schema_size (mark name) = 1
  schema_size (either branches) = suc (branches_size branches)
  schema_size (maybe inside) = suc (annotation_size inside)
  schema_size (call name args) = 1

  -- how many schemata an annotation has
  pub annotation_size : DraftAnnotation → ℕ
  annotation_size no_schema = 0
  annotation_size (and_schema schema annotation) = schema_size schema + annotation_size annotation

  -- how many schemata the branches of a disjunction have
  pub branches_size : DraftBranches → ℕ
  branches_size no_branch = 0
  branches_size (or_branch annotation branches) = annotation_size annotation + branches_size branches

-- how many schemata an annotation has, if there is one
abbrev pub option_size : Option DraftAnnotation → ℕ
option_size None = 0
option_size (Some annotation) = annotation_size annotation

abbrev mutual
  -- how many schemata a right side has
  pub side_size : RightSide → ℕ
  side_size (item cat annotation) = option_size annotation
  side_size (side.row parts) = sides_size parts
  side_size (side.one_of branches) = sides_size branches
  side_size (optional inside) = side_size inside
  side_size (side.star inside) = side_size inside
  side_size (side.plus inside) = side_size inside

  pub sides_size : RightSides → ℕ
  sides_size no_side = 0
  sides_size (and_side part parts) = side_size part + sides_size parts

-- how many schemata an entry has
pub record Weight : Type 0 where
  pub entry : ℕ
  pub size : ℕ

abbrev pub rule_weight : RuleForm → Weight
rule_weight r = record { entry = r.entry; size = side_size r.side }

abbrev pub reading_weight : WordForm → Weight
reading_weight r = record { entry = r.entry; size = annotation_size r.annotation }

-- the rules and the readings of the lexicon with their numbers of schemata
abbrev pub weights : PlainForm → List Weight
weights p = map rule_weight p.rules ++ map reading_weight p.words

-- how many schemata there are in the entries before this one
abbrev pub size_before : ℕ → List Weight → ℕ
size_before entry ws = sum_by (λ w. cond (nat_lt w.entry entry) w.size 0) ws

-- how many schemata there are in this entry and in those before it
abbrev pub size_through : ℕ → List Weight → ℕ
size_through entry ws = size_before (suc entry) ws

-- the entry is the first at which the number of schemata so far passes the limit
pub record Passes (limit : ℕ) (ws : List Weight) (entry : ℕ) : Type 0 where
  pub before : size_before entry ws ≤ limit
  pub over : limit < size_through entry ws

-- how many schemata there are
abbrev pub whole_size : List Weight → ℕ
whole_size ws = sum_by (λ w. w.size) ws

-- the greatest number of schemata of the rules and the lexicon entries of an expanded draft
abbrev pub schema_limit : ℕ
schema_limit = 400000

-- ---- the rules together

-- nothing heads two entries of a section, and no template names a parameter twice
abbrev pub NoneRepeated : DraftForm → Type 0
NoneRepeated d = NoneHas Repeated (heads d)

-- each call names a template
abbrev pub NoneUndefined : DraftForm → Type 0
NoneUndefined d = NoneHas (IsUndefined d.templates) (draft_calls d)

-- each call has as many arguments as its template has parameters
abbrev pub NoneOtherArity : DraftForm → Type 0
NoneOtherArity d = NoneHas (HasOtherArity d.templates) (draft_calls d)

-- no template calls itself
abbrev pub NoneCyclic : DraftForm → Type 0
NoneCyclic d = NoneHas (IsCyclic d.templates) d.templates

-- The draft keeps all rules, and this is what it becomes: the templates have their own names and
-- parameters, each call fits a template, no template calls itself, and there are not too many
-- schemata.
pub record IsExpanded (d : DraftForm) (p : PlainForm) : Type 0 where
  pub once : NoneRepeated d
  pub defined : NoneUndefined d
  pub fitting : NoneOtherArity d
  pub acyclic : NoneCyclic d
  pub expands : Expands d p
  pub few : whole_size (weights p) ≤ schema_limit

-- the name is that of the first head that is repeated, or whose template names a parameter twice
abbrev pub FirstRepeated : DraftForm → Name → Type 0
FirstRepeated d name = FirstNamed head_entry head_name Repeated (heads d) name

-- nothing is repeated, and the name is that of the first call that names no template
pub record FirstUndefined (d : DraftForm) (name : Name) : Type 0 where
  pub once : NoneRepeated d
  pub first : FirstNamed call_entry call_name (IsUndefined d.templates) (draft_calls d) name

-- nothing is repeated or not defined, and the name is that of the first call with another number of
-- arguments than its template has parameters
pub record FirstOtherArity (d : DraftForm) (name : Name) : Type 0 where
  pub once : NoneRepeated d
  pub defined : NoneUndefined d
  pub first : FirstNamed call_entry call_name (HasOtherArity d.templates) (draft_calls d) name

-- each call fits a template that has its own name, and the name is that of the first template that
-- calls itself
pub record FirstCyclic (d : DraftForm) (name : Name) : Type 0 where
  pub once : NoneRepeated d
  pub defined : NoneUndefined d
  pub fitting : NoneOtherArity d
  pub first : FirstNamed template_entry template_name (IsCyclic d.templates) d.templates name

-- all other rules are kept, and the entry is the first at which what the draft becomes has too many
-- schemata
pub record FirstTooMuch (d : DraftForm) (entry : ℕ) : Type 0 where
  pub once : NoneRepeated d
  pub defined : NoneUndefined d
  pub fitting : NoneOtherArity d
  pub acyclic : NoneCyclic d
  pub becomes : PlainForm
  pub expands : Expands d becomes
  pub passes : Passes schema_limit (weights becomes) entry
