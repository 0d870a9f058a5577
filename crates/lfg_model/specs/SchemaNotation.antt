-- Annotations as they are written.
use Rattle.std.specs.Prelude.{Bool, true, false, cond, Option, Some, None, List, [], ◌∷◌, codes}
use Rattle.lfg_terms.specs.declared.grammar.Arrow.{Arrow}
use Rattle.lfg_terms.specs.declared.grammar.Arrow.TheVariants as arrow
use Rattle.lfg_terms.specs.declared.grammar.Des.{Des}
use Rattle.lfg_terms.specs.declared.grammar.Form.{Form}
use Rattle.lfg_terms.specs.declared.grammar.Val.{Val}
use Rattle.lfg_terms.specs.declared.grammar.Val.TheVariants as val
use Rattle.lfg_model.specs.declared.lexeme.Lexeme.{Lexeme}
use Rattle.lfg_model.specs.declared.lexeme.Lexeme.TheVariants.{Word, Open, Close, OpenBrace, Less, Greater, Quote, Up, Down, Equals, Constrains, Differs, Not, Dollar, At, Star, Plus, Minus, DoubleColon}
use Rattle.lfg_model.specs.Terms.{Name, same_name}
use Rattle.lfg_model.specs.PathExpressions.{PathExpression, attribute}
use Rattle.lfg_model.specs.RightSides.{DraftSchema, define, constrain, exists, member, mark, either, maybe, call, DraftAnnotation, draft_annotation_from, draft_branches_from}
use Rattle.lfg_model.specs.Nests.{◌>>=◌, Reader, Readers, Nest, readers}
use Rattle.lfg_model.specs.PathNotation.{path_row, begins_path, paths}

-- ---- designators

-- What a schema may begin with: a designator, whether it has a path, and whether the last lexeme of
-- that path is the name PRED.
pub record Left : Type 0 where
  pub des : Des PathExpression
  pub is_long : Bool
  pub is_pred : Bool

-- the arrow alone
abbrev pub bare_des : Arrow → Des PathExpression
bare_des a = record { arrow = a; path = None }

-- the arrow with the path of these parts
abbrev pub long_des : Arrow → List PathExpression → Des PathExpression
long_des a ps = record { arrow = a; path = Some (path_row ps) }

-- the part is the attribute PRED, written once
abbrev pub is_pred_part : PathExpression → Bool
is_pred_part (attribute name) = same_name name (codes "PRED")
is_pred_part _ = false

-- the last of these parts is PRED; if there is none, this
abbrev pub ends_in_pred : Bool → List PathExpression → Bool
ends_in_pred b [] = b
ends_in_pred b (p ∷ ps) = ends_in_pred (is_pred_part p) ps

abbrev pub bare_left : Arrow → Left
bare_left a = record { des = bare_des a; is_long = false; is_pred = false }

abbrev pub long_left : Arrow → List PathExpression → Left
long_left a ps = record { des = long_des a ps; is_long = true; is_pred = ends_in_pred false ps }

-- behind the path of a designator: the closing bracket
abbrev pub closed_left : Arrow → List PathExpression → Reader Left
closed_left a ps (Close ∷ ls) = Some (long_left a ps, ls)
closed_left a ps ls = None

-- a path and the closing bracket
abbrev pub path_behind : Arrow → Reader Left
path_behind a ls = (readers paths).row ls >>= λ p. closed_left a p.0 p.1

-- a designator with a path, behind its opening bracket
abbrev pub long_at : Reader Left
long_at (Up ∷ ls) = path_behind arrow.Up ls
long_at (Down ∷ ls) = path_behind arrow.Down ls
long_at ls = None

-- behind an opening bracket: an arrow with a path
abbrev pub begins_long : List Lexeme → Bool
begins_long (Up ∷ ls) = begins_path ls
begins_long (Down ∷ ls) = begins_path ls
begins_long ls = false

-- a designator begins here
abbrev pub begins_des : List Lexeme → Bool
begins_des (Up ∷ ls) = true
begins_des (Down ∷ ls) = true
begins_des (Open ∷ ls) = true
begins_des ls = false

-- a designator
abbrev pub des_at : Reader (Des PathExpression)
des_at (Up ∷ ls) = Some (bare_des arrow.Up, ls)
des_at (Down ∷ ls) = Some (bare_des arrow.Down, ls)
des_at (Open ∷ ls) = long_at ls >>= λ l. Some (l.0.des, l.1)
des_at ls = None

-- ---- values

-- a name, `+` or `-`
abbrev pub value_at : Reader Name
value_at (Word name ∷ ls) = Some (name, ls)
value_at (Plus ∷ ls) = Some (codes "+", ls)
value_at (Minus ∷ ls) = Some (codes "-", ls)
value_at ls = None

-- a name before others
abbrev pub put_name : Name → List Name × List Lexeme → List Name × List Lexeme
put_name name r = (name ∷ r.0, r.1)

-- the value that the lexeme is, if it is one
abbrev pub value_of : Lexeme → Option Name
value_of (Word name) = Some name
value_of Plus = Some (codes "+")
value_of Minus = Some (codes "-")
value_of _ = None

-- a value before others, or what stands there in its place
abbrev pub value_before : Option Name → Lexeme → List Lexeme → List Name × List Lexeme → List Name × List Lexeme
value_before None l ls r = ([], l ∷ ls)
value_before (Some name) l ls r = put_name name r

-- the values in front, as many as there are, and what is behind them
abbrev pub values_at : List Lexeme → List Name × List Lexeme
values_at [] = ([], [])
values_at (l ∷ ls) = value_before (value_of l) l ls (values_at ls)

-- the right side of a constraint: a designator or a value
abbrev pub test_at : Reader (Val PathExpression)
test_at ls = cond (begins_des ls) (des_at ls >>= λ d. Some (val.Des d.0, d.1)) (value_at ls >>= λ v. Some (val.Atom v.0, v.1))

-- ---- semantic forms

abbrev pub form_of : Name → List Name → List Name → Form
form_of name inner outer = record { name = name; inner = inner; outer = outer }

-- a function before others
abbrev pub put_function : Name → Option (List Name × List Lexeme) → Option (List Name × List Lexeme)
put_function name o = o >>= λ r. Some (put_name name r)

-- the functions in front, each written `(^ NAME)`, as many as there are, and what is behind them
abbrev mutual
  pub functions_at : List Lexeme → Option (List Name × List Lexeme)
  functions_at [] = Some ([], [])
  functions_at (Open ∷ ls) = function_arrow ls
  functions_at (l ∷ ls) = Some ([], l ∷ ls)

  -- behind the opening bracket
  pub function_arrow : List Lexeme → Option (List Name × List Lexeme)
  function_arrow (Up ∷ ls) = function_name ls
  function_arrow _ = None

  -- behind the arrow
  pub function_name : List Lexeme → Option (List Name × List Lexeme)
  function_name (Word name ∷ ls) = function_end name ls
  function_name _ = None

  -- behind the name
  pub function_end : Name → List Lexeme → Option (List Name × List Lexeme)
  function_end name (Close ∷ ls) = put_function name (functions_at ls)
  function_end name _ = None

-- the closing quote of a form
abbrev pub quoted : Form → Reader Form
quoted form (Quote ∷ ls) = Some (form, ls)
quoted form ls = None

-- behind the functions inside the angle brackets: those outside, and the closing quote
abbrev pub behind_inner : Name → List Name → Reader Form
behind_inner name inner (Greater ∷ ls) = functions_at ls >>= λ o. quoted (form_of name inner o.0) o.1
behind_inner name inner ls = None

-- behind the name of a form
abbrev pub behind_form_name : Name → Reader Form
behind_form_name name (Less ∷ ls) = functions_at ls >>= λ i. behind_inner name i.0 i.1
behind_form_name name ls = quoted (form_of name [] []) ls

-- a semantic form, behind its opening quote
abbrev pub form_at : Reader Form
form_at ls = value_at ls >>= λ v. behind_form_name v.0 v.1

-- the right side of a defining equation, where a form stands only behind PRED
abbrev pub right_at : Bool → Reader (Val PathExpression)
right_at is_pred (Quote ∷ ls) = cond is_pred (form_at ls >>= λ f. Some (val.Form f.0, f.1)) None
right_at is_pred ls = test_at ls

-- ---- schemata

-- a designator alone, which is an existential constraint where it has a path
abbrev pub left_alone : Left → Reader DraftSchema
left_alone left ls = cond left.is_long (Some (exists false left.des, ls)) None

-- a designator at the beginning of a schema, with what stands behind it
abbrev pub behind_left : Left → Reader DraftSchema
behind_left left (Equals ∷ ls) = right_at left.is_pred ls >>= λ v. Some (define left.des v.0, v.1)
behind_left left (Constrains ∷ ls) = test_at ls >>= λ v. Some (constrain false left.des v.0, v.1)
behind_left left (Differs ∷ ls) = test_at ls >>= λ v. Some (constrain true left.des v.0, v.1)
behind_left left (Dollar ∷ ls) = des_at ls >>= λ d. Some (member left.des d.0, d.1)
behind_left left ls = left_alone left ls

-- behind `~`: a designator that leads nowhere
abbrev pub negated_at : Reader DraftSchema
negated_at (Open ∷ ls) = long_at ls >>= λ l. Some (exists true l.0.des, l.1)
negated_at ls = None

-- behind a name: the signs that make it a mark
abbrev pub mark_at : Name → Reader DraftSchema
mark_at name (Dollar ∷ Word o ∷ DoubleColon ∷ Star ∷ ls) = cond (same_name o (codes "o")) (Some (mark name, ls)) None
mark_at name ls = None

-- behind the arguments of a call: the closing bracket
abbrev pub closed_call : Name → List Name → Reader DraftSchema
closed_call name args (Close ∷ ls) = Some (call name args, ls)
closed_call name args ls = None

-- behind the opening bracket of a call: the name of a template and arguments
abbrev pub call_in_brackets : Reader DraftSchema
call_in_brackets (Word name ∷ ls) = let r = values_at ls in closed_call name r.0 r.1
call_in_brackets ls = None

-- a call of a template, behind `@`
abbrev pub call_at : Reader DraftSchema
call_at (Word name ∷ ls) = Some (call name [], ls)
call_at (Open ∷ ls) = call_in_brackets ls
call_at ls = None

-- behind the schemata of an option: the closing bracket
abbrev pub closed_option : List DraftSchema → Reader DraftSchema
closed_option ss (Close ∷ ls) = Some (maybe (draft_annotation_from ss), ls)
closed_option ss ls = None

-- behind an opening bracket: a schema that begins with a designator with a path, or an option
abbrev pub bracketed_by : Readers DraftSchema DraftAnnotation → Reader DraftSchema
bracketed_by r ls = cond (begins_long ls) (long_at ls >>= λ l. behind_left l.0 l.1) (r.row ls >>= λ s. closed_option s.0 s.1)

-- a schema
abbrev pub schema_by : Readers DraftSchema DraftAnnotation → Reader DraftSchema
schema_by r (Up ∷ ls) = behind_left (bare_left arrow.Up) ls
schema_by r (Down ∷ ls) = behind_left (bare_left arrow.Down) ls
schema_by r (Open ∷ ls) = bracketed_by r ls
schema_by r (Not ∷ ls) = negated_at ls
schema_by r (Word name ∷ ls) = mark_at name ls
schema_by r (At ∷ ls) = call_at ls
schema_by r (OpenBrace ∷ ls) = r.branches ls >>= λ b. Some (either (draft_branches_from b.0), b.1)
schema_by r ls = None

-- a schema begins here
abbrev pub begins_schema : List Lexeme → Bool
begins_schema (Up ∷ ls) = true
begins_schema (Down ∷ ls) = true
begins_schema (Open ∷ ls) = true
begins_schema (Not ∷ ls) = true
begins_schema (Word name ∷ ls) = true
begins_schema (At ∷ ls) = true
begins_schema (OpenBrace ∷ ls) = true
begins_schema ls = false

-- annotations: schemata one after the other
abbrev pub schemata : Nest DraftSchema DraftAnnotation
schemata = record { item = schema_by; begins = begins_schema; branch = draft_annotation_from }
