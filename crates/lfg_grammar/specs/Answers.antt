-- What the parts of a draft are loaded as, or that a path of theirs fails.
use Rattle.std.specs.Prelude.{◌≡◌, ℕ, ◌≤◌, ◌⊎◌, Option, Some, None, Result, Ok, Err, List, Vec, map}
use Rattle.std.specs.List.{flat_map}
use Rattle.std.specs.Global.{Global}
use Rattle.std.specs.Option.{option_map}
use Rattle.lfg_terms.specs.declared.path_expr.PathExpr.{PathExpr}
use Rattle.lfg_terms.specs.declared.grammar.Des.{Des}
use Rattle.lfg_terms.specs.declared.grammar.Val.{Val}
use Rattle.lfg_terms.specs.declared.grammar.Item.{Item}
use Rattle.lfg_terms.specs.declared.grammar.Lex.{Lex}
use Rattle.lfg_terms.specs.declared.grammar.Schema as declared
use Rattle.lfg_model.specs.DraftForms.{WordForm}
use Rattle.lfg_model.specs.Lists.{In}
use Rattle.lfg_model.specs.Loads.{LoadsPath, LoadsDes, LoadsVal, LoadsSchema, LoadsAnnotation, LoadsItem, LoadsWord, WrittenItem, path_limit, path_of, val_paths, schema_paths, annotation_paths, item_paths, word_paths, PathAt, annotation_for}
use Rattle.lfg_model.specs.PathExpressions.{PathExpression, Strings, MoreThan}
use Rattle.lfg_model.specs.RightSides.{DraftSchema, DraftAnnotation, draft_annotation_of}
use Rattle.lfg_model.specs.TemplateRules.{Call, calls}
use Rattle.lfg_model.specs.Templates.{Each}
use Rattle.lfg_model.specs.Terms.{Name, Path, Paths, schema_of, annotation_of}
use Rattle.lfg_regpath.specs.declared.fault.PathFault.{PathFault}
use Rattle.lfg_regpath.specs.declared.fault.PathFault.TheVariants as fault

-- the numbers of attributes that a path may be asked for
pub record IsRange (depth : ℕ) : Type 0 where
  pub some : 1 ≤ depth
  pub limit : depth ≤ 8

-- there is no call among these
abbrev pub NoCall : List Call → Type 0
NoCall cs = (c : Call) → ¬ In c cs

-- one of the paths has too many strings, or none
pub record SomeBad (depth : ℕ) (ps : List PathExpression) : Type 0 where
  pub path : PathExpression
  pub among : In path ps
  pub bad : MoreThan path_limit (Strings path depth) ⊎ ((w : Path) → ¬ Strings path depth w)

-- one of the paths is bad, or there was not enough memory
abbrev pub FailsIn : ℕ → List PathExpression → PathFault → Type 0
FailsIn depth ps fault.TooManyPaths = SomeBad depth ps
FailsIn depth ps fault.NoPath = SomeBad depth ps
FailsIn depth ps fault.Memory = Unit {0}

-- each answer is what the part is loaded as, or that one of its paths fails
abbrev pub PathAs : ℕ → Option PathExpression → Result (Option Paths) PathFault → Type 0
PathAs depth path (Ok q) = LoadsPath depth path q
PathAs depth path (Err f) = FailsIn depth (path_of path) f

abbrev pub DesAs : ℕ → Des PathExpression → Result (Des Paths) PathFault → Type 0
DesAs depth d (Ok e) = LoadsDes depth d e
DesAs depth d (Err f) = FailsIn depth (path_of d.path) f

abbrev pub ValAs : ℕ → Val PathExpression → Result (Val Paths) PathFault → Type 0
ValAs depth v (Ok w) = LoadsVal depth v w
ValAs depth v (Err f) = FailsIn depth (val_paths v) f

abbrev pub SchemaAs : ℕ → DraftSchema → Result (declared.Schema Paths) PathFault → Type 0
SchemaAs depth s (Ok t) = LoadsSchema depth s (schema_of t)
SchemaAs depth s (Err f) = FailsIn depth (schema_paths s) f

abbrev pub AnnotationAs : ℕ → DraftAnnotation → Result (Vec (declared.Schema Paths) Global) PathFault → Type 0
AnnotationAs depth a (Ok v) = LoadsAnnotation depth a (annotation_of v.items)
AnnotationAs depth a (Err f) = FailsIn depth (annotation_paths a) f

abbrev pub ItemAs : ℕ → WrittenItem → Result Item PathFault → Type 0
ItemAs depth w (Ok i) = LoadsItem depth w i
ItemAs depth w (Err f) = FailsIn depth (item_paths w) f

abbrev pub ItemsAs : ℕ → List WrittenItem → Result (Vec Item Global) PathFault → Type 0
ItemsAs depth ws (Ok v) = Each (LoadsItem depth) ws v.items
ItemsAs depth ws (Err f) = FailsIn depth (flat_map item_paths ws) f

abbrev pub WordAs : ℕ → WordForm → Result Lex PathFault → Type 0
WordAs depth w (Ok x) = LoadsWord depth w x
WordAs depth w (Err f) = FailsIn depth (annotation_paths w.annotation) f

-- a path of these words fails
abbrev pub path_of_entry : PathAt → PathExpression
path_of_entry x = x.path

abbrev pub WordsAs : ℕ → List WordForm → Result (Vec Lex Global) PathFault → Type 0
WordsAs depth ws (Ok v) = Each (LoadsWord depth) ws v.items
WordsAs depth ws (Err f) = FailsIn depth (map path_of_entry (flat_map word_paths ws)) f

-- no item of the right side has a call in its annotation
abbrev pub AreWithoutCalls : List WrittenItem → Type 0
AreWithoutCalls ws = (w : WrittenItem) → In w ws → NoCall (calls (annotation_for w))

-- an item as the program has it
abbrev pub written_item : Name → Option (Vec (declared.Schema PathExpr) Global) → WrittenItem
written_item cat schemata = record { cat = cat; annotation = option_map (λ v. draft_annotation_of v.items) schemata }
