-- The paths of a draft, and the first of them that fails.
use Rattle.std.specs.Prelude.{◌≡◌, ℕ, Option, Some, None, List, []}
use Rattle.lfg_model.specs.Loads.{PathAt, path_at, path_entry, annotation_paths, HasTooMany, HasNone, IsBadPath}
use Rattle.lfg_model.specs.PathExpressions.{PathExpression, expression_of}
use Rattle.lfg_model.specs.RightSides.{DraftAnnotation}
use Rattle.lfg_model.specs.TemplateRules.{FirstWritten, NoneHas}
use Rattle.lfg_regpath.specs.declared.fault.PathFault.{PathFault}
use Rattle.lfg_regpath.specs.declared.fault.PathFault.TheVariants.{TooManyPaths, NoPath, Memory}
use Rattle.lfg_grammar.specs.declared.bad_paths.BadPath.{BadPath}
use Rattle.lfg_grammar.specs.declared.bad_paths.WrittenPath.{WrittenPath}

-- a path with its entry, as the definitions see it
abbrev pub written_at : WrittenPath → PathAt
written_at w = path_at w.entry (expression_of w.path.now)

-- the paths of an annotation, if there is one
abbrev pub option_paths : Option DraftAnnotation → List PathExpression
option_paths None = []
option_paths (Some annotation) = annotation_paths annotation

-- the path fails in this way
abbrev pub FailsSo : ℕ → PathAt → PathFault → Type 0
FailsSo depth x TooManyPaths = HasTooMany depth x
FailsSo depth x NoPath = HasNone depth x
FailsSo depth x Memory = ⊥

-- the entry and the fault are those of the first path, in written order, that fails
pub record IsFirstBad (depth : ℕ) (ps : List PathAt) (entry : ℕ) (f : PathFault) : Type 0 where
  pub path : PathAt
  pub is_first : FirstWritten path_entry (IsBadPath depth) ps path
  pub at : path.entry ≡ entry
  pub fails : FailsSo depth path f

-- the first path that fails, or that none does
abbrev pub FoundBadPath : ℕ → List PathAt → Option BadPath → Type 0
FoundBadPath depth ps None = NoneHas (IsBadPath depth) ps
FoundBadPath depth ps (Some b) = IsFirstBad depth ps b.entry b.fault
