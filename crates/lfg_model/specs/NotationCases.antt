-- The notation of paths, annotations and right sides by cases, as a table of forms has them. Each
-- case relates what stands in front of a row of lexemes to what it means and to what is behind it.
use Rattle.std.specs.Prelude.{◌≡◌, ◌↔◌, Bool, true, false, Some, None, List, [], ◌∷◌, codes}
use Rattle.lfg_terms.specs.declared.grammar.Arrow.{Arrow}
use Rattle.lfg_terms.specs.declared.grammar.Arrow.TheVariants as arrow
use Rattle.lfg_terms.specs.declared.grammar.Des.{Des}
use Rattle.lfg_terms.specs.declared.grammar.Form.{Form}
use Rattle.lfg_terms.specs.declared.grammar.Val.{Val}
use Rattle.lfg_terms.specs.declared.grammar.Val.TheVariants as val
use Rattle.lfg_model.specs.declared.lexeme.Lexeme.{Lexeme}
use Rattle.lfg_model.specs.declared.lexeme.Lexeme.TheVariants.{Word, Open, Close, OpenBracket, CloseBracket, OpenBrace, CloseBrace, Less, Greater, Bar, Quote, Up, Down, Equals, Constrains, Differs, Not, Dollar, At, Star, Plus, Minus, Semicolon, Colon, DoubleColon}
use Rattle.lfg_model.specs.declared.notation.Repetition.{Repetition}
use Rattle.lfg_model.specs.declared.notation.Repetition.TheVariants.{Once, AnyTimes, OnceOrMore}
use Rattle.lfg_model.specs.Terms.{Name}
use Rattle.lfg_model.specs.PathExpressions.{PathExpression, attribute, one_of, expressions_from}
use Rattle.lfg_model.specs.RightSides.{DraftSchema, define, constrain, exists, member, mark, either, maybe, call, DraftAnnotation, draft_annotation_from, draft_branches_from}
use Rattle.lfg_model.specs.RightSides as side
use Rattle.lfg_model.specs.RightSides.{RightSide, item, optional, right_sides_from}
use Rattle.lfg_model.specs.Nests.{readers}
use Rattle.lfg_model.specs.PathNotation.{repeat_path, path_row, paths}
use Rattle.lfg_model.specs.SchemaNotation.{bare_des, long_des, ends_in_pred, form_of, schemata}
use Rattle.lfg_model.specs.RightSideNotation.{repeat_side, side_row, annotated, closes_term, terms}

-- ---- paths

-- `*`, `+` or nothing
pub data IsRepetition : List Lexeme → Repetition → List Lexeme → Type 0 where
  once : {ls : List Lexeme} → IsRepetition ls Once ls
  any_times : {ls : List Lexeme} → IsRepetition (Star ∷ ls) AnyTimes ls
  once_or_more : {ls : List Lexeme} → IsRepetition (Plus ∷ ls) OnceOrMore ls

mutual
  -- a part of a path: NAME, `{` PATH `|` .. `}` or `[` PATH `]`, with a sign of repetition
  pub data IsPart : List Lexeme → PathExpression → List Lexeme → Type 0 where
    part_name : {a : Name} {ls us : List Lexeme} {often : Repetition} → IsRepetition ls often us → IsPart (Word a ∷ ls) (repeat_path often (attribute a)) us
    part_branches : {ls us vs : List Lexeme} {bs : List PathExpression} {often : Repetition} → IsPathBranches ls bs us → IsRepetition us often vs → IsPart (OpenBrace ∷ ls) (repeat_path often (one_of (expressions_from bs))) vs
    part_row : {ls us vs : List Lexeme} {ps : List PathExpression} {often : Repetition} → IsPath ls ps (CloseBracket ∷ us) → IsRepetition us often vs → IsPart (OpenBracket ∷ ls) (repeat_path often (path_row ps)) vs

  -- one or more parts
  pub data IsPath : List Lexeme → List PathExpression → List Lexeme → Type 0 where
    last_part : {ls us : List Lexeme} {p : PathExpression} → IsPart ls p us → IsPath ls (p ∷ []) us
    more_parts : {ls us vs : List Lexeme} {p : PathExpression} {ps : List PathExpression} → IsPart ls p us → IsPath us ps vs → IsPath ls (p ∷ ps) vs

  -- PATH `|` .. `}`
  pub data IsPathBranches : List Lexeme → List PathExpression → List Lexeme → Type 0 where
    last_path : {ls us : List Lexeme} {ps : List PathExpression} → IsPath ls ps (CloseBrace ∷ us) → IsPathBranches ls (path_row ps ∷ []) us
    more_paths : {ls us vs : List Lexeme} {ps bs : List PathExpression} → IsPath ls ps (Bar ∷ us) → IsPathBranches us bs vs → IsPathBranches ls (path_row ps ∷ bs) vs

-- ---- designators, values and forms

-- `^` or `!`
pub data IsArrow : Lexeme → Arrow → Type 0 where
  up : IsArrow Up arrow.Up
  down : IsArrow Down arrow.Down

-- `(` ARROW PATH `)`
pub data IsLong : List Lexeme → Arrow → List PathExpression → List Lexeme → Type 0 where
  long : {l : Lexeme} {a : Arrow} {ls us : List Lexeme} {ps : List PathExpression} → IsArrow l a → IsPath ls ps (Close ∷ us) → IsLong (Open ∷ l ∷ ls) a ps us

-- an arrow alone, or with a path
pub data IsDes : List Lexeme → Des PathExpression → List Lexeme → Type 0 where
  bare_arrow : {l : Lexeme} {a : Arrow} {ls : List Lexeme} → IsArrow l a → IsDes (l ∷ ls) (bare_des a) ls
  with_path : {a : Arrow} {ls us : List Lexeme} {ps : List PathExpression} → IsLong ls a ps us → IsDes ls (long_des a ps) us

-- NAME, `+` or `-`
pub data IsValue : Lexeme → Name → Type 0 where
  value_name : {a : Name} → IsValue (Word a) a
  value_plus : IsValue Plus (codes "+")
  value_minus : IsValue Minus (codes "-")

-- any number of values
pub data IsValues : List Lexeme → List Name → List Lexeme → Type 0 where
  no_value : {ls : List Lexeme} → IsValues ls [] ls
  more_values : {l : Lexeme} {a : Name} {ls us : List Lexeme} {values : List Name} → IsValue l a → IsValues ls values us → IsValues (l ∷ ls) (a ∷ values) us

-- a designator or a value
pub data IsTest : List Lexeme → Val PathExpression → List Lexeme → Type 0 where
  test_des : {d : Des PathExpression} {ls us : List Lexeme} → IsDes ls d us → IsTest ls (val.Des d) us
  test_value : {l : Lexeme} {a : Name} {ls : List Lexeme} → IsValue l a → IsTest (l ∷ ls) (val.Atom a) ls

-- any number of `(^ NAME)`
pub data IsFunctions : List Lexeme → List Name → List Lexeme → Type 0 where
  no_function : {ls : List Lexeme} → IsFunctions ls [] ls
  more_functions : {a : Name} {ls us : List Lexeme} {functions : List Name} → IsFunctions ls functions us → IsFunctions (Open ∷ Up ∷ Word a ∷ Close ∷ ls) (a ∷ functions) us

-- behind a quote: VALUE `'`, or VALUE `<` FUNCTIONS `>` FUNCTIONS `'`
pub data IsForm : List Lexeme → Form → List Lexeme → Type 0 where
  bare_form : {l : Lexeme} {a : Name} {ls : List Lexeme} → IsValue l a → IsForm (l ∷ Quote ∷ ls) (form_of a [] []) ls
  form_with : {l : Lexeme} {a : Name} {inner outer : List Name} {ls us vs : List Lexeme} → IsValue l a → IsFunctions ls inner (Greater ∷ us) → IsFunctions us outer (Quote ∷ vs)
      → IsForm (l ∷ Less ∷ ls) (form_of a inner outer) vs

-- ---- annotations

mutual
  -- a schema: DES `=` TEST; LONG `=` a form, where the last lexeme of the path is PRED; DES `=c` TEST;
  -- DES `~=` TEST; LONG; `~` LONG; DES `$` DES; NAME `$ o::*`; `{` ANNOTATION `|` .. `}`;
  -- `(` ANNOTATION `)`; `@` NAME; `@(` NAME VALUES `)`
  pub data IsSchema : List Lexeme → DraftSchema → List Lexeme → Type 0 where
    defines : {d : Des PathExpression} {v : Val PathExpression} {ls us vs : List Lexeme} → IsDes ls d (Equals ∷ us) → IsTest us v vs → IsSchema ls (define d v) vs
    defines_form : {a : Arrow} {ps : List PathExpression} {f : Form} {ls us vs : List Lexeme} → IsLong ls a ps (Equals ∷ Quote ∷ us) → ends_in_pred false ps ≡ true → IsForm us f vs
        → IsSchema ls (define (long_des a ps) (val.Form f)) vs
    constrains : {d : Des PathExpression} {v : Val PathExpression} {ls us vs : List Lexeme} → IsDes ls d (Constrains ∷ us) → IsTest us v vs → IsSchema ls (constrain false d v) vs
    differs : {d : Des PathExpression} {v : Val PathExpression} {ls us vs : List Lexeme} → IsDes ls d (Differs ∷ us) → IsTest us v vs → IsSchema ls (constrain true d v) vs
    leads : {a : Arrow} {ps : List PathExpression} {ls us : List Lexeme} → IsLong ls a ps us → IsSchema ls (exists false (long_des a ps)) us
    leads_nowhere : {a : Arrow} {ps : List PathExpression} {ls us : List Lexeme} → IsLong ls a ps us → IsSchema (Not ∷ ls) (exists true (long_des a ps)) us
    belongs : {d e : Des PathExpression} {ls us vs : List Lexeme} → IsDes ls d (Dollar ∷ us) → IsDes us e vs → IsSchema ls (member d e) vs
    marks : {a : Name} {ls : List Lexeme} → IsSchema (Word a ∷ Dollar ∷ Word (codes "o") ∷ DoubleColon ∷ Star ∷ ls) (mark a) ls
    alternatives : {bs : List DraftAnnotation} {ls us : List Lexeme} → IsAlternatives ls bs us → IsSchema (OpenBrace ∷ ls) (either (draft_branches_from bs)) us
    optional_schemata : {ss : List DraftSchema} {ls us : List Lexeme} → IsAnnotation ls ss (Close ∷ us) → IsSchema (Open ∷ ls) (maybe (draft_annotation_from ss)) us
    calls : {a : Name} {ls : List Lexeme} → IsSchema (At ∷ Word a ∷ ls) (call a []) ls
    calls_with : {a : Name} {args : List Name} {ls us : List Lexeme} → IsValues ls args (Close ∷ us) → IsSchema (At ∷ Open ∷ Word a ∷ ls) (call a args) us

  -- one or more schemata
  pub data IsAnnotation : List Lexeme → List DraftSchema → List Lexeme → Type 0 where
    last_schema : {s : DraftSchema} {ls us : List Lexeme} → IsSchema ls s us → IsAnnotation ls (s ∷ []) us
    more_schemata : {s : DraftSchema} {ss : List DraftSchema} {ls us vs : List Lexeme} → IsSchema ls s us → IsAnnotation us ss vs → IsAnnotation ls (s ∷ ss) vs

  -- ANNOTATION `|` .. `}`
  pub data IsAlternatives : List Lexeme → List DraftAnnotation → List Lexeme → Type 0 where
    last_annotation : {ss : List DraftSchema} {ls us : List Lexeme} → IsAnnotation ls ss (CloseBrace ∷ us) → IsAlternatives ls (draft_annotation_from ss ∷ []) us
    more_annotations : {ss : List DraftSchema} {bs : List DraftAnnotation} {ls us vs : List Lexeme} → IsAnnotation ls ss (Bar ∷ us) → IsAlternatives us bs vs → IsAlternatives ls (draft_annotation_from ss ∷ bs) vs

-- ---- right sides

-- a semicolon, or none
pub data IsEnd : List Lexeme → List Lexeme → Type 0 where
  semicolon : {ls : List Lexeme} → IsEnd (Semicolon ∷ ls) ls
  no_semicolon : {ls : List Lexeme} → IsEnd ls ls

mutual
  -- a term: NAME REPETITION; NAME REPETITION `:` ANNOTATION with a semicolon, which is absent before
  -- what encloses the term ends; `(` TERMS `)`; `{` TERMS `|` .. `}` REPETITION; `[` TERMS `]` REPETITION
  pub data IsTerm : List Lexeme → RightSide → List Lexeme → Type 0 where
    category : {c : Name} {often : Repetition} {ls us vs : List Lexeme} → IsRepetition ls often us → IsEnd us vs → IsTerm (Word c ∷ ls) (repeat_side often (item c None)) vs
    annotated_ended : {c : Name} {often : Repetition} {ss : List DraftSchema} {ls us vs : List Lexeme} → IsRepetition ls often (Colon ∷ us) → IsAnnotation us ss (Semicolon ∷ vs)
        → IsTerm (Word c ∷ ls) (repeat_side often (annotated c ss)) vs
    annotated_last : {c : Name} {often : Repetition} {ss : List DraftSchema} {ls us vs : List Lexeme} → IsRepetition ls often (Colon ∷ us) → IsAnnotation us ss vs → closes_term vs ≡ true
        → IsTerm (Word c ∷ ls) (repeat_side often (annotated c ss)) vs
    optional_terms : {xs : List RightSide} {ls us vs : List Lexeme} → IsTerms ls xs (Close ∷ us) → IsEnd us vs → IsTerm (Open ∷ ls) (optional (side_row xs)) vs
    term_branches : {bs : List RightSide} {often : Repetition} {ls us vs ws : List Lexeme} → IsTermBranches ls bs us → IsRepetition us often vs → IsEnd vs ws → IsTerm (OpenBrace ∷ ls) (repeat_side often (side.one_of (right_sides_from bs))) ws
    term_row : {xs : List RightSide} {often : Repetition} {ls us vs ws : List Lexeme} → IsTerms ls xs (CloseBracket ∷ us) → IsRepetition us often vs → IsEnd vs ws → IsTerm (OpenBracket ∷ ls) (repeat_side often (side_row xs)) ws

  -- one or more terms
  pub data IsTerms : List Lexeme → List RightSide → List Lexeme → Type 0 where
    last_term : {x : RightSide} {ls us : List Lexeme} → IsTerm ls x us → IsTerms ls (x ∷ []) us
    more_terms : {x : RightSide} {xs : List RightSide} {ls us vs : List Lexeme} → IsTerm ls x us → IsTerms us xs vs → IsTerms ls (x ∷ xs) vs

  -- TERMS `|` .. `}`
  pub data IsTermBranches : List Lexeme → List RightSide → List Lexeme → Type 0 where
    last_terms : {xs : List RightSide} {ls us : List Lexeme} → IsTerms ls xs (CloseBrace ∷ us) → IsTermBranches ls (side_row xs ∷ []) us
    more_branches : {xs bs : List RightSide} {ls us vs : List Lexeme} → IsTerms ls xs (Bar ∷ us) → IsTermBranches us bs vs → IsTermBranches ls (side_row xs ∷ bs) vs

-- ---- laws

-- what can stand behind an annotation
abbrev pub closes_annotation : List Lexeme → Bool
closes_annotation (Semicolon ∷ ls) = true
closes_annotation ls = closes_term ls

-- Law: before a bracket that closes, a bar or the end a path is read exactly as the cases say.
abbrev pub PathsByCases : Type 0
PathsByCases = (ls us : List Lexeme) (ps : List PathExpression) → closes_term us ≡ true → (readers paths).row ls ≡ Some (ps, us) ↔ IsPath ls ps us

-- Law: before those and a semicolon an annotation is read exactly as the cases say.
abbrev pub AnnotationsByCases : Type 0
AnnotationsByCases = (ls us : List Lexeme) (ss : List DraftSchema) → closes_annotation us ≡ true → (readers schemata).row ls ≡ Some (ss, us) ↔ IsAnnotation ls ss us

-- Law: before a bracket that closes, a bar or the end a right side is read exactly as the cases say.
abbrev pub RightSidesByCases : Type 0
RightSidesByCases = (ls us : List Lexeme) (xs : List RightSide) → closes_term us ≡ true → (readers terms).row ls ≡ Some (xs, us) ↔ IsTerms ls xs us
