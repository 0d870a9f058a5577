-- Thin files are grammar files: what the draft of the whole notation is for a thin draft.
use Rattle.std.specs.Prelude.{◌≡◌, ℕ, ◌+◌, Option, Some, None, List, [], ◌∷◌, length, map, codes}
use Rattle.lfg_terms.specs.declared.draft.Setting.{Setting}
use Rattle.lfg_terms.specs.declared.grammar.Arrow.TheVariants as arrow
use Rattle.lfg_terms.specs.declared.grammar.Grammar.{Grammar}
use Rattle.lfg_terms.specs.declared.grammar.Val.TheVariants as val
use Rattle.lfg_model.specs.DraftForms.{RuleForm, WordForm, DraftForm}
use Rattle.lfg_model.specs.Drafts.{Drafts}
use Rattle.lfg_model.specs.PathExpressions.{attribute}
use Rattle.lfg_model.specs.RightSideNotation.{side_row}
use Rattle.lfg_model.specs.RightSides.{DraftSchema, define, no_schema, and_schema, draft_annotation_from, RightSide, item}
use Rattle.lfg_model.specs.SchemaNotation.{bare_des, long_des}
use Rattle.lfg_model.specs.Terms.{Name}
use Rattle.lfg_model.specs.Thin.{Daughter, Phrase, Equation, Entry, Draft}
use Rattle.lfg_model.specs.ThinText.{ThinFile}

-- ---- settings

-- the setting of the root, the first entry of the file
abbrev pub root_setting : Name → Setting
root_setting root = record { entry = 1; key = codes "ROOTCAT"; words = root ∷ [] }

-- ---- rules

-- the link of a daughter to its mother as it is written: `^=!`, or `(^ A)=!` for the function A
abbrev pub link_schema : Option Name → DraftSchema
link_schema None = define (bare_des arrow.Up) (val.Des (bare_des arrow.Down))
link_schema (Some a) = define (long_des arrow.Up (attribute a ∷ [])) (val.Des (bare_des arrow.Down))

-- The right side is this item: its category with its link as the annotation; without a function the
-- annotation may be absent.
pub data IsItem (x : Daughter) : RightSide → Type 0 where
  unannotated : x.function ≡ None → IsItem x (item x.cat None)
  linked : IsItem x (item x.cat (Some (and_schema (link_schema x.function) no_schema)))

-- the right sides are these items, in order
pub data AreItems : List Daughter → List RightSide → Type 0 where
  none : AreItems [] []
  next : {x : Daughter} {side : RightSide} {xs : List Daughter} {sides : List RightSide} → IsItem x side → AreItems xs sides → AreItems (x ∷ xs) (side ∷ sides)

-- the rule with this number is this phrase: its category, and its items one after the other
pub record IsRule (n : ℕ) (p : Phrase) (r : RuleForm) : Type 0 where
  pub entry : r.entry ≡ n
  pub cat : r.cat ≡ p.cat
  pub sides : List RightSide
  pub items : AreItems p.daughters sides
  pub side : r.side ≡ side_row sides

-- the rules are these phrases, in order, numbered from n
pub data AreRules : ℕ → List Phrase → List RuleForm → Type 0 where
  none : {n : ℕ} → AreRules n [] []
  next : {n : ℕ} {p : Phrase} {r : RuleForm} {ps : List Phrase} {rs : List RuleForm} → IsRule n p r → AreRules (n + 1) ps rs → AreRules n (p ∷ ps) (r ∷ rs)

-- ---- words

-- (^ P)=a
abbrev pub equation_schema : Equation → DraftSchema
equation_schema e = define (long_des arrow.Up (map attribute e.path)) (val.Atom e.atom)

-- the word of an entry with this number, with its equations as the annotation
abbrev pub entry_word : ℕ → Entry → WordForm
entry_word n x = record { entry = n; form = x.form; cat = x.cat; annotation = draft_annotation_from (map equation_schema x.equations) }

-- the words of these entries, in order, numbered from n
abbrev pub entry_words : ℕ → List Entry → List WordForm
entry_words n [] = []
entry_words n (x ∷ xs) = entry_word n x ∷ entry_words (n + 1) xs

-- ---- drafts

-- The draft of the notation is this thin draft: ROOTCAT is its only setting, its rules are the
-- phrases and its words the entries, numbered on from one to the next, and it has no template.
pub record IsThinForm (d : Draft) (form : DraftForm) : Type 0 where
  pub settings : form.settings ≡ root_setting d.root ∷ []
  pub rules : AreRules 2 d.phrases form.rules
  pub templates : form.templates ≡ []
  pub words : form.words ≡ entry_words (2 + length d.phrases) d.entries

-- the bytes are a grammar file, and its draft is this thin draft
pub record Drafted (bytes : List ℕ) (d : Draft) : Type 0 where
  pub form : DraftForm
  pub is : IsThinForm d form
  pub drafts : Drafts bytes form

-- ---- laws

-- Law: a thin file is a grammar file of the whole notation, and its draft there is the one that the
-- thin file gives its grammar from.
abbrev pub ThinFilesAreDrafted : Type 0
ThinFilesAreDrafted = (bytes : List ℕ) (g : Grammar) (t : ThinFile bytes g) → Drafted bytes t.draft
