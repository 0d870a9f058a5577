-- A grammar as its file has it, as plain data.
use Rattle.std.specs.Prelude.{ℕ, List, map}
use Rattle.lfg_terms.specs.declared.draft.Draft.{Draft}
use Rattle.lfg_terms.specs.declared.draft.Plain.{Plain}
use Rattle.lfg_terms.specs.declared.draft.DraftRule.{DraftRule}
use Rattle.lfg_terms.specs.declared.draft.LexEntry.{LexEntry}
use Rattle.lfg_terms.specs.declared.draft.Setting.{Setting}
use Rattle.lfg_terms.specs.declared.draft.Template.{Template}
use Rattle.lfg_model.specs.Terms.{Name}
use Rattle.lfg_model.specs.RightSides.{DraftAnnotation, draft_annotation_of, RightSide, right_side_of}

-- a rule: the number of its entry, its category and its right side
pub record RuleForm : Type 0 where
  pub entry : ℕ
  pub cat : Name
  pub side : RightSide

-- a template: the number of its entry, its name, its parameters and its body
pub record TemplateForm : Type 0 where
  pub entry : ℕ
  pub name : Name
  pub params : List Name
  pub body : DraftAnnotation

-- a reading of a word: the number of its entry, the word, its category and its annotation
pub record WordForm : Type 0 where
  pub entry : ℕ
  pub form : Name
  pub cat : Name
  pub annotation : DraftAnnotation

-- a grammar as its file has it, each list in written order
pub record DraftForm : Type 0 where
  pub settings : List Setting
  pub rules : List RuleForm
  pub templates : List TemplateForm
  pub words : List WordForm

-- a grammar without templates, each list in written order
pub record PlainForm : Type 0 where
  pub settings : List Setting
  pub rules : List RuleForm
  pub words : List WordForm

-- the plain forms of the parts of a draft of the program, and of the draft
abbrev pub rule_form : DraftRule → RuleForm
rule_form r = record { entry = r.entry; cat = r.cat; side = right_side_of r.rhs }

abbrev pub template_form : Template → TemplateForm
template_form t = record { entry = t.entry; name = t.name; params = t.params; body = draft_annotation_of t.body }

abbrev pub word_form : LexEntry → WordForm
word_form x = record { entry = x.entry; form = x.form; cat = x.cat; annotation = draft_annotation_of x.schemata }

abbrev pub draft_form : Draft → DraftForm
draft_form d = record { settings = d.settings; rules = map rule_form d.rules; templates = map template_form d.templates; words = map word_form d.entries }

-- the plain form of a draft of the program without templates
abbrev pub plain_form : Plain → PlainForm
plain_form p = record { settings = p.settings; rules = map rule_form p.rules; words = map word_form p.entries }
