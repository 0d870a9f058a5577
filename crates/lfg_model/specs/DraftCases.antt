-- The entries, the sections and the files of the notation by cases, as the tables of forms have
-- them.
use Rattle.std.specs.Prelude.{◌≡◌, ◌↔◌, ℕ, ◌+◌, Bool, true, false, Ok, List, [], ◌∷◌, ◌++◌, codes}
use Rattle.std.specs.List.{list_all, list_any}
use Rattle.std.specs.Char.{is_whitespace, is_ascii_digit}
use Rattle.std.specs.Str.{chars}
use Rattle.lfg_model.specs.declared.lexeme.Lexeme.{Lexeme}
use Rattle.lfg_model.specs.declared.lexeme.Lexeme.TheVariants.{Word, Open, Close, Equals, Star, Arrow, Divider, Stop, Semicolon}
use Rattle.lfg_model.specs.declared.notation.Separator.{Separator}
use Rattle.lfg_model.specs.declared.notation.Separator.TheVariants as at
use Rattle.lfg_model.specs.declared.notation.SectionKind.{SectionKind}
use Rattle.lfg_model.specs.declared.notation.SectionKind.TheVariants.{Config, Rules, Templates, Lexicon}
use Rattle.lfg_model.specs.declared.token.Token.{Token}
use Rattle.lfg_model.specs.Terms.{Name}
use Rattle.lfg_model.specs.RightSides.{DraftSchema, DraftAnnotation, no_schema, draft_annotation_from, RightSide}
use Rattle.lfg_model.specs.RightSideNotation.{side_row}
use Rattle.lfg_model.specs.DraftForms.{WordForm, DraftForm}
use Rattle.lfg_model.specs.EntryNotation.{empty_name, is_category, is_no_parameter, is_in_set, separates, with_setting, with_rule, with_template, with_words}
use Rattle.lfg_model.specs.Drafts.{Section, has_kind, empty_draft, HasTokens, lexemes_of, Drafts}
use Rattle.lfg_model.specs.NotationCases.{IsAnnotation, IsTerms}

-- ---- settings

-- NAME ..
pub data AreNames : List Lexeme → List Name → List Lexeme → Type 0 where
  no_name : {ls : List Lexeme} → AreNames ls [] ls
  more_names : {a : Name} {names : List Name} {ls us : List Lexeme} → AreNames ls names us → AreNames (Word a ∷ ls) (a ∷ names) us

-- `(NAME NAME)` ..
pub data ArePairs : List Lexeme → List Name → Type 0 where
  no_pair : ArePairs [] []
  more_pairs : {a b : Name} {names : List Name} {ls : List Lexeme} → ArePairs ls names → ArePairs (Open ∷ Word a ∷ Word b ∷ Close ∷ ls) (a ∷ b ∷ names)

-- the keys of numbers
pub data IsNumberKey : Name → Type 0 where
  depth : IsNumberKey (codes "UNCERTAINTYDEPTH")
  gensize : IsNumberKey (codes "GENSIZE")
  maxfacts : IsNumberKey (codes "MAXFACTS")

-- the keys of names
pub data IsNamesKey : Name → Type 0 where
  governable : IsNamesKey (codes "GOVERNABLERELATIONS")
  semantic : IsNamesKey (codes "SEMANTICFUNCTIONS")

-- the keys of pairs of names
pub data IsPairsKey : Name → Type 0 where
  rules : IsPairsKey (codes "RULES")
  templates : IsPairsKey (codes "TEMPLATES")
  entries : IsPairsKey (codes "LEXENTRIES")

-- a key, and the words behind it: `ROOTCAT` NAME, where the name is not `e`; the key of a number
-- and a NAME of digits; the key of names and one or more; the key of pairs and one or more;
-- `EPSILON e`; `CHARACTERENCODING utf-8`
pub data IsSetting : Name → List Lexeme → List Name → Type 0 where
  root : {c : Name} → is_category c ≡ true → IsSetting (codes "ROOTCAT") (Word c ∷ []) (c ∷ [])
  number : {key digits : Name} → IsNumberKey key → list_all is_ascii_digit digits ≡ true → IsSetting key (Word digits ∷ []) (digits ∷ [])
  names : {key a : Name} {others : List Name} {ls : List Lexeme} → IsNamesKey key → AreNames ls (a ∷ others) [] → IsSetting key ls (a ∷ others)
  pairs : {key a : Name} {others : List Name} {ls : List Lexeme} → IsPairsKey key → ArePairs ls (a ∷ others) → IsSetting key ls (a ∷ others)
  epsilon : IsSetting (codes "EPSILON") (Word empty_name ∷ []) (empty_name ∷ [])
  encoding : IsSetting (codes "CHARACTERENCODING") (Word (codes "utf-8") ∷ []) (codes "utf-8" ∷ [])

-- ---- words

-- nothing in these lexemes is the separator
abbrev pub is_within : Separator → List Lexeme → Type 0
is_within at ls = list_any (separates at) ls ≡ false

-- NAME `*` ANNOTATION, where the name is not `e` and the annotation may be absent
pub data IsReading : List Lexeme → Name → DraftAnnotation → Type 0 where
  bare : {c : Name} → is_category c ≡ true → IsReading (Word c ∷ Star ∷ []) c no_schema
  annotated : {c : Name} {ss : List DraftSchema} {ls : List Lexeme} → is_category c ≡ true → IsAnnotation ls ss [] → IsReading (Word c ∷ Star ∷ ls) c (draft_annotation_from ss)

-- READING `;` .., where a semicolon may stand behind the last
pub data AreReadings (n : ℕ) (form : Name) : List Lexeme → List WordForm → Type 0 where
  last_reading : {c : Name} {a : DraftAnnotation} {ls : List Lexeme} → is_within at.Semicolon ls → IsReading ls c a → AreReadings n form ls (record { entry = n; form = form; cat = c; annotation = a } ∷ [])
  ended_reading : {c : Name} {a : DraftAnnotation} {ls : List Lexeme} → is_within at.Semicolon ls → IsReading ls c a → AreReadings n form (ls ++ (Semicolon ∷ [])) (record { entry = n; form = form; cat = c; annotation = a } ∷ [])
  more_readings : {c : Name} {a : DraftAnnotation} {ls us : List Lexeme} {xs : List WordForm} → is_within at.Semicolon ls → IsReading ls c a → AreReadings n form us xs
      → AreReadings n form (ls ++ (Semicolon ∷ us)) (record { entry = n; form = form; cat = c; annotation = a } ∷ xs)

-- ---- entries

-- an entry of a section of this kind with this number, and the draft without it and with it:
-- a setting; NAME `-->` TERMS; NAME `=` ANNOTATION; NAME `(` NAMES `) =` ANNOTATION; NAME READINGS.
-- No rule has the name `e`, no parameter is `e` or `PRED`, and no white space stands in a word.
pub data IsEntry : SectionKind → ℕ → List Lexeme → DraftForm → DraftForm → Type 0 where
  setting : {n : ℕ} {key : Name} {words : List Name} {ls : List Lexeme} {d : DraftForm} → IsSetting key ls words → IsEntry Config n (Word key ∷ ls) d (with_setting d (record { entry = n; key = key; words = words }))
  rule : {n : ℕ} {c : Name} {xs : List RightSide} {ls : List Lexeme} {d : DraftForm} → is_category c ≡ true → IsTerms ls xs [] → IsEntry Rules n (Word c ∷ Arrow ∷ ls) d (with_rule d (record { entry = n; cat = c; side = side_row xs }))
  template : {n : ℕ} {a : Name} {ss : List DraftSchema} {ls : List Lexeme} {d : DraftForm} → IsAnnotation ls ss []
      → IsEntry Templates n (Word a ∷ Equals ∷ ls) d (with_template d (record { entry = n; name = a; params = []; body = draft_annotation_from ss }))
  template_with : {n : ℕ} {a : Name} {params : List Name} {ss : List DraftSchema} {ls us : List Lexeme} {d : DraftForm} → AreNames ls params (Close ∷ Equals ∷ us) → list_any is_no_parameter params ≡ false → IsAnnotation us ss []
      → IsEntry Templates n (Word a ∷ Open ∷ ls) d (with_template d (record { entry = n; name = a; params = params; body = draft_annotation_from ss }))
  word : {n : ℕ} {form : Name} {xs : List WordForm} {ls : List Lexeme} {d : DraftForm} → list_any is_whitespace (chars form) ≡ false → AreReadings n form ls xs → IsEntry Lexicon n (Word form ∷ ls) d (with_words d xs)

-- entries of a section, each ended by `.` and without the name `in_set`, numbered on from n to m
pub data AreEntries (k : SectionKind) : ℕ → DraftForm → List Lexeme → ℕ → DraftForm → Type 0 where
  no_entry : {n : ℕ} {d : DraftForm} → AreEntries k n d [] n d
  more_entries : {n m : ℕ} {d e f : DraftForm} {ls us : List Lexeme} → is_within at.Stop ls → list_any is_in_set ls ≡ false → IsEntry k n ls d e → AreEntries k (n + 1) e us m f → AreEntries k n d (ls ++ (Stop ∷ us)) m f

-- ---- sections

-- the word of a kind
pub data IsKindWord : Name → SectionKind → Type 0 where
  config : IsKindWord (codes "CONFIG") Config
  rules_word : IsKindWord (codes "RULES") Rules
  templates_word : IsKindWord (codes "TEMPLATES") Templates
  lexicon : IsKindWord (codes "LEXICON") Lexicon

-- sections, each `NAME NAME KIND (1.0)` with what is behind it, ended by `----` and of another kind
-- than those before it
pub data AreSections : List Section → List Lexeme → List Section → Type 0 where
  no_section : {before : List Section} → AreSections before [] before
  more_sections : {a b kind : Name} {k : SectionKind} {before all : List Section} (ls us : List Lexeme) → IsKindWord kind k → is_within at.Divider ls → has_kind k before ≡ false
      → AreSections (before ++ (record { kind = k; entries = ls } ∷ [])) us all
      → AreSections before (Word a ∷ Word b ∷ Word kind ∷ Open ∷ Word (codes "1") ∷ Stop ∷ Word (codes "0") ∷ Close ∷ (ls ++ (Divider ∷ us))) all

-- the entries of all sections, numbered on
pub data AreAllEntries : ℕ → DraftForm → List Section → DraftForm → Type 0 where
  no_more : {n : ℕ} {d : DraftForm} → AreAllEntries n d [] d
  and_more : {n m : ℕ} {d e f : DraftForm} {s : Section} {ss : List Section} → AreEntries s.kind n d s.entries m e → AreAllEntries m e ss f → AreAllEntries n d (s ∷ ss) f

-- the lexemes of a file: sections, one of which is CONFIG, with the entries that make the draft
pub record IsFile (ls : List Lexeme) (d : DraftForm) : Type 0 where
  pub sections : List Section
  pub are : AreSections [] ls sections
  pub has_config : has_kind Config sections ≡ true
  pub read : AreAllEntries 1 empty_draft sections d

-- the bytes are a grammar file by cases
pub record IsGrammarFile (bytes : List ℕ) (d : DraftForm) : Type 0 where
  pub tokens : List Token
  pub has : HasTokens bytes tokens
  pub is : IsFile (lexemes_of tokens) d

-- Law: a text is a grammar file with this draft exactly as the cases say.
abbrev pub DraftsByCases : Type 0
DraftsByCases = (bytes : List ℕ) (d : DraftForm) → Drafts bytes d ↔ IsGrammarFile bytes d
