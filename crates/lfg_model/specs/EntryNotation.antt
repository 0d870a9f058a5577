-- The entries of a grammar file: settings, rules, templates and words.
use Rattle.std.specs.Prelude.{ℕ, Bool, true, false, cond, ◌||◌, Option, Some, None, List, [], ◌∷◌, ◌++◌, codes}
use Rattle.std.specs.List.{list_all, list_any}
use Rattle.std.specs.Char.{is_whitespace, is_ascii_digit}
use Rattle.std.specs.Str.{chars}
use Rattle.lfg_terms.specs.declared.draft.Setting.{Setting}
use Rattle.lfg_model.specs.declared.lexeme.Lexeme.{Lexeme}
use Rattle.lfg_model.specs.declared.lexeme.Lexeme.TheVariants.{Word, Open, Close, Equals, Star, Arrow, Divider, Stop, Semicolon}
use Rattle.lfg_model.specs.declared.notation.Separator.{Separator}
use Rattle.lfg_model.specs.declared.notation.Separator.TheVariants as at
use Rattle.lfg_model.specs.declared.notation.SectionKind.{SectionKind}
use Rattle.lfg_model.specs.declared.notation.SectionKind.TheVariants.{Config, Rules, Templates, Lexicon}
use Rattle.lfg_model.specs.Terms.{Name, same_name}
use Rattle.lfg_model.specs.RightSides.{DraftSchema, DraftAnnotation, no_schema, draft_annotation_from, RightSide}
use Rattle.lfg_model.specs.Nests.{◌>>=◌, readers}
use Rattle.lfg_model.specs.SchemaNotation.{put_name, schemata}
use Rattle.lfg_model.specs.RightSideNotation.{side_row, terms}
use Rattle.lfg_model.specs.DraftForms.{RuleForm, TemplateForm, WordForm, DraftForm}

-- ---- names

-- the name that the lexeme is, if it is one
abbrev pub name_of : Lexeme → Option Name
name_of (Word name) = Some name
name_of _ = None

-- a name before others, or what stands there in its place
abbrev pub name_before : Option Name → Lexeme → List Lexeme → List Name × List Lexeme → List Name × List Lexeme
name_before None l ls r = ([], l ∷ ls)
name_before (Some name) l ls r = put_name name r

-- the names in front, as many as there are, and what is behind them
abbrev pub names_at : List Lexeme → List Name × List Lexeme
names_at [] = ([], [])
names_at (l ∷ ls) = name_before (name_of l) l ls (names_at ls)

-- the name of the empty item
abbrev pub empty_name : Name
empty_name = codes "e"

-- ---- settings

-- at least one thing
abbrev pub at_least_one : List Name → Option (List Name)
at_least_one [] = None
at_least_one (x ∷ xs) = Some (x ∷ xs)

-- nothing is left behind these names, of which there is one at least
abbrev pub all_names : List Name × List Lexeme → Option (List Name)
all_names (names, []) = at_least_one names
all_names (names, l ∷ ls) = None

-- one name alone
abbrev pub one_name : List Lexeme → Option Name
one_name (Word name ∷ []) = Some name
one_name _ = None

-- one name alone that passes the test
abbrev pub one_such : (Name → Bool) → List Lexeme → Option (List Name)
one_such test ls = one_name ls >>= λ name. cond (test name) (Some (name ∷ [])) None

-- the name has this text
abbrev pub is_name : Name → Name → Bool
is_name text name = same_name name text

-- the name is not that of the empty item
abbrev pub is_category : Name → Bool
is_category name = cond (same_name name empty_name) false true

-- names in front of others
abbrev pub put_pair : Name → Name → Option (List Name) → Option (List Name)
put_pair a b o = o >>= λ names. Some (a ∷ b ∷ names)

-- pairs of names, each written `(NAME NAME)`, and nothing behind them
abbrev mutual
  pub pairs_at : List Lexeme → Option (List Name)
  pairs_at [] = Some []
  pairs_at (Open ∷ ls) = pair_first ls
  pairs_at _ = None

  -- behind the opening bracket
  pub pair_first : List Lexeme → Option (List Name)
  pair_first (Word a ∷ ls) = pair_second a ls
  pair_first _ = None

  -- behind the first name
  pub pair_second : Name → List Lexeme → Option (List Name)
  pair_second a (Word b ∷ ls) = pair_end a b ls
  pair_second a _ = None

  -- behind the second name
  pub pair_end : Name → Name → List Lexeme → Option (List Name)
  pair_end a b (Close ∷ ls) = put_pair a b (pairs_at ls)
  pair_end a b _ = None

-- one or more pairs
abbrev pub some_pairs : List Lexeme → Option (List Name)
some_pairs ls = pairs_at ls >>= at_least_one

-- the keys with a number
abbrev pub is_number_key : Name → Bool
is_number_key key = same_name key (codes "UNCERTAINTYDEPTH") || (same_name key (codes "GENSIZE") || same_name key (codes "MAXFACTS"))

-- the keys with names
abbrev pub is_names_key : Name → Bool
is_names_key key = same_name key (codes "GOVERNABLERELATIONS") || same_name key (codes "SEMANTICFUNCTIONS")

-- the keys with pairs of names
abbrev pub is_pairs_key : Name → Bool
is_pairs_key key = same_name key (codes "RULES") || (same_name key (codes "TEMPLATES") || same_name key (codes "LEXENTRIES"))

-- the words behind a key
abbrev pub words_of : Name → List Lexeme → Option (List Name)
words_of key ls =
    cond (same_name key (codes "ROOTCAT")) (one_such is_category ls)
    (cond (is_number_key key) (one_such (list_all is_ascii_digit) ls)
    (cond (is_names_key key) (all_names (names_at ls))
    (cond (is_pairs_key key) (some_pairs ls)
    (cond (same_name key (codes "EPSILON")) (one_such (is_name empty_name) ls)
    (cond (same_name key (codes "CHARACTERENCODING")) (one_such (is_name (codes "utf-8")) ls) None)))))

-- a setting: a key and its words
abbrev pub setting_of : ℕ → List Lexeme → Option Setting
setting_of n (Word key ∷ ls) = words_of key ls >>= λ words. Some (record { entry = n; key = key; words = words })
setting_of n _ = None

-- ---- rules

-- nothing is left behind these terms
abbrev pub whole_side : List RightSide × List Lexeme → Option RightSide
whole_side (xs, []) = Some (side_row xs)
whole_side (xs, l ∷ ls) = None

-- the right side of a rule of a category, which is not `e`
abbrev pub rule_for : ℕ → Name → List Lexeme → Option RuleForm
rule_for n cat ls = cond (is_category cat) ((readers terms).row ls >>= λ s. whole_side s >>= λ side. Some (record { entry = n; cat = cat; side = side })) None

-- a rule
abbrev pub rule_of : ℕ → List Lexeme → Option RuleForm
rule_of n (Word cat ∷ Arrow ∷ ls) = rule_for n cat ls
rule_of n _ = None

-- ---- templates

-- nothing is left behind these schemata
abbrev pub whole_annotation : List DraftSchema × List Lexeme → Option DraftAnnotation
whole_annotation (ss, []) = Some (draft_annotation_from ss)
whole_annotation (ss, l ∷ ls) = None

-- one or more schemata, and nothing behind them
abbrev pub annotation_of : List Lexeme → Option DraftAnnotation
annotation_of ls = (readers schemata).row ls >>= whole_annotation

-- `e` and `PRED` are no parameters
abbrev pub is_no_parameter : Name → Bool
is_no_parameter name = same_name name empty_name || same_name name (codes "PRED")

-- the body of a template
abbrev pub template_for : ℕ → Name → List Name → List Lexeme → Option TemplateForm
template_for n name params ls = cond (list_any is_no_parameter params) None (annotation_of ls >>= λ body. Some (record { entry = n; name = name; params = params; body = body }))

-- behind the parameters of a template: the closing bracket, the sign and the body
abbrev pub behind_params : ℕ → Name → List Name × List Lexeme → Option TemplateForm
behind_params n name (params, Close ∷ Equals ∷ ls) = template_for n name params ls
behind_params n name _ = None

-- a template
abbrev pub template_of : ℕ → List Lexeme → Option TemplateForm
template_of n (Word name ∷ Equals ∷ ls) = template_for n name [] ls
template_of n (Word name ∷ Open ∷ ls) = behind_params n name (names_at ls)
template_of n _ = None

-- ---- cutting

-- the lexeme is this separator
abbrev pub separates : Separator → Lexeme → Bool
separates at.Divider Divider = true
separates at.Stop Stop = true
separates at.Semicolon Semicolon = true
separates _ _ = false

-- what stands up to a separator; or what stands behind the last one, which is not ended
pub record Piece : Type 0 where
  pub lexemes : List Lexeme
  pub is_ended : Bool

-- a lexeme in front of the first piece
abbrev pub onto : Lexeme → List Piece → List Piece
onto l [] = record { lexemes = l ∷ []; is_ended = false } ∷ []
onto l (p ∷ ps) = record { lexemes = l ∷ p.lexemes; is_ended = p.is_ended } ∷ ps

-- the lexemes cut at a separator
abbrev pub cut : Separator → List Lexeme → List Piece
cut at [] = []
cut at (l ∷ ls) = cond (separates at l) (record { lexemes = []; is_ended = true } ∷ cut at ls) (onto l (cut at ls))

-- ---- words

-- the annotation of a reading, which may be absent
abbrev pub maybe_annotation : List Lexeme → Option DraftAnnotation
maybe_annotation [] = Some no_schema
maybe_annotation (l ∷ ls) = annotation_of (l ∷ ls)

-- the annotation of a reading with this category, which is not `e`
abbrev pub reading_for : ℕ → Name → Name → List Lexeme → Option WordForm
reading_for n form cat ls = cond (is_category cat) (maybe_annotation ls >>= λ a. Some (record { entry = n; form = form; cat = cat; annotation = a })) None

-- a reading of a word
abbrev pub reading_of : ℕ → Name → List Lexeme → Option WordForm
reading_of n form (Word cat ∷ Star ∷ ls) = reading_for n form cat ls
reading_of n form _ = None

-- the readings of a word, one in each piece
abbrev pub readings_of : ℕ → Name → List Piece → Option (List WordForm)
readings_of n form [] = Some []
readings_of n form (p ∷ ps) = reading_of n form p.lexemes >>= λ x. readings_of n form ps >>= λ xs. Some (x ∷ xs)

-- a word has one reading at least
abbrev pub some_readings : ℕ → Name → List Piece → Option (List WordForm)
some_readings n form [] = None
some_readings n form (p ∷ ps) = readings_of n form (p ∷ ps)

-- the readings of a word, in which no white space stands; a semicolon ends each but the last, and
-- may end the last
abbrev pub word_for : ℕ → Name → List Lexeme → Option (List WordForm)
word_for n form ls = cond (list_any is_whitespace (chars form)) None (some_readings n form (cut at.Semicolon ls))

-- a word with its readings
abbrev pub word_of : ℕ → List Lexeme → Option (List WordForm)
word_of n (Word form ∷ ls) = word_for n form ls
word_of n _ = None

-- ---- entries

-- the lexeme is the name `in_set`, which stands in no entry
abbrev pub is_in_set : Lexeme → Bool
is_in_set (Word name) = same_name name (codes "in_set")
is_in_set _ = false

abbrev pub with_setting : DraftForm → Setting → DraftForm
with_setting d s = record { settings = d.settings ++ (s ∷ []); rules = d.rules; templates = d.templates; words = d.words }

abbrev pub with_rule : DraftForm → RuleForm → DraftForm
with_rule d r = record { settings = d.settings; rules = d.rules ++ (r ∷ []); templates = d.templates; words = d.words }

abbrev pub with_template : DraftForm → TemplateForm → DraftForm
with_template d t = record { settings = d.settings; rules = d.rules; templates = d.templates ++ (t ∷ []); words = d.words }

abbrev pub with_words : DraftForm → List WordForm → DraftForm
with_words d xs = record { settings = d.settings; rules = d.rules; templates = d.templates; words = d.words ++ xs }

-- the draft with what the entry of this kind and number says
abbrev pub with_entry : SectionKind → ℕ → List Lexeme → DraftForm → Option DraftForm
with_entry Config n ls d = setting_of n ls >>= λ s. Some (with_setting d s)
with_entry Rules n ls d = rule_of n ls >>= λ r. Some (with_rule d r)
with_entry Templates n ls d = template_of n ls >>= λ t. Some (with_template d t)
with_entry Lexicon n ls d = word_of n ls >>= λ xs. Some (with_words d xs)

-- the draft with an entry, in which the name `in_set` does not stand
abbrev pub entry_read : SectionKind → ℕ → List Lexeme → DraftForm → Option DraftForm
entry_read kind n ls d = cond (list_any is_in_set ls) None (with_entry kind n ls d)
