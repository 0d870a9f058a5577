-- Files are read as the cases say.
use Rattle.std.proofs.Common.{◌≡◌, ℕ, ◌+◌, Bool, true, false, cond, ◌||◌, Option, Some, None, Result, Ok, Err, List, [], ◌∷◌, ◌++◌, zero, suc, ◌<◌, length, length-append, arith, refl, ap, sym, ◌∙◌, subst, codes}
use Rattle.std.specs.List.{list_all, list_any}
use Rattle.std.specs.Char.{is_whitespace, is_ascii_digit}
use Rattle.std.specs.Str.{chars}
use Rattle.std.specs.Cmp.Lexicographic.{same_text}
use Rattle.lfg_terms.specs.declared.draft.Setting.{Setting}
use Rattle.lfg_model.specs.declared.lexeme.Lexeme.{Lexeme}
use Rattle.lfg_model.specs.declared.lexeme.Lexeme.TheVariants.{Word, Open, Close, Equals, Star, Arrow, Divider, Stop, Semicolon}
use Rattle.lfg_model.specs.declared.notation.Separator.{Separator}
use Rattle.lfg_model.specs.declared.notation.Separator.TheVariants as at
use Rattle.lfg_model.specs.declared.notation.SectionKind.{SectionKind}
use Rattle.lfg_model.specs.declared.notation.SectionKind.TheVariants.{Config, Rules, Templates, Lexicon}
use Rattle.lfg_model.specs.Terms.{Name, same_name}
use Rattle.lfg_model.specs.RightSides.{DraftSchema, DraftAnnotation, no_schema, draft_annotation_from, RightSide}
use Rattle.lfg_model.specs.Nests.{◌>>=◌, readers}
use Rattle.lfg_model.specs.SchemaNotation.{put_name, schemata}
use Rattle.lfg_model.specs.RightSideNotation.{side_row, terms}
use Rattle.lfg_model.specs.DraftForms.{RuleForm, TemplateForm, WordForm, DraftForm}
use Rattle.lfg_model.specs.EntryNotation.{name_before, name_of, names_at, empty_name, at_least_one, all_names, one_name, one_such, is_name, is_category, put_pair, pairs_at, pair_first, pair_second, pair_end, some_pairs, is_number_key, is_names_key, is_pairs_key, words_of, setting_of, whole_side, rule_for, rule_of, whole_annotation, annotation_of, is_no_parameter, template_for, behind_params, template_of, separates, Piece, onto, cut, maybe_annotation, reading_for, reading_of, readings_of, some_readings, word_for, word_of, is_in_set, with_setting, with_rule, with_template, with_words, with_entry, entry_read}
use Rattle.lfg_model.specs.Drafts.{Section, kind_of, behind_kind, section_of, has_kind, new_section, section_at, or_number, sections_from, sections_of, Numbered, piece_read, entries_from, going_on, sections_read, empty_draft, LexemesFault, entries_said, sections_said, said, HasTokens, lexemes_of, Drafts}
use Rattle.lfg_model.specs.NotationCases.{IsAnnotation, IsTerms}
use Rattle.lfg_model.specs.DraftCases.{AreNames, no_name, more_names, ArePairs, no_pair, more_pairs, IsNumberKey, depth, gensize, maxfacts, IsNamesKey, governable, semantic, IsPairsKey, rules, templates, entries, IsSetting, root, number, names, pairs, epsilon, encoding, is_within, IsReading, bare, annotated, AreReadings, last_reading, ended_reading, more_readings, IsEntry, setting, rule, template, template_with, word, AreEntries, no_entry, more_entries, IsKindWord, config, rules_word, templates_word, lexicon, AreSections, no_section, more_sections, AreAllEntries, no_more, and_more, IsFile, IsGrammarFile, DraftsByCases}
use Rattle.lfg_model.proofs.NestCases.{same_some, bound, row_shorter}
use Rattle.lfg_model.proofs.SchemaNotationLaws.{schemata_down}
use Rattle.lfg_model.proofs.SchemaCases.{to_annotation, annotation_from}
use Rattle.lfg_model.proofs.RightSideCases.{to_terms, terms_from}

-- ---- cutting

-- the lexeme of a separator
abbrev lexeme : Separator → Lexeme
lexeme at.Divider = Divider
lexeme at.Stop = Stop
lexeme at.Semicolon = Semicolon

separates_itself : (s : Separator) → separates s (lexeme s) ≡ true
separates_itself at.Divider = refl
separates_itself at.Stop = refl
separates_itself at.Semicolon = refl

is_lexeme : (s : Separator) (l : Lexeme) → separates s l ≡ true → l ≡ lexeme s
is_lexeme at.Divider Divider e = refl
is_lexeme at.Divider _ e = cc
is_lexeme at.Stop Stop e = refl
is_lexeme at.Stop _ e = cc
is_lexeme at.Semicolon Semicolon e = refl
is_lexeme at.Semicolon _ e = cc

-- a piece that is ended, and one that is not
abbrev ended : List Lexeme → Piece
ended ls = record { lexemes = ls; is_ended = true }

abbrev open_piece : List Lexeme → Piece
open_piece ls = record { lexemes = ls; is_ended = false }

head_out : (s : Separator) (l : Lexeme) (ls : List Lexeme) → is_within s (l ∷ ls) → separates s l ≡ false
head_out s l ls e = first (separates s l) (list_any (separates s) ls) e
  where
    first : (a b : Bool) → (a || b) ≡ false → a ≡ false
    first true b e = cc
    first false b e = refl

tail_out : (s : Separator) (l : Lexeme) (ls : List Lexeme) → is_within s (l ∷ ls) → is_within s ls
tail_out s l ls e = second (separates s l) (list_any (separates s) ls) e
  where
    second : (a b : Bool) → (a || b) ≡ false → b ≡ false
    second true b e = cc
    second false b e = e

cut_on : (s : Separator) (l : Lexeme) (ls : List Lexeme) (b : Bool) → separates s l ≡ b → cut s (l ∷ ls) ≡ cond b (ended [] ∷ cut s ls) (onto l (cut s ls))
cut_on s l ls b e = ap (λ (t : Bool). cond t (ended [] ∷ cut s ls) (onto l (cut s ls))) e

cut_ended : (s : Separator) (ls us : List Lexeme) → is_within s ls → cut s (ls ++ (lexeme s ∷ us)) ≡ ended ls ∷ cut s us
cut_ended s [] us w = cut_on s (lexeme s) us true (separates_itself s)
cut_ended s (l ∷ ls) us w = cut_on s l (ls ++ (lexeme s ∷ us)) false (head_out s l ls w) ∙ ap (onto l) (cut_ended s ls us (tail_out s l ls w))

cut_open : (s : Separator) (l : Lexeme) (ls : List Lexeme) → is_within s (l ∷ ls) → cut s (l ∷ ls) ≡ open_piece (l ∷ ls) ∷ []
cut_open s l [] w = cut_on s l [] false (head_out s l [] w)
cut_open s l (k ∷ ls) w = cut_on s l (k ∷ ls) false (head_out s l (k ∷ ls) w) ∙ ap (onto l) (cut_open s k ls (tail_out s l (k ∷ ls) w))

-- how lexemes are cut
data CutCases (s : Separator) : List Lexeme → List Piece → Type 0 where
  nothing : CutCases s [] []
  is_ended : (ls us : List Lexeme) → is_within s ls → CutCases s (ls ++ (lexeme s ∷ us)) (ended ls ∷ cut s us)
  is_open : (ls : List Lexeme) → is_within s ls → CutCases s ls (open_piece ls ∷ [])

or_false : (a b : Bool) → a ≡ false → b ≡ false → (a || b) ≡ false
or_false a b p q = ap (λ (t : Bool). t || b) p ∙ q

cut_step : (s : Separator) (l : Lexeme) {ls : List Lexeme} {ps : List Piece} → separates s l ≡ false → CutCases s ls ps → CutCases s (l ∷ ls) (onto l ps)
cut_step s l e nothing = is_open (l ∷ []) (or_false (separates s l) false e refl)
cut_step s l e (is_ended ls us w) = is_ended (l ∷ ls) us (or_false (separates s l) (list_any (separates s) ls) e w)
cut_step s l e (is_open ls w) = is_open (l ∷ ls) (or_false (separates s l) (list_any (separates s) ls) e w)

cut_by : (s : Separator) (l : Lexeme) (ls : List Lexeme) (b : Bool) → CutCases s ls (cut s ls) → separates s l ≡ b → CutCases s (l ∷ ls) (cond b (ended [] ∷ cut s ls) (onto l (cut s ls)))
cut_by s l ls true c e = subst (λ (k : Lexeme). CutCases s (k ∷ ls) (ended [] ∷ cut s ls)) (sym (is_lexeme s l e)) (is_ended [] ls refl)
cut_by s l ls false c e = cut_step s l e c

cut_cases : (s : Separator) (ls : List Lexeme) → CutCases s ls (cut s ls)
cut_cases s [] = nothing
cut_cases s (l ∷ ls) = cut_by s l ls (separates s l) (cut_cases s ls) refl

-- ---- settings

to_names : {ls us : List Lexeme} {ns : List Name} → AreNames ls ns us → names_at us ≡ ([], us) → names_at ls ≡ (ns, us)
to_names no_name e = e
to_names (more_names {a = a} r) e = ap (put_name a) (to_names r e)

from_names : (ls : List Lexeme) → AreNames ls (names_at ls).0 (names_at ls).1
from_names [] = no_name
from_names (Word a ∷ ls) = more_names (from_names ls)
from_names (_ ∷ ls) = no_name

to_pairs : {ls : List Lexeme} {ns : List Name} → ArePairs ls ns → pairs_at ls ≡ Some ns
to_pairs no_pair = refl
to_pairs (more_pairs {a} {b} r) = ap (put_pair a b) (to_pairs r)

mutual
  from_pairs : (ls : List Lexeme) (ns : List Name) → pairs_at ls ≡ Some ns → ArePairs ls ns
  from_pairs [] ns e = subst (λ (x : List Name). ArePairs [] x) (same_some e) no_pair
  from_pairs (Open ∷ ls) ns e = from_first ls ns e
  from_pairs (_ ∷ ls) ns e = absurd (let no : ⊥ = cc in no)

  from_first : (ls : List Lexeme) (ns : List Name) → pair_first ls ≡ Some ns → ArePairs (Open ∷ ls) ns
  from_first [] ns e = absurd (let no : ⊥ = cc in no)
  from_first (Word a ∷ ls) ns e = from_second a ls ns e
  from_first (_ ∷ ls) ns e = absurd (let no : ⊥ = cc in no)

  from_second : (a : Name) (ls : List Lexeme) (ns : List Name) → pair_second a ls ≡ Some ns → ArePairs (Open ∷ Word a ∷ ls) ns
  from_second a [] ns e = absurd (let no : ⊥ = cc in no)
  from_second a (Word b ∷ ls) ns e = from_pair_end a b ls ns e
  from_second a (_ ∷ ls) ns e = absurd (let no : ⊥ = cc in no)

  from_pair_end : (a b : Name) (ls : List Lexeme) (ns : List Name) → pair_end a b ls ≡ Some ns → ArePairs (Open ∷ Word a ∷ Word b ∷ ls) ns
  from_pair_end a b [] ns e = absurd (let no : ⊥ = cc in no)
  from_pair_end a b (Close ∷ ls) ns e =
      let x = bound (pairs_at ls) (λ ms. Some (a ∷ b ∷ ms)) ns e in
      subst (λ (ms : List Name). ArePairs (Open ∷ Word a ∷ Word b ∷ Close ∷ ls) ms) (same_some x.2) (more_pairs (from_pairs ls x.0 x.1))
  from_pair_end a b (_ ∷ ls) ns e = absurd (let no : ⊥ = cc in no)

-- one name alone, which passes a test
if_such : (test : Name → Bool) (a : Name) → test a ≡ true → one_such test (Word a ∷ []) ≡ Some (a ∷ [])
if_such test a e = ap (λ (b : Bool). cond b (Some (a ∷ [])) None) e

record Such (test : Name → Bool) (ls : List Lexeme) (ns : List Name) : Type 0 where
  name : Name
  lexemes : ls ≡ Word name ∷ []
  passes : test name ≡ true
  is : ns ≡ name ∷ []

such_by : (b : Bool) (test : Name → Bool) (a : Name) (ns : List Name) → b ≡ test a → cond b (Some (a ∷ [])) None ≡ Some ns → Such test (Word a ∷ []) ns
such_by true test a ns q e = record { name = a; lexemes = refl; passes = sym q; is = sym (same_some e) }
such_by false test a ns q e = absurd (let no : ⊥ = cc in no)

from_such : (test : Name → Bool) (ls : List Lexeme) (ns : List Name) → one_such test ls ≡ Some ns → Such test ls ns
from_such test [] ns e = absurd (let no : ⊥ = cc in no)
from_such test (Word a ∷ []) ns e = such_by (test a) test a ns refl e
from_such test (Word a ∷ l ∷ ls) ns e = absurd (let no : ⊥ = cc in no)
from_such test (_ ∷ ls) ns e = absurd (let no : ⊥ = cc in no)

-- names of which there is one at least
record Filled (old new : List Name) : Type 0 where
  first : Name
  others : List Name
  is : new ≡ first ∷ others
  same : old ≡ first ∷ others

from_filled : (xs ns : List Name) → at_least_one xs ≡ Some ns → Filled xs ns
from_filled [] ns e = absurd (let no : ⊥ = cc in no)
from_filled (x ∷ xs) ns e = record { first = x; others = xs; is = sym (same_some e); same = refl }

to_key_names : {key a : Name} {others : List Name} {ls : List Lexeme} → IsNamesKey key → AreNames ls (a ∷ others) [] → words_of key ls ≡ Some (a ∷ others)
to_key_names governable r = ap all_names (to_names r refl)
to_key_names semantic r = ap all_names (to_names r refl)

to_key_pairs : {key a : Name} {others : List Name} {ls : List Lexeme} → IsPairsKey key → ArePairs ls (a ∷ others) → words_of key ls ≡ Some (a ∷ others)
to_key_pairs rules r = ap (λ (o : Option (List Name)). o >>= at_least_one) (to_pairs r)
to_key_pairs templates r = ap (λ (o : Option (List Name)). o >>= at_least_one) (to_pairs r)
to_key_pairs entries r = ap (λ (o : Option (List Name)). o >>= at_least_one) (to_pairs r)

to_words : {key : Name} {ls : List Lexeme} {ws : List Name} → IsSetting key ls ws → words_of key ls ≡ Some ws
to_words (root {c} e) = if_such is_category c e
to_words (number {digits = digits} depth e) = if_such (list_all is_ascii_digit) digits e
to_words (number {digits = digits} gensize e) = if_such (list_all is_ascii_digit) digits e
to_words (number {digits = digits} maxfacts e) = if_such (list_all is_ascii_digit) digits e
to_words (names k r) = to_key_names k r
to_words (pairs k r) = to_key_pairs k r
to_words epsilon = refl
to_words encoding = refl

-- which keys pass the tests
number_key : (key : Name) (b c d : Bool) → b ≡ same_name key (codes "UNCERTAINTYDEPTH") → c ≡ same_name key (codes "GENSIZE") → d ≡ same_name key (codes "MAXFACTS") → (b || (c || d)) ≡ true → IsNumberKey key
number_key key true c d p q r e = subst IsNumberKey (sym (same_text key (codes "UNCERTAINTYDEPTH") p)) depth
number_key key false true d p q r e = subst IsNumberKey (sym (same_text key (codes "GENSIZE") q)) gensize
number_key key false false true p q r e = subst IsNumberKey (sym (same_text key (codes "MAXFACTS") r)) maxfacts
number_key key false false false p q r e = absurd (let no : ⊥ = cc in no)

names_key : (key : Name) (b c : Bool) → b ≡ same_name key (codes "GOVERNABLERELATIONS") → c ≡ same_name key (codes "SEMANTICFUNCTIONS") → (b || c) ≡ true → IsNamesKey key
names_key key true c p q e = subst IsNamesKey (sym (same_text key (codes "GOVERNABLERELATIONS") p)) governable
names_key key false true p q e = subst IsNamesKey (sym (same_text key (codes "SEMANTICFUNCTIONS") q)) semantic
names_key key false false p q e = absurd (let no : ⊥ = cc in no)

pairs_key : (key : Name) (b c d : Bool) → b ≡ same_name key (codes "RULES") → c ≡ same_name key (codes "TEMPLATES") → d ≡ same_name key (codes "LEXENTRIES") → (b || (c || d)) ≡ true → IsPairsKey key
pairs_key key true c d p q r e = subst IsPairsKey (sym (same_text key (codes "RULES") p)) rules
pairs_key key false true d p q r e = subst IsPairsKey (sym (same_text key (codes "TEMPLATES") q)) templates
pairs_key key false false true p q r e = subst IsPairsKey (sym (same_text key (codes "LEXENTRIES") r)) entries
pairs_key key false false false p q r e = absurd (let no : ⊥ = cc in no)

-- the words behind the key, test by test
from_encoding : (key : Name) (b : Bool) (ls : List Lexeme) (ws : List Name) → b ≡ same_name key (codes "CHARACTERENCODING") → cond b (one_such (is_name (codes "utf-8")) ls) None ≡ Some ws → IsSetting key ls ws
from_encoding key true ls ws q e =
    let s = from_such (is_name (codes "utf-8")) ls ws e in
    let n : s.name ≡ codes "utf-8" = same_text s.name (codes "utf-8") (sym s.passes) in
    let l : ls ≡ Word (codes "utf-8") ∷ [] = s.lexemes ∙ ap (λ (x : Name). Word x ∷ []) n in
    let w : ws ≡ codes "utf-8" ∷ [] = s.is ∙ ap (λ (x : Name). x ∷ []) n in
    subst (λ (k : Name). IsSetting k ls ws) (sym (same_text key (codes "CHARACTERENCODING") q)) (subst (λ (us : List Lexeme). IsSetting (codes "CHARACTERENCODING") us ws) (sym l) (subst (λ (vs : List Name). IsSetting (codes "CHARACTERENCODING") (Word (codes "utf-8") ∷ []) vs) (sym w) encoding))
from_encoding key false ls ws q e = absurd (let no : ⊥ = cc in no)

abbrev behind_epsilon : Name → List Lexeme → Option (List Name)
behind_epsilon key ls = cond (same_name key (codes "CHARACTERENCODING")) (one_such (is_name (codes "utf-8")) ls) None

from_epsilon : (key : Name) (b : Bool) (ls : List Lexeme) (ws : List Name) → b ≡ same_name key (codes "EPSILON") → cond b (one_such (is_name empty_name) ls) (behind_epsilon key ls) ≡ Some ws → IsSetting key ls ws
from_epsilon key true ls ws q e =
    let s = from_such (is_name empty_name) ls ws e in
    let n : s.name ≡ empty_name = same_text s.name empty_name (sym s.passes) in
    let l : ls ≡ Word empty_name ∷ [] = s.lexemes ∙ ap (λ (x : Name). Word x ∷ []) n in
    let w : ws ≡ empty_name ∷ [] = s.is ∙ ap (λ (x : Name). x ∷ []) n in
    subst (λ (k : Name). IsSetting k ls ws) (sym (same_text key (codes "EPSILON") q)) (subst (λ (us : List Lexeme). IsSetting (codes "EPSILON") us ws) (sym l) (subst (λ (vs : List Name). IsSetting (codes "EPSILON") (Word empty_name ∷ []) vs) (sym w) epsilon))
from_epsilon key false ls ws q e = from_encoding key (same_name key (codes "CHARACTERENCODING")) ls ws refl e

abbrev behind_pairs : Name → List Lexeme → Option (List Name)
behind_pairs key ls = cond (same_name key (codes "EPSILON")) (one_such (is_name empty_name) ls) (behind_epsilon key ls)

from_key_pairs : (key : Name) (b : Bool) (ls : List Lexeme) (ws : List Name) → b ≡ is_pairs_key key → cond b (some_pairs ls) (behind_pairs key ls) ≡ Some ws → IsSetting key ls ws
from_key_pairs key true ls ws q e =
    let x = bound (pairs_at ls) at_least_one ws e in
    let f = from_filled x.0 ws x.2 in
    subst (λ (vs : List Name). IsSetting key ls vs) (sym f.is) (pairs (pairs_key key (same_name key (codes "RULES")) (same_name key (codes "TEMPLATES")) (same_name key (codes "LEXENTRIES")) refl refl refl (sym q))
    (from_pairs ls (f.first ∷ f.others) (x.1 ∙ ap (λ (vs : List Name). let o : Option (List Name) = Some vs in o) f.same)))
from_key_pairs key false ls ws q e = from_epsilon key (same_name key (codes "EPSILON")) ls ws refl e

all_names_of : (r : List Name × List Lexeme) (ws : List Name) → all_names r ≡ Some ws → (r.1 ≡ []) × Filled r.0 ws
all_names_of (ns, []) ws e = (refl, from_filled ns ws e)
all_names_of (ns, l ∷ ls) ws e = absurd (let no : ⊥ = cc in no)

abbrev behind_names : Name → List Lexeme → Option (List Name)
behind_names key ls = cond (is_pairs_key key) (some_pairs ls) (behind_pairs key ls)

from_key_names : (key : Name) (b : Bool) (ls : List Lexeme) (ws : List Name) → b ≡ is_names_key key → cond b (all_names (names_at ls)) (behind_names key ls) ≡ Some ws → IsSetting key ls ws
from_key_names key true ls ws q e =
    let x = all_names_of (names_at ls) ws e in
    subst (λ (vs : List Name). IsSetting key ls vs) (sym x.1.is) (names (names_key key (same_name key (codes "GOVERNABLERELATIONS")) (same_name key (codes "SEMANTICFUNCTIONS")) refl refl (sym q))
    (subst (λ (us : List Lexeme). AreNames ls (x.1.first ∷ x.1.others) us) x.0 (subst (λ (vs : List Name). AreNames ls vs (names_at ls).1) x.1.same (from_names ls))))
from_key_names key false ls ws q e = from_key_pairs key (is_pairs_key key) ls ws refl e

abbrev behind_number : Name → List Lexeme → Option (List Name)
behind_number key ls = cond (is_names_key key) (all_names (names_at ls)) (behind_names key ls)

from_number : (key : Name) (b : Bool) (ls : List Lexeme) (ws : List Name) → b ≡ is_number_key key → cond b (one_such (list_all is_ascii_digit) ls) (behind_number key ls) ≡ Some ws → IsSetting key ls ws
from_number key true ls ws q e =
    let s = from_such (list_all is_ascii_digit) ls ws e in
    let k : IsNumberKey key = number_key key (same_name key (codes "UNCERTAINTYDEPTH")) (same_name key (codes "GENSIZE")) (same_name key (codes "MAXFACTS")) refl refl refl (sym q) in
    subst (λ (us : List Lexeme). IsSetting key us ws) (sym s.lexemes) (subst (λ (vs : List Name). IsSetting key (Word s.name ∷ []) vs) (sym s.is) (number k s.passes))
from_number key false ls ws q e = from_key_names key (is_names_key key) ls ws refl e

from_root : (key : Name) (b : Bool) (ls : List Lexeme) (ws : List Name) → b ≡ same_name key (codes "ROOTCAT") → cond b (one_such is_category ls) (cond (is_number_key key) (one_such (list_all is_ascii_digit) ls) (behind_number key ls)) ≡ Some ws → IsSetting key ls ws
from_root key true ls ws q e =
    let s = from_such is_category ls ws e in
    subst (λ (k : Name). IsSetting k ls ws) (sym (same_text key (codes "ROOTCAT") q)) (subst (λ (us : List Lexeme). IsSetting (codes "ROOTCAT") us ws) (sym s.lexemes) (subst (λ (vs : List Name). IsSetting (codes "ROOTCAT") (Word s.name ∷ []) vs) (sym s.is) (root s.passes)))
from_root key false ls ws q e = from_number key (is_number_key key) ls ws refl e

from_words : (key : Name) (ls : List Lexeme) (ws : List Name) → words_of key ls ≡ Some ws → IsSetting key ls ws
from_words key ls ws e = from_root key (same_name key (codes "ROOTCAT")) ls ws refl e

-- ---- annotations that are all

to_all : {ls : List Lexeme} {ss : List DraftSchema} → IsAnnotation ls ss [] → annotation_of ls ≡ Some (draft_annotation_from ss)
to_all a = ap (λ (o : Option (List DraftSchema × List Lexeme)). o >>= whole_annotation) (to_annotation a refl)

-- schemata with nothing behind them
record All (ls : List Lexeme) (a : DraftAnnotation) : Type 0 where
  schemata_of : List DraftSchema
  are : IsAnnotation ls schemata_of []
  is : a ≡ draft_annotation_from schemata_of

all_of : (ls us : List Lexeme) (ss : List DraftSchema) (a : DraftAnnotation) → (readers schemata).row ls ≡ Some (ss, us) → whole_annotation (ss, us) ≡ Some a → All ls a
all_of ls [] ss a r e = record { schemata_of = ss; are = annotation_from ls [] ss r; is = sym (same_some e) }
all_of ls (u ∷ us) ss a r e = absurd (let no : ⊥ = cc in no)

from_all : (ls : List Lexeme) (a : DraftAnnotation) → annotation_of ls ≡ Some a → All ls a
from_all ls a e = let x = bound ((readers schemata).row ls) whole_annotation a e in all_of ls x.0.1 x.0.0 a x.1 x.2

-- ---- words

-- a reading with its annotation, if its name is a category
abbrev if_category : Bool → ℕ → Name → Name → Option DraftAnnotation → Option WordForm
if_category b n form c o = cond b (o >>= λ a. Some (record { entry = n; form = form; cat = c; annotation = a })) None

maybe_by : (ls : List Lexeme) (ss : List DraftSchema) → (readers schemata).row ls ≡ Some (ss, []) → maybe_annotation ls ≡ annotation_of ls
maybe_by [] ss e = absurd (let l = row_shorter schemata schemata_down [] [] ss e in omega arith)
maybe_by (l ∷ ls) ss e = refl

to_maybe : {ls : List Lexeme} {ss : List DraftSchema} → IsAnnotation ls ss [] → maybe_annotation ls ≡ annotation_of ls
to_maybe {ls} {ss} a = maybe_by ls ss (to_annotation a refl)

to_reading : (n : ℕ) (form : Name) {ls : List Lexeme} {c : Name} {a : DraftAnnotation} → IsReading ls c a → reading_of n form ls ≡ Some (record { entry = n; form = form; cat = c; annotation = a })
to_reading n form (bare {c} e) = ap (λ (b : Bool). if_category b n form c (Some no_schema)) e
to_reading n form (annotated {c} {ss} {ls} e a) = ap (λ (b : Bool). if_category b n form c (maybe_annotation ls)) e ∙ ap (if_category true n form c) (to_maybe a ∙ to_all a)

-- how a reading was read
record ReadingCases (n : ℕ) (form : Name) (ls : List Lexeme) (x : WordForm) : Type 0 where
  cat : Name
  annotation : DraftAnnotation
  reading : IsReading ls cat annotation
  is : x ≡ record { entry = n; form = form; cat = cat; annotation = annotation }

reading_by : (b : Bool) (n : ℕ) (form c : Name) (ls : List Lexeme) (x : WordForm) → b ≡ is_category c → if_category b n form c (maybe_annotation ls) ≡ Some x → ReadingCases n form (Word c ∷ Star ∷ ls) x
reading_by true n form c [] x q e = record { cat = c; annotation = no_schema; reading = bare (sym q); is = sym (same_some e) }
reading_by true n form c (l ∷ ls) x q e =
    let y = bound (annotation_of (l ∷ ls)) (λ a. Some (record { entry = n; form = form; cat = c; annotation = a })) x e in
    let z = from_all (l ∷ ls) y.0 y.1 in
    record { cat = c; annotation = y.0; reading = subst (λ (a : DraftAnnotation). IsReading (Word c ∷ Star ∷ l ∷ ls) c a) (sym z.is) (annotated (sym q) z.are); is = sym (same_some y.2) }
reading_by false n form c ls x q e = absurd (let no : ⊥ = cc in no)

from_reading : (n : ℕ) (form : Name) (ls : List Lexeme) (x : WordForm) → reading_of n form ls ≡ Some x → ReadingCases n form ls x
from_reading n form (Word c ∷ Star ∷ ls) x e = reading_by (is_category c) n form c ls x refl e
from_reading n form _ x e = absurd (let no : ⊥ = cc in no)

-- a reading in front of others
abbrev in_front : WordForm → Option (List WordForm) → Option (List WordForm)
in_front x o = o >>= λ xs. Some (x ∷ xs)

abbrev with_others : ℕ → Name → List Piece → Option WordForm → Option (List WordForm)
with_others n form ps o = o >>= λ x. in_front x (readings_of n form ps)

cut_of : {ls : List Lexeme} {c : Name} {a : DraftAnnotation} → IsReading ls c a → is_within at.Semicolon ls → cut at.Semicolon ls ≡ open_piece ls ∷ []
cut_of (bare {c} e) w = cut_open at.Semicolon (Word c) (Star ∷ []) w
cut_of (annotated {c} {ls = ls} e a) w = cut_open at.Semicolon (Word c) (Star ∷ ls) w

some_are : (n : ℕ) (form : Name) (ps : List Piece) (xs : List WordForm) → some_readings n form ps ≡ Some xs → readings_of n form ps ≡ Some xs
some_are n form [] xs e = absurd (let no : ⊥ = cc in no)
some_are n form (p ∷ ps) xs e = e

to_readings : (n : ℕ) (form : Name) {ls : List Lexeme} {xs : List WordForm} → AreReadings n form ls xs → some_readings n form (cut at.Semicolon ls) ≡ Some xs
to_readings n form (last_reading {ls = ls} w r) = ap (some_readings n form) (cut_of r w) ∙ ap (with_others n form []) (to_reading n form r)
to_readings n form (ended_reading {ls = ls} w r) = ap (some_readings n form) (cut_ended at.Semicolon ls [] w) ∙ ap (with_others n form []) (to_reading n form r)
to_readings n form (more_readings {c} {a} {ls} {us} {xs} w r rs) =
    ap (some_readings n form) (cut_ended at.Semicolon ls us w) ∙ ap (with_others n form (cut at.Semicolon us)) (to_reading n form r)
    ∙ ap (in_front (record { entry = n; form = form; cat = c; annotation = a })) (some_are n form (cut at.Semicolon us) xs (to_readings n form rs))

cut_some : (n : ℕ) (form : Name) (b : Bool) (l : Lexeme) (ps : List Piece) (xs : List WordForm) → readings_of n form (cond b (ended [] ∷ ps) (onto l ps)) ≡ Some xs → some_readings n form (cond b (ended [] ∷ ps) (onto l ps)) ≡ Some xs
cut_some n form true l ps xs e = e
cut_some n form false l [] xs e = e
cut_some n form false l (p ∷ ps) xs e = e

-- the last of readings, ended or followed by others
ended_by : (n : ℕ) (form : Name) (ls us : List Lexeme) (x : WordForm) (ys : List WordForm) → is_within at.Semicolon ls → ReadingCases n form ls x → readings_of n form (cut at.Semicolon us) ≡ Some ys
    → ((zs : List WordForm) → some_readings n form (cut at.Semicolon us) ≡ Some zs → AreReadings n form us zs) → AreReadings n form (ls ++ (Semicolon ∷ us)) (x ∷ ys)
ended_by n form ls [] x ys w r e go =
    subst (λ (zs : List WordForm). AreReadings n form (ls ++ (Semicolon ∷ [])) (x ∷ zs)) (same_some e)
    (subst (λ (y : WordForm). AreReadings n form (ls ++ (Semicolon ∷ [])) (y ∷ [])) (sym r.is) (ended_reading w r.reading))
ended_by n form ls (u ∷ us) x ys w r e go =
    subst (λ (y : WordForm). AreReadings n form (ls ++ (Semicolon ∷ u ∷ us)) (y ∷ ys)) (sym r.is) (more_readings w r.reading (go ys (cut_some n form (separates at.Semicolon u) u (cut at.Semicolon us) ys e)))

readings_step : (n : ℕ) (form : Name) {ls : List Lexeme} {ps : List Piece} (xs : List WordForm) → CutCases at.Semicolon ls ps → some_readings n form ps ≡ Some xs
    → ((us : List Lexeme) (zs : List WordForm) → length us < length ls → some_readings n form (cut at.Semicolon us) ≡ Some zs → AreReadings n form us zs) → AreReadings n form ls xs
readings_step n form xs nothing e go = absurd (let no : ⊥ = cc in no)
readings_step n form xs (is_ended ls us w) e go =
    let x = bound (reading_of n form ls) (λ y. in_front y (readings_of n form (cut at.Semicolon us))) xs e in
    let y = bound (readings_of n form (cut at.Semicolon us)) (λ ys. Some (x.0 ∷ ys)) xs x.2 in
    subst (λ (zs : List WordForm). AreReadings n form (ls ++ (Semicolon ∷ us)) zs) (same_some y.2)
    (ended_by n form ls us x.0 y.0 w (from_reading n form ls x.0 x.1) y.1 (λ zs q. go us zs (omega (arith, length-append ls (Semicolon ∷ us))) q))
readings_step n form xs (is_open ls w) e go =
    let x = bound (reading_of n form ls) (λ y. in_front y (readings_of n form [])) xs e in
    let r = from_reading n form ls x.0 x.1 in
    subst (λ (zs : List WordForm). AreReadings n form ls zs) (same_some x.2) (subst (λ (y : WordForm). AreReadings n form ls (y ∷ [])) (sym r.is) (last_reading w r.reading))

from_readings : (m n : ℕ) (form : Name) (ls : List Lexeme) (xs : List WordForm) → length ls < m → some_readings n form (cut at.Semicolon ls) ≡ Some xs → AreReadings n form ls xs
from_readings zero n form ls xs l e = absurd (let no : ⊥ = omega arith in no)
from_readings (suc m) n form ls xs l e = readings_step n form xs (cut_cases at.Semicolon ls) e (λ us zs k q. from_readings m n form us zs (omega arith) q)

-- ---- entries

abbrev as_setting : ℕ → Name → DraftForm → Option (List Name) → Option DraftForm
as_setting n key d o = (o >>= λ words. Some (record { entry = n; key = key; words = words })) >>= λ s. Some (with_setting d s)

abbrev as_rule : ℕ → Name → DraftForm → Bool → Option (List RightSide × List Lexeme) → Option DraftForm
as_rule n c d b o = cond {A = Option RuleForm} b (o >>= λ s. whole_side s >>= λ side. Some (record { entry = n; cat = c; side = side })) None >>= λ r. Some (with_rule d r)

abbrev as_template : ℕ → Name → List Name → DraftForm → Bool → Option DraftAnnotation → Option DraftForm
as_template n a params d b o = cond {A = Option TemplateForm} b None (o >>= λ body. Some (record { entry = n; name = a; params = params; body = body })) >>= λ t. Some (with_template d t)

abbrev as_words : DraftForm → Bool → Option (List WordForm) → Option DraftForm
as_words d b o = cond {A = Option (List WordForm)} b None o >>= λ xs. Some (with_words d xs)

to_with : {k : SectionKind} {n : ℕ} {ls : List Lexeme} {d e : DraftForm} → IsEntry k n ls d e → with_entry k n ls d ≡ Some e
to_with (setting {n} {key} {d = d} s) = ap (as_setting n key d) (to_words s)
to_with (rule {n} {c} {ls = ls} {d = d} h t) = ap (λ (b : Bool). as_rule n c d b ((readers terms).row ls)) h ∙ ap (as_rule n c d true) (to_terms t refl)
to_with (template {n} {a} {d = d} h) = ap (as_template n a [] d false) (to_all h)
to_with (template_with {n} {a} {params} {ls = ls} {us = us} {d = d} p h b) =
    ap (λ (r : List Name × List Lexeme). behind_params n a r >>= λ t. Some (with_template d t)) (to_names p refl)
    ∙ ap (λ (t : Bool). as_template n a params d t (annotation_of us)) h ∙ ap (as_template n a params d false) (to_all b)
to_with (word {n} {form} {ls = ls} {d = d} h r) = ap (λ (b : Bool). as_words d b (some_readings n form (cut at.Semicolon ls))) h ∙ ap (as_words d false) (to_readings n form r)

to_entry : {k : SectionKind} {n : ℕ} {ls : List Lexeme} {d e : DraftForm} → IsEntry k n ls d e → list_any is_in_set ls ≡ false → entry_read k n ls d ≡ Some e
to_entry {k} {n} {ls} {d} {e} h q = ap (λ (b : Bool). cond b None (with_entry k n ls d)) q ∙ to_with h

-- a setting, a rule, a template and words, from what was read
from_setting : (n : ℕ) (key : Name) (ls : List Lexeme) (d e : DraftForm) → as_setting n key d (words_of key ls) ≡ Some e → IsEntry Config n (Word key ∷ ls) d e
from_setting n key ls d e q =
    let x = bound (words_of key ls >>= λ words. Some (record { entry = n; key = key; words = words })) (λ s. Some (with_setting d s)) e q in
    let y = bound (words_of key ls) (λ words. Some (record { entry = n; key = key; words = words })) x.0 x.1 in
    subst (λ (f : DraftForm). IsEntry Config n (Word key ∷ ls) d f) (same_some x.2)
    (subst (λ (s : Setting). IsEntry Config n (Word key ∷ ls) d (with_setting d s)) (same_some y.2) (setting (from_words key ls y.0 y.1)))

-- terms with nothing behind them
record AllTerms (ls : List Lexeme) (side : RightSide) : Type 0 where
  terms_of : List RightSide
  are : IsTerms ls terms_of []
  is : side ≡ side_row terms_of

terms_all : (ls us : List Lexeme) (xs : List RightSide) (side : RightSide) → (readers terms).row ls ≡ Some (xs, us) → whole_side (xs, us) ≡ Some side → AllTerms ls side
terms_all ls [] xs side r e = record { terms_of = xs; are = terms_from ls [] xs r; is = sym (same_some e) }
terms_all ls (u ∷ us) xs side r e = absurd (let no : ⊥ = cc in no)

from_rule : (b : Bool) (n : ℕ) (c : Name) (ls : List Lexeme) (d e : DraftForm) → b ≡ is_category c → as_rule n c d b ((readers terms).row ls) ≡ Some e → IsEntry Rules n (Word c ∷ Arrow ∷ ls) d e
from_rule true n c ls d e h q =
    let x = bound ((readers terms).row ls >>= λ s. whole_side s >>= λ side. Some (record { entry = n; cat = c; side = side })) (λ r. Some (with_rule d r)) e q in
    let y = bound ((readers terms).row ls) (λ s. whole_side s >>= λ side. Some (record { entry = n; cat = c; side = side })) x.0 x.1 in
    let z = bound (whole_side y.0) (λ side. Some (record { entry = n; cat = c; side = side })) x.0 y.2 in
    let t = terms_all ls y.0.1 y.0.0 z.0 y.1 z.1 in
    subst (λ (f : DraftForm). IsEntry Rules n (Word c ∷ Arrow ∷ ls) d f) (same_some x.2)
    (subst (λ (r : RuleForm). IsEntry Rules n (Word c ∷ Arrow ∷ ls) d (with_rule d r)) (same_some z.2)
    (subst (λ (s : RightSide). IsEntry Rules n (Word c ∷ Arrow ∷ ls) d (with_rule d (record { entry = n; cat = c; side = s }))) (sym t.is) (rule (sym h) t.are)))
from_rule false n c ls d e h q = absurd (let no : ⊥ = cc in no)

from_body : (b : Bool) (n : ℕ) (a : Name) (params : List Name) (k ls : List Lexeme) (d e : DraftForm) → b ≡ list_any is_no_parameter params
    → (list_any is_no_parameter params ≡ false → (ss : List DraftSchema) → IsAnnotation ls ss [] → IsEntry Templates n k d (with_template d (record { entry = n; name = a; params = params; body = draft_annotation_from ss })))
    → as_template n a params d b (annotation_of ls) ≡ Some e → IsEntry Templates n k d e
from_body true n a params k ls d e h go q = absurd (let no : ⊥ = cc in no)
from_body false n a params k ls d e h go q =
    let x = bound (annotation_of ls >>= λ body. Some (record { entry = n; name = a; params = params; body = body })) (λ t. Some (with_template d t)) e q in
    let y = bound (annotation_of ls) (λ body. Some (record { entry = n; name = a; params = params; body = body })) x.0 x.1 in
    let z = from_all ls y.0 y.1 in
    subst (λ (f : DraftForm). IsEntry Templates n k d f) (same_some x.2)
    (subst (λ (t : TemplateForm). IsEntry Templates n k d (with_template d t)) (same_some y.2)
    (subst (λ (b : DraftAnnotation). IsEntry Templates n k d (with_template d (record { entry = n; name = a; params = params; body = b }))) (sym z.is) (go (sym h) z.schemata_of z.are)))

-- parameters, and what is behind them
from_params : (n : ℕ) (a : Name) (ls us : List Lexeme) (params : List Name) (d e : DraftForm) → AreNames ls params us → (behind_params n a (params, us) >>= λ t. Some (with_template d t)) ≡ Some e → IsEntry Templates n (Word a ∷ Open ∷ ls) d e
from_params n a ls (Close ∷ Equals ∷ us) params d e p q = from_body (list_any is_no_parameter params) n a params (Word a ∷ Open ∷ ls) us d e refl (λ h ss b. template_with p h b) q
from_params n a ls _ params d e p q = absurd (let no : ⊥ = cc in no)

from_template : (n : ℕ) (ls : List Lexeme) (d e : DraftForm) → (template_of n ls >>= λ t. Some (with_template d t)) ≡ Some e → IsEntry Templates n ls d e
from_template n (Word a ∷ Equals ∷ ls) d e q = from_body false n a [] (Word a ∷ Equals ∷ ls) ls d e refl (λ h ss b. template b) q
from_template n (Word a ∷ Open ∷ ls) d e q = from_params n a ls (names_at ls).1 (names_at ls).0 d e (from_names ls) q
from_template n _ d e q = absurd (let no : ⊥ = cc in no)

from_word : (b : Bool) (n : ℕ) (form : Name) (ls : List Lexeme) (d e : DraftForm) → b ≡ list_any is_whitespace (chars form) → as_words d b (some_readings n form (cut at.Semicolon ls)) ≡ Some e → IsEntry Lexicon n (Word form ∷ ls) d e
from_word true n form ls d e h q = absurd (let no : ⊥ = cc in no)
from_word false n form ls d e h q =
    let x = bound (some_readings n form (cut at.Semicolon ls)) (λ xs. Some (with_words d xs)) e q in
    subst (λ (f : DraftForm). IsEntry Lexicon n (Word form ∷ ls) d f) (same_some x.2) (word (sym h) (from_readings (suc (length ls)) n form ls x.0 (omega arith) x.1))

from_with : (k : SectionKind) (n : ℕ) (ls : List Lexeme) (d e : DraftForm) → with_entry k n ls d ≡ Some e → IsEntry k n ls d e
from_with Config n (Word key ∷ ls) d e q = from_setting n key ls d e q
from_with Config n _ d e q = absurd (let no : ⊥ = cc in no)
from_with Rules n (Word c ∷ Arrow ∷ ls) d e q = from_rule (is_category c) n c ls d e refl q
from_with Rules n _ d e q = absurd (let no : ⊥ = cc in no)
from_with Templates n ls d e q = from_template n ls d e q
from_with Lexicon n (Word form ∷ ls) d e q = from_word (list_any is_whitespace (chars form)) n form ls d e refl q
from_with Lexicon n _ d e q = absurd (let no : ⊥ = cc in no)

entry_by : (b : Bool) (k : SectionKind) (n : ℕ) (ls : List Lexeme) (d e : DraftForm) → cond b None (with_entry k n ls d) ≡ Some e → (b ≡ false) × IsEntry k n ls d e
entry_by true k n ls d e q = absurd (let no : ⊥ = cc in no)
entry_by false k n ls d e q = (refl, from_with k n ls d e q)

-- ---- the entries of a section

-- a draft and the number of the next entry
abbrev so_far : ℕ → DraftForm → Numbered
so_far n d = record { number = n; draft = d }

abbrev entries_behind : SectionKind → ℕ → List Piece → Option DraftForm → Result Numbered ℕ
entries_behind k n ps o = or_number n o (λ e. entries_from k (n + 1) e ps)

to_entries : {k : SectionKind} {n m : ℕ} {ls : List Lexeme} {d f : DraftForm} → AreEntries k n d ls m f → entries_from k n d (cut at.Stop ls) ≡ Ok (so_far m f)
to_entries no_entry = refl
to_entries {k} (more_entries {n} {m} {d} {e} {f} {ls} {us} w h i rest) =
    ap (entries_from k n d) (cut_ended at.Stop ls us w) ∙ ap (entries_behind k n (cut at.Stop us)) (to_entry i h) ∙ to_entries rest

bound_number : {A B : Type 0} (n : ℕ) (o : Option A) (f : A → Result B ℕ) (y : B) → or_number n o f ≡ Ok y → (x : A) × (o ≡ Some x) × (f x ≡ Ok y)
bound_number n None f y e = absurd (let no : ⊥ = cc in no)
bound_number n (Some x) f y e = (x, refl, e)

entries_step : (k : SectionKind) (n : ℕ) (d : DraftForm) {ls : List Lexeme} {ps : List Piece} (y : Numbered) → CutCases at.Stop ls ps → entries_from k n d ps ≡ Ok y
    → ((us : List Lexeme) (e : DraftForm) → length us < length ls → entries_from k (n + 1) e (cut at.Stop us) ≡ Ok y → AreEntries k (n + 1) e us y.number y.draft) → AreEntries k n d ls y.number y.draft
entries_step k n d y nothing e go = subst (λ (z : Numbered). AreEntries k n d [] z.number z.draft) (same_ok e) no_entry
  where
    same_ok : {x z : Numbered} → ◌≡◌ {A = Result Numbered ℕ} (Ok x) (Ok z) → x ≡ z
    same_ok e = cc
entries_step k n d y (is_ended ls us w) e go =
    let x = bound_number n (entry_read k n ls d) (λ f. entries_from k (n + 1) f (cut at.Stop us)) y e in
    let i = entry_by (list_any is_in_set ls) k n ls d x.0 x.1 in
    more_entries w i.0 i.1 (go us x.0 (omega (arith, length-append ls (Stop ∷ us))) x.2)
entries_step k n d y (is_open ls w) e go = absurd (let no : ⊥ = cc in no)

from_entries : (m : ℕ) (k : SectionKind) (n : ℕ) (d : DraftForm) (ls : List Lexeme) (y : Numbered) → length ls < m → entries_from k n d (cut at.Stop ls) ≡ Ok y → AreEntries k n d ls y.number y.draft
from_entries zero k n d ls y l e = absurd (let no : ⊥ = omega arith in no)
from_entries (suc m) k n d ls y l e = entries_step k n d y (cut_cases at.Stop ls) e (λ us f h q. from_entries m k (n + 1) f us y (omega arith) q)

-- ---- sections

to_kind : {w : Name} {k : SectionKind} → IsKindWord w k → kind_of w ≡ Some k
to_kind config = refl
to_kind rules_word = refl
to_kind templates_word = refl
to_kind lexicon = refl

kind_by : (w : Name) (b c d e : Bool) (k : SectionKind) → b ≡ same_name w (codes "CONFIG") → c ≡ same_name w (codes "RULES") → d ≡ same_name w (codes "TEMPLATES") → e ≡ same_name w (codes "LEXICON")
    → cond b (Some Config) (cond c (Some Rules) (cond d (Some Templates) (cond e (Some Lexicon) None))) ≡ Some k → IsKindWord w k
kind_by w true c d e k p q r s h = subst (λ (x : SectionKind). IsKindWord w x) (same_some h) (subst (λ (v : Name). IsKindWord v Config) (sym (same_text w (codes "CONFIG") p)) config)
kind_by w false true d e k p q r s h = subst (λ (x : SectionKind). IsKindWord w x) (same_some h) (subst (λ (v : Name). IsKindWord v Rules) (sym (same_text w (codes "RULES") q)) rules_word)
kind_by w false false true e k p q r s h = subst (λ (x : SectionKind). IsKindWord w x) (same_some h) (subst (λ (v : Name). IsKindWord v Templates) (sym (same_text w (codes "TEMPLATES") r)) templates_word)
kind_by w false false false true k p q r s h = subst (λ (x : SectionKind). IsKindWord w x) (same_some h) (subst (λ (v : Name). IsKindWord v Lexicon) (sym (same_text w (codes "LEXICON") s)) lexicon)
kind_by w false false false false k p q r s h = absurd (let no : ⊥ = cc in no)

from_kind : (w : Name) (k : SectionKind) → kind_of w ≡ Some k → IsKindWord w k
from_kind w k h = kind_by w (same_name w (codes "CONFIG")) (same_name w (codes "RULES")) (same_name w (codes "TEMPLATES")) (same_name w (codes "LEXICON")) k refl refl refl refl h

abbrev section : SectionKind → List Lexeme → Section
section k ls = record { kind = k; entries = ls }

-- the heading of a section
abbrev heading : Name → Name → Name → List Lexeme → List Lexeme
heading a b w ls = Word a ∷ Word b ∷ Word w ∷ Open ∷ Word (codes "1") ∷ Stop ∷ Word (codes "0") ∷ Close ∷ ls

-- how a section was read
record SectionCases (ls : List Lexeme) (s : Section) : Type 0 where
  one : Name
  two : Name
  kind_word : Name
  kind_is : IsKindWord kind_word s.kind
  is : ls ≡ heading one two kind_word s.entries

version_by : (b c : Bool) (a d w o z : Name) (k : SectionKind) (ls : List Lexeme) (s : Section) → IsKindWord w k → b ≡ same_name o (codes "1") → c ≡ same_name z (codes "0")
    → cond b (cond c (Some (section k ls)) None) None ≡ Some s → SectionCases (Word a ∷ Word d ∷ Word w ∷ Open ∷ Word o ∷ Stop ∷ Word z ∷ Close ∷ ls) s
version_by true true a d w o z k ls s i p q h =
    subst (λ (t : Section). SectionCases (Word a ∷ Word d ∷ Word w ∷ Open ∷ Word o ∷ Stop ∷ Word z ∷ Close ∷ ls) t) (same_some h)
    (record { one = a; two = d; kind_word = w; kind_is = i; is = named (same_text o (codes "1") p) (same_text z (codes "0") q) })
  where
    named : {x y : Name} → x ≡ codes "1" → y ≡ codes "0" → ◌≡◌ {A = List Lexeme} (Word a ∷ Word d ∷ Word w ∷ Open ∷ Word x ∷ Stop ∷ Word y ∷ Close ∷ ls) (heading a d w ls)
    named p q = cc
version_by true false a d w o z k ls s i p q h = absurd (let no : ⊥ = cc in no)
version_by false c a d w o z k ls s i p q h = absurd (let no : ⊥ = cc in no)

from_version : (a d w : Name) (k : SectionKind) (ls : List Lexeme) (s : Section) → IsKindWord w k → behind_kind k ls ≡ Some s → SectionCases (Word a ∷ Word d ∷ Word w ∷ ls) s
from_version a d w k (Open ∷ Word o ∷ Stop ∷ Word z ∷ Close ∷ ls) s i h = version_by (same_name o (codes "1")) (same_name z (codes "0")) a d w o z k ls s i refl refl h
from_version a d w k _ s i h = absurd (let no : ⊥ = cc in no)

from_section : (ls : List Lexeme) (s : Section) → section_of ls ≡ Some s → SectionCases ls s
from_section (Word a ∷ Word d ∷ Word w ∷ ls) s h =
    let x = bound (kind_of w) (λ k. behind_kind k ls) s h in
    from_version a d w x.0 ls s (from_kind w x.0 x.1) x.2
from_section _ s h = absurd (let no : ⊥ = cc in no)

new_by : (b : Bool) (s t : Section) → cond b None (Some s) ≡ Some t → (b ≡ false) × (s ≡ t)
new_by true s t h = absurd (let no : ⊥ = cc in no)
new_by false s t h = (refl, same_some h)

abbrev sections_behind : ℕ → List Section → List Piece → Option Section → Result (List Section) ℕ
sections_behind n before ps o = or_number n o (λ s. sections_from (n + 1) (before ++ (s ∷ [])) ps)

-- the first piece of a section with its heading
heading_cut : (a b w : Name) (ls us : List Lexeme) → is_within at.Divider ls → cut at.Divider (heading a b w (ls ++ (Divider ∷ us))) ≡ ended (heading a b w ls) ∷ cut at.Divider us
heading_cut a b w ls us h = cut_ended at.Divider (heading a b w ls) us h

to_sections : (n : ℕ) {before all : List Section} {ls : List Lexeme} → AreSections before ls all → has_kind Config all ≡ true → sections_from n before (cut at.Divider ls) ≡ Ok all
to_sections n (no_section {before}) h = ap (λ (b : Bool). let r : Result (List Section) ℕ = cond b (Ok before) (Err n) in r) h
to_sections n (more_sections {a} {b} {kind = w} {k} {before} {all} ls us i o f rest) h =
    ap (sections_from n before) (heading_cut a b w ls us o)
    ∙ ap (λ (q : Option SectionKind). sections_behind n before (cut at.Divider us) ((q >>= λ k. behind_kind k (Open ∷ Word (codes "1") ∷ Stop ∷ Word (codes "0") ∷ Close ∷ ls)) >>= new_section before)) (to_kind i)
    ∙ ap (λ (t : Bool). sections_behind n before (cut at.Divider us) (cond t None (Some (section k ls)))) f
    ∙ to_sections (n + 1) rest h

-- the sections, one of which is CONFIG
record AreAll (before : List Section) (ls : List Lexeme) (all : List Section) : Type 0 where
  are : AreSections before ls all
  has_config : has_kind Config all ≡ true

last_by : (b : Bool) (n : ℕ) (before all : List Section) → b ≡ has_kind Config before → ◌≡◌ {A = Result (List Section) ℕ} (cond b (Ok before) (Err n)) (Ok all) → AreAll before [] all
last_by true n before all q e = subst (λ (ss : List Section). AreAll before [] ss) (same_ok e) (record { are = no_section; has_config = sym q })
  where
    same_ok : {x z : List Section} → ◌≡◌ {A = Result (List Section) ℕ} (Ok x) (Ok z) → x ≡ z
    same_ok e = cc
last_by false n before all q e = absurd (let no : ⊥ = cc in no)

is_within_heading : (a b w : Name) (ls : List Lexeme) → is_within at.Divider (heading a b w ls) → is_within at.Divider ls
is_within_heading a b w ls h = h

sections_step : (n : ℕ) (before all : List Section) {ls : List Lexeme} {ps : List Piece} → CutCases at.Divider ls ps → sections_from n before ps ≡ Ok all
    → ((us : List Lexeme) (next : List Section) → length us < length ls → sections_from (n + 1) next (cut at.Divider us) ≡ Ok all → AreAll next us all) → AreAll before ls all
sections_step n before all nothing e go = last_by (has_kind Config before) n before all refl e
sections_step n before all (is_ended ls us w) e go =
    let x = bound_number n (section_of ls >>= new_section before) (λ s. sections_from (n + 1) (before ++ (s ∷ [])) (cut at.Divider us)) all e in
    let y = bound (section_of ls) (new_section before) x.0 x.1 in
    let z = new_by (has_kind y.0.kind before) y.0 x.0 y.2 in
    let s = from_section ls y.0 y.1 in
    let rest = go us (before ++ (y.0 ∷ [])) (omega (arith, length-append ls (Divider ∷ us))) (ap (λ (t : Section). sections_from (n + 1) (before ++ (t ∷ [])) (cut at.Divider us)) z.1 ∙ x.2) in
    subst (λ (vs : List Lexeme). AreAll before (vs ++ (Divider ∷ us)) all) (sym s.is)
    (record { are = more_sections y.0.entries us s.kind_is (is_within_heading s.one s.two s.kind_word y.0.entries (subst (λ (vs : List Lexeme). is_within at.Divider vs) s.is w)) z.0 rest.are; has_config = rest.has_config })
sections_step n before all (is_open ls w) e go = absurd (let no : ⊥ = cc in no)

from_sections : (m n : ℕ) (before all : List Section) (ls : List Lexeme) → length ls < m → sections_from n before (cut at.Divider ls) ≡ Ok all → AreAll before ls all
from_sections zero n before all ls l e = absurd (let no : ⊥ = omega arith in no)
from_sections (suc m) n before all ls l e = sections_step n before all (cut_cases at.Divider ls) e (λ us next h q. from_sections m (n + 1) next all us (omega arith) q)

-- ---- files

to_all_entries : {n : ℕ} {d f : DraftForm} {ss : List Section} → AreAllEntries n d ss f → sections_read n d ss ≡ Ok f
to_all_entries no_more = refl
to_all_entries (and_more {ss = ss} h rest) = ap (λ (r : Result Numbered ℕ). going_on r (λ m e. sections_read m e ss)) (to_entries h) ∙ to_all_entries rest

going_by : (r : Result Numbered ℕ) (f : ℕ → DraftForm → Result DraftForm ℕ) (d : DraftForm) → going_on r f ≡ Ok d → (x : Numbered) × (r ≡ Ok x) × (f x.number x.draft ≡ Ok d)
going_by (Ok x) f d e = (x, refl, e)
going_by (Err n) f d e = absurd (let no : ⊥ = cc in no)

from_all_entries : (n : ℕ) (d f : DraftForm) (ss : List Section) → sections_read n d ss ≡ Ok f → AreAllEntries n d ss f
from_all_entries n d f [] e = subst (λ (g : DraftForm). AreAllEntries n d [] g) (same_ok e) no_more
  where
    same_ok : {x z : DraftForm} → ◌≡◌ {A = Result DraftForm ℕ} (Ok x) (Ok z) → x ≡ z
    same_ok e = cc
from_all_entries n d f (s ∷ ss) e =
    let x = going_by (entries_from s.kind n d (cut at.Stop s.entries)) (λ m g. sections_read m g ss) f e in
    and_more (from_entries (suc (length s.entries)) s.kind n d s.entries x.0 (omega arith) x.1) (from_all_entries x.0.number x.0.draft f ss x.2)

to_said : (ls : List Lexeme) (d : DraftForm) → IsFile ls d → said ls ≡ Ok d
unfolding said
to_said ls d h = ap sections_said (to_sections 1 h.are h.has_config) ∙ ap entries_said (to_all_entries h.read)

entries_ok : (r : Result DraftForm ℕ) (d : DraftForm) → entries_said r ≡ Ok d → r ≡ Ok d
entries_ok (Ok e) d h = ap (λ (x : DraftForm). let r : Result DraftForm ℕ = Ok x in r) (same_ok h)
  where
    same_ok : {x z : DraftForm} → ◌≡◌ {A = Result DraftForm LexemesFault} (Ok x) (Ok z) → x ≡ z
    same_ok e = cc
entries_ok (Err n) d h = absurd (let no : ⊥ = cc in no)

sections_ok : (r : Result (List Section) ℕ) (d : DraftForm) → sections_said r ≡ Ok d → (ss : List Section) × (r ≡ Ok ss) × (sections_read 1 empty_draft ss ≡ Ok d)
sections_ok (Ok ss) d h = (ss, refl, entries_ok (sections_read 1 empty_draft ss) d h)
sections_ok (Err n) d h = absurd (let no : ⊥ = cc in no)

from_said : (ls : List Lexeme) (d : DraftForm) → said ls ≡ Ok d → IsFile ls d
unfolding said
from_said ls d h =
    let x = sections_ok (sections_of ls) d h in
    let s = from_sections (suc (length ls)) 1 [] x.0 ls (omega arith) x.1 in
    record { sections = x.0; are = s.are; has_config = s.has_config; read = from_all_entries 1 empty_draft d x.0 x.2 }

pub drafts_by_cases : DraftsByCases
drafts_by_cases bytes d =
    (λ h. record { tokens = h.tokens; has = h.has; is = from_said (lexemes_of h.tokens) d h.says }, λ h. record { tokens = h.tokens; has = h.has; says = to_said (lexemes_of h.tokens) d h.is })
