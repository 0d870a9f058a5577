-- A thin file is a grammar file of the whole notation.
use Rattle.std.proofs.Common.{◌≡◌, ◌≢◌, ℕ, ◌+◌, Bool, true, false, cond, Option, Some, None, Result, Ok, List, [], ◌∷◌, ◌++◌, suc, length, map, codes, refl, ap, sym, ◌∙◌, subst, arith, append_assoc, append-nil}
use Rattle.std.specs.List.{list_any}
use Rattle.lfg_terms.specs.declared.draft.Setting.{Setting}
use Rattle.lfg_model.specs.declared.lexeme.Lexeme.{Lexeme}
use Rattle.lfg_model.specs.declared.lexeme.Lexeme.TheVariants.{Word, Arrow, Stop, Star}
use Rattle.lfg_model.specs.declared.notation.SectionKind.TheVariants.{Config, Rules, Lexicon}
use Rattle.lfg_model.specs.declared.notation.Separator.TheVariants as at
use Rattle.lfg_model.specs.DraftForms.{RuleForm, WordForm, DraftForm}
use Rattle.lfg_model.specs.Drafts.{Section, section_of, new_section, or_number, sections_from, Numbered, entries_from, going_on, sections_read, empty_draft, entries_said, sections_said, said}
use Rattle.lfg_model.specs.EntryNotation.{is_category, rule_of, whole_side, word_of, whole_annotation, some_readings, reading_of, maybe_annotation, Piece, cut, is_in_set, with_setting, with_rule, with_words, setting_of}
use Rattle.lfg_model.specs.Lists.{In, here, later}
use Rattle.lfg_model.specs.Nests.{◌>>=◌, readers}
use Rattle.lfg_model.specs.RightSideNotation.{side_row, terms}
use Rattle.lfg_model.specs.RightSides.{DraftSchema, DraftAnnotation, draft_annotation_from, RightSide}
use Rattle.lfg_model.specs.Terms.{Name, same_name}
use Rattle.lfg_model.specs.Thin.{Phrase, Equation, Entry, Draft, empty_item, root, head, of_word, IsConsistent}
use Rattle.lfg_model.specs.ThinDrafts.{root_setting, IsRule, AreRules, none, next, equation_schema, entry_word, entry_words, IsThinForm, ThinFilesAreDrafted}
use Rattle.lfg_model.specs.ThinText.{Row, done, more, is_nothing, is_stop, is_divider, IsPhrase, behind_arrow, IsEntry, behind_star, Heading, IsEnded, root_at, in_set, AreSections, Says}
use Rattle.lfg_model.proofs.ListLaws.{In-map, In-append_left}
use Rattle.lfg_model.proofs.ThinCuts.{ended, stops, divides, first_cut, reading_cut, no_in_set, section_view, in_section}
use Rattle.lfg_model.proofs.ThinSides.{nothing_left, items_read, AreFull, equations_before, equations_read, equations_view}
use Rattle.lfg_model.proofs.ThinTokens.{Spaceless, AreClean, same_lexemes, clean_lexemes, thin_utf8, thin_chars}
use Rattle.lfg_model.proofs.ThinTreeLaws.{same_from_test}

none_is : {X Y : Type 0} {x : X} → ◌≡◌ {A = Option X} None (Some x) → Y
none_is e = absurd (let no : ⊥ = cc in no)

same_some : {X : Type 0} (x y : X) → Some x ≡ Some y → x ≡ y
same_some x y e = cc

category : (cat : Name) → cat ≢ empty_item → is_category cat ≡ true
category cat n = go (same_name cat empty_item) refl
  where
    go : (b : Bool) → same_name cat empty_item ≡ b → cond b false true ≡ true
    go true e = absurd (n (same_from_test cat empty_item e))
    go false e = refl

-- ---- rules

arrow_view : (ls : List Lexeme) (cat : Name) (items : List Lexeme) → behind_arrow ls ≡ Some (cat, items) → ls ≡ Word cat ∷ Arrow ∷ items
arrow_view (Word c ∷ Arrow ∷ ls) cat items e =
    let p = same_some (c, ls) (cat, items) e in
    let c_is : c ≡ cat = ap (λ (r : Name × List Lexeme). r.0) p in
    let ls_are : ls ≡ items = ap (λ (r : Name × List Lexeme). r.1) p in
    λ i. Word (c_is i) ∷ Arrow ∷ ls_are i
arrow_view _ cat items e = none_is e

record PhraseRead (n : ℕ) (ls : List Lexeme) (p : Phrase) : Type 0 where
  rule : RuleForm
  is : IsRule n p rule
  read : rule_of n ls ≡ Some rule

phrase_read : (n : ℕ) (ls : List Lexeme) (p : Phrase) → IsPhrase ls p → p.cat ≢ empty_item → PhraseRead n ls p
phrase_read n ls p r e =
    let k = items_read r.items p.daughters r.row r.filled in
    record {
      rule = record { entry = n; cat = p.cat; side = side_row k.sides };
      is = record { entry = refl; cat = refl; sides = k.sides; items = k.are; side = refl };
      read =
          ap (rule_of n) (arrow_view ls p.cat r.items r.head) ∙ ap (λ (b : Bool). cond b (read ((readers terms).row r.items)) None) (category p.cat e)
          ∙ ap read k.read;
    }
  where
    read : Option (List RightSide × List Lexeme) → Option RuleForm
    read o = o >>= λ s. whole_side s >>= λ side. Some (record { entry = n; cat = p.cat; side = side })

abbrev with_rules : DraftForm → List RuleForm → DraftForm
with_rules d rs = record { settings = d.settings; rules = d.rules ++ rs; templates = d.templates; words = d.words }

abbrev numbered : ℕ → DraftForm → Result Numbered ℕ
numbered n d = Ok (record { number = n; draft = d })

record RulesRead (n : ℕ) (ls : List Lexeme) (ps : List Phrase) : Type 0 where
  rules : List RuleForm
  are : AreRules n ps rules
  read : (d : DraftForm) → entries_from Rules n d (cut at.Stop ls) ≡ numbered (n + length ps) (with_rules d rules)

no_rules : (n : ℕ) (d : DraftForm) → numbered n d ≡ numbered (n + 0) (with_rules d [])
no_rules n d =
    let h : n ≡ n + 0 = omega arith in
    let k : d.rules ≡ d.rules ++ [] = sym (append-nil d.rules) in
    λ i. numbered (h i) (record { settings = d.settings; rules = k i; templates = d.templates; words = d.words })

more_rules : (n m : ℕ) (d : DraftForm) (r : RuleForm) (rs : List RuleForm) → numbered ((n + 1) + m) (with_rules (with_rule d r) rs) ≡ numbered (n + suc m) (with_rules d (r ∷ rs))
more_rules n m d r rs =
    let h : (n + 1) + m ≡ n + suc m = omega arith in
    let k : (d.rules ++ r ∷ []) ++ rs ≡ d.rules ++ r ∷ rs = append_assoc d.rules (r ∷ []) rs in
    λ i. numbered (h i) (record { settings = d.settings; rules = k i; templates = d.templates; words = d.words })

rules_read : (n : ℕ) (ls : List Lexeme) (ps : List Phrase) → Row is_nothing (IsEnded IsPhrase) ls ps → ¬ In in_set ls → ((p : Phrase) → In p ps → p.cat ≢ empty_item) → RulesRead n ls ps
rules_read n ls [] (done e) s c = record { rules = []; are = none; read = λ d. ap (λ (us : List Lexeme). entries_from Rules n d (cut at.Stop us)) (nothing_left ls e) ∙ no_rules n d }
rules_read n ls (p ∷ ps) (more {rest = rest} e x r) s c =
    let f = first_cut at.Stop is_stop stops ls x.entry rest x.cut in
    let h = phrase_read n x.entry p x.is (c p here) in
    let k = rules_read (n + 1) rest ps r (λ i. s (f.in_rest in_set i)) (λ q i. c q (later i)) in
    record {
      rules = h.rule ∷ k.rules;
      are = next h.is k.are;
      read = λ d.
          ap (entries_from Rules n d) f.cut
          ∙ ap (λ (b : Bool). or_number n (cond b None (rule_of n x.entry >>= λ y. Some (with_rule d y))) (λ y. entries_from Rules (n + 1) y (cut at.Stop rest))) (no_in_set x.entry (λ i. s (f.in_front in_set i)))
          ∙ ap (λ (o : Option RuleForm). or_number n (o >>= λ y. Some (with_rule d y)) (λ y. entries_from Rules (n + 1) y (cut at.Stop rest))) h.read
          ∙ k.read (with_rule d h.rule) ∙ more_rules n (length ps) d h.rule k.rules;
    }

-- ---- words

star_view : (ls : List Lexeme) (form cat : Name) (equations : List Lexeme) → behind_star ls ≡ Some (record { form = form; cat = cat }, equations) → ls ≡ Word form ∷ Word cat ∷ Star ∷ equations
star_view (Word f ∷ Word c ∷ Star ∷ ls) form cat equations e =
    let p = same_some (record { form = f; cat = c }, ls) (record { form = form; cat = cat }, equations) e in
    let f_is : f ≡ form = ap (λ (r : Heading × List Lexeme). r.0.form) p in
    let c_is : c ≡ cat = ap (λ (r : Heading × List Lexeme). r.0.cat) p in
    let ls_are : ls ≡ equations = ap (λ (r : Heading × List Lexeme). r.1) p in
    λ i. Word (f_is i) ∷ Word (c_is i) ∷ Star ∷ ls_are i
star_view _ form cat equations e = none_is e

annotation_read : (xs : List Equation) → AreFull xs → maybe_annotation (equations_before xs []) ≡ Some (draft_annotation_from (map equation_schema xs))
annotation_read [] f = refl
annotation_read (x ∷ xs) f = ap (λ (o : Option (List DraftSchema × List Lexeme)). o >>= whole_annotation) (equations_read x xs f)

reading_read : (n : ℕ) (x : Entry) → AreFull x.equations → x.cat ≢ empty_item → reading_of n x.form (Word x.cat ∷ Star ∷ equations_before x.equations []) ≡ Some (entry_word n x)
reading_read n x f c =
    ap (λ (b : Bool). cond b (read (maybe_annotation (equations_before x.equations []))) None) (category x.cat c) ∙ ap read (annotation_read x.equations f)
  where
    read : Option DraftAnnotation → Option WordForm
    read o = o >>= λ a. Some (record { entry = n; form = x.form; cat = x.cat; annotation = a })

entry_read : (n : ℕ) (ls : List Lexeme) (x : Entry) → IsEntry ls x → AreClean ls → x.cat ≢ empty_item → word_of n ls ≡ Some (entry_word n x ∷ [])
entry_read n ls x r a c =
    let is = star_view ls x.form x.cat r.equations r.head in
    let clean : Spaceless x.form = subst AreClean is a (Word x.form) here in
    let v = equations_view r.equations x.equations r.row in
    let k = reading_cut x.cat x.equations v.end v.ends in
    ap (word_of n) is ∙ ap (λ (b : Bool). cond b None (some_readings n x.form (cut at.Semicolon (Word x.cat ∷ Star ∷ r.equations)))) clean
    ∙ ap (λ (us : List Lexeme). some_readings n x.form (cut at.Semicolon (Word x.cat ∷ Star ∷ us))) v.are ∙ ap (some_readings n x.form) k.cut
    ∙ ap (λ (o : Option WordForm). o >>= λ y. Some (y ∷ [])) (reading_read n x v.full c)

no_words : (n : ℕ) (d : DraftForm) → numbered n d ≡ numbered (n + 0) (with_words d [])
no_words n d =
    let h : n ≡ n + 0 = omega arith in
    let k : d.words ≡ d.words ++ [] = sym (append-nil d.words) in
    λ i. numbered (h i) (record { settings = d.settings; rules = d.rules; templates = d.templates; words = k i })

more_words : (n m : ℕ) (d : DraftForm) (x : WordForm) (xs : List WordForm) → numbered ((n + 1) + m) (with_words (with_words d (x ∷ [])) xs) ≡ numbered (n + suc m) (with_words d (x ∷ xs))
more_words n m d x xs =
    let h : (n + 1) + m ≡ n + suc m = omega arith in
    let k : (d.words ++ x ∷ []) ++ xs ≡ d.words ++ x ∷ xs = append_assoc d.words (x ∷ []) xs in
    λ i. numbered (h i) (record { settings = d.settings; rules = d.rules; templates = d.templates; words = k i })

words_read : (n : ℕ) (ls : List Lexeme) (xs : List Entry) → Row is_nothing (IsEnded IsEntry) ls xs → ¬ In in_set ls → AreClean ls → ((x : Entry) → In x xs → x.cat ≢ empty_item)
    → (d : DraftForm) → entries_from Lexicon n d (cut at.Stop ls) ≡ numbered (n + length xs) (with_words d (entry_words n xs))
words_read n ls [] (done e) s a c d = ap (λ (us : List Lexeme). entries_from Lexicon n d (cut at.Stop us)) (nothing_left ls e) ∙ no_words n d
words_read n ls (x ∷ xs) (more {rest = rest} e y r) s a c d =
    let f = first_cut at.Stop is_stop stops ls y.entry rest y.cut in
    let h = entry_read n y.entry x y.is (λ l i. a l (f.in_front l i)) (c x here) in
    ap (entries_from Lexicon n d) f.cut
    ∙ ap (λ (b : Bool). or_number n (cond b None (word_of n y.entry >>= λ z. Some (with_words d z))) (λ z. entries_from Lexicon (n + 1) z (cut at.Stop rest))) (no_in_set y.entry (λ i. s (f.in_front in_set i)))
    ∙ ap (λ (o : Option (List WordForm)). or_number n (o >>= λ z. Some (with_words d z)) (λ z. entries_from Lexicon (n + 1) z (cut at.Stop rest))) h
    ∙ words_read (n + 1) rest xs r (λ i. s (f.in_rest in_set i)) (λ l i. a l (f.in_rest l i)) (λ z i. c z (later i)) (with_words d (entry_word n x ∷ []))
    ∙ more_words n (length xs) d (entry_word n x) (entry_words (n + 1) xs)

-- ---- settings

root_view : (entries : List Lexeme) (cat : Name) → root_at entries ≡ Some cat → entries ≡ Word (codes "ROOTCAT") ∷ Word cat ∷ Stop ∷ []
root_view (Word key ∷ Word cat ∷ Stop ∷ []) name e = go (same_name key (codes "ROOTCAT")) refl e
  where
    go : (b : Bool) → same_name key (codes "ROOTCAT") ≡ b → cond b (Some cat) None ≡ Some name → Word key ∷ Word cat ∷ Stop ∷ [] ≡ Word (codes "ROOTCAT") ∷ Word name ∷ Stop ∷ []
    go true t f = let h = same_from_test key (codes "ROOTCAT") t in let k = same_some cat name f in λ i. Word (h i) ∷ Word (k i) ∷ Stop ∷ []
    go false t f = none_is f
root_view _ cat e = none_is e

setting_read : (cat : Name) → cat ≢ empty_item → setting_of 1 (Word (codes "ROOTCAT") ∷ Word cat ∷ []) ≡ Some (root_setting cat)
setting_read cat c = ap (λ (b : Bool). cond b (Some (cat ∷ [])) None >>= λ words. Some (record { entry = 1; key = codes "ROOTCAT"; words = words })) (category cat c)

config_read : (entries : List Lexeme) (cat : Name) → root_at entries ≡ Some cat → ¬ In in_set entries → cat ≢ empty_item → (d : DraftForm)
    → entries_from Config 1 d (cut at.Stop entries) ≡ numbered 2 (with_setting d (root_setting cat))
config_read entries cat e s c d =
    let is = root_view entries cat e in
    let lexemes = Word (codes "ROOTCAT") ∷ Word cat ∷ [] in
    let n : list_any is_in_set lexemes ≡ false = no_in_set lexemes (λ i. subst (λ (us : List Lexeme). ¬ In in_set us) is s (in_longer lexemes i)) in
    ap (λ (us : List Lexeme). entries_from Config 1 d (cut at.Stop us)) is
    ∙ ap (λ (b : Bool). or_number 1 (cond b None (setting_of 1 lexemes >>= λ y. Some (with_setting d y))) (λ y. entries_from Config 2 y [])) n
    ∙ ap (λ (o : Option Setting). or_number 1 (o >>= λ y. Some (with_setting d y)) (λ y. entries_from Config 2 y [])) (setting_read cat c)
  where
    in_longer : (ls : List Lexeme) → In in_set ls → In in_set (ls ++ Stop ∷ [])
    in_longer ls i = In-append_left (Stop ∷ []) i

-- ---- files

abbrev config_section : List Lexeme → Section
config_section ls = record { kind = Config; entries = ls }

abbrev rules_section : List Lexeme → Section
rules_section ls = record { kind = Rules; entries = ls }

abbrev lexicon_section : List Lexeme → Section
lexicon_section ls = record { kind = Lexicon; entries = ls }

-- the three sections of a thin file are those of the notation; what stands in the last stands in all
record SectionsRead (ls config rules lexicon : List Lexeme) : Type 0 where
  cut : cut at.Divider ls ≡ ended config ∷ ended rules ∷ ended lexicon ∷ []
  in_lexicon : (l : Lexeme) → In l lexicon → In l ls

sections_cut : (ls config rules lexicon : List Lexeme) → AreSections ls config rules lexicon → SectionsRead ls config rules lexicon
sections_cut ls config rules lexicon s =
    let f = first_cut at.Divider is_divider divides ls config s.behind_config s.first in
    let g = first_cut at.Divider is_divider divides s.behind_config rules s.behind_rules s.second in
    let h = first_cut at.Divider is_divider divides s.behind_rules lexicon [] s.third in
    record {
      cut = f.cut ∙ ap (λ (ps : List Piece). ended config ∷ ps) (g.cut ∙ ap (λ (ps : List Piece). ended rules ∷ ps) h.cut);
      in_lexicon = λ l i. f.in_rest l (g.in_rest l (h.in_front l i));
    }

three_sections : (config rules lexicon a b c : List Lexeme) → section_of config ≡ Some (config_section a) → section_of rules ≡ Some (rules_section b) → section_of lexicon ≡ Some (lexicon_section c)
    → sections_from 1 [] (ended config ∷ ended rules ∷ ended lexicon ∷ []) ≡ Ok (config_section a ∷ rules_section b ∷ lexicon_section c ∷ [])
three_sections config rules lexicon a b c e f g =
    ap (λ (o : Option Section). or_number 1 (o >>= new_section []) (λ s. sections_from 2 (s ∷ []) (ended rules ∷ ended lexicon ∷ []))) e
    ∙ ap (λ (o : Option Section). or_number 2 (o >>= new_section (config_section a ∷ [])) (λ s. sections_from 3 (config_section a ∷ s ∷ []) (ended lexicon ∷ []))) f
    ∙ ap (λ (o : Option Section). or_number 3 (o >>= new_section (config_section a ∷ rules_section b ∷ [])) (λ s. sections_from 4 (config_section a ∷ rules_section b ∷ s ∷ []) [])) g

-- the lexemes say this draft in the notation
record DraftSaid (d : Draft) (ls : List Lexeme) : Type 0 where
  form : DraftForm
  is : IsThinForm d form
  says : said ls ≡ Ok form

draft_said : (d : Draft) (ls : List Lexeme) → Says ls d → IsConsistent d → AreClean ls → DraftSaid d ls
unfolding said
draft_said d ls s c a =
    let k = sections_cut ls s.config s.rules s.lexicon s.sections in
    let config = section_view (codes "CONFIG") s.config s.root.entries Config refl s.root.is.heading in
    let rules = section_view (codes "RULES") s.rules s.phrases.entries Rules refl s.phrases.is.heading in
    let lexicon = section_view (codes "LEXICON") s.lexicon s.entries.entries Lexicon refl s.entries.is.heading in
    let three = ap (sections_from 1 []) k.cut ∙ three_sections s.config s.rules s.lexicon s.root.entries s.phrases.entries s.entries.entries config rules lexicon in
    let first = with_setting empty_draft (root_setting d.root) in
    let r = rules_read 2 s.phrases.entries d.phrases s.phrases.row s.phrases.is.plain (λ p i. c.no_empty_item p.cat (head (In-map (λ (q : Phrase). q.cat) i))) in
    let second = with_rules first r.rules in
    let n = 2 + length d.phrases in
    let clean : AreClean s.entries.entries = λ l i. a l (k.in_lexicon l (in_section (codes "LEXICON") s.lexicon s.entries.entries s.entries.is.heading l i)) in
    let w = words_read n s.entries.entries d.entries s.entries.row s.entries.is.plain clean (λ x i. c.no_empty_item x.cat (of_word (In-map (λ (y : Entry). y.cat) i))) second in
    record {
      form = with_words second (entry_words n d.entries);
      is = record { settings = refl; rules = r.are; templates = refl; words = refl };
      says =
          ap sections_said three
          ∙ ap (λ (x : Result Numbered ℕ). entries_said (going_on x (λ m e. sections_read m e (rules_section s.phrases.entries ∷ lexicon_section s.entries.entries ∷ []))))
          (config_read s.root.entries d.root s.root.root s.root.is.plain (c.no_empty_item d.root (root refl)) empty_draft)
          ∙ ap (λ (x : Result Numbered ℕ). entries_said (going_on x (λ m e. sections_read m e (lexicon_section s.entries.entries ∷ [])))) (r.read first)
          ∙ ap (λ (x : Result Numbered ℕ). entries_said (going_on x (λ m e. sections_read m e []))) w;
    }

pub thin_files_are_drafted : ThinFilesAreDrafted
thin_files_are_drafted bytes g t =
    let h = draft_said t.draft t.lexemes t.says t.consistent (clean_lexemes t.read (thin_chars bytes t.plain) t.lexemes t.spelled) in
    record {
      form = h.form;
      is = h.is;
      drafts = record {
        tokens = t.tokens;
        has = record { utf8 = thin_utf8 bytes t.plain; read = t.read };
        says = ap said (same_lexemes t.tokens t.lexemes t.spelled) ∙ h.says;
      };
    }
