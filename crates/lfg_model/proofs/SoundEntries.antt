-- The entries of a file: each name of a draft is free, and the entries of its rules have different
-- numbers.
use Rattle.std.proofs.Common.{◌≡◌, ℕ, ◌+◌, ◌<◌, List, [], ◌∷◌, ◌++◌, map, refl, ap, sym, subst, arith, inl, inr}
use Rattle.std.proofs.lemmas.List.{map-append}
use Rattle.lfg_terms.specs.declared.draft.Setting.{Setting}
use Rattle.lfg_model.specs.declared.lexeme.Lexeme.{Lexeme}
use Rattle.lfg_model.specs.declared.lexeme.Lexeme.TheVariants.{Semicolon}
use Rattle.lfg_model.specs.declared.notation.SectionKind.{SectionKind}
use Rattle.lfg_model.specs.Lists.{In, Once, none}
use Rattle.lfg_model.specs.Terms.{Name}
use Rattle.lfg_model.specs.RightSides.{DraftAnnotation}
use Rattle.lfg_model.specs.RightSideNotation.{side_row}
use Rattle.lfg_model.specs.DraftForms.{RuleForm, TemplateForm, WordForm, DraftForm}
use Rattle.lfg_model.specs.Drafts.{Section, Drafts}
use Rattle.lfg_model.specs.Loaded.{IsFree, AreFree}
use Rattle.lfg_model.specs.DraftCases.{AreNames, no_name, more_names, ArePairs, no_pair, more_pairs, IsSetting, root, number, names, pairs, epsilon, encoding, IsReading, bare, annotated, AreReadings, last_reading, ended_reading, more_readings, IsEntry, setting, rule, template, template_with, word, AreEntries, no_entry, more_entries, AreAllEntries, no_more, and_more}
use Rattle.lfg_model.proofs.DraftsByCases.{drafts_by_cases}
use Rattle.lfg_model.proofs.ListLaws.{In-nil, In-cons_cases, In-append_cases, In-push_cases, In_from_map, Once-push}
use Rattle.lfg_model.proofs.SoundForms.{IsFreeAnnotation, IsFreeRule, IsFreeTemplate, IsFreeWord, IsFreeSetting}
use Rattle.lfg_model.proofs.SoundDrafts.{AreFreeLexemes, free_lexemes, free_front, free_back, free_more, free_none, free_annotation, free_terms}

-- ---- settings

free_names : {ls us : List Lexeme} {ns : List Name} → AreNames ls ns us → AreFreeLexemes ls → AreFree ns × AreFreeLexemes us
free_names no_name f = (free_none, f)
free_names (more_names r) f = let k = free_names r f.1 in (free_more f.0 k.0, k.1)

free_pairs : {ls : List Lexeme} {ns : List Name} → ArePairs ls ns → AreFreeLexemes ls → AreFree ns
free_pairs no_pair f = free_none
free_pairs (more_pairs r) f = free_more f.1.0 (free_more f.1.1.0 (free_pairs r f.1.1.1.1))

free_setting : {key : Name} {ls : List Lexeme} {words : List Name} → IsSetting key ls words → AreFreeLexemes ls → AreFree words
free_setting (root c) f = free_more f.0 free_none
free_setting (number k d) f = free_more f.0 free_none
free_setting (names k r) f = (free_names r f).0
free_setting (pairs k r) f = free_pairs r f
free_setting epsilon f = free_more f.0 free_none
free_setting encoding f = free_more f.0 free_none

-- ---- words

free_reading : {ls : List Lexeme} {c : Name} {a : DraftAnnotation} → IsReading ls c a → AreFreeLexemes ls → IsFree c × IsFreeAnnotation a
free_reading (bare c) f = (f.0, tt)
free_reading (annotated c a) f = (f.0, (free_annotation a f.1.1).0)

module _ (n : ℕ) (form : Name) (free : IsFree form) where
  reading_word : {ls : List Lexeme} {c : Name} {a : DraftAnnotation} → IsReading ls c a → AreFreeLexemes ls → IsFreeWord (record { entry = n; form = form; cat = c; annotation = a })
  reading_word r f = let k = free_reading r f in record { form = free; cat = k.0; annotation = k.1 }

  free_readings : {ls : List Lexeme} {xs : List WordForm} → AreReadings n form ls xs → AreFreeLexemes ls → (x : WordForm) → In x xs → IsFreeWord x
  free_readings (last_reading w r) f x i = elim (In-cons_cases i) [
    | inl e ↦ (let P : WordForm → Type 0 = λ y. IsFreeWord y in subst P (sym e) (reading_word r f))
    | inr j ↦ In-nil j
  ]
  free_readings (ended_reading {ls} w r) f x i = elim (In-cons_cases i) [
    | inl e ↦ (let P : WordForm → Type 0 = λ y. IsFreeWord y in subst P (sym e) (reading_word r (free_front ls (Semicolon ∷ []) f)))
    | inr j ↦ In-nil j
  ]
  free_readings (more_readings {ls} {us} w r more) f x i = elim (In-cons_cases i) [
    | inl e ↦ (let P : WordForm → Type 0 = λ y. IsFreeWord y in subst P (sym e) (reading_word r (free_front ls (Semicolon ∷ us) f)))
    | inr j ↦ free_readings more (free_back ls (Semicolon ∷ us) f).1 x j
  ]

-- ---- drafts

-- the names of the draft are free; its rules have different entries, with numbers below this one
pub record IsFreeDraft (n : ℕ) (d : DraftForm) : Type 0 where
  pub settings : (s : Setting) → In s d.settings → IsFreeSetting s
  pub rules : (r : RuleForm) → In r d.rules → IsFreeRule r
  pub templates : (t : TemplateForm) → In t d.templates → IsFreeTemplate t
  pub words : (w : WordForm) → In w d.words → IsFreeWord w
  pub below : (r : RuleForm) → In r d.rules → r.entry < n
  pub once : Once (map (λ r. r.entry) d.rules)

-- one more with P
pushed : {X : Type 0} (P : X → Type 0) (xs : List X) (x : X) → ((y : X) → In y xs → P y) → P x → (y : X) → In y (xs ++ x ∷ []) → P y
pushed P xs x all p y i = elim (In-push_cases xs x i) [ inl j ↦ all y j | inr e ↦ subst P (sym e) p ]

next_number : (n : ℕ) (d : DraftForm) → IsFreeDraft n d → IsFreeDraft (n + 1) d
next_number n d f = record {
  settings = f.settings;
  rules = f.rules;
  templates = f.templates;
  words = f.words;
  below = λ r i. (let l = f.below r i in omega (arith, l));
  once = f.once;
}

below_next : (rs : List RuleForm) (n : ℕ) (r : RuleForm) → ((q : RuleForm) → In q rs → q.entry < n) → r.entry ≡ n → (q : RuleForm) → In q (rs ++ r ∷ []) → q.entry < n + 1
below_next rs n r below at q i = elim (In-push_cases rs r i) [
  | inl j ↦ (let l = below q j in omega (arith, l))
  | inr e ↦ (let k : q.entry ≡ r.entry = ap (λ (x : RuleForm). x.entry) e in omega (arith, k, at))
]

once_next : (rs : List RuleForm) (n : ℕ) (r : RuleForm) → ((q : RuleForm) → In q rs → q.entry < n) → Once (map (λ q. q.entry) rs) → r.entry ≡ n → Once (map (λ q. q.entry) (rs ++ r ∷ []))
once_next rs n r below once at = rw map-append (Once-push (map (λ q. q.entry) rs) r.entry once (λ i. let f = In_from_map (λ (q : RuleForm). q.entry) rs i in let l = below f.0 f.1 in let k = f.2 in omega (arith, l, k, at)))

free_entry : {k : SectionKind} {n : ℕ} {ls : List Lexeme} {d e : DraftForm} → IsEntry k n ls d e → AreFreeLexemes ls → IsFreeDraft n d → IsFreeDraft (n + 1) e
free_entry {n} {d} (setting {key} {words} s) f h = next_number n _ (record {
  settings = pushed (λ (x : Setting). IsFreeSetting x) d.settings (record { entry = n; key = key; words = words }) h.settings (free_setting s f.1);
  rules = h.rules;
  templates = h.templates;
  words = h.words;
  below = h.below;
  once = h.once;
})
free_entry {n} {d} (rule {c} {xs} is t) f h = let r : RuleForm = record { entry = n; cat = c; side = side_row xs } in record {
  settings = h.settings;
  rules = pushed (λ (x : RuleForm). IsFreeRule x) d.rules r h.rules (record { cat = f.0; side = (free_terms t f.1.1).0 });
  templates = h.templates;
  words = h.words;
  below = below_next d.rules n r h.below refl;
  once = once_next d.rules n r h.below h.once refl;
}
free_entry {n} {d} (template a) f h = next_number n _ (record {
  settings = h.settings;
  rules = h.rules;
  templates = pushed (λ (x : TemplateForm). IsFreeTemplate x) d.templates _ h.templates (free_annotation a f.1.1).0;
  words = h.words;
  below = h.below;
  once = h.once;
})
free_entry {n} {d} (template_with ns apart a) f h = next_number n _ (record {
  settings = h.settings;
  rules = h.rules;
  templates = pushed (λ (x : TemplateForm). IsFreeTemplate x) d.templates _ h.templates (free_annotation a (free_names ns f.1.1).1.1.1).0;
  words = h.words;
  below = h.below;
  once = h.once;
})
free_entry {n} {d} (word {form} {xs} apart r) f h = next_number n _ (record {
  settings = h.settings;
  rules = h.rules;
  templates = h.templates;
  words = λ w i. elim (In-append_cases d.words xs i) [ inl j ↦ h.words w j | inr j ↦ free_readings n form f.0 r f.1 w j ];
  below = h.below;
  once = h.once;
})

-- ---- sections

free_entries : {k : SectionKind} {n m : ℕ} {d e : DraftForm} {ls : List Lexeme} → AreEntries k n d ls m e → IsFreeDraft n d → IsFreeDraft m e
free_entries no_entry h = h
free_entries (more_entries {ls} within apart entry more) h = free_entries more (free_entry entry (free_lexemes ls apart) h)

free_sections : {n : ℕ} {d e : DraftForm} {ss : List Section} → AreAllEntries n d ss e → IsFreeDraft n d → (m : ℕ) × IsFreeDraft m e
free_sections {n} no_more h = (n, h)
free_sections (and_more es more) h = free_sections more (free_entries es h)

-- the draft of a file
pub free_draft : (bytes : List ℕ) (d : DraftForm) → Drafts bytes d → (m : ℕ) × IsFreeDraft m d
free_draft bytes d drafts =
    let file = (drafts_by_cases bytes d).0 drafts in
    free_sections file.is.read (record { settings = λ s i. In-nil i; rules = λ r i. In-nil i; templates = λ t i. In-nil i; words = λ w i. In-nil i; below = λ r i. In-nil i; once = none })
