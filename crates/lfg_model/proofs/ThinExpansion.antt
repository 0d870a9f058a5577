-- A thin draft keeps the rules for templates, and becomes itself: it has no call.
use Rattle.std.proofs.Common.{◌≡◌, ℕ, ◌+◌, ◌≤◌, Option, Some, None, List, [], ◌∷◌, ◌++◌, length, map, refl, sym, ap, ◌∙◌, subst, inl, inr, ◌⊎◌, append_assoc}
use Rattle.std.specs.List.{flat_map}
use Rattle.lfg_terms.specs.declared.grammar.Arrow.TheVariants as arrow
use Rattle.lfg_terms.specs.declared.grammar.Val.TheVariants as val
use Rattle.lfg_model.specs.DraftForms.{TemplateForm, RuleForm, WordForm, DraftForm, PlainForm}
use Rattle.lfg_model.specs.Lists.{In, here, later, Once, more}
use Rattle.lfg_model.specs.PathExpressions.{PathExpressions, attribute, row, expressions_from, and_path}
use Rattle.lfg_model.specs.RightSides.{DraftSchema, define, no_schema, and_schema, draft_annotation_from, RightSide, right_sides_from}
use Rattle.lfg_model.specs.Templates.{unbound, paths_with, Becomes, defining, AllBecome, nothing, one_more, SideBecomes, bare, annotated, in_row, SidesBecome, no_part, part_more, Each, end, and, RuleBecomes, ReadingBecomes}
use Rattle.lfg_model.specs.TemplateRules.{NoneHas, Head, Headed, headed_from, headed, rule_head, template_head, reading_head, heads, HeadsBefore, Twice, Repeated, calls, side_calls, sides_calls, CallAt, call_at, rule_calls, template_calls, reading_calls, draft_calls, weights, whole_size, schema_limit, IsExpanded}
use Rattle.lfg_model.specs.Terms.{Name}
use Rattle.lfg_model.specs.Thin.{Daughter, Phrase, Equation, Entry, Draft, IsConsistent}
use Rattle.lfg_model.specs.ThinDrafts.{link_schema, IsItem, unannotated, linked, AreItems, IsRule, AreRules, equation_schema, entry_word, entry_words, IsThinForm}
use Rattle.lfg_model.specs.ThinDrafts as draft
use Rattle.lfg_model.proofs.ListLaws.{In-append_cases, In-append_right, In-map, In_from_map}

-- ---- it becomes itself

names_kept : (names : List Name) → paths_with unbound (expressions_from (map attribute names)) ≡ expressions_from (map attribute names)
names_kept [] = refl
names_kept (a ∷ names) = ap (and_path (attribute a)) (names_kept names)

module _ (ts : List TemplateForm) where
  link_becomes : (f : Option Name) → Becomes ts unbound (link_schema f) (link_schema f ∷ [])
  link_becomes None = defining
  link_becomes (Some a) = defining

  equation_becomes : (e : Equation) → Becomes ts unbound (equation_schema e) (equation_schema e ∷ [])
  equation_becomes e = subst (λ (ps : PathExpressions). let s : DraftSchema = define (record { arrow = arrow.Up; path = Some (row ps) }) (val.Atom e.atom) in Becomes ts unbound (equation_schema e) (s ∷ [])) (names_kept e.path) defining

  equations_become : (es : List Equation) → AllBecome ts unbound (draft_annotation_from (map equation_schema es)) (map equation_schema es)
  equations_become [] = nothing
  equations_become (e ∷ es) = one_more (equation_becomes e) (equations_become es)

  item_becomes : {x : Daughter} {s : RightSide} → IsItem x s → SideBecomes ts s s
  item_becomes (unannotated e) = bare
  item_becomes {x} linked = annotated (one_more (link_becomes x.function) nothing)

  items_become : {xs : List Daughter} {ss : List RightSide} → AreItems xs ss → SidesBecome ts (right_sides_from ss) (right_sides_from ss)
  items_become draft.none = no_part
  items_become (draft.next i r) = part_more (item_becomes i) (items_become r)

  rule_becomes : (n : ℕ) (p : Phrase) (r : RuleForm) → IsRule n p r → RuleBecomes ts r r
  rule_becomes n p r i = record { entry = refl; cat = refl; side = subst (λ (s : RightSide). SideBecomes ts s s) (sym i.side) (in_row (items_become i.items)) }

  rules_become : {n : ℕ} {ps : List Phrase} {rs : List RuleForm} → AreRules n ps rs → Each (RuleBecomes ts) rs rs
  rules_become draft.none = end
  rules_become (draft.next i r) = and (rule_becomes _ _ _ i) (rules_become r)

  words_become : (n : ℕ) (xs : List Entry) → Each (ReadingBecomes ts) (entry_words n xs) (entry_words n xs)
  words_become n [] = end
  words_become n (x ∷ xs) = and (record { entry = refl; form = refl; cat = refl; out = map equation_schema x.equations; all = equations_become x.equations; is = refl }) (words_become (n + 1) xs)

-- ---- no call

item_calls : {x : Daughter} {s : RightSide} → IsItem x s → side_calls s ≡ []
item_calls (unannotated e) = refl
item_calls {x} linked = by x.function
  where
    by : (f : Option Name) → calls (and_schema (link_schema f) no_schema) ≡ []
    by None = refl
    by (Some a) = refl

items_calls : {xs : List Daughter} {ss : List RightSide} → AreItems xs ss → sides_calls (right_sides_from ss) ≡ []
items_calls draft.none = refl
items_calls (draft.next i r) = let h = item_calls i in let k = items_calls r in λ t. h t ++ k t

equations_calls : (es : List Equation) → calls (draft_annotation_from (map equation_schema es)) ≡ []
equations_calls [] = refl
equations_calls (e ∷ es) = equations_calls es

rules_call : {n : ℕ} {ps : List Phrase} {rs : List RuleForm} {c : CallAt} → AreRules n ps rs → In c (flat_map rule_calls rs) → ⊥
rules_call draft.none i = elim i [ ]
rules_call {c} (draft.next {r} {rs} h t) i = elim (In-append_cases (rule_calls r) (flat_map rule_calls rs) i) [
  | inl j ↦ let none_of : rule_calls r ≡ [] = ap (λ (s : RightSide). map (call_at r.entry) (side_calls s)) h.side ∙ ap (map (call_at r.entry)) (items_calls h.items) in elim (subst (λ (cs : List CallAt). In c cs) none_of j) [ ]
  | inr j ↦ rules_call t j
]

words_call : (n : ℕ) (xs : List Entry) (c : CallAt) → In c (flat_map reading_calls (entry_words n xs)) → ⊥
words_call n [] c i = elim i [ ]
words_call n (x ∷ xs) c i = elim (In-append_cases (reading_calls (entry_word n x)) (flat_map reading_calls (entry_words (n + 1) xs)) i) [
  | inl j ↦ elim (subst (λ (cs : List CallAt). In c cs) (ap (map (call_at n)) (equations_calls x.equations)) j) [ ]
  | inr j ↦ words_call (n + 1) xs c j
]

-- what stands in three lists of which the middle one is empty
in_three : {X : Type 0} (x : X) (as' bs cs : List X) → bs ≡ [] → In x (as' ++ bs ++ cs) → In x as' ⊎ In x cs
in_three x as' bs cs e i = elim (In-append_cases (as' ++ bs) cs i) [
  | inl j ↦ elim (In-append_cases as' bs j) [ inl k ↦ inl k | inr k ↦ elim (subst (λ ys. In x ys) e k) [ ] ]
  | inr j ↦ inr j
]

no_call : (d : Draft) (form : DraftForm) → IsThinForm d form → (c : CallAt) → In c (draft_calls form) → ⊥
no_call d form t c i = elim (in_three c (flat_map rule_calls form.rules) (flat_map template_calls form.templates) (flat_map reading_calls form.words) (ap (flat_map template_calls) t.templates) i) [
  | inl j ↦ rules_call t.rules j
  | inr j ↦ words_call (2 + length d.phrases) d.entries c (subst (λ (ws : List WordForm). In c (flat_map reading_calls ws)) t.words j)
]

-- ---- no head twice

-- what stands once at two ends of a list does not stand before
once_apart : {X : Type 0} (xs ys : List X) (y : X) → Once (xs ++ y ∷ ys) → In y xs → ⊥
once_apart (x ∷ xs) ys y (more n o) here = n (In-append_right xs here)
once_apart (x ∷ xs) ys y (more n o) (later i) = once_apart xs ys y o i
once_apart [] ys y o i = elim i [ ]

abbrev head_names : List Head → List Name
head_names hs = map (λ h. h.name) hs

map_append : (xs ys : List Head) → head_names (xs ++ ys) ≡ head_names xs ++ head_names ys
map_append [] ys = refl
map_append (x ∷ xs) ys = ap (λ (ns : List Name). x.name ∷ ns) (map_append xs ys)

no_repeat : (earlier hs : List Head) (h : Headed) → Once (head_names (earlier ++ hs)) → In h (headed_from earlier hs) → HeadsBefore h.head h.earlier → ⊥
no_repeat earlier [] h o i b = elim i [ ]
no_repeat earlier (x ∷ hs) h o here b =
    once_apart (head_names earlier) (head_names hs) x.name (subst Once (map_append earlier (x ∷ hs)) o) (subst (λ (n : Name). In n (head_names earlier)) b.same (In-map (λ (y : Head). y.name) b.before))
no_repeat earlier (x ∷ hs) h o (later i) b = no_repeat (earlier ++ x ∷ []) hs h (subst (λ (ys : List Head). Once (head_names ys)) (sym (append_assoc earlier (x ∷ []) hs)) o) i b

no_params : (earlier hs : List Head) (h : Headed) → ((x : Head) → In x hs → x.params ≡ []) → In h (headed_from earlier hs) → Twice h.head.params → ⊥
no_params earlier [] h e i t = elim i [ ]
no_params earlier (x ∷ hs) h e here t = let empty = subst Twice (e x here) t in elim empty [ ]
no_params earlier (x ∷ hs) h e (later i) t = no_params (earlier ++ x ∷ []) hs h (λ y j. e y (later j)) i t

not_twice : (hs : List Head) → Once (head_names hs) → ((x : Head) → In x hs → x.params ≡ []) → NoneHas Repeated (headed hs)
not_twice hs o e h i (inl b) = no_repeat [] hs h o i b
not_twice hs o e h i (inr t) = no_params [] hs h e i t

rule_names : {n : ℕ} {ps : List Phrase} {rs : List RuleForm} → AreRules n ps rs → map (λ (p : Phrase). p.cat) ps ≡ head_names (map rule_head rs)
rule_names draft.none = refl
rule_names (draft.next i r) = let h = i.cat in let k = rule_names r in λ t. sym h t ∷ k t

word_names : (n : ℕ) (xs : List Entry) → map (λ (x : Entry). x.form) xs ≡ head_names (map reading_head (entry_words n xs))
word_names n [] = refl
word_names n (x ∷ xs) = ap (λ (ns : List Name). x.form ∷ ns) (word_names (n + 1) xs)

rule_params : (rs : List RuleForm) (x : Head) → In x (map rule_head rs) → x.params ≡ []
rule_params rs x i = let h = In_from_map rule_head rs i in sym (ap (λ (y : Head). y.params) h.2)

word_params : (ws : List WordForm) (x : Head) → In x (map reading_head ws) → x.params ≡ []
word_params ws x i = let h = In_from_map reading_head ws i in sym (ap (λ (y : Head). y.params) h.2)

none_repeated : (d : Draft) (form : DraftForm) → IsThinForm d form → IsConsistent d → NoneHas Repeated (heads form)
none_repeated d form t c h i = elim (in_three h (headed (map rule_head form.rules)) (headed (map template_head form.templates)) (headed (map reading_head form.words)) (ap (λ (us : List TemplateForm). headed (map template_head us)) t.templates) i) [
  | inl j ↦ not_twice (map rule_head form.rules) (subst Once (rule_names t.rules) c.one_rule) (rule_params form.rules) h j
  | inr j ↦ not_twice (map reading_head form.words) (subst Once once_words c.one_entry) (word_params form.words) h j
]
  where
    once_words : map (λ (x : Entry). x.form) d.entries ≡ head_names (map reading_head form.words)
    once_words = word_names (2 + length d.phrases) d.entries ∙ ap (λ (ws : List WordForm). head_names (map reading_head ws)) (sym t.words)

-- the draft, with each call of a template replaced
abbrev pub plain_of : DraftForm → PlainForm
plain_of form = record { settings = form.settings; rules = form.rules; words = form.words }

pub thin_expands : (d : Draft) (form : DraftForm) → IsThinForm d form → IsConsistent d → whole_size (weights (plain_of form)) ≤ schema_limit → IsExpanded form (plain_of form)
thin_expands d form t c few = record {
  once = none_repeated d form t c;
  defined = λ x i u. no_call d form t x i;
  fitting = λ x i u. no_call d form t x i;
  acyclic = λ x i u. elim (subst (λ (us : List TemplateForm). In x us) t.templates i) [ ];
  expands = record {
    settings = refl;
    rules = rules_become form.templates t.rules;
    words = subst (λ (ws : List WordForm). Each (ReadingBecomes form.templates) ws ws) (sym t.words) (words_become form.templates (2 + length d.phrases) d.entries);
  };
  few = few;
}
