-- The grammar of a thin draft is the one that the draft has in the notation.
use Rattle.std.proofs.Common.{◌≡◌, ◌≢◌, ℕ, ◌+◌, Bool, true, false, cond, IsTrue, Option, Some, None, List, [], ◌∷◌, ◌++◌, length, map, codes, refl, sym, ap, ◌∙◌, subst, arith, inl}
use Rattle.std.specs.List.Sorted.{IsStrictlySortedBy}
use Rattle.lfg_terms.specs.declared.grammar.Item.{Item}
use Rattle.lfg_terms.specs.declared.grammar.Rule.{Rule}
use Rattle.lfg_terms.specs.declared.grammar.Lex.{Lex}
use Rattle.lfg_terms.specs.declared.grammar.Grammar.{Grammar}
use Rattle.lfg_model.specs.DraftForms.{RuleForm, WordForm, DraftForm}
use Rattle.lfg_model.specs.Lists.{In, here, later}
use Rattle.lfg_model.specs.Loads.{HasStrings, LoadsPath, bare, strings, LoadsDes, LoadsVal, designator, atom, LoadsSchema, defining, LoadsAnnotation, nothing, schema_more, WrittenItem, items_of, all_items_of, same_structure, annotation_for, category_for, LoadsItem, LoadsRule, LoadsWord, IsCategoryOf, Assembles}
use Rattle.lfg_model.specs.Loads as loaded
use Rattle.lfg_model.specs.PathExpressions.{attribute, expressions_from, HasRow, are_plain_rows, Strings}
use Rattle.lfg_model.specs.PathNotation.{path_row}
use Rattle.lfg_model.specs.RightSideNotation.{side_row}
use Rattle.lfg_model.specs.RightSides.{no_schema, and_schema, draft_annotation_from, RightSide, right_sides_from}
use Rattle.lfg_model.specs.Settings.{words_set, words_or_none, IsSetTo, IsDepth}
use Rattle.lfg_model.specs.Templates.{Each, end, and}
use Rattle.lfg_model.specs.Terms.{Name, Path, same_name, annotation_of}
use Rattle.lfg_model.specs.Thin.{Daughter, Phrase, Equation, Entry, Draft, empty_item, IsCategory, IsConsistent, link, item_of, rule_of_phrase, schema_of_equation, lex_of_entry, Gives}
use Rattle.lfg_model.specs.Thin as thin
use Rattle.lfg_model.specs.ThinDrafts.{root_setting, link_schema, IsItem, unannotated, linked, AreItems, IsRule, AreRules, equation_schema, entry_word, entry_words, IsThinForm}
use Rattle.lfg_model.specs.ThinDrafts as draft
use Rattle.lfg_model.proofs.ListLaws.{In-map, In_from_map}
use Rattle.lfg_model.proofs.ThinExpansion.{plain_of}
use Rattle.lfg_model.proofs.ThinGraphs.{row_has_graph}
use Rattle.lfg_model.proofs.ThinTreeLaws.{same_from_test}

-- ---- paths

-- a row of attributes has one string
only_string : (names w : List Name) → HasRow (expressions_from (map attribute names)) w → w ≡ names
only_string [] w e = e
only_string (a ∷ names) w j = let rest = only_string names j.back j.second in j.is ∙ (λ t. j.first t ++ rest t)

has_string : (names : List Name) → HasRow (expressions_from (map attribute names)) names
has_string [] = refl
has_string (a ∷ names) = record { front = a ∷ []; back = names; is = refl; first = refl; second = has_string names }

plain_names : (names : List Name) → IsTrue (are_plain_rows (expressions_from (map attribute names)))
plain_names [] = refl
plain_names (a ∷ names) = plain_names names

names_path : (depth : ℕ) (names : List Name) → LoadsPath depth (Some (path_row (map attribute names))) (Some (names ∷ []))
unfolding IsStrictlySortedBy
names_path depth names = strings (record { listed = record { ascends = (tt, tt); exact = λ w. (there w, back w) }; some = omega arith; few = omega arith })
  where
    there : (w : Path) → In w (names ∷ []) → Strings (path_row (map attribute names)) depth w
    there w here = record { has = has_string names; counts = inl (plain_names names) }
    there w (later i) = elim i [ ]

    back : (w : Path) → Strings (path_row (map attribute names)) depth w → In w (names ∷ [])
    back w s = subst (λ (v : Path). In v (names ∷ [])) (sym (only_string names w s.has)) here

-- ---- items

same_is_loaded : (depth : ℕ) → LoadsAnnotation depth same_structure (annotation_of (link None ∷ []))
same_is_loaded depth = schema_more (defining (record { arrow = refl; path = bare }) (designator (record { arrow = refl; path = bare }))) nothing

link_is_loaded : (depth : ℕ) (f : Option Name) → LoadsAnnotation depth (and_schema (link_schema f) no_schema) (annotation_of (link f ∷ []))
link_is_loaded depth None = same_is_loaded depth
link_is_loaded depth (Some a) = schema_more (defining (record { arrow = refl; path = names_path depth (a ∷ []) }) (designator (record { arrow = refl; path = bare }))) nothing

-- a name that is not `e` is a category
not_empty_item : (cat : Name) → cat ≢ empty_item → same_name cat empty_item ≡ false
not_empty_item cat n = go (same_name cat empty_item) refl
  where
    go : (b : Bool) → same_name cat empty_item ≡ b → b ≡ false
    go true e = absurd (n (same_from_test cat empty_item e))
    go false e = refl

module _ (depth : ℕ) where
  items_load : {xs : List Daughter} {ss : List RightSide} → AreItems xs ss → ((x : Daughter) → In x xs → x.cat ≢ empty_item) → Each (LoadsItem depth) (all_items_of (right_sides_from ss)) (map item_of xs)
  items_load draft.none n = end
  items_load (draft.next {x} (unannotated e) r) n =
      let c = not_empty_item x.cat (n x here) in
      and (record {
        cat = ap (λ (b : Bool). cond b None (Some x.cat)) (sym c);
        annotation = subst (λ (y : Bool × Option Name). LoadsAnnotation depth (cond y.0 no_schema same_structure) (annotation_of (link y.1 ∷ []))) (λ t. (sym c t, sym e t)) (same_is_loaded depth);
      }) (items_load r (λ y i. n y (later i)))
  items_load (draft.next {x} linked r) n =
      let c = not_empty_item x.cat (n x here) in
      and (record { cat = ap (λ (b : Bool). cond b None (Some x.cat)) (sym c); annotation = link_is_loaded depth x.function }) (items_load r (λ y i. n y (later i)))

  -- ---- rules

  rule_loads : (cat : Name) (xs : List Daughter) (side : RightSide) (ss : List RightSide) (r : RuleForm) → r.cat ≡ cat → r.side ≡ side → side ≡ side_row ss → AreItems xs ss → xs ≢ [] → ((x : Daughter) → In x xs → x.cat ≢ empty_item)
      → LoadsRule depth r (rule_of_phrase (record { cat = cat; daughters = xs }))
  rule_loads cat [] side ss r e f h are filled n = absurd (filled refl)
  rule_loads cat (x ∷ xs) side ss r e f h are filled n = record {
    cat = sym e;
    items = subst (λ (s : RightSide). Each (LoadsItem depth) (items_of s) (map item_of (x ∷ xs))) (sym (f ∙ h)) (items_load are n);
    graph = subst (λ (s : RightSide). loaded.HasGraph s (thin.row_graph (length (x ∷ xs)))) (sym (f ∙ h)) (row_has_graph x xs ss are (n x here));
  }

  rules_load : {n : ℕ} {ps : List Phrase} {rs : List RuleForm} → AreRules n ps rs → ((p : Phrase) → In p ps → p.daughters ≢ []) → ((p : Phrase) (x : Daughter) → In p ps → In x p.daughters → x.cat ≢ empty_item) → Each (LoadsRule depth) rs (map rule_of_phrase ps)
  rules_load draft.none f n = end
  rules_load (draft.next {p} {r} i t) f n =
      and (rule_loads p.cat p.daughters r.side i.sides r i.cat refl i.side i.items (f p here) (λ x j. n p x here j)) (rules_load t (λ q j. f q (later j)) (λ q x j k. n q x (later j) k))

  -- ---- words

  equations_load : (es : List Equation) → LoadsAnnotation depth (draft_annotation_from (map equation_schema es)) (annotation_of (map schema_of_equation es))
  equations_load [] = nothing
  equations_load (e ∷ es) = schema_more (defining (record { arrow = refl; path = names_path depth e.path }) atom) (equations_load es)

  words_load : (n : ℕ) (xs : List Entry) → Each (LoadsWord depth) (entry_words n xs) (map lex_of_entry xs)
  words_load n [] = end
  words_load n (x ∷ xs) = and (record { form = refl; cat = refl; annotation = equations_load x.equations }) (words_load (n + 1) xs)

-- ---- categories

module _ (d : Draft) (g : Grammar) (v : Gives d g) where
  phrase_in : {r : Rule} → In r g.rules → (p : Phrase) × In p d.phrases × (rule_of_phrase p ≡ r)
  phrase_in {r} i = In_from_map rule_of_phrase d.phrases (subst (λ (rs : List Rule). In r rs) v.rules i)

  rule_in : {p : Phrase} → In p d.phrases → In (rule_of_phrase p) g.rules
  rule_in {p} i = subst (λ (rs : List Rule). In (rule_of_phrase p) rs) (sym v.rules) (In-map rule_of_phrase i)

  entry_in : {x : Lex} → In x g.lexicon → (y : Entry) × In y d.entries × (lex_of_entry y ≡ x)
  entry_in {x} i = In_from_map lex_of_entry d.entries (subst (λ (xs : List Lex). In x xs) v.lexicon i)

  word_in : {y : Entry} → In y d.entries → In (lex_of_entry y) g.lexicon
  word_in {y} i = subst (λ (xs : List Lex). In (lex_of_entry y) xs) (sym v.lexicon) (In-map lex_of_entry i)

  category_there : (cat : Name) → IsCategory d cat → IsCategoryOf g cat
  category_there cat (thin.root e) = loaded.root (e ∙ sym v.root)
  category_there cat (thin.head i) = let p = In_from_map (λ (q : Phrase). q.cat) d.phrases i in loaded.head (rule_in p.1) p.2
  category_there cat (thin.daughter {p} i j) = let x = In_from_map (λ (y : Daughter). y.cat) p.daughters j in loaded.daughter (rule_in i) (In-map item_of x.1) (ap Some x.2)
  category_there cat (thin.of_word i) = let x = In_from_map (λ (y : Entry). y.cat) d.entries i in loaded.of_word (word_in x.1) x.2

  category_back : (cat : Name) → IsCategoryOf g cat → IsCategory d cat
  category_back cat (loaded.root e) = thin.root (e ∙ v.root)
  category_back cat (loaded.head i e) =
      let p = phrase_in i in
      thin.head (subst (λ (c : Name). In c (map (λ (q : Phrase). q.cat) d.phrases)) (ap (λ (r : Rule). r.cat) p.2 ∙ e) (In-map (λ (q : Phrase). q.cat) p.1))
  category_back cat (loaded.daughter {i = it} i j e) =
      let p = phrase_in i in
      let q : Phrase = p.0 in
      let x = In_from_map item_of q.daughters (subst (λ (r : Rule). In it r.items) (sym p.2) j) in
      let y : Daughter = x.0 in
      let same : Some y.cat ≡ Some cat = ap (λ (z : Item). z.cat) x.2 ∙ e in
      thin.daughter p.1 (subst (λ (c : Name). In c (map (λ (z : Daughter). z.cat) q.daughters)) (let one : y.cat ≡ cat = cc in one) (In-map (λ (z : Daughter). z.cat) x.1))
  category_back cat (loaded.of_word i e) =
      let y = entry_in i in
      thin.of_word (subst (λ (c : Name). In c (map (λ (z : Entry). z.cat) d.entries)) (ap (λ (x : Lex). x.cat) y.2 ∙ e) (In-map (λ (z : Entry). z.cat) y.1))

-- ---- the grammar

pub thin_assembles : (d : Draft) (form : DraftForm) (g : Grammar) → IsThinForm d form → IsConsistent d → ((p : Phrase) → In p d.phrases → p.daughters ≢ []) → Gives d g → Assembles (plain_of form) g
thin_assembles d form g t c filled v = record {
  root = ap (words_set (codes "ROOTCAT")) t.settings ∙ ap (λ (n : Name). Some (n ∷ [])) (sym v.root);
  governable = v.governable ∙ sym (ap (λ ss. words_or_none (words_set (codes "GOVERNABLERELATIONS") ss)) t.settings);
  gensize = subst (λ ss. IsSetTo (codes "GENSIZE") 400 60 ss g.gensize) (sym t.settings) v.gensize;
  maxfacts = subst (λ ss. IsSetTo (codes "MAXFACTS") 200000 200000 ss g.maxfacts) (sym t.settings) v.maxfacts;
  depth = 3;
  is_depth = subst (λ ss. IsDepth ss 3) (sym t.settings) refl;
  rules = subst (λ (rs : List Rule). Each (LoadsRule 3) form.rules rs) (sym v.rules)
      (rules_load 3 t.rules filled (λ p x i j. c.no_empty_item x.cat (thin.daughter i (In-map (λ (y : Daughter). y.cat) j))));
  words = subst (λ (x : List WordForm × List Lex). Each (LoadsWord 3) x.0 x.1) (λ k. (sym t.words k, sym v.lexicon k)) (words_load 3 (2 + length d.phrases) d.entries);
  cats = record {
    ascends = v.cats.ascends;
    exact = λ x. ((λ i. category_there d g v x ((v.cats.exact x).0 i)), (λ k. (v.cats.exact x).1 (category_back d g v x k)));
  };
}
