-- The grammars of one draft are the same as plain data.
use Rattle.std.proofs.Common.{◌≡◌, ℕ, Option, Some, List, [], ◌∷◌, codes, refl, sym, ap, ◌∙◌, subst, arith}
use Rattle.std.proofs.lemmas.Cmp.{nat_list_cmp_total}
use Rattle.lfg_terms.specs.Order.{name_cmp, path_cmp}
use Rattle.lfg_terms.specs.PathOrder.{path_cmp_total}
use Rattle.lfg_terms.specs.declared.grammar.Des.{Des}
use Rattle.lfg_terms.specs.declared.grammar.Val.{Val}
use Rattle.lfg_terms.specs.declared.grammar.Val.TheVariants as val
use Rattle.lfg_terms.specs.declared.grammar.Item.{Item}
use Rattle.lfg_terms.specs.declared.grammar.Rule.{Rule}
use Rattle.lfg_terms.specs.declared.grammar.Lex.{Lex}
use Rattle.lfg_terms.specs.declared.grammar.Grammar.{Grammar}
use Rattle.lfg_model.specs.DraftForms.{RuleForm, WordForm, PlainForm}
use Rattle.lfg_model.specs.Lists.{In, here, later}
use Rattle.lfg_model.specs.Loads.{LoadsPath, bare, strings, LoadsDes, LoadsVal, designator, atom, form, LoadsSchema, defining, constraining, existential, membership, marked, disjunction, option, LoadsAnnotation, nothing, schema_more, LoadsBranches, no_more, branch_more, WrittenItem, LoadsItem, LoadsRule, LoadsWord, IsCategoryOf, root, head, daughter, of_word, Assembles, AreLikeItems, AreLikeRules, AreLikeWords, AreAlike}
use Rattle.lfg_model.specs.PathExpressions.{PathExpression}
use Rattle.lfg_model.specs.RightSides.{DraftSchema, DraftAnnotation, DraftBranches}
use Rattle.lfg_model.specs.Templates.{Each, end, and}
use Rattle.lfg_model.specs.Terms.{Name, Paths, Schema, define, constrain, exists, member, either, maybe, Annotation, and_schema, Branches, or_branch}
use Rattle.lfg_model.proofs.Ascending.{one_list, once_from_total}
use Rattle.lfg_model.proofs.OneTree.{same_some, same_cons}
use Rattle.lfg_model.proofs.SettingLaws.{one_setting, one_depth}

-- ---- annotations

module _ {depth : ℕ} where
  one_path : {o : Option PathExpression} {x y : Option Paths} → LoadsPath depth o x → LoadsPath depth o y → x ≡ y
  one_path bare bare = refl
  one_path (strings {ps = xs} h) (strings {ps = ys} k) = ap Some (one_list path_cmp (once_from_total path_cmp_total) _ xs ys h.listed k.listed)

  one_des : {d : Des PathExpression} {e f : Des Paths} → LoadsDes depth d e → LoadsDes depth d f → e ≡ f
  one_des {e} {f} h k =
      let arrow : e.arrow ≡ f.arrow = h.arrow ∙ sym k.arrow in
      let path : e.path ≡ f.path = one_path h.path k.path in
      λ i. record { arrow = arrow i; path = path i }

  one_val : {v : Val PathExpression} {x y : Val Paths} → LoadsVal depth v x → LoadsVal depth v y → x ≡ y
  one_val (designator h) (designator k) = ap val.Des (one_des h k)
  one_val atom atom = refl
  one_val form form = refl

  mutual
    one_schema : {s : DraftSchema} {x y : Schema} → LoadsSchema depth s x → LoadsSchema depth s y → x ≡ y
    one_schema (defining h v) (defining k w) = let d = one_des h k in let e = one_val v w in λ i. define (d i) (e i)
    one_schema (constraining {negated} h v) (constraining k w) = let d = one_des h k in let e = one_val v w in λ i. constrain negated (d i) (e i)
    one_schema (existential {negated} h) (existential k) = ap (exists negated) (one_des h k)
    one_schema (membership h v) (membership k w) = let d = one_des h k in let e = one_des v w in λ i. member (d i) (e i)
    one_schema marked marked = refl
    one_schema (disjunction h) (disjunction k) = ap either (one_row_of_branches h k)
    one_schema (option h) (option k) = ap maybe (one_annotation h k)

    pub one_annotation : {a : DraftAnnotation} {x y : Annotation} → LoadsAnnotation depth a x → LoadsAnnotation depth a y → x ≡ y
    one_annotation nothing nothing = refl
    one_annotation (schema_more h r) (schema_more k s) = let a = one_schema h k in let b = one_annotation r s in λ i. and_schema (a i) (b i)

    one_row_of_branches : {b : DraftBranches} {x y : Branches} → LoadsBranches depth b x → LoadsBranches depth b y → x ≡ y
    one_row_of_branches no_more no_more = refl
    one_row_of_branches (branch_more h r) (branch_more k s) = let a = one_annotation h k in let b = one_row_of_branches r s in λ i. or_branch (a i) (b i)

-- ---- rules and words

-- what two lists have that one list is related to
pub each_both : {X Y : Type 0} {R : X → Y → Type 0} {S : Y → Y → Type 0} → ((x : X) (y z : Y) → R x y → R x z → S y z) → {xs : List X} {ys zs : List Y} → Each R xs ys → Each R xs zs → Each S ys zs
each_both f end end = end
each_both f (and r e) (and s g) = and (f _ _ _ r s) (each_both f e g)

-- what an element of the second list comes from
pub each_back : {X Y : Type 0} {R : X → Y → Type 0} {xs : List X} {ys : List Y} {y : Y} → Each R xs ys → In y ys → (x : X) × In x xs × R x y
each_back end i = elim i [ ]
each_back (and r e) here = (_, here, r)
each_back (and r e) (later i) = let h = each_back e i in (h.0, later h.1, h.2)

-- what becomes of an element of the first list
pub each_on : {X Y : Type 0} {R : X → Y → Type 0} {xs : List X} {ys : List Y} {x : X} → Each R xs ys → In x xs → (y : Y) × In y ys × R x y
each_on end i = elim i [ ]
each_on (and r e) here = (_, here, r)
each_on (and r e) (later i) = let h = each_on e i in (h.0, later h.1, h.2)

like_items : (depth : ℕ) (w : WrittenItem) (i j : Item) → LoadsItem depth w i → LoadsItem depth w j → AreLikeItems i j
like_items depth w i j h k = record { cat = h.cat ∙ sym k.cat; annotation = one_annotation h.annotation k.annotation }

like_rules : (depth : ℕ) (r : RuleForm) (p q : Rule) → LoadsRule depth r p → LoadsRule depth r q → AreLikeRules p q
like_rules depth r p q h k = record {
  cat = h.cat ∙ sym k.cat;
  items = each_both (like_items depth) h.items k.items;
  walks = λ w. ((λ a. (k.graph.walks w).1 ((h.graph.walks w).0 a)), (λ a. (h.graph.walks w).1 ((k.graph.walks w).0 a)));
}

like_words : (depth : ℕ) (w : WordForm) (x y : Lex) → LoadsWord depth w x → LoadsWord depth w y → AreLikeWords x y
like_words depth w x y h k = record { form = h.form ∙ sym k.form; cat = h.cat ∙ sym k.cat; annotation = one_annotation h.annotation k.annotation }

-- ---- grammars

module _ (g h : Grammar) (roots : g.root ≡ h.root) (rules : Each AreLikeRules g.rules h.rules) (words : Each AreLikeWords g.lexicon h.lexicon) where
  -- they have the same categories
  same_category : (cat : Name) → IsCategoryOf g cat → IsCategoryOf h cat
  same_category cat (root e) = root (e ∙ roots)
  same_category cat (head i e) = let r = each_on rules i in head r.1 (sym r.2.cat ∙ e)
  same_category cat (daughter i j e) = let r = each_on rules i in let x = each_on r.2.items j in daughter r.1 x.1 (sym x.2.cat ∙ e)
  same_category cat (of_word i e) = let r = each_on words i in of_word r.1 (sym r.2.cat ∙ e)

module _ (p : PlainForm) (g h : Grammar) (a : Assembles p g) (b : Assembles p h) where
  roots : g.root ≡ h.root
  roots = (same_cons g.root h.root [] [] (same_some (g.root ∷ []) (h.root ∷ []) (sym a.root ∙ b.root))).0

  depths : a.depth ≡ b.depth
  depths = one_depth p.settings a.depth b.depth a.is_depth b.is_depth

  rules : Each AreLikeRules g.rules h.rules
  rules = each_both (like_rules b.depth) (subst (λ (d : ℕ). Each (LoadsRule d) p.rules g.rules) depths a.rules) b.rules

  words : Each AreLikeWords g.lexicon h.lexicon
  words = each_both (like_words b.depth) (subst (λ (d : ℕ). Each (LoadsWord d) p.words g.lexicon) depths a.words) b.words

module _ (p : PlainForm) (g h : Grammar) (a : Assembles p g) (b : Assembles p h) where
  same_cats : g.cats ≡ h.cats
  same_cats = one_list name_cmp (once_from_total nat_list_cmp_total) (IsCategoryOf h) g.cats h.cats
      (record {
        ascends = a.cats.ascends;
        exact = λ x. (
          (λ i. same_category g h (roots p g h a b) (rules p g h a b) (words p g h a b) x ((a.cats.exact x).0 i)),
          (λ c. (a.cats.exact x).1 (same_category h g (roots p h g b a) (rules p h g b a) (words p h g b a) x c)),
        );
      })
      b.cats

  -- one draft has one grammar, as plain data
  pub one_assembly : AreAlike g h
  one_assembly = record {
    root = roots p g h a b;
    governable = a.governable ∙ sym b.governable;
    gensize = one_setting (codes "GENSIZE") 400 60 p.settings g.gensize h.gensize (omega arith) a.gensize b.gensize;
    maxfacts = one_setting (codes "MAXFACTS") 200000 200000 p.settings g.maxfacts h.maxfacts (omega arith) a.maxfacts b.maxfacts;
    cats = same_cats;
    rules = rules p g h a b;
    words = words p g h a b;
  }
