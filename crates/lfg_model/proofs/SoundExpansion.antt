-- A draft whose names are free becomes one without templates whose names are free.
use Rattle.std.proofs.Common.{◌≡◌, ℕ, Bool, true, false, cond, Option, Some, None, List, [], ◌∷◌, ◌++◌, map, sym, subst}
use Rattle.lfg_terms.specs.declared.grammar.Des.{Des}
use Rattle.lfg_terms.specs.declared.grammar.Val.{Val}
use Rattle.lfg_terms.specs.declared.grammar.Val.TheVariants as val
use Rattle.lfg_terms.specs.declared.draft.Setting.{Setting}
use Rattle.lfg_model.specs.DraftForms.{RuleForm, TemplateForm, WordForm, DraftForm, PlainForm}
use Rattle.lfg_model.specs.Lists.{In, here, later}
use Rattle.lfg_model.specs.Loaded.{IsFree, AreFree}
use Rattle.lfg_model.specs.PathExpressions as path
use Rattle.lfg_model.specs.PathExpressions.{PathExpression, PathExpressions, attribute, no_path, and_path}
use Rattle.lfg_model.specs.RightSides.{DraftSchema, DraftAnnotation, DraftBranches, draft_annotation_from, draft_branches_from, RightSide, RightSides}
use Rattle.lfg_model.specs.Templates.{Binding, unbound, name_by, name_with, path_with, paths_with, des_with, val_with, template_named, Becomes, defining, constraining, existential, membership, marked, disjunction, option, called, AllBecome, nothing, one_more, BranchesBecome, no_more, branch_more, SideBecomes, bare, annotated, in_row, in_branches, in_option, in_star, in_plus, SidesBecome, no_part, part_more, RuleBecomes, ReadingBecomes, Expands}
use Rattle.lfg_model.specs.Terms.{Name, same_name}
use Rattle.lfg_model.proofs.AssemblyLaws.{each_back}
use Rattle.lfg_model.proofs.ListLaws.{In_from_map}
use Rattle.lfg_model.proofs.OneTree.{same_some}
use Rattle.lfg_model.proofs.SoundForms.{IsFreePath, AreFreePaths, IsFreeOption, IsFreeDes, IsFreeVal, IsFreeTest, IsFreeSchema, IsFreeAnnotation, AreFreeBranches, HasDraftBranch, AreFreeSchemata, AreFreeAnnotations, IsFreeSide, AreFreeSides, HasSide, IsFreeRule, IsFreeTemplate, IsFreeWord, IsFreeSetting}
use Rattle.lfg_model.proofs.SoundDrafts.{free_from, free_none}
use Rattle.lfg_model.proofs.SoundEntries.{IsFreeDraft}

-- ---- arguments in place of parameters

free_by : (ps args : List Name) (name : Name) → AreFree args → IsFree name → IsFree (name_by ps args name)
free_by [] args name fs f = f
free_by (p ∷ ps) [] name fs f = f
free_by (p ∷ ps) (a ∷ args) name fs f = go (same_name p name) (free_by ps args name (λ n i. fs n (later i)) f)
  where
    go : (b : Bool) → IsFree (name_by ps args name) → IsFree (cond b a (name_by ps args name))
    go true h = fs a here
    go false h = h

module _ (b : Binding) (bound : AreFree b.args) where
  free_name : (name : Name) → IsFree name → IsFree (name_with b name)
  free_name name f = free_by b.params b.args name bound f

  free_names : (names : List Name) → AreFree names → AreFree (map (name_with b) names)
  free_names names fs name i =
      let x = In_from_map (name_with b) names i in
      let P : Name → Type 0 = λ n. IsFree n in
      subst P x.2 (free_name x.0 (fs x.0 x.1))

  mutual
    free_path : (p : PathExpression) → IsFreePath p → IsFreePath (path_with b p)
    free_path (attribute name) f = free_name name f
    free_path (path.row parts) f = free_paths parts f
    free_path (path.one_of branches) f = free_paths branches f
    free_path (path.star inside) f = free_path inside f
    free_path (path.plus inside) f = free_path inside f

    free_paths : (ps : PathExpressions) → AreFreePaths ps → AreFreePaths (paths_with b ps)
    free_paths no_path f = tt
    free_paths (and_path part parts) f = (free_path part f.0, free_paths parts f.1)

  free_des : (d : Des PathExpression) → IsFreeDes d → IsFreeDes (des_with b d)
  free_des d f = go d.path f
    where
      go : (o : Option PathExpression) → IsFreeOption o → IsFreeDes (des_with b (record { arrow = d.arrow; path = o }))
      go None h = tt
      go (Some p) h = free_path p h

  free_val : (v : Val PathExpression) → IsFreeVal v → IsFreeVal (val_with b v)
  free_val (val.Des d) f = free_des d f
  free_val (val.Atom name) f = free_name name f
  free_val (val.Form x) f = record { name = free_name x.name f.name; inner = free_names x.inner f.inner; outer = free_names x.outer f.outer }

  free_test : (v : Val PathExpression) → IsFreeTest v → IsFreeTest (val_with b v)
  free_test (val.Des d) f = free_des d f
  free_test (val.Atom name) f = free_name name f
  free_test (val.Form x) f = absurd f

-- ---- calls are replaced

free_append : (xs ys : List DraftSchema) → AreFreeSchemata xs → AreFreeSchemata ys → AreFreeSchemata (xs ++ ys)
free_append [] ys f g = g
free_append (x ∷ xs) ys f g = (f.0, free_append xs ys f.1 g)

free_branches_from : (bs : List DraftAnnotation) → AreFreeAnnotations bs → AreFreeBranches (draft_branches_from bs)
free_branches_from [] f = tt
free_branches_from (b ∷ bs) f = (f.0, free_branches_from bs f.1)

named_in : (ts : List TemplateForm) (name : Name) (t : TemplateForm) → template_named ts name ≡ Some t → In t ts
named_in [] name t e = cc
named_in (u ∷ ts) name t e = go (same_name u.name name) (named_in ts name t) e
  where
    go : (b : Bool) → (template_named ts name ≡ Some t → In t ts) → cond b (Some u) (template_named ts name) ≡ Some t → In t (u ∷ ts)
    go true next h = let P : TemplateForm → Type 0 = λ x. In x (u ∷ ts) in subst P (same_some u t h) here
    go false next h = later (next h)

module _ (ts : List TemplateForm) (bodies : (t : TemplateForm) → In t ts → IsFreeTemplate t) where
  mutual
    free_becomes : {b : Binding} {s : DraftSchema} {out : List DraftSchema} → Becomes ts b s out → AreFree b.args → IsFreeSchema s → AreFreeSchemata out
    free_becomes {b} (defining {left} {right}) fs f = ((free_des b fs left f.0, free_val b fs right f.1), tt)
    free_becomes {b} (constraining {left} {right}) fs f = ((free_des b fs left f.0, free_test b fs right f.1), tt)
    free_becomes {b} (existential {left}) fs f = (free_des b fs left f, tt)
    free_becomes {b} (membership {it} {set}) fs f = ((free_des b fs it f.0, free_des b fs set f.1), tt)
    free_becomes {b} (marked {name}) fs f = (free_name b fs name f, tt)
    free_becomes (disjunction {out} r) fs f = ((branches_stay r f.0, free_branches_from out (branches_become r fs f.1)), tt)
    free_becomes (option {out} r) fs f = (free_from out (all_become r fs f), tt)
    free_becomes {b} (called {name} {args} {t} e r) fs f = all_become r (free_names b fs args f) (bodies t (named_in ts name t e))

    all_become : {b : Binding} {a : DraftAnnotation} {out : List DraftSchema} → AllBecome ts b a out → AreFree b.args → IsFreeAnnotation a → AreFreeSchemata out
    all_become nothing fs f = tt
    all_become (one_more {first} {rest} r more) fs f = free_append first rest (free_becomes r fs f.0) (all_become more fs f.1)

    branches_become : {b : Binding} {bs : DraftBranches} {out : List DraftAnnotation} → BranchesBecome ts b bs out → AreFree b.args → AreFreeBranches bs → AreFreeAnnotations out
    branches_become no_more fs f = tt
    branches_become (branch_more {out} r more) fs f = (free_from out (all_become r fs f.0), branches_become more fs f.1)

    -- where there was a branch there is one
    branches_stay : {b : Binding} {bs : DraftBranches} {out : List DraftAnnotation} → BranchesBecome ts b bs out → HasDraftBranch bs → HasDraftBranch (draft_branches_from out)
    branches_stay no_more h = h
    branches_stay (branch_more r more) h = tt

  annotation_becomes : {a : DraftAnnotation} {out : List DraftSchema} → AllBecome ts unbound a out → IsFreeAnnotation a → IsFreeAnnotation (draft_annotation_from out)
  annotation_becomes {out} r f = free_from out (all_become r free_none f)

  mutual
    side_becomes : {s t : RightSide} → SideBecomes ts s t → IsFreeSide s → IsFreeSide t
    side_becomes bare f = f
    side_becomes (annotated r) f = (f.0, annotation_becomes r f.1)
    side_becomes (in_row r) f = sides_become r f
    side_becomes (in_branches r) f = (sides_stay r f.0, sides_become r f.1)
    side_becomes (in_option r) f = side_becomes r f
    side_becomes (in_star r) f = side_becomes r f
    side_becomes (in_plus r) f = side_becomes r f

    sides_become : {s t : RightSides} → SidesBecome ts s t → AreFreeSides s → AreFreeSides t
    sides_become no_part f = tt
    sides_become (part_more r more) f = (side_becomes r f.0, sides_become more f.1)

    sides_stay : {s t : RightSides} → SidesBecome ts s t → HasSide s → HasSide t
    sides_stay no_part h = h
    sides_stay (part_more r more) h = tt

  rule_becomes : (r q : RuleForm) → RuleBecomes ts r q → IsFreeRule r → IsFreeRule q
  rule_becomes r q h f = let P : Name → Type 0 = λ n. IsFree n in record { cat = subst P (sym h.cat) f.cat; side = side_becomes h.side f.side }

  word_becomes : (w x : WordForm) → ReadingBecomes ts w x → IsFreeWord w → IsFreeWord x
  word_becomes w x h f =
      let P : Name → Type 0 = λ n. IsFree n in
      let Q : DraftAnnotation → Type 0 = λ a. IsFreeAnnotation a in
      record { form = subst P (sym h.form) f.form; cat = subst P (sym h.cat) f.cat; annotation = subst Q (sym h.is) (annotation_becomes h.all f.annotation) }

-- ---- drafts

-- the names of a draft without templates are free
pub record IsFreePlain (p : PlainForm) : Type 0 where
  pub settings : (s : Setting) → In s p.settings → IsFreeSetting s
  pub rules : (r : RuleForm) → In r p.rules → IsFreeRule r
  pub words : (w : WordForm) → In w p.words → IsFreeWord w

pub free_plain : (n : ℕ) (d : DraftForm) (p : PlainForm) → IsFreeDraft n d → Expands d p → IsFreePlain p
free_plain n d p f e = record {
  settings = (let P : List Setting → Type 0 = λ ss. (s : Setting) → In s ss → IsFreeSetting s in subst P (sym e.settings) f.settings);
  rules = λ q i. (let r = each_back e.rules i in rule_becomes d.templates f.templates r.0 q r.2 (f.rules r.0 r.1));
  words = λ x i. (let w = each_back e.words i in word_becomes d.templates f.templates w.0 x w.2 (f.words w.0 w.1));
}
