-- A draft becomes one thing at most once its calls of templates are replaced.
use Rattle.std.proofs.Common.{◌≡◌, Some, List, [], ◌∷◌, ◌++◌, map, refl, sym, ap, ◌∙◌, subst}
use Rattle.lfg_model.specs.DraftForms.{TemplateForm, RuleForm, WordForm, DraftForm, PlainForm}
use Rattle.lfg_model.specs.RightSides.{DraftSchema, DraftAnnotation, DraftBranches, either, maybe, draft_annotation_from, draft_branches_from, RightSide, RightSides, item, optional, and_side}
use Rattle.lfg_model.specs.RightSides as side
use Rattle.lfg_model.specs.Templates.{Binding, name_with, Becomes, defining, constraining, existential, membership, marked, disjunction, option, called, AllBecome, nothing, one_more, BranchesBecome, no_more, branch_more, SideBecomes, bare, annotated, in_row, in_branches, in_option, in_star, in_plus, SidesBecome, no_part, part_more, Each, end, and, RuleBecomes, ReadingBecomes, Expands}
use Rattle.lfg_model.proofs.OneTree.{same_some}

-- ---- lists that are related element by element

pub each_one : {X Y : Type 0} {R : X → Y → Type 0} → ((x : X) (y z : Y) → R x y → R x z → y ≡ z) → {xs : List X} {ys zs : List Y} → Each R xs ys → Each R xs zs → ys ≡ zs
each_one same end end = refl
each_one same (and r e) (and s f) = let h = same _ _ _ r s in let t = each_one same e f in λ i. h i ∷ t i

-- ---- annotations

module _ (ts : List TemplateForm) where
  mutual
    become_one : {b : Binding} {s : DraftSchema} {xs ys : List DraftSchema} → Becomes ts b s xs → Becomes ts b s ys → xs ≡ ys
    become_one defining defining = refl
    become_one constraining constraining = refl
    become_one existential existential = refl
    become_one membership membership = refl
    become_one marked marked = refl
    become_one (disjunction h) (disjunction k) = ap (λ (out : List DraftAnnotation). either (draft_branches_from out) ∷ []) (branches_become_one h k)
    become_one (option h) (option k) = ap (λ (out : List DraftSchema). maybe (draft_annotation_from out) ∷ []) (all_become_one h k)
    become_one (called {b} {name} {args} {t} {out} e h) (called {t = u} {out = outs} f k) =
        let same : u ≡ t = same_some u t (sym f ∙ e) in
        all_become_one h (subst (λ (v : TemplateForm). AllBecome ts (record { params = v.params; args = map (name_with b) args }) v.body outs) same k)

    all_become_one : {b : Binding} {a : DraftAnnotation} {xs ys : List DraftSchema} → AllBecome ts b a xs → AllBecome ts b a ys → xs ≡ ys
    all_become_one nothing nothing = refl
    all_become_one (one_more f r) (one_more g s) = let h = become_one f g in let k = all_become_one r s in λ i. h i ++ k i

    branches_become_one : {b : Binding} {bs : DraftBranches} {xs ys : List DraftAnnotation} → BranchesBecome ts b bs xs → BranchesBecome ts b bs ys → xs ≡ ys
    branches_become_one no_more no_more = refl
    branches_become_one (branch_more f r) (branch_more g s) = let h = all_become_one f g in let k = branches_become_one r s in λ i. draft_annotation_from (h i) ∷ k i

  -- ---- right sides

  mutual
    side_becomes_one : {s r t : RightSide} → SideBecomes ts s r → SideBecomes ts s t → r ≡ t
    side_becomes_one bare bare = refl
    side_becomes_one (annotated {cat} h) (annotated k) = ap (λ (out : List DraftSchema). item cat (Some (draft_annotation_from out))) (all_become_one h k)
    side_becomes_one (in_row h) (in_row k) = ap side.row (sides_become_one h k)
    side_becomes_one (in_branches h) (in_branches k) = ap side.one_of (sides_become_one h k)
    side_becomes_one (in_option h) (in_option k) = ap optional (side_becomes_one h k)
    side_becomes_one (in_star h) (in_star k) = ap side.star (side_becomes_one h k)
    side_becomes_one (in_plus h) (in_plus k) = ap side.plus (side_becomes_one h k)

    sides_become_one : {s r t : RightSides} → SidesBecome ts s r → SidesBecome ts s t → r ≡ t
    sides_become_one no_part no_part = refl
    sides_become_one (part_more f r) (part_more g s) = let h = side_becomes_one f g in let k = sides_become_one r s in λ i. and_side (h i) (k i)

  -- ---- rules and readings

  rule_becomes_one : (r p q : RuleForm) → RuleBecomes ts r p → RuleBecomes ts r q → p ≡ q
  rule_becomes_one r p q h k =
      let entry : p.entry ≡ q.entry = h.entry ∙ sym k.entry in
      let cat : p.cat ≡ q.cat = h.cat ∙ sym k.cat in
      let side : p.side ≡ q.side = side_becomes_one h.side k.side in
      λ i. record { entry = entry i; cat = cat i; side = side i }

  reading_becomes_one : (r p q : WordForm) → ReadingBecomes ts r p → ReadingBecomes ts r q → p ≡ q
  reading_becomes_one r p q h k =
      let entry : p.entry ≡ q.entry = h.entry ∙ sym k.entry in
      let form : p.form ≡ q.form = h.form ∙ sym k.form in
      let cat : p.cat ≡ q.cat = h.cat ∙ sym k.cat in
      let annotation : p.annotation ≡ q.annotation = h.is ∙ ap draft_annotation_from (all_become_one h.all k.all) ∙ sym k.is in
      λ i. record { entry = entry i; form = form i; cat = cat i; annotation = annotation i }

pub one_expansion : (d : DraftForm) (p q : PlainForm) → Expands d p → Expands d q → p ≡ q
one_expansion d p q h k =
    let settings : p.settings ≡ q.settings = h.settings ∙ sym k.settings in
    let rules : p.rules ≡ q.rules = each_one (rule_becomes_one d.templates) h.rules k.rules in
    let words : p.words ≡ q.words = each_one (reading_becomes_one d.templates) h.words k.words in
    λ i. record { settings = settings i; rules = rules i; words = words i }
