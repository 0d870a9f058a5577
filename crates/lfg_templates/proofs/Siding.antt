-- What right sides become, as the loops make it, and how deep the calls in their parts go.
use Rattle.std.proofs.Common.{◌≡◌, ℕ, ◌+◌, ◌<◌, Option, Some, None, List, [], ◌∷◌, ◌++◌, length, map, take, get_or, Result, Vec, Global, sym, ap, ◌∙◌, subst}
use Rattle.std.proofs.lemmas.List.{take_more, map-append}
use Rattle.std.proofs.lemmas.Result.{IfOk-weaker}
use Rattle.std.specs.Option.{option_map}
use Rattle.std.specs.Result.{IfOk}
use Rattle.std.specs.declared.alloc.AllocError.{AllocError}
use Rattle.lfg_terms.specs.declared.draft.Rhs.{Rhs}
use Rattle.lfg_terms.specs.declared.draft.Rhs.TheVariants as written
use Rattle.lfg_terms.specs.declared.grammar.Schema.{Schema}
use Rattle.lfg_terms.specs.declared.path_expr.PathExpr.{PathExpr}
use Rattle.lfg_model.specs.Lists.{In, here, later}
use Rattle.lfg_model.specs.Terms.{Name}
use Rattle.lfg_model.specs.RightSides.{draft_schema_of, draft_annotation_of, RightSide, item, row, one_of, optional, star, plus, right_sides_from, right_side_of, right_sides_of}
use Rattle.lfg_model.specs.DraftForms.{TemplateForm}
use Rattle.lfg_model.specs.Templates.{unbound, AllBecome, SideBecomes, bare, annotated, in_row, in_branches, in_option, in_star, in_plus, SidesBecome, no_part, part_more}
use Rattle.lfg_model.specs.TemplateRules.{Call, calls, option_calls, side_calls, sides_calls}
use Rattle.lfg_model.proofs.ListLaws.{In-append_left, In-append_right}
use Rattle.lfg_model.proofs.RightSideViews.{view_row, view_one_of, view_maybe, view_star, view_plus}
use Rattle.lfg_templates.specs.Depth.{AllLead}
use Rattle.lfg_templates.proofs.Measures.{In_item}

-- ---- one right side

side_at : (ts : List TemplateForm) (s s' r r' : RightSide) → s ≡ s' → r ≡ r' → SideBecomes ts s' r' → SideBecomes ts s r
side_at ts s s' r r' e f h = subst (λ (x : RightSide). SideBecomes ts x r) (sym e) (subst (λ (x : RightSide). SideBecomes ts s' x) (sym f) h)

module _ (ts : List TemplateForm) where
  pub becomes_bare : (cat name : Name) (schemata : Option (Vec (Schema PathExpr) Global)) (r : Rhs) → schemata ≡ None → name ≡ cat → right_side_of r ≡ item name None
      → SideBecomes ts (item cat (option_map (λ v. draft_annotation_of v.items) schemata)) (right_side_of r)
  becomes_bare cat name schemata r e f m = side_at ts _ _ _ _ (ap (λ (o : Option (Vec (Schema PathExpr) Global)). item cat (option_map (λ v. draft_annotation_of v.items) o)) e) (m ∙ ap (λ (n : Name). item n None) f) bare

  pub becomes_annotated : (cat name : Name) (schemata : Option (Vec (Schema PathExpr) Global)) (v : Vec (Schema PathExpr) Global) (out : List (Schema PathExpr)) (r : Rhs) → schemata ≡ Some v → name ≡ cat → right_side_of r ≡ item name (Some (draft_annotation_of out))
      → AllBecome ts unbound (draft_annotation_of v.items) (map draft_schema_of out) → SideBecomes ts (item cat (option_map (λ v. draft_annotation_of v.items) schemata)) (right_side_of r)
  becomes_annotated cat name schemata v out r e f m h = side_at ts _ _ _ _ (ap (λ (o : Option (Vec (Schema PathExpr) Global)). item cat (option_map (λ v. draft_annotation_of v.items) o)) e) (m ∙ ap (λ (n : Name). item n (Some (draft_annotation_of out))) f) (annotated h)

  pub becomes_row : (s r : Rhs) (parts : _) (out : List Rhs) → s ≡ written.Row parts → right_side_of r ≡ row (right_sides_of out) → SidesBecome ts (right_sides_of parts.items) (right_sides_of out) → SideBecomes ts (right_side_of s) (right_side_of r)
  becomes_row s r parts out e m h = side_at ts _ _ _ _ (ap right_side_of e ∙ view_row parts) m (in_row h)

  pub becomes_one_of : (s r : Rhs) (branches : _) (out : List Rhs) → s ≡ written.OneOf branches → right_side_of r ≡ one_of (right_sides_of out) → SidesBecome ts (right_sides_of branches.items) (right_sides_of out) → SideBecomes ts (right_side_of s) (right_side_of r)
  becomes_one_of s r branches out e m h = side_at ts _ _ _ _ (ap right_side_of e ∙ view_one_of branches) m (in_branches h)

  pub becomes_maybe : (s : Rhs) (inside : _) (out : Rhs) (result : Result Rhs AllocError) → s ≡ written.Maybe inside → IfOk result (λ r. right_side_of r ≡ optional (right_side_of out)) → SideBecomes ts (right_side_of inside.value) (right_side_of out)
      → IfOk result (λ r. SideBecomes ts (right_side_of s) (right_side_of r))
  becomes_maybe s inside out result e m h = IfOk-weaker result (λ r. right_side_of r ≡ optional (right_side_of out)) (λ r. SideBecomes ts (right_side_of s) (right_side_of r)) (λ r g. side_at ts _ _ _ _ (ap right_side_of e ∙ view_maybe inside) g (in_option h)) m

  pub becomes_star : (s : Rhs) (inside : _) (out : Rhs) (result : Result Rhs AllocError) → s ≡ written.Star inside → IfOk result (λ r. right_side_of r ≡ star (right_side_of out)) → SideBecomes ts (right_side_of inside.value) (right_side_of out)
      → IfOk result (λ r. SideBecomes ts (right_side_of s) (right_side_of r))
  becomes_star s inside out result e m h = IfOk-weaker result (λ r. right_side_of r ≡ star (right_side_of out)) (λ r. SideBecomes ts (right_side_of s) (right_side_of r)) (λ r g. side_at ts _ _ _ _ (ap right_side_of e ∙ view_star inside) g (in_star h)) m

  pub becomes_plus : (s : Rhs) (inside : _) (out : Rhs) (result : Result Rhs AllocError) → s ≡ written.Plus inside → IfOk result (λ r. right_side_of r ≡ plus (right_side_of out)) → SideBecomes ts (right_side_of inside.value) (right_side_of out)
      → IfOk result (λ r. SideBecomes ts (right_side_of s) (right_side_of r))
  becomes_plus s inside out result e m h = IfOk-weaker result (λ r. right_side_of r ≡ plus (right_side_of out)) (λ r. SideBecomes ts (right_side_of s) (right_side_of r)) (λ r g. side_at ts _ _ _ _ (ap right_side_of e ∙ view_plus inside) g (in_plus h)) m

  -- ---- one more at the end

  sides_push : (xs : List RightSide) (x : RightSide) (ys : List RightSide) (y : RightSide) → SidesBecome ts (right_sides_from xs) (right_sides_from ys) → SideBecomes ts x y → SidesBecome ts (right_sides_from (xs ++ x ∷ [])) (right_sides_from (ys ++ y ∷ []))
  sides_push [] x [] y h n = part_more n no_part
  sides_push [] x (z ∷ ys) y h n = absurd (elim h [ ])
  sides_push (w ∷ xs) x [] y h n = absurd (elim h [ ])
  sides_push (w ∷ xs) x (z ∷ ys) y (part_more f r) n = part_more f (sides_push xs x ys y r n)

  pub sides_more : (xs : List Rhs) (i : ℕ) (x : Rhs) (out : List Rhs) (y : Rhs) (whole : List Rhs) → i < length xs → x ≡ get_or xs i x → whole ≡ out ++ y ∷ [] → SidesBecome ts (right_sides_of (take i xs)) (right_sides_of out) → SideBecomes ts (right_side_of x) (right_side_of y)
      → SidesBecome ts (right_sides_of (take (i + 1) xs)) (right_sides_of whole)
  sides_more xs i x out y whole l e w h n =
      subst (λ (o : List Rhs). SidesBecome ts (right_sides_of (take (i + 1) xs)) (right_sides_of o)) (sym w)
      (subst (λ (o : List RightSide). SidesBecome ts (right_sides_of (take (i + 1) xs)) (right_sides_from o)) (sym (map-append right_side_of out (y ∷ [])))
      (subst (λ (a : List RightSide). SidesBecome ts (right_sides_from a) (right_sides_from (map right_side_of out ++ right_side_of y ∷ [])))
      (sym (map-append right_side_of (take i xs) (x ∷ [])) ∙ ap (map right_side_of) (sym (take_more xs i x l ∙ ap (λ (z : Rhs). take i xs ++ z ∷ []) (sym e))))
      (sides_push (map right_side_of (take i xs)) (right_side_of x) (map right_side_of out) (right_side_of y) h n)))

-- ---- the calls in parts

part_calls : (s : Rhs) (ss : List Rhs) (c : Call) → In s ss → In c (side_calls (right_side_of s)) → In c (sides_calls (right_sides_of ss))
part_calls s _ c (here {xs}) i = In-append_left (sides_calls (right_sides_of xs)) i
part_calls s _ c (later {y} {xs} h) i = In-append_right (side_calls (right_side_of y)) (part_calls s xs c h i)

pub part_leads : (ts : List TemplateForm) (d : ℕ) (ss : List Rhs) (i : ℕ) (s : Rhs) → i < length ss → s ≡ get_or ss i s → AllLead ts d (sides_calls (right_sides_of ss)) → AllLead ts d (side_calls (right_side_of s))
part_leads ts d ss i s l e h = λ c k. h c (part_calls s ss c (In_item ss i s s l e) k)

pub leads_at : (ts : List TemplateForm) (d : ℕ) (s s' : RightSide) → s ≡ s' → AllLead ts d (side_calls s) → AllLead ts d (side_calls s')
leads_at ts d s s' e h = subst (λ (x : RightSide). AllLead ts d (side_calls x)) e h

pub some_leads : (ts : List TemplateForm) (d : ℕ) (schemata : Option (Vec (Schema PathExpr) Global)) (v : Vec (Schema PathExpr) Global) → schemata ≡ Some v → AllLead ts d (option_calls (option_map (λ x. draft_annotation_of x.items) schemata)) → AllLead ts d (calls (draft_annotation_of v.items))
some_leads ts d schemata v e h = subst (λ (o : Option (Vec (Schema PathExpr) Global)). AllLead ts d (option_calls (option_map (λ x. draft_annotation_of x.items) o))) e h
