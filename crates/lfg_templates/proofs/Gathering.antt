-- Lists of calls, as the loops gather them.
use Rattle.std.proofs.Common.{◌≡◌, ℕ, ◌≤◌, List, [], ◌∷◌, ◌++◌, length, map, take, Vec, Global, refl, sym, ap, ◌∙◌}
use Rattle.std.proofs.lemmas.List.{take_all, map-append}
use Rattle.std.specs.List.{flat_map}
use Rattle.lfg_terms.specs.declared.draft.Rhs.{Rhs}
use Rattle.lfg_terms.specs.declared.grammar.Schema.{Schema}
use Rattle.lfg_terms.specs.declared.grammar.Schema.TheVariants as written
use Rattle.lfg_terms.specs.declared.path_expr.PathExpr.{PathExpr}
use Rattle.lfg_model.specs.Terms.{Name}
use Rattle.lfg_model.specs.RightSides.{DraftSchema, draft_branches_from, draft_schema_of, draft_annotation_of, right_side_of, right_sides_of}
use Rattle.lfg_model.proofs.RightSideViews.{view_either, view_call}
use Rattle.lfg_model.specs.TemplateRules.{CallAt, call_at, schema_calls, calls, branches_calls, side_calls, sides_calls}

pub flat_map-map : {X Y Z : Type 0} (f : Y → List Z) (g : X → Y) (xs : List X) → flat_map f (map g xs) ≡ flat_map (λ x. f (g x)) xs
flat_map-map f g [] = refl
flat_map-map f g (x ∷ xs) = ap (λ zs. f (g x) ++ zs) (flat_map-map f g xs)

-- all, where a loop ends
pub gathered : {X Y : Type 0} (f : X → List Y) (xs : List X) (i : ℕ) (start now whole : List Y) → length xs ≤ i → whole ≡ flat_map f xs → now ≡ start ++ flat_map f (take i xs) → now ≡ start ++ whole
gathered {X} {Y} f xs i start now whole l e h = h ∙ ap (λ (ys : List X). start ++ flat_map f ys) (take_all i xs l) ∙ ap (λ (zs : List Y). start ++ zs) (sym e)

pub calls_flat : (entry : ℕ) (ss : List (Schema PathExpr)) → map (call_at entry) (calls (draft_annotation_of ss)) ≡ flat_map (λ s. map (call_at entry) (schema_calls (draft_schema_of s))) ss
calls_flat entry [] = refl
calls_flat entry (s ∷ ss) = map-append (call_at entry) (schema_calls (draft_schema_of s)) (calls (draft_annotation_of ss)) ∙ ap (λ (zs : List CallAt). map (call_at entry) (schema_calls (draft_schema_of s)) ++ zs) (calls_flat entry ss)

pub branches_flat : (entry : ℕ) (bs : List (Vec (Schema PathExpr) Global)) → map (call_at entry) (branches_calls (draft_branches_from (map (λ b. draft_annotation_of b.items) bs))) ≡ flat_map (λ b. map (call_at entry) (calls (draft_annotation_of b.items))) bs
branches_flat entry [] = refl
branches_flat entry (b ∷ bs) = map-append (call_at entry) (calls (draft_annotation_of b.items)) (branches_calls (draft_branches_from (map (λ b. draft_annotation_of b.items) bs))) ∙ ap (λ (zs : List CallAt). map (call_at entry) (calls (draft_annotation_of b.items)) ++ zs) (branches_flat entry bs)

pub sides_flat : (entry : ℕ) (ss : List Rhs) → map (call_at entry) (sides_calls (right_sides_of ss)) ≡ flat_map (λ s. map (call_at entry) (side_calls (right_side_of s))) ss
sides_flat entry [] = refl
sides_flat entry (s ∷ ss) = map-append (call_at entry) (side_calls (right_side_of s)) (sides_calls (right_sides_of ss)) ∙ ap (λ (zs : List CallAt). map (call_at entry) (side_calls (right_side_of s)) ++ zs) (sides_flat entry ss)

pub either_flat : (entry : ℕ) (s : Schema PathExpr) (branches : _) (bs : List (Vec (Schema PathExpr) Global)) → s ≡ written.Either branches → bs ≡ branches.items → map (call_at entry) (schema_calls (draft_schema_of s)) ≡ flat_map (λ b. map (call_at entry) (calls (draft_annotation_of b.items))) bs
either_flat entry s branches bs e f =
    ap (λ (x : DraftSchema). map (call_at entry) (schema_calls x)) (ap draft_schema_of e ∙ view_either branches) ∙ branches_flat entry branches.items
    ∙ ap (λ (xs : List (Vec (Schema PathExpr) Global)). flat_map (λ b. map (call_at entry) (calls (draft_annotation_of b.items))) xs) (sym f)

pub call_alone : (entry : ℕ) (s : Schema PathExpr) (name : Name) (args : List Name) → s ≡ written.Call name args → map (call_at entry) (schema_calls (draft_schema_of s)) ≡ record { entry = entry; call = record { name = name; args = args } } ∷ []
call_alone entry s name args e = ap (λ (x : DraftSchema). map (call_at entry) (schema_calls x)) (ap draft_schema_of e ∙ view_call name args)
