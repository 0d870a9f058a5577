-- Lists of paths, as the loops gather them.
use Rattle.std.proofs.Common.{◌≡◌, ℕ, List, [], ◌∷◌, ◌++◌, map, Vec, Global, refl, sym, ap, ◌∙◌}
use Rattle.std.proofs.lemmas.List.{map-append}
use Rattle.std.proofs.lemmas.Grind.{flat_map-append}
use Rattle.std.specs.List.{flat_map}
use Rattle.lfg_terms.specs.declared.draft.Rhs.{Rhs}
use Rattle.lfg_terms.specs.declared.grammar.Schema.{Schema}
use Rattle.lfg_terms.specs.declared.grammar.Schema.TheVariants as written
use Rattle.lfg_terms.specs.declared.path_expr.PathExpr.{PathExpr}
use Rattle.lfg_model.specs.Loads.{PathAt, all_items_of, annotation_paths, branches_paths, item_paths, items_of, path_at, schema_paths}
use Rattle.lfg_model.specs.RightSides.{DraftSchema, draft_annotation_of, draft_branches_from, draft_schema_of, right_side_of, right_sides_of}
use Rattle.lfg_model.proofs.RightSideViews.{view_either}

pub paths_flat : (entry : ℕ) (ss : List (Schema PathExpr)) → map (path_at entry) (annotation_paths (draft_annotation_of ss)) ≡ flat_map (λ s. map (path_at entry) (schema_paths (draft_schema_of s))) ss
paths_flat entry [] = refl
paths_flat entry (s ∷ ss) = map-append (path_at entry) (schema_paths (draft_schema_of s)) (annotation_paths (draft_annotation_of ss)) ∙ ap (λ (zs : List PathAt). map (path_at entry) (schema_paths (draft_schema_of s)) ++ zs) (paths_flat entry ss)

branches_flat : (entry : ℕ) (bs : List (Vec (Schema PathExpr) Global)) → map (path_at entry) (branches_paths (draft_branches_from (map (λ b. draft_annotation_of b.items) bs))) ≡ flat_map (λ b. map (path_at entry) (annotation_paths (draft_annotation_of b.items))) bs
branches_flat entry [] = refl
branches_flat entry (b ∷ bs) = map-append (path_at entry) (annotation_paths (draft_annotation_of b.items)) (branches_paths (draft_branches_from (map (λ b. draft_annotation_of b.items) bs))) ∙ ap (λ (zs : List PathAt). map (path_at entry) (annotation_paths (draft_annotation_of b.items)) ++ zs) (branches_flat entry bs)

pub either_flat : (entry : ℕ) (s : Schema PathExpr) (branches : _) (bs : List (Vec (Schema PathExpr) Global)) → s ≡ written.Either branches → bs ≡ branches.items → map (path_at entry) (schema_paths (draft_schema_of s)) ≡ flat_map (λ b. map (path_at entry) (annotation_paths (draft_annotation_of b.items))) bs
either_flat entry s branches bs e f =
    ap (λ (x : DraftSchema). map (path_at entry) (schema_paths x)) (ap draft_schema_of e ∙ view_either branches) ∙ branches_flat entry branches.items
    ∙ ap (λ (xs : List (Vec (Schema PathExpr) Global)). flat_map (λ b. map (path_at entry) (annotation_paths (draft_annotation_of b.items))) xs) (sym f)

pub sides_flat : (entry : ℕ) (ss : List Rhs) → map (path_at entry) (flat_map item_paths (all_items_of (right_sides_of ss))) ≡ flat_map (λ s. map (path_at entry) (flat_map item_paths (items_of (right_side_of s)))) ss
sides_flat entry [] = refl
sides_flat entry (s ∷ ss) =
    ap (map (path_at entry)) (flat_map-append item_paths (items_of (right_side_of s)) (all_items_of (right_sides_of ss)))
    ∙ map-append (path_at entry) (flat_map item_paths (items_of (right_side_of s))) (flat_map item_paths (all_items_of (right_sides_of ss)))
    ∙ ap (λ (zs : List PathAt). map (path_at entry) (flat_map item_paths (items_of (right_side_of s))) ++ zs) (sides_flat entry ss)
