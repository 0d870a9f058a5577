-- The plain form of each variant of a right side, and of a schema as it is written.
use Rattle.std.proofs.Common.{◌≡◌, Bool, List, [], ◌∷◌, Option, Vec, Global, map, refl, sym, ap, ◌∙◌}
use Rattle.std.specs.Option.{option_map}
use Rattle.std.specs.formers.vec.Vec.{mapped}
use mathlib.Core.Former.{this}
use Rattle.lfg_terms.specs.declared.grammar.Des.{Des}
use Rattle.lfg_terms.specs.declared.grammar.Val.{Val}
use Rattle.lfg_terms.specs.declared.grammar.Schema.{Schema}
use Rattle.lfg_terms.specs.declared.grammar.Schema.TheVariants as written
use Rattle.lfg_terms.specs.declared.grammar.Schema.TheVariants.{rolls-Define, rolls-Constrain, rolls-Exists, rolls-Member, rolls-Mark, rolls-Either, rolls-Call}
use Rattle.lfg_terms.specs.declared.grammar.Schema.TheOpen as schema_layer
use Rattle.lfg_terms.specs.declared.grammar.Schema.TheFolds.{fold-Schema, fold-roll-Schema}
use Rattle.lfg_terms.specs.declared.path_expr.PathExpr.{PathExpr}
use Rattle.lfg_terms.specs.declared.draft.Rhs.TheVariants.{Item, Row, OneOf, Maybe, Star, Plus, rolls-Item, rolls-Row, rolls-OneOf, rolls-Maybe, rolls-Star, rolls-Plus}
use Rattle.lfg_terms.specs.declared.draft.Rhs.TheOpen as layer
use Rattle.lfg_terms.specs.declared.draft.Rhs.TheFolds.{fold-roll-Rhs}
use Rattle.lfg_model.specs.Terms.{Name}
use Rattle.lfg_model.specs.RightSides.{DraftSchema, define, constrain, exists, member, mark, either, maybe, call, DraftAnnotation, draft_annotation_from, draft_branches_from, draft_des_of, draft_val_of, draft_schema_step, draft_schema_of, draft_annotation_of, RightSide, item, row, one_of, optional, star, plus, right_side_step, right_side_of, right_sides_of}

-- ---- schemata

pub view_define : (left : Des PathExpr) (right : Val PathExpr) → draft_schema_of (written.Define left right) ≡ define (draft_des_of left) (draft_val_of right)
view_define left right = ap draft_schema_of (sym (rolls-Define left right)) ∙ fold-roll-Schema PathExpr DraftSchema draft_schema_step (schema_layer.Define left right)

pub view_constrain : (negated : Bool) (left : Des PathExpr) (right : Val PathExpr) → draft_schema_of (written.Constrain negated left right) ≡ constrain negated (draft_des_of left) (draft_val_of right)
view_constrain negated left right = ap draft_schema_of (sym (rolls-Constrain negated left right)) ∙ fold-roll-Schema PathExpr DraftSchema draft_schema_step (schema_layer.Constrain negated left right)

pub view_exists : (negated : Bool) (left : Des PathExpr) → draft_schema_of (written.Exists negated left) ≡ exists negated (draft_des_of left)
view_exists negated left = ap draft_schema_of (sym (rolls-Exists negated left)) ∙ fold-roll-Schema PathExpr DraftSchema draft_schema_step (schema_layer.Exists negated left)

pub view_member : (it set : Des PathExpr) → draft_schema_of (written.Member it set) ≡ member (draft_des_of it) (draft_des_of set)
view_member it set = ap draft_schema_of (sym (rolls-Member it set)) ∙ fold-roll-Schema PathExpr DraftSchema draft_schema_step (schema_layer.Member it set)

pub view_mark : (name : Name) → draft_schema_of (written.Mark name) ≡ mark name
view_mark name = ap draft_schema_of (sym (rolls-Mark name)) ∙ fold-roll-Schema PathExpr DraftSchema draft_schema_step (schema_layer.Mark name)

fused : (bs : List (Vec (Schema PathExpr) Global))
    → map (λ b. draft_annotation_from b.items) (map (mapped {H = Global} ((this {0}).map (Schema PathExpr) DraftSchema (fold-Schema PathExpr DraftSchema draft_schema_step))) bs)
    ≡ map (λ b. draft_annotation_of b.items) bs
fused [] = refl
fused (b ∷ bs) = ap (λ (rs : List DraftAnnotation). draft_annotation_of b.items ∷ rs) (fused bs)

pub view_either : (branches : _) → draft_schema_of (written.Either branches) ≡ either (draft_branches_from (map (λ b. draft_annotation_of b.items) branches.items))
view_either branches =
    ap draft_schema_of (sym (rolls-Either branches)) ∙ fold-roll-Schema PathExpr DraftSchema draft_schema_step (schema_layer.Either branches)
    ∙ ap (λ (rs : List DraftAnnotation). either (draft_branches_from rs)) (fused branches.items)

pub view_option : (schemata : _) → draft_schema_of (written.Maybe schemata) ≡ maybe (draft_annotation_of schemata.items)
view_option schemata = ap draft_schema_of (sym (written.rolls-Maybe schemata)) ∙ fold-roll-Schema PathExpr DraftSchema draft_schema_step (schema_layer.Maybe schemata)

pub view_call : (name : Name) (args : List Name) → draft_schema_of (written.Call name args) ≡ call name args
view_call name args = ap draft_schema_of (sym (rolls-Call name args)) ∙ fold-roll-Schema PathExpr DraftSchema draft_schema_step (schema_layer.Call name args)

-- ---- right sides

pub view_item : (cat : Name) (schemata : Option (Vec (Schema PathExpr) Global)) → right_side_of (Item cat schemata) ≡ item cat (option_map (λ v. draft_annotation_of v.items) schemata)
view_item cat schemata = ap right_side_of (sym (rolls-Item cat schemata)) ∙ fold-roll-Rhs RightSide right_side_step (layer.Item cat schemata)

pub view_row : (parts : _) → right_side_of (Row parts) ≡ row (right_sides_of parts.items)
view_row parts = ap right_side_of (sym (rolls-Row parts)) ∙ fold-roll-Rhs RightSide right_side_step (layer.Row parts)

pub view_one_of : (branches : _) → right_side_of (OneOf branches) ≡ one_of (right_sides_of branches.items)
view_one_of branches = ap right_side_of (sym (rolls-OneOf branches)) ∙ fold-roll-Rhs RightSide right_side_step (layer.OneOf branches)

pub view_maybe : (inside : _) → right_side_of (Maybe inside) ≡ optional (right_side_of inside.value)
view_maybe inside = ap right_side_of (sym (rolls-Maybe inside)) ∙ fold-roll-Rhs RightSide right_side_step (layer.Maybe inside)

pub view_star : (inside : _) → right_side_of (Star inside) ≡ star (right_side_of inside.value)
view_star inside = ap right_side_of (sym (rolls-Star inside)) ∙ fold-roll-Rhs RightSide right_side_step (layer.Star inside)

pub view_plus : (inside : _) → right_side_of (Plus inside) ≡ plus (right_side_of inside.value)
view_plus inside = ap right_side_of (sym (rolls-Plus inside)) ∙ fold-roll-Rhs RightSide right_side_step (layer.Plus inside)
