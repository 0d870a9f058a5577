-- Words and rules, as the loops load them.
use Rattle.std.proofs.Common.{◌≡◌, ℕ, ◌+◌, ◌<◌, List, [], ◌∷◌, ◌++◌, length, map, take, get_or, refl, sym, ap, ◌∙◌, subst}
use Rattle.std.specs.List.{flat_map}
use Rattle.std.proofs.lemmas.List.{take_more, map-append}
use Rattle.lfg_terms.specs.declared.draft.DraftRule.{DraftRule}
use Rattle.lfg_terms.specs.declared.draft.LexEntry.{LexEntry}
use Rattle.lfg_regpath.specs.declared.fault.PathFault.{PathFault}
use Rattle.lfg_model.specs.DraftForms.{RuleForm, rule_form, WordForm, word_form}
use Rattle.lfg_model.specs.Lists.{In, here, later}
use Rattle.lfg_model.specs.Loads.{PathAt, path_at, annotation_paths, item_paths, items_of, rule_paths, word_paths}
use Rattle.lfg_model.specs.PathExpressions.{PathExpression}
use Rattle.lfg_model.specs.RightSides.{draft_annotation_of, right_side_of}
use Rattle.lfg_model.specs.Templates.{Each, end, and}
use Rattle.lfg_model.proofs.ListLaws.{In-map, In_from_map, In-flat_map}
use Rattle.lfg_grammar.specs.Answers.{FailsIn, path_of_entry}
use Rattle.lfg_grammar.proofs.Fails.{fails_more}

pub each_push : {X Y : Type 0} {R : X → Y → Type 0} {xs : List X} {ys : List Y} {x : X} {y : Y} → Each R xs ys → R x y → Each R (xs ++ x ∷ []) (ys ++ y ∷ [])
each_push end h = and h end
each_push (and r g) h = and r (each_push g h)

-- one more of a list is related to one more behind the others
pub each_more : {X Y P : Type 0} (R : P → Y → Type 0) (f : X → P) (xs : List X) (i : ℕ) (x : X) (out : List Y) (y : Y) (whole : List Y) → i < length xs → x ≡ get_or xs i x → whole ≡ out ++ y ∷ []
    → Each R (map f (take i xs)) out → R (f x) y → Each R (map f (take (i + 1) xs)) whole
each_more {X} {Y} {P} R f xs i x out y whole l e w h r =
    let more : map f (take (i + 1) xs) ≡ map f (take i xs) ++ f x ∷ [] = ap (map f) (take_more xs i x l ∙ ap (λ (z : X). take i xs ++ z ∷ []) (sym e)) ∙ map-append f (take i xs) (x ∷ []) in
    subst (λ (o : List Y). Each R (map f (take (i + 1) xs)) o) (sym w) (subst (λ (ps : List P). Each R ps (out ++ y ∷ [])) (sym more) (each_push h r))

path_again : (n : ℕ) (p : PathExpression) (ps : List PathExpression) → In p ps → In p (map path_of_entry (map (path_at n) ps))
path_again n p _ here = here
path_again n p _ (later {xs} h) = later (path_again n p xs h)

paths_of : (f : WordForm → List PathAt) (ws : List WordForm) (w : WordForm) (p : PathExpression) → In w ws → In p (map path_of_entry (f w)) → In p (map path_of_entry (flat_map f ws))
paths_of f ws w p i j = let r = In_from_map path_of_entry (f w) j in subst (λ (q : PathExpression). In q (map path_of_entry (flat_map f ws))) r.2 (In-map path_of_entry (In-flat_map f i r.1))

pub word_fails : (depth : ℕ) (ws : List LexEntry) (w : LexEntry) (f : PathFault) → In w ws → FailsIn depth (annotation_paths (draft_annotation_of w.schemata)) f → FailsIn depth (map path_of_entry (flat_map word_paths (map word_form ws))) f
word_fails depth ws w f i b =
    fails_more depth (annotation_paths (draft_annotation_of w.schemata)) (map path_of_entry (flat_map word_paths (map word_form ws))) f
    (λ p j. paths_of word_paths (map word_form ws) (word_form w) p (In-map word_form i) (path_again w.entry p (annotation_paths (draft_annotation_of w.schemata)) j)) b

-- ---- rules

rule_path : (r : RuleForm) (p : PathExpression) → In p (flat_map item_paths (items_of r.side)) → In p (map path_of_entry (rule_paths r))
rule_path r p j = path_again r.entry p (flat_map item_paths (items_of r.side)) j

rule_again : (f : RuleForm → List PathAt) (rs : List RuleForm) (r : RuleForm) (p : PathExpression) → In r rs → In p (map path_of_entry (f r)) → In p (map path_of_entry (flat_map f rs))
rule_again f rs r p i j = let g = In_from_map path_of_entry (f r) j in subst (λ (q : PathExpression). In q (map path_of_entry (flat_map f rs))) g.2 (In-map path_of_entry (In-flat_map f i g.1))

pub rule_fails : (depth : ℕ) (rs : List DraftRule) (r : DraftRule) (f : PathFault) → In r rs → FailsIn depth (flat_map item_paths (items_of (right_side_of r.rhs))) f → FailsIn depth (map path_of_entry (flat_map rule_paths (map rule_form rs))) f
rule_fails depth rs r f i b =
    fails_more depth (flat_map item_paths (items_of (right_side_of r.rhs))) (map path_of_entry (flat_map rule_paths (map rule_form rs))) f
    (λ p j. rule_again rule_paths (map rule_form rs) (rule_form r) p (In-map rule_form i) (rule_path (rule_form r) p j)) b
