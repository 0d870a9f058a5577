-- The counts as sums.
use Rattle.std.proofs.Common.{◌≡◌, ℕ, zero, suc, ◌<◌, ◌+◌, ◌-◌, Some, None, List, [], ◌∷◌, ◌++◌, length, map, take, drop, get_or, Vec, Global, refl, sym, ap, ◌∙◌, arith}
use Rattle.std.proofs.lemmas.List.{take_more}
use Rattle.lfg_terms.specs.declared.draft.Rhs.{Rhs}
use Rattle.lfg_terms.specs.declared.grammar.Schema.{Schema}
use Rattle.lfg_terms.specs.declared.grammar.Schema.TheVariants as written
use Rattle.lfg_terms.specs.declared.path_expr.PathExpr.{PathExpr}
use Rattle.lfg_model.specs.Terms.{Name}
use Rattle.lfg_model.specs.RightSides.{draft_branches_from, draft_schema_of, draft_annotation_of, right_side_of, right_sides_of}
use Rattle.lfg_model.specs.DraftForms.{TemplateForm}
use Rattle.lfg_model.specs.Templates.{template_named}
use Rattle.lfg_model.proofs.RightSideViews.{view_either, view_call}
use Rattle.lfg_templates.specs.Counts.{Counter, one_count, all_count, branches_count, body_count, call_count, side_count, sides_count, summed}

pub summed_append : {X : Type 0} (f : X → ℕ) (xs ys : List X) → summed f (xs ++ ys) ≡ summed f xs + summed f ys
summed_append f [] ys = omega arith
summed_append f (x ∷ xs) ys = let r = summed_append f xs ys in omega arith

pub summed_more : {X : Type 0} (f : X → ℕ) (xs : List X) (i : ℕ) (x : X) → i < length xs → x ≡ get_or xs i x → summed f (take (i + 1) xs) ≡ summed f (take i xs) + f x
summed_more {X} f xs i x l e =
    let a = summed_append f (take i xs) (x ∷ []) in
    let b : summed f (take (i + 1) xs) ≡ summed f (take i xs ++ x ∷ []) = ap (summed f) (take_more xs i x l ∙ ap (λ (y : X). take i xs ++ y ∷ []) (sym e)) in
    omega arith

-- what is taken, and the others
pub summed_split : {X : Type 0} (f : X → ℕ) (xs : List X) (i : ℕ) → summed f (take i xs) + summed f (drop i xs) ≡ summed f xs
summed_split f xs zero = omega arith
summed_split f [] (suc i) = omega arith
summed_split f (x ∷ xs) (suc i) = let r = summed_split f xs i in omega arith

pub all_summed : (run : Counter) (ss : List (Schema PathExpr)) → all_count run (draft_annotation_of ss) ≡ summed (λ s. one_count run (draft_schema_of s)) ss
all_summed run [] = refl
all_summed run (s ∷ ss) = ap (λ (n : ℕ). one_count run (draft_schema_of s) + n) (all_summed run ss)

pub branches_summed : (run : Counter) (bs : List (Vec (Schema PathExpr) Global)) → branches_count run (draft_branches_from (map (λ b. draft_annotation_of b.items) bs)) ≡ summed (λ b. all_count run (draft_annotation_of b.items)) bs
branches_summed run [] = refl
branches_summed run (b ∷ bs) = ap (λ (n : ℕ). all_count run (draft_annotation_of b.items) + n) (branches_summed run bs)

pub sides_summed : (run : Counter) (ss : List Rhs) → sides_count run (right_sides_of ss) ≡ summed (λ s. side_count run (right_side_of s)) ss
sides_summed run [] = refl
sides_summed run (s ∷ ss) = ap (λ (n : ℕ). side_count run (right_side_of s) + n) (sides_summed run ss)

-- ---- one schema

pub count_either : (run : Counter) (s : Schema PathExpr) (branches : _) (bs : List (Vec (Schema PathExpr) Global)) → s ≡ written.Either branches → bs ≡ branches.items → one_count run (draft_schema_of s) ≡ suc (summed (λ b. all_count run (draft_annotation_of b.items)) bs)
count_either run s branches bs e f = ap (one_count run) (ap draft_schema_of e ∙ view_either branches) ∙ ap suc (branches_summed run branches.items ∙ ap (λ (xs : List (Vec (Schema PathExpr) Global)). summed (λ b. all_count run (draft_annotation_of b.items)) xs) (sym f))

pub count_called : (run : Counter) (s : Schema PathExpr) (name : Name) (args : List Name) → s ≡ written.Call name args → one_count run (draft_schema_of s) ≡ run name
count_called run s name args e = ap (one_count run) (ap draft_schema_of e ∙ view_call name args)

pub call_none : (ts : List TemplateForm) (d : ℕ) (n : Name) → template_named ts n ≡ None → call_count ts d n ≡ 0
unfolding call_count
call_none ts zero n e = refl
call_none ts (suc d) n e = ap (body_count (call_count ts d)) e

pub call_zero : (ts : List TemplateForm) (d : ℕ) (n : Name) → d ≡ 0 → call_count ts d n ≡ 0
unfolding call_count
call_zero ts zero n e = refl
call_zero ts (suc d) n e = absurd (let no : ⊥ = omega arith in no)

pub call_some : (ts : List TemplateForm) (d : ℕ) (n : Name) (t : TemplateForm) → 0 < d → template_named ts n ≡ Some t → call_count ts d n ≡ all_count (call_count ts (d - 1)) t.body
unfolding call_count
call_some ts zero n t l f = absurd (let no : ⊥ = omega arith in no)
call_some ts (suc d) n t l f = ap (body_count (call_count ts d)) f ∙ ap (λ (j : ℕ). all_count (call_count ts j) t.body) (let h : d ≡ suc d - 1 = omega arith in h)
