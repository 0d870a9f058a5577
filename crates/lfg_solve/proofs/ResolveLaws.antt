-- What a taken option and a taken branch give.
use Rattle.std.proofs.Common.{◌≡◌, ℕ, ◌+◌, ◌^◌, ◌<◌, List, ◌∷◌, ◌++◌, length, take, sym, ap, ◌∙◌, subst, arith}
use Rattle.std.proofs.lemmas.List.{append-nil}
use Rattle.lfg_terms.specs.declared.literal.Literal.{Literal}
use Rattle.lfg_model.specs.Terms.{Schema, maybe, either, Annotation, Branches, no_branch, or_branch}
use Rattle.lfg_model.specs.Places.{places, form_count, schema_forms, branch_forms}
use Rattle.lfg_model.specs.Resolve.{Instance, resolved, schema_literals, branch_literals}

pub option_taken : (it : Instance) (s : Schema) (inside : Annotation) (picks rest : List ℕ) (k index : ℕ) (old new : List Literal)
    → s ≡ maybe inside → picks ≡ k ∷ rest → k ≡ 0 → (index + form_count inside < 2 ^ 32 → new ≡ old ++ resolved it inside rest index)
    → index + schema_forms s < 2 ^ 32 → new ≡ old ++ schema_literals it s picks index
option_taken it s inside picks rest k index old new e f z written fits =
    let same : schema_literals it s picks index ≡ resolved it inside rest index = λ i. schema_literals it (e i) ((f ∙ ap (λ n. n ∷ rest) z) i) index in
    written (subst (λ (x : Schema). index + schema_forms x < 2 ^ 32) e fits) ∙ ap (λ xs. old ++ xs) (sym same)

pub branch_taken : (it : Instance) (s : Schema) (all : Branches) (k : ℕ) (picks others : List ℕ) (index : ℕ) (old : List Literal)
    (left : Branches) (b : Annotation) (bs : Branches) (before : ℕ) (rest own : List ℕ) (next : ℕ) (now new : List Literal)
    → s ≡ either all → picks ≡ k ∷ others
    → (index + branch_forms all < 2 ^ 32 → (next + branch_forms left ≡ index + branch_forms all) × (now ++ branch_literals it left before rest next ≡ old ++ branch_literals it all k others index))
    → left ≡ or_branch b bs → before ≡ 0 → own ≡ take (length (places b)) rest → (next + form_count b < 2 ^ 32 → new ≡ now ++ resolved it b own next)
    → index + schema_forms s < 2 ^ 32 → new ≡ old ++ schema_literals it s picks index
branch_taken it s all k picks others index old left b bs before rest own next now new e f kept l z o written fits =
    let p : index + branch_forms all < 2 ^ 32 = subst (λ (x : Schema). index + schema_forms x < 2 ^ 32) e fits in
    let v = kept p in
    let here : form_count b + branch_forms bs ≡ branch_forms left = ap branch_forms (sym l) in
    let fit : next + form_count b < 2 ^ 32 = omega (arith, here, v.0) in
    let taken : branch_literals it left before rest next ≡ resolved it b own next =
    (λ i. branch_literals it (l i) (z i) rest next) ∙ ap (λ xs. resolved it b xs next) (sym o) in
    let same : schema_literals it s picks index ≡ branch_literals it all k others index = λ j. schema_literals it (e j) (f j) index in
    written fit ∙ ap (λ xs. now ++ xs) (sym taken) ∙ v.1 ∙ ap (λ xs. old ++ xs) (sym same)

-- no branch has the number that is picked
pub branches_past : (it : Instance) (s : Schema) (all : Branches) (k : ℕ) (picks others : List ℕ) (index : ℕ) (old : List Literal)
    (left : Branches) (before : ℕ) (rest : List ℕ) (next : ℕ) (now : List Literal)
    → s ≡ either all → picks ≡ k ∷ others
    → (index + branch_forms all < 2 ^ 32 → (next + branch_forms left ≡ index + branch_forms all) × (now ++ branch_literals it left before rest next ≡ old ++ branch_literals it all k others index))
    → left ≡ no_branch → index + schema_forms s < 2 ^ 32 → now ≡ old ++ schema_literals it s picks index
branches_past it s all k picks others index old left before rest next now e f kept l fits =
    let p : index + branch_forms all < 2 ^ 32 = subst (λ (x : Schema). index + schema_forms x < 2 ^ 32) e fits in
    let v = kept p in
    let same : schema_literals it s picks index ≡ branch_literals it all k others index = λ j. schema_literals it (e j) (f j) index in
    sym (append-nil now) ∙ ap (λ bs. now ++ branch_literals it bs before rest next) (sym l) ∙ v.1 ∙ ap (λ xs. old ++ xs) (sym same)
