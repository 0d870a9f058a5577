-- The numbered places of a disjunction.
use Rattle.std.proofs.Common.{◌≡◌, ℕ, suc, ◌<◌, drop, arith, List, [], ◌∷◌, ◌++◌, length, map, refl, sym, ap, ◌∙◌}
use Rattle.std.specs.declared.vec.Vec.{Vec}
use Rattle.std.specs.Global.{Global}
use Rattle.std.proofs.lemmas.List.{append-nil, append_assoc, length-drop}
use Rattle.lfg_context.specs.Seen.{Set}
use Rattle.lfg_terms.specs.declared.grammar.Schema as declared
use Rattle.lfg_model.specs.Places.{places, schema_places, branch_count, branch_places}
use Rattle.lfg_model.specs.Resolve.{Instance, branch_literals}
use Rattle.lfg_model.specs.Terms.{Paths, Schema, either, maybe, Annotation, Branches, no_branch, or_branch, branches_from}
use Rattle.lfg_instant.specs.Sizes.{in_32_bits}

-- a disjunction has as many branches as the vector that holds them
pub branch_count-from : (branches : List (Vec (declared.Schema Paths) Global)) → branch_count (branches_from branches) ≡ length branches
branch_count-from [] = refl
branch_count-from (b ∷ bs) = ap suc (branch_count-from bs)

-- no branch has a number past the last
pub branches_past : (it : Instance) (bs : Branches) (ps : List ℕ) (index : ℕ) → branch_literals it bs (branch_count bs) ps index ≡ []
branches_past it no_branch ps index = refl
branches_past it (or_branch b bs) ps index = branches_past it bs _ _

-- the numbers of alternatives of a disjunction, as they are pushed
pub either_arities : (s : Schema) (all : List (Vec (declared.Schema Paths) Global)) (old first now left : List ℕ) (n : ℕ)
    → s ≡ either (branches_from all) → n ≡ in_32_bits (length all) → first ≡ old ++ n ∷ [] → now ++ left ≡ first ++ map in_32_bits (branch_places (branches_from all)) → left ≡ []
    → now ≡ old ++ map in_32_bits (schema_places s)
either_arities s all old first now left n e m f kept done =
    let rest = map in_32_bits (branch_places (branches_from all)) in
    sym (append-nil now) ∙ ap (λ xs. now ++ xs) (sym done) ∙ kept ∙ ap (λ xs. xs ++ rest) f ∙ append_assoc old (n ∷ []) rest
    ∙ ap (λ v. old ++ v ∷ rest) (m ∙ ap in_32_bits (sym (branch_count-from all)))
    ∙ ap (λ x. old ++ map in_32_bits (schema_places x)) (sym e)

-- each branch that is left has its alternative
pub alternative_there : (branches : List (Vec (declared.Schema Paths) Global)) (alternatives : List Set) (i : ℕ) → length (drop i alternatives) ≡ branch_count (branches_from (drop i branches)) → i < length branches
    → i < length alternatives
alternative_there branches alternatives i few h =
    let left = branch_count-from (drop i branches) in
    let a = length-drop i alternatives in
    let b = length-drop i branches in omega (arith, few, h, left, a, b)

-- those of an option
pub maybe_arities : (s : Schema) (inside : Annotation) (old first now : List ℕ) → s ≡ maybe inside → first ≡ old ++ 2 ∷ [] → now ≡ first ++ map in_32_bits (places inside)
    → now ≡ old ++ map in_32_bits (schema_places s)
maybe_arities s inside old first now e f kept =
    kept ∙ ap (λ xs. xs ++ map in_32_bits (places inside)) f ∙ append_assoc old (2 ∷ []) (map in_32_bits (places inside)) ∙ ap (λ x. old ++ map in_32_bits (schema_places x)) (sym e)
