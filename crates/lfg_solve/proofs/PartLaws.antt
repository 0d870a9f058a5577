-- The first part, and the others.
use Rattle.std.proofs.Common.{◌≡◌, ℕ, ◌+◌, Option, Some, None, List, [], ◌∷◌, ◌++◌, sym, ap, ◌∙◌, append_assoc, arith}
use Rattle.std.proofs.lemmas.List.{append-nil}
use Rattle.std.specs.declared.boxed.Box.{Box}
use Rattle.std.specs.Global.{Global}
use Rattle.lfg_terms.specs.declared.node.Edge.{Edge}
use Rattle.lfg_terms.specs.declared.node.Fact.{Fact}
use Rattle.lfg_terms.specs.declared.literal.Literal.{Literal}
use Rattle.lfg_terms.specs.declared.grammar.Item.{Item}
use Rattle.lfg_terms.specs.declared.grammar.Grammar.{Grammar}
use Rattle.lfg_terms.specs.declared.tree.Derivation.{Derivation}
use Rattle.lfg_terms.specs.declared.tree.Part.{Part}
use Rattle.lfg_terms.specs.declared.tree.TokenForms.{TokenForms}
use Rattle.lfg_model.specs.Terms.{Parts, no_part, tree_of}
use Rattle.lfg_model.specs.Trees.{width, parts_width, edge_of, literals, parts_literals, tree_facts, parts_facts, under}
use Rattle.lfg_solve.specs.Annotations.{item_literals}
use Rattle.lfg_solve.specs.Views.{part_before, parts_from}

width_before : (occ : ℕ) (picks : List ℕ) (held : Option (Box Derivation Global)) (rest : Parts) → parts_width (part_before occ picks held rest) ≡ parts_width (part_before occ picks held no_part) + parts_width rest
width_before occ picks None rest = omega arith
width_before occ picks (Some below) rest = omega arith

pub width_one : (part : Part) (rest : List Part) → parts_width (parts_from (part ∷ rest)) ≡ parts_width (parts_from (part ∷ [])) + parts_width (parts_from rest)
width_one part rest = width_before part.occ part.picks.items part.below (parts_from rest)

-- three lists, one behind the other
front_back : {X : Type 0} (xs ys zs : List X) → xs ++ (ys ++ zs) ≡ (xs ++ (ys ++ [])) ++ zs
front_back xs ys zs = ap (λ ws. xs ++ (ws ++ zs)) (sym (append-nil ys)) ∙ sym (append_assoc xs (ys ++ []) zs)

literals_before : (g : Grammar) (items : List Item) (mother : Edge) (occ : ℕ) (picks : List ℕ) (held : Option (Box Derivation Global)) (rest : Parts) (at : ℕ)
    → parts_literals g items mother (part_before occ picks held rest) at
    ≡ parts_literals g items mother (part_before occ picks held no_part) at ++ parts_literals g items mother rest (at + parts_width (part_before occ picks held no_part))
literals_before g items mother occ picks None rest at =
    let here : List Literal = item_literals items mother mother occ picks at at in
    let same : at ≡ at + 0 = omega arith in
    ap (λ n. here ++ parts_literals g items mother rest n) same ∙ ap (λ xs. xs ++ parts_literals g items mother rest (at + 0)) (sym (append-nil here))
literals_before g items mother occ picks (Some below) rest at =
    let n : ℕ = width (tree_of below.value) in
    let here : List Literal = item_literals items mother (edge_of (tree_of below.value) at) occ picks at (at + n) in
    let inside : List Literal = literals g (tree_of below.value) at in
    let same : at + n ≡ at + (n + 0) = omega arith in
    front_back here inside (parts_literals g items mother rest (at + n)) ∙ ap (λ m. (here ++ (inside ++ [])) ++ parts_literals g items mother rest m) same

pub literals_one : (g : Grammar) (items : List Item) (mother : Edge) (part : Part) (rest : List Part) (at : ℕ)
    → parts_literals g items mother (parts_from (part ∷ rest)) at
    ≡ parts_literals g items mother (parts_from (part ∷ [])) at ++ parts_literals g items mother (parts_from rest) (at + parts_width (parts_from (part ∷ [])))
literals_one g items mother part rest at = literals_before g items mother part.occ part.picks.items part.below (parts_from rest) at

facts_before : (s : List TokenForms) (mother : Edge) (occ : ℕ) (picks : List ℕ) (held : Option (Box Derivation Global)) (rest : Parts) (at : ℕ)
    → parts_facts s mother (part_before occ picks held rest) at
    ≡ parts_facts s mother (part_before occ picks held no_part) at ++ parts_facts s mother rest (at + parts_width (part_before occ picks held no_part))
facts_before s mother occ picks None rest at = let same : at ≡ at + 0 = omega arith in ap (λ n. parts_facts s mother rest n) same
facts_before s mother occ picks (Some below) rest at =
    let n : ℕ = width (tree_of below.value) in
    let here : List Fact = under (edge_of (tree_of below.value) at) mother ∷ [] in
    let inside : List Fact = tree_facts s (tree_of below.value) at in
    let same : at + n ≡ at + (n + 0) = omega arith in
    front_back here inside (parts_facts s mother rest (at + n)) ∙ ap (λ m. (here ++ (inside ++ [])) ++ parts_facts s mother rest m) same

pub facts_one : (s : List TokenForms) (mother : Edge) (part : Part) (rest : List Part) (at : ℕ)
    → parts_facts s mother (parts_from (part ∷ rest)) at
    ≡ parts_facts s mother (parts_from (part ∷ [])) at ++ parts_facts s mother (parts_from rest) (at + parts_width (parts_from (part ∷ [])))
facts_one s mother part rest at = facts_before s mother part.occ part.picks.items part.below (parts_from rest) at
