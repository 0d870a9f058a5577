-- The root among more facts, and the text of a tree with its brackets.
use Rattle.std.proofs.Common.{◌≡◌, ℕ, suc, ◌+◌, ◌<◌, ◌≤◌, Bool, true, false, cond, Option, Some, None, List, [], ◌∷◌, ◌++◌, length, get_or, drop, refl, sym, ap, ◌∙◌, append_assoc}
use Rattle.std.proofs.lemmas.List.{append-nil, drop_more, at_drop_all}
use Rattle.std.specs.Prelude.{find}
use Rattle.std.specs.List.{flat_map}
use Rattle.lfg_terms.specs.Texts.{name_text}
use Rattle.lfg_terms.specs.declared.node.Edge.{Edge}
use Rattle.lfg_terms.specs.declared.node.Fact.{Fact}
use Rattle.lfg_model.specs.PairTexts.{branches_under, branch_text, text_below}

find-append : {X : Type 0} (P : X → Bool) (xs ys : List X) → find P xs ≡ None → find P (xs ++ ys) ≡ find P ys
find-append P [] ys e = refl
find-append {X} P (x ∷ xs) ys e = go (P x) (find P xs) (find P (xs ++ ys)) e (λ h. find-append P xs ys h)
  where
    go : (b : Bool) (o p : Option X) → cond b (Some x) o ≡ None → (o ≡ None → p ≡ find P ys) → cond b (Some x) p ≡ find P ys
    go true o p e h = cc
    go false o p e h = h e

pub root_later : (P : Edge → Bool) (F : Fact → List Edge) (facts : List Fact) (i : ℕ) (fact : Fact) (found whole : Option Edge)
    → i < length facts → fact ≡ get_or facts i fact → found ≡ find P (F fact) → found ≡ None
    → find P (flat_map F (drop i facts)) ≡ whole → find P (flat_map F (drop (i + 1) facts)) ≡ whole
root_later P F facts i fact found whole l e f n kept =
    let rest : List Fact = drop (i + 1) facts in
    let split : drop i facts ≡ fact ∷ rest = drop_more facts i fact l ∙ ap (λ x. x ∷ rest) (sym e) in
    sym (find-append P (F fact) (flat_map F rest) (sym f ∙ n)) ∙ ap (λ xs. find P (flat_map F xs)) (sym split) ∙ kept

pub tree_closed : (deeper depth : ℕ) (facts : List Fact) (e : Edge) (i : ℕ) (old opened named now new : List ℕ)
    → depth ≡ suc deeper → opened ≡ old ++ 91 ∷ [] → named ≡ opened ++ name_text e.cat
    → now ++ flat_map (branch_text (text_below deeper facts)) (branches_under (drop i facts) e) ≡ named ++ flat_map (branch_text (text_below deeper facts)) (branches_under facts e)
    → length facts ≤ i → new ≡ now ++ 93 ∷ [] → new ≡ old ++ text_below depth facts e
tree_closed deeper depth facts e i old opened named now new d o n kept l c =
    let inside : List ℕ = flat_map (branch_text (text_below deeper facts)) (branches_under facts e) in
    let all : now ≡ named ++ inside =
    sym (append-nil now) ∙ ap (λ bs. now ++ flat_map (branch_text (text_below deeper facts)) (branches_under bs e)) (sym (at_drop_all (λ xs. xs) facts i l)) ∙ kept in
    let front : named ≡ (old ++ 91 ∷ []) ++ name_text e.cat = n ∙ ap (λ xs. xs ++ name_text e.cat) o in
    let whole : (((old ++ 91 ∷ []) ++ name_text e.cat) ++ inside) ++ 93 ∷ [] ≡ old ++ ((((91 ∷ []) ++ name_text e.cat) ++ inside) ++ 93 ∷ []) = simp append_assoc in
    c ∙ ap (λ xs. xs ++ 93 ∷ []) (all ∙ ap (λ xs. xs ++ inside) front) ∙ whole ∙ ap (λ k. old ++ text_below k facts e) (sym d)
