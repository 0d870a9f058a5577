-- What is left of a list of right sides, and the forms of a right side of the program.
use Rattle.std.proofs.Common.{◌≡◌, ℕ, ◌+◌, ◌<◌, ◌≤◌, List, ◌∷◌, length, drop, get_or, sym, ap, ◌∙◌, add-one}
use Rattle.std.proofs.Math.Seq.{drop-cons}
use Rattle.std.proofs.Math.ListN.{drop_of_length-le}
use Rattle.lfg_terms.specs.declared.draft.Rhs.{Rhs}
use Rattle.lfg_model.specs.RightSides.{no_side, and_side, right_side_of, right_sides_of}

pub rest_is : (sides : List Rhs) (i : ℕ) (side : Rhs) → i < length sides → side ≡ get_or sides i side
    → right_sides_of (drop i sides) ≡ and_side (right_side_of side) (right_sides_of (drop (i + 1) sides))
rest_is sides i side l e =
    let d : drop i sides ≡ get_or sides i side ∷ drop (i + 1) sides = rw add-one (drop-cons sides i side l) in
    ap (λ (xs : List Rhs). right_sides_of xs) (d ∙ ap (λ (s : Rhs). s ∷ drop (i + 1) sides) (sym e))

pub rest_none : (sides : List Rhs) (i : ℕ) → length sides ≤ i → right_sides_of (drop i sides) ≡ no_side
rest_none sides i l = ap (λ (xs : List Rhs). right_sides_of xs) (drop_of_length-le sides l)
