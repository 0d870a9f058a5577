-- Steps of the functions that append to a text.
use Rattle.std.proofs.Common.{◌≡◌, ℕ, List, [], ◌∷◌, ◌++◌, refl, ap, sym, append-nil, append_assoc, length, take, drop, ◌∙◌, ◌≤◌}
use Rattle.std.proofs.Math.Seq.{take-append_seam, take-length}
use Rattle.std.proofs.Math.ListN.{drop_of_length-le}
use Rattle.lfg_terms.specs.Texts.{Keeps}
use Rattle.lfg_terms.specs.FactTexts.{comma, arg_text, args_text}
use Rattle.lfg_terms.specs.declared.node.Node.{Node}
use Rattle.lfg_terms.specs.declared.node.Arg.{Arg}

-- the arguments behind the first one
abbrev pub tail_text : List Node → List Arg → List ℕ
tail_text table [] = []
tail_text table (x ∷ xs) = comma ∷ arg_text table x ++ tail_text table xs

pub args_text-cons : (table : List Node) (x : Arg) (xs : List Arg) → args_text table (x ∷ xs) ≡ arg_text table x ++ tail_text table xs
args_text-cons table x [] = sym (append-nil (arg_text table x))
args_text-cons table x (y ∷ ys) = ap (λ t. arg_text table x ++ comma ∷ t) (args_text-cons table y ys)

-- after the last argument the text of all stands behind what stood there
pub args_text-written : (table : List Node) (before first_written written : List ℕ) (args : List Arg) (x : Arg) (xs : List Arg) (k : ℕ) →
    args ≡ x ∷ xs → first_written ≡ before ++ arg_text table x → written ++ tail_text table (drop k xs) ≡ first_written ++ tail_text table xs →
    length xs ≤ k → written ≡ before ++ args_text table args
args_text-written table before first_written written args x xs k e f g h =
    sym (append-nil written)
    ∙ ap (λ ys. written ++ tail_text table ys) (sym (drop_of_length-le xs h))
    ∙ g
    ∙ ap (λ t. t ++ tail_text table xs) f
    ∙ append_assoc before (arg_text table x) (tail_text table xs)
    ∙ ap (λ t. before ++ t) (sym (args_text-cons table x xs))
    ∙ ap (λ ys. before ++ args_text table ys) (sym e)

take_front : (a b c : List ℕ) → take (length a) b ≡ a → take (length b) c ≡ b → take (length a) c ≡ a
take_front [] b c h k = refl
take_front (x ∷ a) [] c h k = cc
take_front (x ∷ a) (y ∷ b) [] h k = cc
take_front (x ∷ a) (y ∷ b) (z ∷ c) h k =
    let p : take (length a) b ≡ a = cc in
    let q : take (length b) c ≡ b = cc in
    let e : take (length a) c ≡ a = take_front a b c p q in
    cc

pub keeps_trans : (a b c : List ℕ) → Keeps a b → Keeps b c → Keeps a c
keeps_trans = take_front

pub keeps_append : (a b : List ℕ) → Keeps a (a ++ b)
keeps_append a b = take-append_seam a b

pub keeps_self : (a : List ℕ) → Keeps a a
keeps_self a = take-length a
