-- The parts of paths go down.
use Rattle.std.proofs.Common.{◌≡◌, ◌≤◌, Option, Some, List, [], ◌∷◌, suc, length, refl, ap, arith}
use Rattle.lfg_model.specs.declared.lexeme.Lexeme.{Lexeme}
use Rattle.lfg_model.specs.declared.lexeme.Lexeme.TheVariants.{Word, OpenBracket, CloseBracket, OpenBrace, Star, Plus}
use Rattle.lfg_model.specs.PathExpressions.{PathExpression, one_of, expressions_from}
use Rattle.lfg_model.specs.Nests.{◌>>=◌, Readers}
use Rattle.lfg_model.specs.PathNotation.{repetition_at, repeated_path, closed_path, part_by, paths}
use Rattle.lfg_model.proofs.NestLaws.{Less, Shrinks, Agree, GoesDown, less_bind, less_weaker}

pub repetition_le : (ls : List Lexeme) → length (repetition_at ls).1 ≤ length ls
repetition_le [] = omega arith
repetition_le (Star ∷ ls) = omega arith
repetition_le (Plus ∷ ls) = omega arith
repetition_le (_ ∷ ls) = omega arith

less_closed : (ps : List PathExpression) (ls : List Lexeme) → Less (length ls) (closed_path ps ls)
less_closed ps [] = tt
less_closed ps (CloseBracket ∷ ls) = let h = repetition_le ls in omega arith
less_closed ps (_ ∷ ls) = tt

part_less : (r : Readers PathExpression PathExpression) → Shrinks r → (ls : List Lexeme) → Less (length ls) (part_by r ls)
part_less r s [] = tt
part_less r s (Word name ∷ ls) = let h = repetition_le ls in omega arith
part_less r s (OpenBrace ∷ ls) = less_bind (length ls) (suc (length ls)) (r.branches ls) (λ b. Some (repeated_path (one_of (expressions_from b.0)) b.1)) (s.branches ls)
    (λ x l. let h = repetition_le x.1 in omega arith)
part_less r s (OpenBracket ∷ ls) = less_bind (length ls) (suc (length ls)) (r.row ls) (λ p. closed_path p.0 p.1) (s.row ls)
    (λ x l. less_weaker (length x.1) (suc (length ls)) (closed_path x.0 x.1) (omega arith) (less_closed x.0 x.1))
part_less r s (_ ∷ ls) = tt

part_same : (r s : Readers PathExpression PathExpression) (ls : List Lexeme) → Agree (length ls) r s → part_by r ls ≡ part_by s ls
part_same r s [] a = refl
part_same r s (OpenBrace ∷ ls) a = ap (λ (o : Option (List PathExpression × List Lexeme)). o >>= λ b. Some (repeated_path (one_of (expressions_from b.0)) b.1)) (a.branches ls (omega arith))
part_same r s (OpenBracket ∷ ls) a = ap (λ (o : Option (List PathExpression × List Lexeme)). o >>= λ p. closed_path p.0 p.1) (a.row ls (omega arith))
part_same r s (_ ∷ ls) a = refl

pub paths_down : GoesDown paths
paths_down = record { less = part_less; same = part_same }
