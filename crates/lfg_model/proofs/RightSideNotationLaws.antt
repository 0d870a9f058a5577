-- Terms go down.
use Rattle.std.proofs.Common.{◌≡◌, ◌≤◌, Option, Some, None, List, [], ◌∷◌, suc, length, refl, ap, arith}
use Rattle.lfg_model.specs.declared.lexeme.Lexeme.{Lexeme}
use Rattle.lfg_model.specs.declared.lexeme.Lexeme.TheVariants.{Word, Open, Close, OpenBracket, CloseBracket, OpenBrace, CloseBrace, Bar, Semicolon, Colon}
use Rattle.lfg_model.specs.declared.notation.Repetition.{Repetition}
use Rattle.lfg_model.specs.Terms.{Name}
use Rattle.lfg_model.specs.RightSides.{RightSide, item, optional, one_of, right_sides_from}
use Rattle.lfg_model.specs.Nests.{◌>>=◌, Readers, readers}
use Rattle.lfg_model.specs.PathNotation.{repetition_at}
use Rattle.lfg_model.specs.SchemaNotation.{schemata}
use Rattle.lfg_model.specs.RightSideNotation.{repeat_side, ended_term, repeated_term, side_row, annotated_term, annotated, behind_category, closed_optional, closed_row, term_by, terms}
use Rattle.lfg_model.proofs.NestLaws.{Less, Shrinks, Agree, GoesDown, less_bind, less_weaker, readers_shrink}
use Rattle.lfg_model.proofs.PathNotationLaws.{repetition_le}
use Rattle.lfg_model.proofs.SchemaNotationLaws.{schemata_down}

ended_le : (x : RightSide) (ls : List Lexeme) → length (ended_term x ls).1 ≤ length ls
ended_le x [] = omega arith
ended_le x (Semicolon ∷ ls) = omega arith
ended_le x (_ ∷ ls) = omega arith

repeated_le : (x : RightSide) (ls : List Lexeme) → length (repeated_term x ls).1 ≤ length ls
repeated_le x ls = let h = repetition_le ls in let k = ended_le (repeat_side (repetition_at ls).0 x) (repetition_at ls).1 in omega arith

less_annotated : (x : RightSide) (ls : List Lexeme) → Less (suc (length ls)) (annotated_term x ls)
less_annotated x [] = omega arith
less_annotated x (Semicolon ∷ ls) = omega arith
less_annotated x (Close ∷ ls) = omega arith
less_annotated x (CloseBracket ∷ ls) = omega arith
less_annotated x (CloseBrace ∷ ls) = omega arith
less_annotated x (Bar ∷ ls) = omega arith
less_annotated x (_ ∷ ls) = tt

less_category : (cat : Name) (often : Repetition) (ls : List Lexeme) → Less (suc (length ls)) (behind_category cat often ls)
less_category cat often [] = let h = ended_le (repeat_side often (item cat None)) [] in omega arith
less_category cat often (Colon ∷ ls) = less_bind (length ls) (suc (suc (length ls))) ((readers schemata).row ls) (λ a. annotated_term (repeat_side often (annotated cat a.0)) a.1) ((readers_shrink schemata schemata_down).row ls)
    (λ x l. less_weaker (suc (length x.1)) (suc (suc (length ls))) (annotated_term (repeat_side often (annotated cat x.0)) x.1) (omega arith) (less_annotated (repeat_side often (annotated cat x.0)) x.1))
less_category cat often (l ∷ ls) = let h = ended_le (repeat_side often (item cat None)) (l ∷ ls) in omega arith

less_optional : (xs : List RightSide) (ls : List Lexeme) → Less (length ls) (closed_optional xs ls)
less_optional xs [] = tt
less_optional xs (Close ∷ ls) = let h = ended_le (optional (side_row xs)) ls in omega arith
less_optional xs (_ ∷ ls) = tt

less_row : (xs : List RightSide) (ls : List Lexeme) → Less (length ls) (closed_row xs ls)
less_row xs [] = tt
less_row xs (CloseBracket ∷ ls) = let h = repeated_le (side_row xs) ls in omega arith
less_row xs (_ ∷ ls) = tt

term_less : (r : Readers RightSide RightSide) → Shrinks r → (ls : List Lexeme) → Less (length ls) (term_by r ls)
term_less r s [] = tt
term_less r s (Word cat ∷ ls) = let h = repetition_le ls in
    less_weaker (suc (length (repetition_at ls).1)) (suc (length ls)) (behind_category cat (repetition_at ls).0 (repetition_at ls).1) (omega arith) (less_category cat (repetition_at ls).0 (repetition_at ls).1)
term_less r s (Open ∷ ls) = less_bind (length ls) (suc (length ls)) (r.row ls) (λ s. closed_optional s.0 s.1) (s.row ls)
    (λ x l. less_weaker (length x.1) (suc (length ls)) (closed_optional x.0 x.1) (omega arith) (less_optional x.0 x.1))
term_less r s (OpenBrace ∷ ls) = less_bind (length ls) (suc (length ls)) (r.branches ls) (λ b. Some (repeated_term (one_of (right_sides_from b.0)) b.1)) (s.branches ls)
    (λ x l. let h = repeated_le (one_of (right_sides_from x.0)) x.1 in omega arith)
term_less r s (OpenBracket ∷ ls) = less_bind (length ls) (suc (length ls)) (r.row ls) (λ s. closed_row s.0 s.1) (s.row ls)
    (λ x l. less_weaker (length x.1) (suc (length ls)) (closed_row x.0 x.1) (omega arith) (less_row x.0 x.1))
term_less r s (_ ∷ ls) = tt

term_same : (r s : Readers RightSide RightSide) (ls : List Lexeme) → Agree (length ls) r s → term_by r ls ≡ term_by s ls
term_same r s [] a = refl
term_same r s (Open ∷ ls) a = ap (λ (o : Option (List RightSide × List Lexeme)). o >>= λ s. closed_optional s.0 s.1) (a.row ls (omega arith))
term_same r s (OpenBrace ∷ ls) a = ap (λ (o : Option (List RightSide × List Lexeme)). o >>= λ b. Some (repeated_term (one_of (right_sides_from b.0)) b.1)) (a.branches ls (omega arith))
term_same r s (OpenBracket ∷ ls) a = ap (λ (o : Option (List RightSide × List Lexeme)). o >>= λ s. closed_row s.0 s.1) (a.row ls (omega arith))
term_same r s (_ ∷ ls) a = refl

pub terms_down : GoesDown terms
terms_down = record { less = term_less; same = term_same }
