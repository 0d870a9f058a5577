-- Schemata go down.
use Rattle.std.proofs.Common.{◌≡◌, ◌≤◌, ◌<◌, ℕ, Bool, true, false, cond, Option, Some, None, List, [], ◌∷◌, suc, length, refl, ap, arith}
use Rattle.lfg_terms.specs.declared.grammar.Arrow.{Arrow}
use Rattle.lfg_terms.specs.declared.grammar.Arrow.TheVariants as arrow
use Rattle.lfg_terms.specs.declared.grammar.Des.{Des}
use Rattle.lfg_terms.specs.declared.grammar.Form.{Form}
use Rattle.lfg_terms.specs.declared.grammar.Val.{Val}
use Rattle.lfg_terms.specs.declared.grammar.Val.TheVariants as val
use Rattle.lfg_model.specs.declared.lexeme.Lexeme.{Lexeme}
use Rattle.lfg_model.specs.declared.lexeme.Lexeme.TheVariants.{Word, Open, Close, OpenBrace, Less as LessSign, Greater, Quote, Up, Down, Equals, Constrains, Differs, Not, Dollar, At, Star, Plus, Minus, DoubleColon}
use Rattle.lfg_model.specs.Terms.{Name, same_name}
use Rattle.lfg_model.specs.PathExpressions.{PathExpression}
use Rattle.lfg_model.specs.RightSides.{DraftSchema, define, constrain, exists, member, mark, either, DraftAnnotation, draft_branches_from}
use Rattle.lfg_model.specs.Nests.{◌>>=◌, Readers, readers}
use Rattle.lfg_model.specs.PathNotation.{paths}
use Rattle.lfg_model.specs.SchemaNotation.{Left, bare_left, closed_left, path_behind, long_at, begins_long, begins_des, des_at, value_at, value_of, value_before, values_at, test_at, form_of, put_function, functions_at, function_arrow, function_name, function_end, quoted, behind_inner, behind_form_name, form_at, right_at, behind_left, negated_at, mark_at, closed_call, call_in_brackets, call_at, closed_option, bracketed_by, schema_by, schemata}
use Rattle.lfg_model.proofs.NestLaws.{Less, Shrinks, Agree, GoesDown, less_bind, less_weaker, pick, readers_shrink}
use Rattle.lfg_model.proofs.PathNotationLaws.{paths_down}

-- ---- designators and values

less_closed_left : (a : Arrow) (ps : List PathExpression) (ls : List Lexeme) → Less (length ls) (closed_left a ps ls)
less_closed_left a ps [] = tt
less_closed_left a ps (Close ∷ ls) = omega arith
less_closed_left a ps (_ ∷ ls) = tt

less_path : (a : Arrow) (ls : List Lexeme) → Less (length ls) (path_behind a ls)
less_path a ls = less_bind (length ls) (length ls) ((readers paths).row ls) (λ p. closed_left a p.0 p.1) ((readers_shrink paths paths_down).row ls)
    (λ x l. less_weaker (length x.1) (length ls) (closed_left a x.0 x.1) (omega arith) (less_closed_left a x.0 x.1))

pub less_long : (ls : List Lexeme) → Less (length ls) (long_at ls)
less_long [] = tt
less_long (Up ∷ ls) = less_weaker (length ls) (suc (length ls)) (path_behind arrow.Up ls) (omega arith) (less_path arrow.Up ls)
less_long (Down ∷ ls) = less_weaker (length ls) (suc (length ls)) (path_behind arrow.Down ls) (omega arith) (less_path arrow.Down ls)
less_long (_ ∷ ls) = tt

less_des : (ls : List Lexeme) → Less (length ls) (des_at ls)
less_des [] = tt
less_des (Up ∷ ls) = omega arith
less_des (Down ∷ ls) = omega arith
less_des (Open ∷ ls) = less_bind (length ls) (suc (length ls)) (long_at ls) (λ l. Some (l.0.des, l.1)) (less_long ls) (λ x l. omega arith)
less_des (_ ∷ ls) = tt

less_value : (ls : List Lexeme) → Less (length ls) (value_at ls)
less_value [] = tt
less_value (Word name ∷ ls) = omega arith
less_value (Plus ∷ ls) = omega arith
less_value (Minus ∷ ls) = omega arith
less_value (_ ∷ ls) = tt

less_test : (ls : List Lexeme) → Less (length ls) (test_at ls)
less_test ls = pick (λ (o : Option (Val PathExpression × List Lexeme)). Less (length ls) o) (begins_des ls) (des_at ls >>= λ d. Some (val.Des d.0, d.1)) (value_at ls >>= λ v. Some (val.Atom v.0, v.1))
    (less_bind (length ls) (length ls) (des_at ls) (λ d. Some (val.Des d.0, d.1)) (less_des ls) (λ x l. l))
    (less_bind (length ls) (length ls) (value_at ls) (λ v. Some (val.Atom v.0, v.1)) (less_value ls) (λ x l. l))

values_before_le : (o : Option Name) (l : Lexeme) (ls : List Lexeme) (r : List Name × List Lexeme) → length r.1 ≤ length ls → length (value_before o l ls r).1 ≤ suc (length ls)
values_before_le None l ls r h = omega arith
values_before_le (Some name) l ls r h = omega arith

pub values_le : (ls : List Lexeme) → length (values_at ls).1 ≤ length ls
values_le [] = omega arith
values_le (l ∷ ls) = values_before_le (value_of l) l ls (values_at ls) (values_le ls)

-- ---- semantic forms

less_put_function : (n : ℕ) (name : Name) (o : Option (List Name × List Lexeme)) → Less n o → Less n (put_function name o)
less_put_function n name None l = tt
less_put_function n name (Some x) l = l

mutual
  pub functions_le : (ls : List Lexeme) → Less (suc (length ls)) (functions_at ls)
  functions_le [] = omega arith
  functions_le (Open ∷ ls) = less_weaker (suc (length ls)) (suc (suc (length ls))) (function_arrow ls) (omega arith) (arrow_le ls)
  functions_le (_ ∷ ls) = omega arith

  arrow_le : (ls : List Lexeme) → Less (suc (length ls)) (function_arrow ls)
  arrow_le [] = tt
  arrow_le (Up ∷ ls) = less_weaker (suc (length ls)) (suc (suc (length ls))) (function_name ls) (omega arith) (name_le ls)
  arrow_le (_ ∷ ls) = tt

  name_le : (ls : List Lexeme) → Less (suc (length ls)) (function_name ls)
  name_le [] = tt
  name_le (Word name ∷ ls) = less_weaker (suc (length ls)) (suc (suc (length ls))) (function_end name ls) (omega arith) (end_le name ls)
  name_le (_ ∷ ls) = tt

  end_le : (name : Name) (ls : List Lexeme) → Less (suc (length ls)) (function_end name ls)
  end_le name [] = tt
  end_le name (Close ∷ ls) = less_weaker (suc (length ls)) (suc (suc (length ls))) (put_function name (functions_at ls)) (omega arith) (less_put_function (suc (length ls)) name (functions_at ls) (functions_le ls))
  end_le name (_ ∷ ls) = tt

less_quoted : (form : Form) (ls : List Lexeme) → Less (length ls) (quoted form ls)
less_quoted form [] = tt
less_quoted form (Quote ∷ ls) = omega arith
less_quoted form (_ ∷ ls) = tt

less_inner : (name : Name) (inner : List Name) (ls : List Lexeme) → Less (length ls) (behind_inner name inner ls)
less_inner name inner [] = tt
less_inner name inner (Greater ∷ ls) = less_bind (suc (length ls)) (suc (length ls)) (functions_at ls) (λ o. quoted (form_of name inner o.0) o.1) (functions_le ls)
    (λ x l. less_weaker (length x.1) (suc (length ls)) (quoted (form_of name inner x.0) x.1) (omega arith) (less_quoted (form_of name inner x.0) x.1))
less_inner name inner (_ ∷ ls) = tt

less_form_name : (name : Name) (ls : List Lexeme) → Less (length ls) (behind_form_name name ls)
less_form_name name [] = tt
less_form_name name (LessSign ∷ ls) = less_bind (suc (length ls)) (suc (length ls)) (functions_at ls) (λ i. behind_inner name i.0 i.1) (functions_le ls)
    (λ x l. less_weaker (length x.1) (suc (length ls)) (behind_inner name x.0 x.1) (omega arith) (less_inner name x.0 x.1))
less_form_name name (Quote ∷ ls) = omega arith
less_form_name name (_ ∷ ls) = tt

less_form : (ls : List Lexeme) → Less (length ls) (form_at ls)
less_form ls = less_bind (length ls) (length ls) (value_at ls) (λ v. behind_form_name v.0 v.1) (less_value ls)
    (λ x l. less_weaker (length x.1) (length ls) (behind_form_name x.0 x.1) (omega arith) (less_form_name x.0 x.1))

less_right : (b : Bool) (ls : List Lexeme) → Less (length ls) (right_at b ls)
less_right b [] = less_test []
less_right b (Quote ∷ ls) = pick (λ (o : Option (Val PathExpression × List Lexeme)). Less (suc (length ls)) o) b (form_at ls >>= λ f. Some (val.Form f.0, f.1)) None
    (less_bind (length ls) (suc (length ls)) (form_at ls) (λ f. Some (val.Form f.0, f.1)) (less_form ls) (λ x l. omega arith)) tt
less_right b (l ∷ ls) = less_test (l ∷ ls)

-- ---- schemata

alone_le : (b : Bool) (d : Des PathExpression) (ls : List Lexeme) → Less (suc (length ls)) (cond b (Some (exists false d, ls)) None)
alone_le true d ls = omega arith
alone_le false d ls = tt

less_left : (left : Left) (ls : List Lexeme) → Less (suc (length ls)) (behind_left left ls)
less_left left [] = alone_le left.is_long left.des []
less_left left (Equals ∷ ls) = less_bind (length ls) (suc (suc (length ls))) (right_at left.is_pred ls) (λ v. Some (define left.des v.0, v.1)) (less_right left.is_pred ls) (λ x l. omega arith)
less_left left (Constrains ∷ ls) = less_bind (length ls) (suc (suc (length ls))) (test_at ls) (λ v. Some (constrain false left.des v.0, v.1)) (less_test ls) (λ x l. omega arith)
less_left left (Differs ∷ ls) = less_bind (length ls) (suc (suc (length ls))) (test_at ls) (λ v. Some (constrain true left.des v.0, v.1)) (less_test ls) (λ x l. omega arith)
less_left left (Dollar ∷ ls) = less_bind (length ls) (suc (suc (length ls))) (des_at ls) (λ d. Some (member left.des d.0, d.1)) (less_des ls) (λ x l. omega arith)
less_left left (l ∷ ls) = alone_le left.is_long left.des (l ∷ ls)

less_negated : (ls : List Lexeme) → Less (length ls) (negated_at ls)
less_negated [] = tt
less_negated (Open ∷ ls) = less_bind (length ls) (suc (length ls)) (long_at ls) (λ l. Some (exists true l.0.des, l.1)) (less_long ls) (λ x l. omega arith)
less_negated (_ ∷ ls) = tt

mark_le : (n : ℕ) (b : Bool) (name : Name) (ls : List Lexeme) → length ls < n → Less n (cond b (Some (mark name, ls)) None)
mark_le n true name ls l = l
mark_le n false name ls l = tt

less_mark : (name : Name) (ls : List Lexeme) → Less (length ls) (mark_at name ls)
less_mark name (Dollar ∷ Word o ∷ DoubleColon ∷ Star ∷ ls) = mark_le (suc (suc (suc (suc (length ls))))) (same_name o _) name ls (omega arith)
less_mark name _ = tt

less_closed_call : (name : Name) (args : List Name) (ls : List Lexeme) → Less (length ls) (closed_call name args ls)
less_closed_call name args [] = tt
less_closed_call name args (Close ∷ ls) = omega arith
less_closed_call name args (_ ∷ ls) = tt

less_in_brackets : (ls : List Lexeme) → Less (length ls) (call_in_brackets ls)
less_in_brackets [] = tt
less_in_brackets (Word name ∷ ls) = let h = values_le ls in
    less_weaker (length (values_at ls).1) (suc (length ls)) (closed_call name (values_at ls).0 (values_at ls).1) (omega arith) (less_closed_call name (values_at ls).0 (values_at ls).1)
less_in_brackets (_ ∷ ls) = tt

less_call : (ls : List Lexeme) → Less (length ls) (call_at ls)
less_call [] = tt
less_call (Word name ∷ ls) = omega arith
less_call (Open ∷ ls) = less_weaker (length ls) (suc (length ls)) (call_in_brackets ls) (omega arith) (less_in_brackets ls)
less_call (_ ∷ ls) = tt

less_option : (ss : List DraftSchema) (ls : List Lexeme) → Less (length ls) (closed_option ss ls)
less_option ss [] = tt
less_option ss (Close ∷ ls) = omega arith
less_option ss (_ ∷ ls) = tt

less_bracketed : (r : Readers DraftSchema DraftAnnotation) → Shrinks r → (ls : List Lexeme) → Less (length ls) (bracketed_by r ls)
less_bracketed r s ls = pick (λ (o : Option (DraftSchema × List Lexeme)). Less (length ls) o) (begins_long ls) (long_at ls >>= λ l. behind_left l.0 l.1) (r.row ls >>= λ s. closed_option s.0 s.1)
    (less_bind (length ls) (length ls) (long_at ls) (λ l. behind_left l.0 l.1) (less_long ls) (λ x l. less_weaker (suc (length x.1)) (length ls) (behind_left x.0 x.1) (omega arith) (less_left x.0 x.1)))
    (less_bind (length ls) (length ls) (r.row ls) (λ s. closed_option s.0 s.1) (s.row ls) (λ x l. less_weaker (length x.1) (length ls) (closed_option x.0 x.1) (omega arith) (less_option x.0 x.1)))

schema_less : (r : Readers DraftSchema DraftAnnotation) → Shrinks r → (ls : List Lexeme) → Less (length ls) (schema_by r ls)
schema_less r s [] = tt
schema_less r s (Up ∷ ls) = less_left (bare_left arrow.Up) ls
schema_less r s (Down ∷ ls) = less_left (bare_left arrow.Down) ls
schema_less r s (Open ∷ ls) = less_weaker (length ls) (suc (length ls)) (bracketed_by r ls) (omega arith) (less_bracketed r s ls)
schema_less r s (Not ∷ ls) = less_weaker (length ls) (suc (length ls)) (negated_at ls) (omega arith) (less_negated ls)
schema_less r s (Word name ∷ ls) = less_weaker (length ls) (suc (length ls)) (mark_at name ls) (omega arith) (less_mark name ls)
schema_less r s (At ∷ ls) = less_weaker (length ls) (suc (length ls)) (call_at ls) (omega arith) (less_call ls)
schema_less r s (OpenBrace ∷ ls) = less_bind (length ls) (suc (length ls)) (r.branches ls) (λ b. Some (either (draft_branches_from b.0), b.1)) (s.branches ls) (λ x l. omega arith)
schema_less r s (_ ∷ ls) = tt

schema_same : (r s : Readers DraftSchema DraftAnnotation) (ls : List Lexeme) → Agree (length ls) r s → schema_by r ls ≡ schema_by s ls
schema_same r s [] a = refl
schema_same r s (Open ∷ ls) a = ap (λ (o : Option (List DraftSchema × List Lexeme)). cond (begins_long ls) (long_at ls >>= λ l. behind_left l.0 l.1) (o >>= λ s. closed_option s.0 s.1)) (a.row ls (omega arith))
schema_same r s (OpenBrace ∷ ls) a = ap (λ (o : Option (List DraftAnnotation × List Lexeme)). o >>= λ b. Some (either (draft_branches_from b.0), b.1)) (a.branches ls (omega arith))
schema_same r s (_ ∷ ls) a = refl

pub schemata_down : GoesDown schemata
schemata_down = record { less = schema_less; same = schema_same }
