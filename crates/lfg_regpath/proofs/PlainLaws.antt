-- The one string of a row of attributes, and the answers of the whole.
use Rattle.std.proofs.Common.{◌≡◌, Bool, true, false, List, [], ◌∷◌, ◌++◌, refl, sym, ap, subst, ◌∙◌}
use Rattle.std.specs.Prelude.{◌&&◌}
use Rattle.std.proofs.lemmas.Bool.{false≢true}
use Rattle.lfg_terms.specs.PathOrder.{path_cmp}
use Rattle.lfg_model.specs.Lists.{In, here, Lists}
use Rattle.lfg_model.specs.Terms.{Path}
use Rattle.lfg_model.specs.PathExpressions.{PathExpression, attribute, row, one_of, star, plus, PathExpressions, no_path, and_path, HasString, HasRow, is_plain_row, are_plain_rows}
use Rattle.lfg_model.proofs.ListLaws.{In-one}
use Rattle.lfg_regpath.proofs.Places.{one_ascends}
use Rattle.lfg_regpath.specs.PlainRows.{row_string, rows_string}

-- ---- a row of attributes

both_left : (a b : Bool) → a && b ≡ true → a ≡ true
both_left true b h = refl
both_left false b h = h

both_right : (a b : Bool) → a && b ≡ true → b ≡ true
both_right true b h = h
both_right false b h = absurd (false≢true h)

mutual
  pub plain_has : (e : PathExpression) → is_plain_row e ≡ true → HasString e (row_string e)
  plain_has (attribute name) h = refl
  plain_has (row parts) h = plains_have parts h
  plain_has (one_of branches) h = absurd (false≢true h)
  plain_has (star inside) h = absurd (false≢true h)
  plain_has (plus inside) h = absurd (false≢true h)

  plains_have : (es : PathExpressions) → are_plain_rows es ≡ true → HasRow es (rows_string es)
  plains_have no_path h = refl
  plains_have (and_path e es) h = record {
    front = row_string e;
    back = rows_string es;
    is = refl;
    first = plain_has e (both_left (is_plain_row e) (are_plain_rows es) h);
    second = plains_have es (both_right (is_plain_row e) (are_plain_rows es) h);
  }

mutual
  pub plain_one : (e : PathExpression) (w : Path) → is_plain_row e ≡ true → HasString e w → w ≡ row_string e
  plain_one (attribute name) w h s = s
  plain_one (row parts) w h s = plains_one parts w h s
  plain_one (one_of branches) w h s = absurd (false≢true h)
  plain_one (star inside) w h s = absurd (false≢true h)
  plain_one (plus inside) w h s = absurd (false≢true h)

  plains_one : (es : PathExpressions) (w : Path) → are_plain_rows es ≡ true → HasRow es w → w ≡ rows_string es
  plains_one no_path w h s = s
  plains_one (and_path e es) w h s =
      let a = plain_one e s.front (both_left (is_plain_row e) (are_plain_rows es) h) s.first in
      let b = plains_one es s.back (both_right (is_plain_row e) (are_plain_rows es) h) s.second in
      s.is ∙ ap (λ (z : Path). z ++ s.back) a ∙ ap (λ (z : Path). row_string e ++ z) b

pub plain_listed : (e : PathExpression) (xs : List Path) → is_plain_row e ≡ true → xs ≡ row_string e ∷ [] → Lists path_cmp (HasString e) xs
plain_listed e xs h s = subst (λ (ys : List Path). Lists path_cmp (HasString e) ys) (sym s) (record {
  ascends = one_ascends (row_string e);
  exact = λ w. (
    λ i. subst (λ (z : Path). HasString e z) (sym (In-one i)) (plain_has e h),
    λ p. subst (λ (z : Path). In z (row_string e ∷ [])) (sym (plain_one e w h p)) here,
  );
})
