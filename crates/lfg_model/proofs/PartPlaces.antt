-- Where the categories of a part of a right side stand among those of the whole.
use Rattle.std.proofs.Common.{◌≡◌, ℕ, zero, suc, ◌+◌, Some, List, [], ◌∷◌, ◌++◌, length, drop, sym, ap, ◌∙◌, append_assoc, add-one}
use Rattle.std.specs.Prelude.{slice_get}
use Rattle.std.proofs.Math.Seq.{drop-append_seam}
use Rattle.std.proofs.lemmas.List.{append-nil, drop-drop}
use Rattle.lfg_model.specs.Spelling.{category_at}
use Rattle.lfg_model.specs.Terms.{Name}

-- these are the categories behind as many of the whole
pub record Placed (all : List Name) (before : ℕ) (own : List Name) : Type 0 where
  pub rest : List Name
  pub is : drop before all ≡ own ++ rest

pub front_placed : (all : List Name) (before : ℕ) (xs ys : List Name) → Placed all before (xs ++ ys) → Placed all before xs
front_placed all before xs ys p = record { rest = ys ++ p.rest; is = p.is ∙ append_assoc xs ys p.rest }

pub back_placed : (all : List Name) (before : ℕ) (xs ys : List Name) → Placed all before (xs ++ ys) → Placed all (before + length xs) ys
back_placed all before xs ys p = record {
  rest = p.rest;
  is = sym (drop-drop (length xs) before all) ∙ ap (drop (length xs)) (p.is ∙ append_assoc xs ys p.rest) ∙ drop-append_seam xs (ys ++ p.rest);
}

pub whole_placed : (all : List Name) → Placed all 0 all
whole_placed all = record { rest = []; is = sym (append-nil all) }

-- what stands in front once n are dropped
at_front : (xs : List Name) (n : ℕ) (x : Name) (rest : List Name) → drop n xs ≡ x ∷ rest → slice_get xs n ≡ Some x
at_front [] zero x rest e = cc
at_front [] (suc n) x rest e = cc
at_front (y ∷ xs) zero x rest e = cc
at_front (y ∷ xs) (suc n) x rest e = at_front xs n x rest e

-- the category of an item
pub item_placed : (all : List Name) (before : ℕ) (cat : Name) → Placed all before (cat ∷ []) → category_at all (before + 1) ≡ Some cat
item_placed all before cat p = rw add-one (at_front all before cat p.rest p.is)
