-- The measure of what follows calls into the bodies of templates.
use Rattle.std.proofs.Common.{◌≡◌, ℕ, zero, suc, ◌<◌, ◌≤◌, ◌+◌, ◌*◌, ◌-◌, List, length, get_or, sym, subst, arith}
use Rattle.lfg_terms.specs.declared.draft.Template.{Template}
use Rattle.lfg_model.specs.Lists.{In, here, later}
use Rattle.lfg_model.proofs.ListLaws.{In-at}
use Rattle.lfg_templates.specs.Depth.{deepest, heaviest}

pub in_heaviest : (t : Template) {ts : List Template} → In t ts → 2 * deepest t.body + 2 ≤ heaviest ts
in_heaviest t here = omega arith
in_heaviest t (later h) = let r = in_heaviest t h in omega arith

pub one_less : (d h : ℕ) → 0 < d → (d - 1) * h + h ≡ d * h
one_less zero h l = absurd (let no : ⊥ = omega arith in no)
one_less (suc d) h l = grind arith

-- an item that a loop takes stands in its list
pub In_item : {X : Type 0} (xs : List X) (i : ℕ) (d x : X) → i < length xs → x ≡ get_or xs i d → In x xs
In_item {X} xs i d x l e = subst (λ (z : X). In z xs) (sym e) (In-at xs i d l)
