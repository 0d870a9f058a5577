-- Keys of the two maps: equal where their parts are.
use Rattle.std.proofs.Common.{◌≡◌, ℕ, ◌<◌, ◌&&◌, suc, nat_eq, Bool, true, false, List, [], ◌∷◌, length, get_or, refl, ap, sym, ◌∙◌, cond, ◌≤◌, nat_lt, inl, inr, ◌⊎◌, ◌++◌, arith}
use Rattle.std.specs.Prelude.{None, Some, position}
use Rattle.std.specs.Cmp.Lexicographic.{pointwise}
use Rattle.std.specs.Map.{keys_of}
use Rattle.std.specs.List.{position_or_len}
use Rattle.std.proofs.lemmas.Bool.{cases_lt}
use Rattle.std.proofs.lemmas.List.Sums.{fails_before_first}
use Rattle.std.proofs.lemmas.List.{get_or-map, length-map}
use Rattle.std.proofs.lemmas.List.Quantifiers.{position-Some}
use Rattle.lfg_context.specs.declared.diagram.Test.{Test}
use Rattle.lfg_context.specs.declared.diagram.Work.{Work}
use Rattle.lfg_context.specs.declared.op.Op.{Op}
use Rattle.lfg_context.specs.declared.op.Op.TheVariants.{And, Or, Without}
use Rattle.lfg_context.specs.Tables.{Entry}
use Rattle.lfg_context.specs.Seen.{Set}
use Rattle.indexmap.specs.IndexMap.{insert_entry}
use Rattle.lfg_context.specs.contracts.op.Op.{the_type}
use denote.Enum.Bare.{sameb}
use Rattle.lfg_context.specs.contracts.diagram.TestPartialEq.TheImpl as tests
use Rattle.lfg_context.specs.contracts.diagram.WorkPartialEq.TheImpl as works

both : (b c : Bool) → (b && c) ≡ true → (b ≡ true) × (c ≡ true)
both true true h = (refl, refl)
both true false h = absurd (cc)
both false c h = absurd (cc)

numbers_equal : (x y : ℕ) → nat_eq x y ≡ true → x ≡ y
numbers_equal x y h = grind arith

number_is : (x y : ℕ) → x ≡ y → nat_eq x y ≡ true
number_is x y h = grind arith

lists_equal : (xs ys : List ℕ) → pointwise nat_eq xs ys ≡ true → xs ≡ ys
lists_equal [] [] h = refl
lists_equal [] (y ∷ ys) h = absurd (cc)
lists_equal (x ∷ xs) [] h = absurd (cc)
lists_equal (x ∷ xs) (y ∷ ys) h =
    let b = both (nat_eq x y) (pointwise nat_eq xs ys) h in
    let head : x ≡ y = numbers_equal x y b.0 in
    let rest : xs ≡ ys = lists_equal xs ys b.1 in
    ap (λ v. v ∷ xs) head ∙ ap (λ v. y ∷ v) rest

list_is : (xs : List ℕ) → pointwise nat_eq xs xs ≡ true
list_is [] = refl
list_is (x ∷ xs) = ap (λ b. b && pointwise nat_eq xs xs) (number_is x x refl) ∙ list_is xs

pub test_parts : (x y : Test) → tests.ghosts.eq x y ≡ true → (x.choice ≡ y.choice) × (x.children.items ≡ y.children.items)
test_parts x y h =
    let b = both (nat_eq x.choice y.choice) (pointwise nat_eq x.children.items y.children.items) h in
    (numbers_equal x.choice y.choice b.0, lists_equal x.children.items y.children.items b.1)

pub test_is : (x y : Test) → x.choice ≡ y.choice → x.children.items ≡ y.children.items → tests.ghosts.eq x y ≡ true
test_is x y e f =
    ap (λ b. b && pointwise nat_eq x.children.items y.children.items) (number_is x.choice y.choice e)
    ∙ ap (λ v. pointwise nat_eq x.children.items v) (sym f) ∙ list_is x.children.items

ops_equal : (x y : Op) → sameb the_type x y ≡ true → x ≡ y
ops_equal And And h = refl
ops_equal And Or h = absurd (cc)
ops_equal And Without h = absurd (cc)
ops_equal Or And h = absurd (cc)
ops_equal Or Or h = refl
ops_equal Or Without h = absurd (cc)
ops_equal Without And h = absurd (cc)
ops_equal Without Or h = absurd (cc)
ops_equal Without Without h = refl

pub works_equal : (x y : Work) → works.ghosts.eq x y ≡ true → x ≡ y
works_equal x y h =
    let b = both (sameb the_type x.op y.op) (nat_eq x.left y.left && nat_eq x.right y.right) h in
    let c = both (nat_eq x.left y.left) (nat_eq x.right y.right) b.1 in
    let op : x.op ≡ y.op = ops_equal x.op y.op b.0 in
    let left : x.left ≡ y.left = numbers_equal x.left y.left c.0 in
    let right : x.right ≡ y.right = numbers_equal x.right y.right c.1 in
    ap (λ v. let w : Work = record x { op = v } in w) op
    ∙ ap (λ v. let w : Work = record { op = y.op; left = v; right = x.right } in w) left
    ∙ ap (λ v. let w : Work = record { op = y.op; left = y.left; right = v } in w) right

not_before : (m n : ℕ) → cond (nat_lt m n) (Some m) None ≡ None → n ≤ m
not_before m n e = elim (cases_lt m n) [
  | inl less ↦
      let test : nat_lt m n ≡ true = grind arith in
      let bad : Some m ≡ None = ap (λ b. cond b (Some m) None) (sym test) ∙ e in
      absurd (cc)
  | inr le ↦ le
]

none_before : {X : Type 0} (p : X → Bool) (xs : List X) (i : ℕ) (d : X) → position p xs ≡ None → i < length xs → p (get_or xs i d) ≡ false
none_before p xs i d e h = fails_before_first p xs i d (let le = not_before (position_or_len p xs) (length xs) e in omega arith)

-- what a look-up of a test finds
pub found_test : (es : List Entry) (t : Test) (i : ℕ) → position (tests.ghosts.eq t) (keys_of es) ≡ Some i
    → (i < length es) × ((e : Entry) → e ≡ get_or es i e → (e.0.choice ≡ t.choice) × (e.0.children.items ≡ t.children.items))
found_test es t i h =
    let at = position-Some (tests.ghosts.eq t) (keys_of es) i t h in
    let within : i < length es = omega (arith, at.0, length-map es (λ e. e.0)) in (
      within,
      λ e is.
          let key : get_or (keys_of es) i t ≡ e.0 = get_or-map (λ x. x.0) es i e t within ∙ ap (λ x. x.0) (sym is) in
          let parts = test_parts t e.0 (ap (tests.ghosts.eq t) (sym key) ∙ at.1) in
          (sym parts.0, sym parts.1),
    )

pub no_test : (es : List Entry) (t : Test) → position (tests.ghosts.eq t) (keys_of es) ≡ None
    → (i : ℕ) (e : Entry) → i < length es → e ≡ get_or es i e → e.0.choice ≡ t.choice → e.0.children.items ≡ t.children.items → ⊥
no_test es t h i e within is choice children =
    let fails = none_before (tests.ghosts.eq t) (keys_of es) i t h (omega (arith, length-map es (λ x. x.0))) in
    let key : get_or (keys_of es) i t ≡ e.0 = get_or-map (λ x. x.0) es i e t within ∙ ap (λ x. x.0) (sym is) in
    let passes = test_is t e.0 (sym choice) (sym children) in
    let bad : true ≡ false = sym passes ∙ ap (tests.ghosts.eq t) (sym key) ∙ fails in
    absurd (cc)

-- a new test goes behind the others
pub insert_new : (es : List Entry) (t : Test) (x : Set)
    → ((i : ℕ) (e : Entry) → i < length es → e ≡ get_or es i e → e.0.choice ≡ t.choice → e.0.children.items ≡ t.children.items → ⊥)
    → insert_entry tests.ghosts.eq es t x ≡ es ++ (t, x) ∷ []
insert_new [] t x fresh = refl
insert_new (e ∷ es) t x fresh =
    ap (λ b. cond b ((e.0, x) ∷ es) (e ∷ insert_entry tests.ghosts.eq es t x)) differs
    ∙ ap (λ v. e ∷ v) (insert_new es t x (λ i y h is. fresh (suc i) y (omega arith) is))
  where
    differs : tests.ghosts.eq t e.0 ≡ false
    differs = elim (true_or_false (tests.ghosts.eq t e.0)) [
      | inl same ↦ let parts = test_parts t e.0 same in absurd (fresh 0 e (omega arith) refl (sym parts.0) (sym parts.1))
      | inr other ↦ other
    ]
      where
        true_or_false : (b : Bool) → (b ≡ true) ⊎ (b ≡ false)
        true_or_false true = inl refl
        true_or_false false = inr refl
