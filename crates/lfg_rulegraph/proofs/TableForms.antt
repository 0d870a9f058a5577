-- The tables that are made of others have what a row, a choice and a repeated part need.
use Rattle.std.proofs.Common.{◌≡◌, ℕ, Bool, true, false, ◌&&◌, ◌||◌, if◌then◌else◌, IsTrue, List, ◌++◌, map, refl, ap, inl, inr, ◌⊎◌}
use Rattle.std.specs.Prelude.{◌↔◌}
use Rattle.lfg_model.specs.Lists.{In}
use Rattle.lfg_model.proofs.ListLaws.{In-append_left, In-append_right, In-append_cases, In-flat_map, In_from_flat_map, In-map, In_from_map}
use Rattle.lfg_rulegraph.specs.declared.part.Link.{Link}
use Rattle.lfg_rulegraph.specs.Tables.{Table, Linked, link, crossing, row_of, choice_of, loop_of, option_of, IsRow, IsChoice, IsLoop}

-- ---- truth values

pub both_true : (a b : Bool) → IsTrue (a && b) ↔ (IsTrue a × IsTrue b)
both_true true b = ((λ h. (refl, h)), (λ h. h.1))
both_true false b = ((λ h. cc), (λ h. h.0))

pub one_true : (a b : Bool) → IsTrue (a || b) ↔ (IsTrue a ⊎ IsTrue b)
one_true true b = ((λ h. inl refl), (λ h. refl))
one_true false b = ((λ h. inr h), (λ h. elim h [ inl k ↦ cc | inr k ↦ k ]))

-- ---- lists

in_both : (p : ℕ) (xs ys : List ℕ) → In p (xs ++ ys) ↔ (In p xs ⊎ In p ys)
in_both p xs ys = (In-append_cases xs ys, (λ h. elim h [ inl k ↦ In-append_left ys k | inr k ↦ In-append_right xs k ]))

in_some : (p : ℕ) (b : Bool) (xs ys : List ℕ) → In p (if b then xs ++ ys else xs) ↔ (In p xs ⊎ (IsTrue b × In p ys))
in_some p true xs ys = (
  (λ h. elim (In-append_cases xs ys h) [ inl k ↦ inl k | inr k ↦ inr (refl, k) ]),
  (λ h. elim h [ inl k ↦ In-append_left ys k | inr k ↦ In-append_right xs k.1 ]),
)
in_some p false xs ys = ((λ h. inl h), (λ h. elim h [ inl k ↦ k | inr k ↦ let no = k.0 in cc ]))

pub crosses : (q p : ℕ) (lasts firsts : List ℕ) → In (link q p) (crossing lasts firsts) ↔ (In q lasts × In p firsts)
crosses q p lasts firsts = (there, (λ h. In-flat_map (λ x. map (link x) firsts) h.0 (In-map (link q) h.1)))
  where
    there : In (link q p) (crossing lasts firsts) → In q lasts × In p firsts
    there h =
        let a = In_from_flat_map (λ x. map (link x) firsts) lasts h in
        let b = In_from_map (link a.0) firsts a.2 in
        let from : a.0 ≡ q = ap (λ (l : Link). l.from) b.2 in
        let to : b.0 ≡ p = ap (λ (l : Link). l.to) b.2 in
        (rw (← from) a.1, rw (← to) b.1)

-- ---- the tables

pub row_form : (a b : Table) → IsRow a b (row_of a b)
row_form a b = record {
  empty = both_true a.empty b.empty;
  first = λ p. in_some p a.empty a.first b.first;
  last = λ p. in_some p b.empty b.last a.last;
  links = λ q p. (there q p, back q p);
}
  where
    there : (q p : ℕ) → Linked (row_of a b) q p → Linked a q p ⊎ (Linked b q p ⊎ (In q a.last × In p b.first))
    there q p h = elim (In-append_cases (a.links ++ b.links) (crossing a.last b.first) h) [
      | inl k ↦ elim (In-append_cases a.links b.links k) [ inl j ↦ inl j | inr j ↦ inr (inl j) ]
      | inr k ↦ inr (inr ((crosses q p a.last b.first).0 k))
    ]

    back : (q p : ℕ) → Linked a q p ⊎ (Linked b q p ⊎ (In q a.last × In p b.first)) → Linked (row_of a b) q p
    back q p h = elim h [
      | inl k ↦ In-append_left (crossing a.last b.first) (In-append_left b.links k)
      | inr k ↦ elim k [
        | inl j ↦ In-append_left (crossing a.last b.first) (In-append_right a.links j)
        | inr j ↦ In-append_right (a.links ++ b.links) ((crosses q p a.last b.first).1 j)
      ]
    ]

pub choice_form : (a b : Table) → IsChoice a b (choice_of a b)
choice_form a b = record {
  empty = one_true a.empty b.empty;
  first = λ p. in_both p a.first b.first;
  last = λ p. in_both p a.last b.last;
  links = λ q p. (In-append_cases a.links b.links, (λ h. elim h [ inl k ↦ In-append_left b.links k | inr k ↦ In-append_right a.links k ]));
}

pub loop_form : (a : Table) → IsLoop a (loop_of a)
loop_form a = record {
  first = refl;
  last = refl;
  links = λ q p. (
    (λ h. elim (In-append_cases a.links (crossing a.last a.first) h) [ inl k ↦ inl k | inr k ↦ inr ((crosses q p a.last a.first).0 k) ]),
    (λ h. elim h [ inl k ↦ In-append_left (crossing a.last a.first) k | inr k ↦ In-append_right a.links ((crosses q p a.last a.first).1 k) ]),
  );
}

pub star_form : (a : Table) → IsLoop a (option_of (loop_of a))
star_form a = let f = loop_form a in record { first = refl; last = refl; links = f.links }
