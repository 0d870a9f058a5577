-- The pairs of a piece, from those of its two parts.
use Rattle.std.proofs.Common.{◌≡◌, Bool, true, false, ◌&&◌, List, [], ◌∷◌, ◌++◌, refl, sym, ◌∙◌, ap, subst, inl, inr, ◌⊎◌, Ordering}
use Rattle.std.specs.Prelude.{not, ◌↔◌}
use Rattle.lfg_model.specs.declared.pair.Pair.{Pair}
use Rattle.lfg_model.specs.Lists.{In, Lists}
use Rattle.lfg_model.proofs.ListLaws.{In-nil, In-push, In-push_cases, In-append_left}
use Rattle.lfg_context.specs.Seen.{Set}
use Rattle.lfg_context.specs.Sets.{Assignment, member}
use Rattle.lfg_store.specs.Facts.{Entries}
use Rattle.lfg_store.specs.Unpacking.{pair_of, IsUnpacked, AreUnpacked}
use Rattle.lfg_store.specs.declared.packed.Packed.{Packed}
use Rattle.lfg_model.specs.PairTexts.{pair_cmp}
use Rattle.lfg_unpack.specs.Pieces.{TellsPairs, IsPairIn, Covers}
use Rattle.lfg_unpack.proofs.Splitting.{and_both, both_true}
use Rattle.lfg_unpack.proofs.Sorting.{lists_alike}

pub covers_none : (tree facts : Entries) (piece : Set) (old new : List Pair) → ((a : Assignment) → member piece a ≡ false) → new ≡ old → Covers tree facts piece old new
covers_none tree facts piece old new none e = record {
  kept = λ p i. subst (λ (v : List Pair). In p v) (sym e) i;
  sound = λ p i. inl (subst (λ (v : List Pair). In p v) e i);
  all = λ a m. (let n : false ≡ true = sym (none a) ∙ m in absurd (cc));
}

pub covers_one : (tree facts : Entries) (piece : Set) (old new : List Pair) (a : Assignment) (pair : Pair) → TellsPairs tree facts piece [] → member piece a ≡ true → pair ≡ pair_of tree facts a
    → new ≡ old ++ pair ∷ [] → Covers tree facts piece old new
covers_one tree facts piece old new a pair t m is e = record {
  kept = λ p i. subst (λ (v : List Pair). In p v) (sym e) (In-append_left (pair ∷ []) i);
  sound = λ p i. elim (In-push_cases old pair (subst (λ (v : List Pair). In p v) e i)) [
    | inl j ↦ inl j
    | inr q ↦ inr (record { assignment = a; stands = m; is = sym is ∙ sym q })
  ];
  all = λ b n.
      (let same : pair ≡ pair_of tree facts b = is ∙ t.tells a b m n (λ x i. In-nil i) in
      subst (λ (v : List Pair). In (pair_of tree facts b) v) (sym e) (subst (λ (v : Pair). In v (old ++ pair ∷ [])) same (In-push old pair)));
}

module _ (tree facts : Entries) (piece by inside outside : Set) (old mid new : List Pair)
    (in_is : (a : Assignment) → member inside a ≡ (member piece a && member by a))
    (out_is : (a : Assignment) → member outside a ≡ (member piece a && not (member by a)))
    (first : Covers tree facts inside old mid) (second : Covers tree facts outside mid new) where
  from_inside : (p : Pair) → IsPairIn tree facts inside p → IsPairIn tree facts piece p
  from_inside p h = record {
    assignment = h.assignment;
    stands = (and_both (member piece h.assignment) (member by h.assignment) (sym (in_is h.assignment) ∙ h.stands)).0;
    is = h.is;
  }

  from_outside : (p : Pair) → IsPairIn tree facts outside p → IsPairIn tree facts piece p
  from_outside p h = record {
    assignment = h.assignment;
    stands = (and_both (member piece h.assignment) (not (member by h.assignment)) (sym (out_is h.assignment) ∙ h.stands)).0;
    is = h.is;
  }

  sound_both : (p : Pair) → In p new → In p old ⊎ IsPairIn tree facts piece p
  sound_both p i = elim (second.sound p i) [
    | inl j ↦ elim (first.sound p j) [ inl k ↦ inl k | inr h ↦ inr (from_inside p h) ]
    | inr h ↦ inr (from_outside p h)
  ]

  all_both : (a : Assignment) (b : Bool) → member by a ≡ b → member piece a ≡ true → In (pair_of tree facts a) new
  all_both a true e m = second.kept (pair_of tree facts a) (first.all a (in_is a ∙ both_true (member piece a) (member by a) m e))
  all_both a false e m = second.all a (out_is a ∙ both_true (member piece a) (not (member by a)) m (ap not e))

  pub covers_both : Covers tree facts piece old new
  covers_both = record { kept = λ p i. second.kept p (first.kept p i); sound = sound_both; all = λ a m. all_both a (member by a) refl m }

-- the pairs of the good assignments, each once
pub all_unpacked : (p : Packed) (written pairs : List Pair) → Covers p.tree p.facts p.good [] written → Lists pair_cmp (λ q. In q written) pairs → AreUnpacked p pairs
all_unpacked p written pairs c l = lists_alike (IsUnpacked p)
    (λ q i. elim (c.sound q i) [
      | inl j ↦ In-nil j
      | inr h ↦ record { assignment = h.assignment; good = h.stands; is = h.is }
    ])
    (λ q u. subst (λ (v : Pair). In v written) u.is (c.all u.assignment u.good))
    l
