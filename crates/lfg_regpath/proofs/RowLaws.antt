-- The turns of the loops over the parts of a row and over branches.
use Rattle.std.proofs.Common.{◌≡◌, ℕ, ◌+◌, ◌≤◌, ◌<◌, List, [], ◌∷◌, ◌++◌, length, refl, sym, ap, subst, ◌∙◌, arith, inl, inr, ◌⊎◌, append_assoc}
use Rattle.std.proofs.lemmas.List.{length-append, append_cancel_left, append_cancel_right, append-nil}
use Rattle.lfg_model.specs.Lists.{In, here}
use Rattle.lfg_model.specs.Terms.{Path}
use Rattle.lfg_model.specs.PathExpressions.{PathExpression, row, one_of, PathExpressions, no_path, and_path, HasString, HasRow, HasBranch, HasShort, Joins}
use Rattle.lfg_model.proofs.ListLaws.{In-nil, In-one}
use Rattle.lfg_regpath.specs.declared.fault.PathFault.{PathFault}
use Rattle.lfg_regpath.specs.Sets.{Holds, IsJoin, IsSet, Overfull}
use Rattle.lfg_regpath.specs.Least.{least, least_of_row}
use Rattle.lfg_regpath.proofs.Places.{none_ascends, one_ascends}
use Rattle.lfg_regpath.proofs.SetLaws.{is_set, over_same, over_map}
use Rattle.lfg_regpath.proofs.LeastLaws.{least_le, row_le, Reaches, least_has, row_has}

length_joined : (w u v : Path) → w ≡ u ++ v → length w ≡ length u + length v
length_joined w u v e = ap length e ∙ length-append u v

regroup : (w a v b c : Path) → w ≡ a ++ v → v ≡ b ++ c → w ≡ (a ++ b) ++ c
regroup w a v b c e f = e ∙ ap (λ z. a ++ z) f ∙ sym (append_assoc a b c)

-- ---- rows

-- how far a row is read: set has what the parts so far spell, with at most `spare` attributes more
-- than the least number, which is so_far
pub record RowState (parts rest : PathExpressions) (spare so_far : ℕ) (set : List Path) : Type 0 where
  pub is : IsSet set
  pub low : (u : Path) → In u set → so_far ≤ length u
  pub high : (u : Path) → In u set → length u ≤ spare + so_far
  pub shortest : Reaches (λ u. In u set) so_far
  pub sound : (u v : Path) → In u set → HasRow rest v → HasRow parts (u ++ v)
  pub covers : (w : Path) → HasRow parts w → length w ≤ spare + (so_far + least_of_row rest) → Joins (λ u. In u set) (HasRow rest) w

one_string : (u : Path) → In u ([] ∷ []) → u ≡ []
one_string u i = In-one i

pub row_start : (parts : PathExpressions) (spare : ℕ) → RowState parts parts spare 0 ([] ∷ [])
row_start parts spare = record {
  is = record { ascends = one_ascends []; few = omega arith };
  low = λ u i. omega arith;
  high = λ u i. omega (arith, ap length (one_string u i));
  shortest = record { string = []; has = here; size = refl };
  sound = λ u v i h. subst (λ (z : Path). HasRow parts (z ++ v)) (sym (one_string u i)) h;
  covers = λ w h l. record { front = []; back = w; is = refl; first = here; second = h };
}

module _ (parts rest : PathExpressions) (e : PathExpression) (spare so_far : ℕ) (set : List Path) (s : RowState parts (and_path e rest) spare so_far set) (few : least e + least_of_row rest < 9) where
  -- a string so far, one of the next part and one of the rest
  sound_on : (u v w : Path) → In u set → HasString e v → HasRow rest w → HasRow parts ((u ++ v) ++ w)
  sound_on u v w i h k = subst (λ (z : Path). HasRow parts z) (sym (append_assoc u v w)) (s.sound u (v ++ w) i (record { front = v; back = w; is = refl; first = h; second = k }))

  module _ (found next : List Path) (f : Holds (HasShort e (spare + least e)) found) (n : Holds (IsJoin set found (spare + (so_far + least e))) next) where
    joined_low : (w : Path) → IsJoin set found (spare + (so_far + least e)) w → so_far + least e ≤ length w
    joined_low w j = omega (arith, s.low j.joins.front j.joins.first, least_le e j.joins.back ((f.exact j.joins.back).0 j.joins.second).has, ap length j.joins.is, length-append j.joins.front j.joins.back)

    joined_sound : (w v : Path) → IsJoin set found (spare + (so_far + least e)) w → HasRow rest v → HasRow parts (w ++ v)
    joined_sound w v j h = subst (λ (z : Path). HasRow parts (z ++ v)) (sym j.joins.is) (sound_on j.joins.front j.joins.back v j.joins.first ((f.exact j.joins.back).0 j.joins.second).has h)

    join_is : (u v : Path) → In u set → HasString e v → length v ≤ spare + least e → length u + length v ≤ spare + (so_far + least e) → In (u ++ v) next
    join_is u v i h l m = (n.exact (u ++ v)).1 (record {
      joins = record { front = u; back = v; is = refl; first = i; second = (f.exact v).1 (record { has = h; short = l }) };
      short = omega (arith, length-append u v);
    })

    covers_on : (w : Path) → HasRow parts w → length w ≤ spare + ((so_far + least e) + least_of_row rest) → Joins (λ u. In u next) (HasRow rest) w
    covers_on w h l =
        let j = s.covers w h (omega arith) in
        let k = j.second in
        let a = s.low j.front j.first in
        let b = row_le rest k.back k.second in
        let c = length_joined w j.front j.back j.is in
        let d = length_joined j.back k.front k.back k.is in
        record {
          front = j.front ++ k.front;
          back = k.back;
          is = regroup w j.front j.back k.front k.back j.is k.is;
          first = join_is j.front k.front j.first k.first (omega (arith, a, b, c, d)) (omega (arith, a, b, c, d));
          second = k.second;
        }

    pub row_step : RowState parts rest spare (so_far + least e) next
    row_step = record {
      is = is_set _ n;
      low = λ u i. joined_low u ((n.exact u).0 i);
      high = λ u i. ((n.exact u).0 i).short;
      shortest =
          let a = s.shortest in
          let b = least_has e (omega arith) in
          record { string = a.string ++ b.string; has = join_is a.string b.string a.has b.has (omega (arith, b.size)) (omega (arith, a.size, b.size)); size = omega (arith, length-append a.string b.string, a.size, b.size) };
      sound = λ u v i h. joined_sound u v ((n.exact u).0 i) h;
      covers = covers_on;
    }

  -- where the next part has too many strings, so has the row
  pub row_stop : (limit : ℕ) (fault : PathFault) → limit ≡ spare + (so_far + (least e + least_of_row rest)) → Overfull (HasShort e (spare + least e)) fault → Overfull (HasShort (row parts) limit) fault
  row_stop limit fault l over =
      let a = s.shortest in
      let b = row_has rest (omega arith) in
      over_map (HasShort e (spare + least e)) (HasShort (row parts) limit) (λ w. (a.string ++ w) ++ b.string)
      (λ x y h. append_cancel_left a.string x y (append_cancel_right (a.string ++ x) (a.string ++ y) b.string h))
      (λ w h. record {
        has = sound_on a.string w b.string a.has h.has b.has;
        short = omega (arith, h.short, a.size, b.size, length-append (a.string ++ w) b.string, length-append a.string w);
      })
      fault over

  pub row_stop_joined : (found : List Path) (limit : ℕ) (fault : PathFault) → Holds (HasShort e (spare + least e)) found → limit ≡ spare + (so_far + (least e + least_of_row rest))
      → Overfull (IsJoin set found (spare + (so_far + least e))) fault → Overfull (HasShort (row parts) limit) fault
  row_stop_joined found limit fault f l over =
      let b = row_has rest (omega arith) in
      over_map (IsJoin set found (spare + (so_far + least e))) (HasShort (row parts) limit) (λ w. w ++ b.string)
      (λ x y h. append_cancel_right x y b.string h)
      (λ w j. record {
        has = subst (λ (z : Path). HasRow parts (z ++ b.string)) (sym j.joins.is) (sound_on j.joins.front j.joins.back b.string j.joins.first ((f.exact j.joins.back).0 j.joins.second).has b.has);
        short = omega (arith, j.short, b.size, length-append w b.string);
      })
      fault over

pub row_end : (parts : PathExpressions) (spare so_far limit : ℕ) (set : List Path) → spare + so_far ≡ limit → RowState parts no_path spare so_far set → Holds (HasShort (row parts) limit) set
row_end parts spare so_far limit set e s = record {
  ascends = s.is.ascends;
  few = s.is.few;
  exact = λ w. (
    λ i. record { has = subst (λ (z : Path). HasRow parts z) (append-nil w) (s.sound w [] i refl); short = omega (arith, s.high w i) },
    λ h. let j = s.covers w h.has (omega (arith, h.short)) in subst (λ (z : Path). In z set) (sym (j.is ∙ ap (λ z. j.front ++ z) j.second ∙ append-nil j.front)) j.first,
  );
}

-- a row whose strings are all longer than the limit
pub row_long : (parts : PathExpressions) (limit : ℕ) → limit < least_of_row parts → (w : Path) → ¬ HasShort (row parts) limit w
row_long parts limit l w h = let no : ⊥ = omega (arith, row_le parts w h.has, h.short) in no

-- ---- branches

-- how far the branches are read: set has the strings of those so far
pub record BranchState (branches rest : PathExpressions) (limit : ℕ) (set : List Path) : Type 0 where
  pub is : IsSet set
  pub sound : (w : Path) → In w set → HasShort (one_of branches) limit w
  pub within : (w : Path) → HasBranch rest w → HasBranch branches w
  pub covers : (w : Path) → HasBranch branches w → length w ≤ limit → In w set ⊎ HasBranch rest w

pub branch_start : (branches : PathExpressions) (limit : ℕ) → BranchState branches branches limit []
branch_start branches limit = record {
  is = record { ascends = none_ascends; few = omega arith };
  sound = λ w i. In-nil i;
  within = λ w h. h;
  covers = λ w h l. inr h;
}

module _ (branches rest : PathExpressions) (e : PathExpression) (limit : ℕ) (set : List Path) (s : BranchState branches (and_path e rest) limit set) where
  pub branch_sound : (w : Path) → HasShort e limit w → HasShort (one_of branches) limit w
  branch_sound w h = record { has = s.within w (inl h.has); short = h.short }

  pub branch_stop : (fault : PathFault) → Overfull (HasShort e limit) fault → Overfull (HasShort (one_of branches) limit) fault
  branch_stop fault over = over_same (HasShort e limit) (HasShort (one_of branches) limit) branch_sound fault over

  module _ (found : List Path) (f : Holds (HasShort e limit) found) where
    either_sound : (w : Path) → In w set ⊎ In w found → HasShort (one_of branches) limit w
    either_sound w j = elim j [ inl a ↦ s.sound w a | inr b ↦ branch_sound w ((f.exact w).0 b) ]

    pub branch_stop_added : (fault : PathFault) → Overfull (λ w. In w set ⊎ In w found) fault → Overfull (HasShort (one_of branches) limit) fault
    branch_stop_added fault over = over_same (λ w. In w set ⊎ In w found) (HasShort (one_of branches) limit) either_sound fault over

    pub branch_step : (next : List Path) → Holds (λ w. In w set ⊎ In w found) next → BranchState branches rest limit next
    branch_step next n = record {
      is = is_set _ n;
      sound = λ w i. either_sound w ((n.exact w).0 i);
      within = λ w h. s.within w (inr h);
      covers = λ w h l. elim (s.covers w h l) [
        | inl a ↦ inl ((n.exact w).1 (inl a))
        | inr b ↦ elim b [ inl c ↦ inl ((n.exact w).1 (inr ((f.exact w).1 (record { has = c; short = l })))) | inr d ↦ inr d ]
      ];
    }

pub branch_end : (branches : PathExpressions) (limit : ℕ) (set : List Path) → BranchState branches no_path limit set → Holds (HasShort (one_of branches) limit) set
branch_end branches limit set s = record {
  ascends = s.is.ascends;
  few = s.is.few;
  exact = λ w. (λ i. s.sound w i, λ h. elim (s.covers w h.has h.short) [ inl a ↦ a | inr b ↦ absurd b ]);
}
