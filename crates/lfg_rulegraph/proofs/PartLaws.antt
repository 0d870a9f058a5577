-- How parts are put together from their parts.
use Rattle.std.proofs.Common.{◌≡◌, ℕ, ◌+◌, true, false, List, [], ◌∷◌, ◌++◌, refl, sym, ap, subst, ◌∙◌, arith, inl, inr, ◌⊎◌, append_assoc}
use Rattle.std.specs.Prelude.{◌↔◌, Result, Ok, Err, IfOk}
use Rattle.std.proofs.lemmas.List.{append-nil, length-append}
use Rattle.lfg_model.specs.RightSides.{RightSide, RightSides, no_side, and_side}
use Rattle.lfg_model.specs.Sequences.{Joins, Repeats}
use Rattle.lfg_model.specs.Spelling.{SpellsBehind, SpellsRow, SpellsBranch, categories, categories_of, item_count, items_count}
use Rattle.lfg_rulegraph.specs.declared.part.Link.{Link}
use Rattle.lfg_rulegraph.specs.declared.part.Part.{Part}
use Rattle.lfg_rulegraph.specs.Tables.{Table, Reads, IsTable, crossing, option_of, no_item, one_item}
use Rattle.lfg_rulegraph.specs.Parts.{table_of, IsRowOf, IsChoiceOf, Adds, RowSoFar, ChoiceSoFar}
use Rattle.lfg_rulegraph.proofs.TableLaws.{row_table, choice_table, star_table, plus_table, optional_table, item_table, empty_table, none_table}
use Rattle.lfg_rulegraph.proofs.TableForms.{row_form, choice_form, loop_form, star_form}

-- ---- the items of a list of right sides

count_more : (side : RightSide) (sides : RightSides) → items_count (and_side side sides) ≡ item_count side + items_count sides
count_more side sides = length-append (categories side) (categories_of sides)

-- ---- a row, part by part

join_none : {P : List ℕ → Type 0} {w : List ℕ} → Joins P (λ v. v ≡ []) w ↔ P w
join_none {P} {w} = (
  (λ j. subst (λ (v : List ℕ). P v) (sym (j.is ∙ ap (λ (v : List ℕ). j.front ++ v) j.second ∙ append-nil j.front)) j.first),
  (λ p. record { front = w; back = []; is = sym (append-nil w); first = p; second = refl }),
)

none_join : {P : List ℕ → Type 0} {w : List ℕ} → Joins (λ v. v ≡ []) P w ↔ P w
none_join {P} {w} = (
  (λ j. subst (λ (v : List ℕ). P v) (sym (j.is ∙ ap (λ (v : List ℕ). v ++ j.back) j.first)) j.second),
  (λ p. record { front = []; back = w; is = refl; first = refl; second = p }),
)

join_again : {P Q R : List ℕ → Type 0} {w : List ℕ} → Joins (Joins P Q) R w ↔ Joins P (Joins Q R) w
join_again {P} {Q} {R} {w} = (
  (λ j. record {
    front = j.first.front;
    back = j.first.back ++ j.back;
    is = j.is ∙ ap (λ (v : List ℕ). v ++ j.back) j.first.is ∙ append_assoc j.first.front j.first.back j.back;
    first = j.first.first;
    second = record { front = j.first.back; back = j.back; is = refl; first = j.first.second; second = j.second };
  }),
  (λ j. record {
    front = j.front ++ j.second.front;
    back = j.second.back;
    is = j.is ∙ ap (λ (v : List ℕ). j.front ++ v) j.second.is ∙ sym (append_assoc j.front j.second.front j.second.back);
    first = record { front = j.front; back = j.second.front; is = refl; first = j.first; second = j.second.first };
    second = j.second.second;
  }),
)

join_front : {P Q R : List ℕ → Type 0} {w : List ℕ} → ((v : List ℕ) → P v → Q v) → Joins P R w → Joins Q R w
join_front f j = record { front = j.front; back = j.back; is = j.is; first = f j.front j.first; second = j.second }

pub row_start : (parts : RightSides) (before : ℕ) (part : Part) (links : List Link) → part.end ≡ before → table_of part [] ≡ no_item true
    → RowSoFar parts before parts part links links
row_start parts before part links e t = record {
  added = [];
  is = sym (append-nil links);
  behind = omega (arith, e);
  count = omega (arith, e);
  within = start.within;
  reads = λ w. (
    (λ j. subst (λ (n : ℕ). SpellsRow n parts w) e (none_join.0 (join_front (λ v r. (start.exact v).1 r) j))),
    (λ s. join_front (λ v n. (start.exact v).0 n) (none_join.1 (subst (λ (n : ℕ). SpellsRow n parts w) (sym e) s))),
  );
}
  where
    start : IsTable (λ w. w ≡ []) before part.end (table_of part [])
    start = rw (t, e) (empty_table before)

pub row_step : (parts : RightSides) (before : ℕ) (side : RightSide) (rest : RightSides) (part next both : Part) (old mid new last : List Link)
    → RowSoFar parts before (and_side side rest) part old mid
    → Adds (SpellsBehind part.end side) part.end (part.end + item_count side) next mid new
    → IsRowOf part next both → both.end ≡ next.end → last ≡ new ++ crossing part.last.items next.first.items
    → RowSoFar parts before rest both old last
row_step parts before side rest part next both old mid new last s a r e l = record {
  added = (s.added ++ a.added) ++ crossing part.last.items next.first.items;
  is = l ∙ ap (λ (ls : List Link). ls ++ crossing part.last.items next.first.items) (a.is ∙ ap (λ (ls : List Link). ls ++ a.added) s.is ∙ append_assoc old s.added a.added)
      ∙ append_assoc old (s.added ++ a.added) (crossing part.last.items next.first.items);
  behind = omega (arith, s.behind, at);
  count = omega (arith, s.count, at, count_more side rest);
  within = whole.within;
  reads = λ w. (
    (λ j. (s.reads w).0 (join_again.0 (join_front (λ v g. (whole.exact v).1 g) (subst (λ (n : ℕ). Joins (Reads (table_of both added)) (SpellsRow n rest) w) at j)))),
    (λ h. subst (λ (n : ℕ). Joins (Reads (table_of both added)) (SpellsRow n rest) w) (sym at) (join_front (λ v g. (whole.exact v).0 g) (join_again.1 ((s.reads w).1 h)))),
  );
}
  where
    at : both.end ≡ part.end + item_count side
    at = e ∙ a.end

    added : List Link
    added = (s.added ++ a.added) ++ crossing part.last.items next.first.items

    whole : IsTable (Joins (Reads (table_of part s.added)) (SpellsBehind part.end side)) before both.end (table_of both added)
    whole =
        subst (λ (n : ℕ). IsTable (Joins (Reads (table_of part s.added)) (SpellsBehind part.end side)) before n (table_of both added)) (sym at)
        (subst (λ (t : Table). IsTable (Joins (Reads (table_of part s.added)) (SpellsBehind part.end side)) before (part.end + item_count side) t) (sym (r s.added a.added))
        (row_table s.behind (omega arith) (record { within = s.within; exact = λ w. ((λ g. g), (λ g. g)) }) a.table (row_form (table_of part s.added) (table_of next a.added))))

pub row_end : (parts : RightSides) (before : ℕ) (part : Part) (old new : List Link) → RowSoFar parts before no_side part old new
    → Adds (SpellsRow before parts) before (before + items_count parts) part old new
row_end parts before part old new s = record {
  added = s.added;
  is = s.is;
  end = at;
  table = subst (λ (n : ℕ). IsTable (SpellsRow before parts) before n (table_of part s.added)) at (record {
    within = s.within;
    exact = λ w. ((λ h. join_none.0 ((s.reads w).1 h)), (λ g. (s.reads w).0 (join_none.1 g)));
  });
}
  where
    at : part.end ≡ before + items_count parts
    at = omega (arith, s.count)

-- ---- a choice, branch by branch

pub choice_start : (branches : RightSides) (before : ℕ) (part : Part) (links : List Link) → part.end ≡ before → table_of part [] ≡ no_item false
    → ChoiceSoFar branches before branches part links links
choice_start branches before part links e t = record {
  added = [];
  is = sym (append-nil links);
  behind = omega (arith, e);
  count = omega (arith, e);
  within = start.within;
  reads = λ w. (
    (λ h. elim h [ inl g ↦ absurd ((start.exact w).1 g) | inr s ↦ subst (λ (n : ℕ). SpellsBranch n branches w) e s ]),
    (λ s. inr (subst (λ (n : ℕ). SpellsBranch n branches w) (sym e) s)),
  );
}
  where
    start : IsTable (λ w. ⊥) before part.end (table_of part [])
    start = rw (t, e) (none_table before)

pub choice_step : (branches : RightSides) (before : ℕ) (side : RightSide) (rest : RightSides) (part next both : Part) (old mid new : List Link)
    → ChoiceSoFar branches before (and_side side rest) part old mid
    → Adds (SpellsBehind part.end side) part.end (part.end + item_count side) next mid new
    → IsChoiceOf part next both → both.end ≡ next.end
    → ChoiceSoFar branches before rest both old new
choice_step branches before side rest part next both old mid new s a r e = record {
  added = s.added ++ a.added;
  is = a.is ∙ ap (λ (ls : List Link). ls ++ a.added) s.is ∙ append_assoc old s.added a.added;
  behind = omega (arith, s.behind, at);
  count = omega (arith, s.count, at, count_more side rest);
  within = whole.within;
  reads = λ w. (
    (λ h. (s.reads w).0 (elim h [
      | inl g ↦ elim ((whole.exact w).1 g) [ inl k ↦ inl k | inr k ↦ inr (inl k) ]
      | inr k ↦ inr (inr (subst (λ (n : ℕ). SpellsBranch n rest w) at k))
    ])),
    (λ h. elim ((s.reads w).1 h) [
      | inl g ↦ inl ((whole.exact w).0 (inl g))
      | inr k ↦ elim k [ inl j ↦ inl ((whole.exact w).0 (inr j)) | inr j ↦ inr (subst (λ (n : ℕ). SpellsBranch n rest w) (sym at) j) ]
    ]),
  );
}
  where
    at : both.end ≡ part.end + item_count side
    at = e ∙ a.end

    whole : IsTable (λ w. Reads (table_of part s.added) w ⊎ SpellsBehind part.end side w) before both.end (table_of both (s.added ++ a.added))
    whole =
        subst (λ (n : ℕ). IsTable (λ w. Reads (table_of part s.added) w ⊎ SpellsBehind part.end side w) before n (table_of both (s.added ++ a.added))) (sym at)
        (subst (λ (t : Table). IsTable (λ w. Reads (table_of part s.added) w ⊎ SpellsBehind part.end side w) before (part.end + item_count side) t) (sym (r s.added a.added))
        (choice_table s.behind (omega arith) (record { within = s.within; exact = λ w. ((λ g. g), (λ g. g)) }) a.table (choice_form (table_of part s.added) (table_of next a.added))))

pub choice_end : (branches : RightSides) (before : ℕ) (part : Part) (old new : List Link) → ChoiceSoFar branches before no_side part old new
    → Adds (SpellsBranch before branches) before (before + items_count branches) part old new
choice_end branches before part old new s = record {
  added = s.added;
  is = s.is;
  end = at;
  table = subst (λ (n : ℕ). IsTable (SpellsBranch before branches) before n (table_of part s.added)) at (record {
    within = s.within;
    exact = λ w. (
      (λ h. elim ((s.reads w).1 h) [ inl g ↦ g | inr k ↦ absurd k ]),
      (λ g. (s.reads w).0 (inl g)),
    );
  });
}
  where
    at : part.end ≡ before + items_count branches
    at = omega (arith, s.count)

-- ---- the forms of a right side

item_adds : (before : ℕ) (part : Part) (links : List Link) → part.end ≡ before + 1 → table_of part [] ≡ one_item (before + 1)
    → Adds (λ w. w ≡ (before + 1) ∷ []) before (before + 1) part links links
item_adds before part links e t = record { added = []; is = sym (append-nil links); end = e; table = rw t (item_table before) }

pub item_adds_ok : {E : Type 0} (before : ℕ) (links : List Link) (result : Result Part E) → IfOk result (λ part. part.end ≡ before + 1)
    → IfOk result (λ part. table_of part [] ≡ one_item (before + 1)) → IfOk result (λ part. Adds (λ w. w ≡ (before + 1) ∷ []) before (before + 1) part links links)
item_adds_ok before links (Ok part) e t = item_adds before part links e t
item_adds_ok before links (Err fault) e t = tt

pub optional_adds : {P : List ℕ → Type 0} {from to : ℕ} {part : Part} {old new : List Link} → Adds P from to part old new
    → (option : Part) → option.end ≡ part.end → ((links : List Link) → table_of option links ≡ option_of (table_of part links))
    → Adds (λ w. (w ≡ []) ⊎ P w) from to option old new
optional_adds a option e t = record { added = a.added; is = a.is; end = e ∙ a.end; table = rw t (optional_table a.table refl refl refl refl) }

pub star_adds : {P : List ℕ → Type 0} {from to : ℕ} {part : Part} {old mid new : List Link} → Adds P from to part old mid
    → (option : Part) → option.end ≡ part.end → ((links : List Link) → table_of option links ≡ option_of (table_of part links))
    → new ≡ mid ++ crossing part.last.items part.first.items
    → Adds (Repeats P) from to option old new
star_adds {part = part} {old = old} a option e t l = record {
  added = a.added ++ crossing part.last.items part.first.items;
  is = l ∙ ap (λ (ls : List Link). ls ++ crossing part.last.items part.first.items) a.is ∙ append_assoc old a.added (crossing part.last.items part.first.items);
  end = e ∙ a.end;
  table = rw t (star_table a.table (star_form (table_of part a.added)) refl);
}

pub plus_adds : {P : List ℕ → Type 0} {from to : ℕ} {part : Part} {old mid new : List Link} → Adds P from to part old mid
    → new ≡ mid ++ crossing part.last.items part.first.items
    → Adds (Joins P (Repeats P)) from to part old new
plus_adds {part = part} {old = old} a l = record {
  added = a.added ++ crossing part.last.items part.first.items;
  is = l ∙ ap (λ (ls : List Link). ls ++ crossing part.last.items part.first.items) a.is ∙ append_assoc old a.added (crossing part.last.items part.first.items);
  end = a.end;
  table = plus_table a.table (loop_form (table_of part a.added)) refl;
}
