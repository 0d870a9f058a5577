-- All entries for an edge, as a list: the lexicon is finite, and it can be told whether an entry is
-- one for the edge.
use Rattle.std.proofs.Common.{◌≡◌, ◌↔◌, ℕ, zero, suc, ◌+◌, ◌<◌, Option, Some, None, List, [], ◌∷◌, length, slice_get, refl, sym, ap, subst, ◌∙◌, arith, inl, inr, ◌⊎◌}
use Rattle.std.specs.declared.cmp.Ordering.{Ordering}
use Rattle.std.specs.declared.cmp.Ordering.TheVariants.{Less, Equal, Greater}
use Rattle.std.specs.Ordering.{nat_cmp, ordering_then, ordering_reverse}
use Rattle.std.specs.Cmp.{IsTotalOrder}
use Rattle.std.specs.List.{AllByRecursion}
use Rattle.std.specs.List.Sorted.{IsStrictlySortedBy}
use Rattle.std.proofs.lemmas.Option.{same_Some}
use Rattle.lfg_terms.specs.Order.{name_cmp}
use Rattle.lfg_terms.proofs.Ties.{nat_ties, name_cmp_same}
use Rattle.lfg_terms.specs.declared.node.Edge.{Edge}
use Rattle.lfg_terms.specs.declared.grammar.Lex.{Lex}
use Rattle.lfg_terms.specs.declared.grammar.Grammar.{Grammar}
use Rattle.lfg_terms.specs.declared.tree.TokenForms.{TokenForms}
use Rattle.lfg_model.specs.Kept.{KeptSpot, an_edge, a_word, a_step, an_end, item_pick, entry_pick, IsEntry}
use Rattle.lfg_model.specs.Lists.{In, here, later, Lists}
use Rattle.lfg_model.specs.Loaded.{Loaded}
use Rattle.lfg_model.specs.Spots.{Spot, AnEdge, AStep, AWord, APick, Stands}
use Rattle.lfg_model.specs.Terms.{Name}
use Rattle.lfg_model.proofs.Ascending.{all_in}
use Rattle.lfg_model.proofs.ChartLaws.{Lists-same, kept_edge_stands}
use Rattle.lfg_model.proofs.ListLaws.{In-nil, In-one, In-cons_cases}
use Rattle.lfg_model.proofs.Standing.{kept_is_standing}
use Rattle.lfg_packed.specs.Words.{word_place, entry_cmp, AreEntries}
use Rattle.lfg_packed.proofs.LoadedGives.{fillable}
use Rattle.lfg_packed.proofs.Selecting.{entry_cmp_total, word_edge}
use Rattle.lfg_parse.proofs.Finding.{tells}
use Rattle.lfg_parse.proofs.Taking.{get_less}

-- ---- ascending lists

module _ {X : Type 0} (cmp : X → X → Ordering) where
  none_ascends : IsStrictlySortedBy cmp []
  unfolding IsStrictlySortedBy
  none_ascends = tt

  more_ascends : (x : X) (xs : List X) → AllByRecursion (λ y. cmp x y ≡ Less) xs → IsStrictlySortedBy cmp xs → IsStrictlySortedBy cmp (x ∷ xs)
  unfolding IsStrictlySortedBy
  more_ascends x xs a h = (a, h)

  first_less : (x : X) (xs : List X) → IsStrictlySortedBy cmp (x ∷ xs) → AllByRecursion (λ y. cmp x y ≡ Less) xs
  unfolding IsStrictlySortedBy
  first_less x xs h = h.0

  rest_ascends : (x : X) (xs : List X) → IsStrictlySortedBy cmp (x ∷ xs) → IsStrictlySortedBy cmp xs
  unfolding IsStrictlySortedBy
  rest_ascends x xs h = h.1

all_of : {X : Type 0} (P : X → Type 0) (xs : List X) → ((z : X) → In z xs → P z) → AllByRecursion P xs
all_of P [] h = tt
all_of P (x ∷ xs) h = (h x here, all_of P xs (λ z i. h z (later i)))

-- the ascending list that has one element more
record WithOne {X : Type 0} (cmp : X → X → Ordering) (x : X) (xs : List X) : Type 0 where
  list : List X
  ascends : IsStrictlySortedBy cmp list
  exact : (z : X) → In z list ↔ ((z ≡ x) ⊎ In z xs)

module _ {X : Type 0} (cmp : X → X → Ordering) (total : IsTotalOrder cmp) (ties : (x y : X) → cmp x y ≡ Equal → x ≡ y) where
  with_one : (x : X) (xs : List X) → IsStrictlySortedBy cmp xs → WithOne cmp x xs
  with_one x [] sorted =
      let P : X → Type 0 = λ w. In w (x ∷ []) in
      record {
        list = x ∷ [];
        ascends = more_ascends cmp x [] tt (none_ascends cmp);
        exact = λ z. ((λ i. inl (In-one i)), (λ c. elim c [ inl e ↦ subst P (sym e) here | inr j ↦ In-nil j ]));
      }
  with_one x (y ∷ ys) sorted = go (cmp x y) refl (with_one x ys (rest_ascends cmp y ys sorted))
    where
      before : AllByRecursion (λ w. cmp y w ≡ Less) ys
      before = first_less cmp y ys sorted

      go : (o : Ordering) → cmp x y ≡ o → WithOne cmp x ys → WithOne cmp x (y ∷ ys)
      go Less h r =
          let P : X → Type 0 = λ w. In w (x ∷ y ∷ ys) in
          record {
            list = x ∷ y ∷ ys;
            ascends = more_ascends cmp x (y ∷ ys) (h, all_of (λ w. cmp x w ≡ Less) ys (λ z i. total.trans x y z h (all_in (λ w. cmp y w ≡ Less) before i))) sorted;
            exact = λ z. ((λ i. In-cons_cases i), (λ c. elim c [ inl e ↦ subst P (sym e) here | inr j ↦ later j ]));
          }
      go Equal h r =
          let P : X → Type 0 = λ w. In w (y ∷ ys) in
          record {
            list = y ∷ ys;
            ascends = sorted;
            exact = λ z. ((λ i. inr i), (λ c. elim c [ inl e ↦ subst P (sym (e ∙ ties x y h)) here | inr j ↦ j ]));
          }
      go Greater h r =
          let less : cmp y x ≡ Less = total.antisymm y x ∙ ap ordering_reverse h in
          let L : X → Type 0 = λ w. cmp y w ≡ Less in
          let P : X → Type 0 = λ w. In w (y ∷ r.list) in
          record {
            list = y ∷ r.list;
            ascends = more_ascends cmp y r.list (all_of (λ w. cmp y w ≡ Less) r.list (λ z i. elim ((r.exact z).0 i) [ inl e ↦ subst L (sym e) less | inr j ↦ all_in (λ w. cmp y w ≡ Less) before j ])) r.ascends;
            exact = λ z. (
              (λ i. elim (In-cons_cases i) [
                | inl e ↦ (let Q : X → Type 0 = λ w. In w (y ∷ ys) in inr (subst Q (sym e) here))
                | inr j ↦ elim ((r.exact z).0 j) [ inl e ↦ inl e | inr m ↦ inr (later m) ]
              ]),
              (λ c. elim c [
                | inl e ↦ later ((r.exact z).1 (inl e))
                | inr j ↦ elim (In-cons_cases j) [ inl e ↦ subst P (sym e) here | inr m ↦ later ((r.exact z).1 (inr m)) ]
              ]),
            );
          }

below_cases : (k n : ℕ) → k < suc n → (k < n) ⊎ (k ≡ n)
below_cases zero zero h = inr refl
below_cases zero (suc n) h = inl (omega arith)
below_cases (suc k) zero h = let never : ⊥ = omega (arith, h) in absurd never
below_cases (suc k) (suc n) h = elim (below_cases k n (omega (arith, h))) [ inl l ↦ inl (omega (arith, l)) | inr e ↦ inr (ap suc e) ]

-- the numbers below n with P, in order, where it can be told which have it
module _ (cmp : ℕ → ℕ → Ordering) (total : IsTotalOrder cmp) (ties : (x y : ℕ) → cmp x y ≡ Equal → x ≡ y) (P : ℕ → Type 0) (decide : (k : ℕ) → P k ⊎ (P k → ⊥)) where
  all_below : (n : ℕ) → (ks : List ℕ) × Lists cmp (λ k. (k < n) × P k) ks
  all_below zero = ([], record { ascends = none_ascends cmp; exact = λ k. ((λ i. In-nil i), (λ h. (let l = h.0 in let never : ⊥ = omega (arith, l) in absurd never))) })
  all_below (suc n) = go (decide n) (all_below n)
    where
      wider : (k : ℕ) → (k < n) × P k → (k < suc n) × P k
      wider k h = let l = h.0 in (omega (arith, l), h.1)

      go : P n ⊎ (P n → ⊥) → (ks : List ℕ) × Lists cmp (λ k. (k < n) × P k) ks → (ks : List ℕ) × Lists cmp (λ k. (k < suc n) × P k) ks
      go (inl p) r =
          let q = with_one cmp total ties n r.0 r.1.ascends in (
            q.list,
            record {
              ascends = q.ascends;
              exact = λ k. (
                (λ i. elim ((q.exact k).0 i) [ inl e ↦ (omega (arith, e), subst P (sym e) p) | inr j ↦ wider k ((r.1.exact k).0 j) ]),
                (λ h. elim (below_cases k n h.0) [ inl l ↦ (q.exact k).1 (inr ((r.1.exact k).1 (l, h.1))) | inr e ↦ (q.exact k).1 (inl e) ]),
              );
            },
          )
      go (inr unlike) r = (
        r.0,
        record {
          ascends = r.1.ascends;
          exact = λ k. (
            (λ i. wider k ((r.1.exact k).0 i)),
            (λ h. elim (below_cases k n h.0) [ inl l ↦ (r.1.exact k).1 (l, h.1) | inr e ↦ absurd (unlike (subst P e h.1)) ]),
          );
        },
      )

-- ---- entries

same_number : (m n : ℕ) → (m ≡ n) ⊎ (m ≡ n → ⊥)
same_number zero zero = inl refl
same_number zero (suc n) = inr (λ e. omega (arith, e))
same_number (suc m) zero = inr (λ e. omega (arith, e))
same_number (suc m) (suc n) = elim (same_number m n) [ inl e ↦ inl (ap suc e) | inr unlike ↦ inr (λ e. unlike (omega (arith, e))) ]

is_listed : (x : Name) (xs : List Name) → In x xs ⊎ (In x xs → ⊥)
is_listed x [] = inr (λ i. In-nil i)
is_listed x (y ∷ ys) = let P : Name → Type 0 = λ z. In z (y ∷ ys) in elim (tells name_cmp name_cmp_same x y) [
  | inl e ↦ inl (subst P (sym e) here)
  | inr unlike ↦ elim (is_listed x ys) [ inl i ↦ inl (later i) | inr away ↦ inr (λ i. elim (In-cons_cases i) [ inl e ↦ unlike e | inr j ↦ away j ]) ]
]

second_equal : (o p : Ordering) → ordering_then o p ≡ Equal → p ≡ Equal
second_equal Less p h = cc
second_equal Equal p h = h
second_equal Greater p h = cc

module _ (g : Grammar) (s : List TokenForms) (e : Edge) where
  entry_ties : (j k : ℕ) → entry_cmp g s e j k ≡ Equal → j ≡ k
  entry_ties j k h = nat_ties j k (second_equal (nat_cmp (word_place g s e j) (word_place g s e k)) (nat_cmp j k) h)

  by_parts : (k : ℕ) (lex : Lex) → slice_get g.lexicon k ≡ Some lex → (token : TokenForms) → slice_get s e.from ≡ Some token
      → (lex.cat ≡ e.cat) ⊎ (lex.cat ≡ e.cat → ⊥) → In lex.form token.forms ⊎ (In lex.form token.forms → ⊥) → (e.to ≡ e.from + 1) ⊎ (e.to ≡ e.from + 1 → ⊥)
      → IsEntry g s e k ⊎ (IsEntry g s e k → ⊥)
  by_parts k lex at token read (inl a) (inl b) (inl c) = inl (record { lex = lex; listed = at; category = a; token = token; read = read; offered = b; one_token = c })
  by_parts k lex at token read (inl a) (inl b) (inr unlike) = inr (λ w. unlike w.one_token)
  by_parts k lex at token read (inl a) (inr away) c = inr (λ w.
      (let same : w.lex ≡ lex = same_Some w.lex lex (sym w.listed ∙ at) in
      let one : w.token ≡ token = same_Some w.token token (sym w.read ∙ read) in
      let P : Lex → Type 0 = λ l. In l.form token.forms in
      let Q : TokenForms → Type 0 = λ t. In w.lex.form t.forms in
      away (subst P same (subst Q one w.offered))))
  by_parts k lex at token read (inr unlike) b c = inr (λ w. unlike (ap (λ (l : Lex). l.cat) (same_Some lex w.lex (sym at ∙ w.listed)) ∙ w.category))

  by_token : (k : ℕ) (lex : Lex) → slice_get g.lexicon k ≡ Some lex → (t : Option TokenForms) → slice_get s e.from ≡ t → IsEntry g s e k ⊎ (IsEntry g s e k → ⊥)
  by_token k lex at None read = inr (λ w. (let never : None ≡ Some w.token = sym read ∙ w.read in cc))
  by_token k lex at (Some token) read = by_parts k lex at token read (tells name_cmp name_cmp_same lex.cat e.cat) (is_listed lex.form token.forms) (same_number e.to (e.from + 1))

  by_entry : (k : ℕ) (l : Option Lex) → slice_get g.lexicon k ≡ l → IsEntry g s e k ⊎ (IsEntry g s e k → ⊥)
  by_entry k None at = inr (λ w. (let never : None ≡ Some w.lex = sym at ∙ w.listed in cc))
  by_entry k (Some lex) at = by_token k lex at (slice_get s e.from) refl

  -- the entries for an edge, whether it stands or not
  pub entries_for : (ks : List ℕ) × Lists (entry_cmp g s e) (λ k. IsEntry g s e k) ks
  entries_for =
      let r = all_below (entry_cmp g s e) (entry_cmp_total g s e) entry_ties (λ k. IsEntry g s e k) (λ k. by_entry k (slice_get g.lexicon k) refl) (length g.lexicon) in
      (r.0, Lists-same (λ k. ((λ h. h.1), (λ w. (get_less g.lexicon k w.lex w.listed, w)))) r.1)

module _ (g : Grammar) (s : List TokenForms) (loaded : Loaded g) where
  abbrev pub WordFits : Spot → Type 0
  WordFits (AnEdge e) = Unit {0}
  WordFits (AStep p n) = Unit {0}
  WordFits (AWord e k) = IsEntry g s e k
  WordFits (APick at picks) = Unit {0}

  pub kept_word : (x : Spot) → KeptSpot g s x → WordFits x
  kept_word x (an_edge k) = tt
  kept_word x (a_word k w) = w
  kept_word x (a_step rule p k is reach follow crosses ends) = tt
  kept_word x (an_end rule k is reach end) = tt
  kept_word x (item_pick rule p item k is reach follow crosses ends listed fits) = tt
  kept_word x (entry_pick lex k w listed fits) = tt

  -- where one of them stands, all do
  pub entries_stand : (e : Edge) (k : ℕ) → Stands g s (AWord e k) → AreEntries g s e (entries_for g s e).0
  entries_stand e k st =
      let fill = fillable g loaded in
      let kept = (kept_edge_stands g s fill e).1 (word_edge g s loaded e k st) in
      Lists-same (λ n. (
        (λ w. (kept_is_standing g s fill (AWord e n)).0 (a_word kept w)),
        (λ there. kept_word (AWord e n) ((kept_is_standing g s fill (AWord e n)).1 there)),
      )) (entries_for g s e).1
