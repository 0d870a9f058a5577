-- Words: an entry with a form of the token, and the category.
use Rattle.std.proofs.Common.{◌≡◌, ℕ, ◌+◌, ◌≤◌, Bool, true, false, List, [], ◌∷◌, get_or, Some, None, refl, sym, ◌∙◌, ap, arith, inl, inr}
use Rattle.std.specs.Prelude.{slice_get}
use Rattle.std.specs.Bool.{OnTrue, OnFalse}
use Rattle.std.specs.List.{list_any}
use Rattle.std.proofs.lemmas.Bool.{false≢true, cases_Bool, cases_order}
use Rattle.std.proofs.lemmas.Option.{get_or_from_slice_get}
use Rattle.lfg_terms.specs.declared.grammar.Lex.{Lex}
use Rattle.lfg_terms.specs.declared.grammar.Grammar.{Grammar}
use Rattle.lfg_terms.specs.declared.tree.TokenForms.{TokenForms}
use Rattle.lfg_model.specs.Lists.{In, here, later}
use Rattle.lfg_model.specs.Terms.{Name, same_name, leaf}
use Rattle.lfg_model.specs.Derive.{IsWord}
use Rattle.lfg_model.specs.Thin.{IsThinGrammar}
use Rattle.lfg_model.proofs.OneTree.{same_some}
use Rattle.lfg_model.proofs.ThinTreeLaws.{same_itself, same_from_test, entry_places}
use Rattle.xle_run.specs.Search.{IsEntry, IsEntryAt, Finds, LacksWord}

pub told : (b : Bool) (P : Type 0) → (b ≡ true → P) → OnTrue b P
told true P h = h refl
told false P h = tt

pub told_not : (b : Bool) (P : Type 0) → (b ≡ false → P) → OnFalse b P
told_not true P h = tt
told_not false P h = h refl

pub In-listed : (x : Name) (ns : List Name) → list_any (λ n. same_name n x) ns ≡ true → In x ns
In-listed x [] t = absurd (false≢true t)
In-listed x (n ∷ ns) t = elim (cases_Bool (same_name n x)) [
  | inl e ↦ rw (same_from_test n x e) here
  | inr e ↦ later (In-listed x ns (rw e at t))
]

pub listed-In : (x : Name) (ns : List Name) → In x ns → list_any (λ n. same_name n x) ns ≡ true
listed-In x [] h = elim h [ ]
listed-In x (n ∷ ns) h = elim (cases_Bool (same_name n x)) [
  | inl e ↦ rw e refl
  | inr e ↦ rw e (listed-In x ns (not_here x n ns e h))
]
  where
    not_here : (x n : Name) (ns : List Name) → same_name n x ≡ false → In x (n ∷ ns) → In x ns
    not_here x n ns e here = absurd (false≢true (sym e ∙ same_itself x))
    not_here x n ns e (later h) = h

-- an entry that is not at i or before it is behind it
pub later_entry : (xs : List Lex) (t : TokenForms) (cat : Name) (p : ℕ) (h : IsEntryAt xs t cat p) (i : ℕ) (x : Lex) → x ≡ get_or xs i x → i ≤ p → (IsEntry t cat x → ⊥) → i + 1 ≤ p
later_entry xs t cat p h i x e l n = elim (cases_order i p) [
  | inl same ↦
      let there : get_or xs p x ≡ h.entry = get_or_from_slice_get xs p h.entry x h.listed in
      let is : x ≡ h.entry = e ∙ ap (λ k. get_or xs k x) same ∙ there in
      absurd (n (rw is h.is))
  | inr o ↦ elim o [ inl below ↦ omega arith | inr above ↦ absurd (omega arith) ]
]

module _ (g : Grammar) (s : List TokenForms) (thin : IsThinGrammar g) where
  pub finds_word : (cat cat' : Name) (at : ℕ) (t : TokenForms) (xs : List Lex) (place entry : ℕ) (picks : List ℕ) → slice_get s at ≡ Some t → IsEntryAt xs t cat place
      → xs ≡ g.lexicon → cat' ≡ cat → entry ≡ place → picks ≡ [] → Finds g s cat at (leaf cat' entry picks) (at + 1)
  finds_word cat cat' at t xs place entry picks read h lexicon same number none =
      let listed : slice_get g.lexicon place ≡ Some h.entry = rw lexicon at h.listed in
      let word : IsWord g s cat place [] at = record {
        lex = h.entry;
        listed = listed;
        category = h.is.category;
        token = t;
        read = read;
        offered = h.is.offered;
        fits = rw (entry_places g thin place h.entry listed) tt;
      } in
      rw (same, number, none) (record { derives = (refl, word) })

  pub lacks_entry : (cat : Name) (at : ℕ) (t : TokenForms) (xs : List Lex) → slice_get s at ≡ Some t → xs ≡ g.lexicon → ((place : ℕ) → IsEntryAt xs t cat place → ⊥) → LacksWord g s cat at
  lacks_entry cat at t xs read lexicon absent = record {
    none = λ entry picks w.
        let same : w.token ≡ t = same_some _ _ (sym w.read ∙ read) in
        absent entry (record { entry = w.lex; listed = rw lexicon w.listed; is = record { offered = rw same at w.offered; category = w.category } });
  }

  pub lacks_token : (cat : Name) (at : ℕ) → slice_get s at ≡ None → LacksWord g s cat at
  lacks_token cat at read = record {
    none = λ entry picks w. let z : None ≡ Some w.token = sym read ∙ w.read in cc;
  }
