-- The entries that whole derivations take are those of the edges of whole derivations.
use Rattle.std.proofs.Common.{◌≡◌, ◌↔◌, ℕ, zero, suc, ◌+◌, ◌⊎◌, inl, inr, Some, List, [], ◌∷◌, ◌++◌, length, slice_get, refl, sym, ap, subst, ◌∙◌, arith}
use Rattle.std.proofs.lemmas.List.{length-append}
use Rattle.std.proofs.lemmas.Option.{same_Some}
use Rattle.lfg_terms.specs.declared.node.Edge.{Edge}
use Rattle.lfg_terms.specs.declared.grammar.Grammar.{Grammar}
use Rattle.lfg_terms.specs.declared.tree.TokenForms.{TokenForms}
use Rattle.lfg_model.specs.Kept.{KeptSpot, an_edge, a_word, a_step, an_end, item_pick, entry_pick, IsEntry}
use Rattle.lfg_model.specs.Loaded.{Loaded}
use Rattle.lfg_model.specs.Spots.{Spot, AnEdge, AStep, AWord, APick, Stands}
use Rattle.lfg_model.proofs.ChartLaws.{kept_edge_stands, Lists-same}
use Rattle.lfg_model.proofs.Standing.{kept_is_standing}
use Rattle.lfg_packed.specs.Words.{AreEntries}
use Rattle.lfg_packed.proofs.LoadedGives.{fillable}
use Rattle.lfg_instant.specs.Words.{AreEntriesOf}

-- the entry of a kept spot is one
abbrev HasEntry : Grammar → List TokenForms → Spot → Type 0
HasEntry g s (AnEdge e) = Unit {0}
HasEntry g s (AStep p n) = Unit {0}
HasEntry g s (AWord e k) = IsEntry g s e k
HasEntry g s (APick at picks) = Unit {0}

has_entry : (g : Grammar) (s : List TokenForms) (x : Spot) → KeptSpot g s x → HasEntry g s x
has_entry g s x (an_edge k) = tt
has_entry g s x (a_word k w) = w
has_entry g s x (a_step rule p k is reach follow crosses ends) = tt
has_entry g s x (an_end rule k is reach end) = tt
has_entry g s x (item_pick rule p item k is reach follow crosses ends listed fits) = tt
has_entry g s x (entry_pick lex k w listed fits) = tt

-- an edge of a whole derivation is taken with each of its entries, and with no other
pub word_is_entry : (g : Grammar) (s : List TokenForms) → Loaded g → (e : Edge) → Stands g s (AnEdge e) → (k : ℕ) → IsEntry g s e k ↔ Stands g s (AWord e k)
word_is_entry g s loaded e st k =
    let fill = fillable g loaded in
    let same = kept_is_standing g s fill (AWord e k) in (
      (λ w. same.0 (a_word ((kept_edge_stands g s fill e).1 st) w)),
      (λ h. has_entry g s (AWord e k) (same.1 h)),
    )

pub entries_stand : (g : Grammar) (s : List TokenForms) → Loaded g → (e : Edge) → Stands g s (AnEdge e) → (ks : List ℕ) → AreEntriesOf g s e ks → AreEntries g s e ks
entries_stand g s loaded e st ks h = Lists-same (word_is_entry g s loaded e st) h

-- what stands in a list with one element more
get_push : {X : Type 0} (xs : List X) (y : X) (i : ℕ) (z : X) → slice_get (xs ++ y ∷ []) i ≡ Some z → (slice_get xs i ≡ Some z) ⊎ ((i ≡ length xs) × (z ≡ y))
get_push [] y zero z h = inr (refl, sym (same_Some y z h))
get_push [] y (suc i) z h = cc
get_push (x ∷ xs) y zero z h = inl h
get_push (x ∷ xs) y (suc i) z h = elim (get_push xs y i z h) [ inl l ↦ inl l | inr r ↦ inr (let e = r.0 in omega arith, r.1) ]

-- beside the first edges stand their entries
pub record AreFirstLists (g : Grammar) (s : List TokenForms) (edges : List Edge) (n : ℕ) (lists : List (List ℕ)) : Type 0 where
  pub beside : length lists ≡ n
  pub each : (i : ℕ) (e : Edge) (ks : List ℕ) → slice_get edges i ≡ Some e → slice_get lists i ≡ Some ks → AreEntries g s e ks

pub lists_more : (g : Grammar) (s : List TokenForms) (edges : List Edge) (n : ℕ) (lists new : List (List ℕ)) (edge : Edge) (list : List ℕ)
    → slice_get edges n ≡ Some edge → AreFirstLists g s edges n lists → AreEntries g s edge list → new ≡ lists ++ list ∷ [] → AreFirstLists g s edges (n + 1) new
lists_more g s edges n lists new edge list there old are is = record {
  beside = ap (λ ls. length ls) is ∙ (let a = length-append lists (list ∷ []) in let b = old.beside in omega (arith, a, b));
  each = λ i e ks at by. elim (get_push lists list i ks (rw is at by)) [
    | inl l ↦ old.each i e ks at l
    | inr r ↦
        let same : edge ≡ e = same_Some edge e (sym there ∙ ap (slice_get edges) (sym (r.0 ∙ old.beside)) ∙ at) in
        let P : Edge → List ℕ → Type 0 = λ f ls. AreEntries g s f ls in
        subst (λ (f : Edge). P f ks) same (subst (λ (ls : List ℕ). P edge ls) (sym r.1) are)
  ];
}
