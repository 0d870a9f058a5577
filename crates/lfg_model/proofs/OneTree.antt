-- At most one derivation.
use Rattle.std.proofs.Common.{◌≡◌, ℕ, ◌+◌, List, [], ◌∷◌, ap, refl, sym, ◌∙◌, Some, None}
use Rattle.std.specs.Prelude.{slice_get}
use Rattle.lfg_terms.specs.declared.node.Edge.{Edge}
use Rattle.lfg_terms.specs.declared.grammar.Item.{Item}
use Rattle.lfg_terms.specs.declared.grammar.Rule.{Rule}
use Rattle.lfg_terms.specs.declared.grammar.Grammar.{Grammar}
use Rattle.lfg_terms.specs.declared.tree.TokenForms.{TokenForms}
use Rattle.lfg_model.specs.Terms.{Name, Tree, leaf, inner, Parts, no_part, empty, daughter}
use Rattle.lfg_model.specs.Places.{PicksFit}
use Rattle.lfg_model.specs.Derive.{rule_of, item_at, Walks, Derives, Covers, occurrences}
use Rattle.lfg_model.specs.Unambiguous.{IsUnambiguous, OneDerivation}

pub no_picks : (ps ns : List ℕ) → ns ≡ [] → PicksFit ps ns → ps ≡ []
no_picks [] ns e f = refl
no_picks (p ∷ ps) [] e f = absurd f
no_picks (p ∷ ps) (n ∷ ns) e f = cc

pub same_some : {X : Type 0} (x y : X) → Some x ≡ Some y → x ≡ y
same_some x y e = cc

pub same_cons : {X : Type 0} (x y : X) (xs ys : List X) → x ∷ xs ≡ y ∷ ys → (x ≡ y) × (xs ≡ ys)
same_cons x y xs ys e = (cc, cc)

pub nil≢cons : {X : Type 0} (x : X) (xs : List X) → [] ≡ x ∷ xs → ⊥
nil≢cons x xs e = cc

kinds : (i j : Item) (c : Name) → i ≡ j → i.cat ≡ None → j.cat ≡ Some c → ⊥
kinds i j c e f h = let z : None ≡ Some c = sym f ∙ ap (λ k. k.cat) e ∙ h in cc

module _ (g : Grammar) (s : List TokenForms) (fixed : IsUnambiguous g s) where
  mutual
    one : (d d' : Tree) (e e' : Edge) → Derives g s d e → Derives g s d' e' → e.cat ≡ e'.cat → e.from ≡ e'.from → (d ≡ d') × (e.to ≡ e'.to)
    one (leaf c k ps) (leaf c' k' ps') e e' h h' ec ef =
        let w = h.1 in
        let w' = h'.1 in
        let same_token : w.token ≡ w'.token = same_some _ _ (sym w.read ∙ ap (λ n. slice_get s n) ef ∙ w'.read) in
        let same_entry : k ≡ k' = fixed.one_entry e.from k k' w.token w.lex w'.lex w.read w.listed w'.listed w.offered (rw same_token w'.offered) in
        let none : ps ≡ [] = no_picks ps _ (fixed.plain_entries k w.lex w.listed) w.fits in
        let none' : ps' ≡ [] = no_picks ps' _ (fixed.plain_entries k' w'.lex w'.listed) w'.fits in
        let same_cat : c ≡ c' = sym (ap (λ x. x.cat) h.0) ∙ ec ∙ ap (λ x. x.cat) h'.0 in
        let same_picks : ps ≡ ps' = none ∙ sym none' in
        (λ i. leaf (same_cat i) (same_entry i) (same_picks i), ap (λ x. x.to) h.0 ∙ ap (λ n. n + 1) ef ∙ sym (ap (λ x. x.to) h'.0))
    one (leaf c k ps) (inner c' parts) e e' h h' ec ef =
        absurd (fixed.apart c' h'.1.0 k h.1.lex h'.1.1 h.1.listed (h.1.category ∙ sym (ap (λ x. x.cat) h.0) ∙ ec ∙ h'.0))
    one (inner c parts) (leaf c' k ps) e e' h h' ec ef =
        absurd (fixed.apart c h.1.0 k h'.1.lex h.1.1 h'.1.listed (h'.1.category ∙ sym (ap (λ x. x.cat) h'.0) ∙ sym ec ∙ h.0))
    one (inner c parts) (inner c' parts') e e' h h' ec ef =
        let x = h.1 in
        let x' = h'.1 in
        let same_cat : c ≡ c' = sym h.0 ∙ ec ∙ h'.0 in
        let same_rule : x.0 ≡ x'.0 = same_some _ _ (sym x.1 ∙ ap (rule_of g) same_cat ∙ x'.1) in
        let walks : Walks x.0.graph (occurrences parts') = rw same_rule x'.2 in
        let r = all parts parts' x.0 x'.0 c e.from e'.from e.to e'.to x.1 same_rule (fixed.one_row c x.0 _ _ x.1 x.2 walks) ef x.3 x'.3 in
        (λ i. inner (same_cat i) (r.0 i), r.1)

    all : (ps qs : Parts) (r r' : Rule) (cat : Name) (start start' end end' : ℕ) → rule_of g cat ≡ Some r → r ≡ r' → occurrences ps ≡ occurrences qs → start ≡ start'
        → Covers g s r ps start end → Covers g s r' qs start' end' → (ps ≡ qs) × (end ≡ end')
    all no_part no_part r r' cat i i' j j' is same occ from c c' = (refl, sym c ∙ from ∙ c')
    all no_part (empty o k qs) r r' cat i i' j j' is same occ from c c' = absurd (nil≢cons _ _ occ)
    all no_part (daughter o k d qs) r r' cat i i' j j' is same occ from c c' = absurd (nil≢cons _ _ occ)
    all (empty o k ps) no_part r r' cat i i' j j' is same occ from c c' = absurd (nil≢cons _ _ (sym occ))
    all (daughter o k d ps) no_part r r' cat i i' j j' is same occ from c c' = absurd (nil≢cons _ _ (sym occ))
    all (empty o k ps) (empty o' k' qs) r r' cat i i' j j' is same occ from c c' =
        let h = same_cons _ _ _ _ occ in
        let x = c.0 in
        let x' = c'.0 in
        let there : item_at r.items o ≡ Some x'.item = rw (same, h.0) x'.listed in
        let none : k ≡ [] = no_picks k _ (fixed.plain_items cat r o x.item is x.listed) x.fits in
        let none' : k' ≡ [] = no_picks k' _ (fixed.plain_items cat r o x'.item is there) x'.fits in
        let same_picks : k ≡ k' = none ∙ sym none' in
        let rest = all ps qs r r' cat i i' j j' is same h.1 from c.1 c'.1 in
        (λ i. empty (h.0 i) (same_picks i) (rest.0 i), rest.1)
    all (empty o k ps) (daughter o' k' d qs) r r' cat i i' j j' is same occ from c c' =
        let h = same_cons _ _ _ _ occ in
        let x = c.0 in
        let x' = c'.2 in
        let there : item_at r.items o ≡ Some x'.item = rw (same, h.0) x'.listed in
        absurd (kinds x.item x'.item c'.0 (same_some _ _ (sym x.listed ∙ there)) x.category x'.category)
    all (daughter o k d ps) (empty o' k' qs) r r' cat i i' j j' is same occ from c c' =
        let h = same_cons _ _ _ _ occ in
        let x = c.2 in
        let x' = c'.0 in
        let there : item_at r.items o ≡ Some x'.item = rw (same, h.0) x'.listed in
        absurd (kinds x'.item x.item c.0 (same_some _ _ (sym there ∙ x.listed)) x'.category x.category)
    all (daughter o k d ps) (daughter o' k' d' qs) r r' cat i i' j j' is same occ from c c' =
        let h = same_cons _ _ _ _ occ in
        let x = c.2 in
        let x' = c'.2 in
        let there : item_at r.items o ≡ Some x'.item = rw (same, h.0) x'.listed in
        let same_item : x.item ≡ x'.item = same_some _ _ (sym x.listed ∙ there) in
        let same_cat : c.0 ≡ c'.0 = same_some _ _ (sym x.category ∙ ap (λ z. z.cat) same_item ∙ x'.category) in
        let none : k ≡ [] = no_picks k _ (fixed.plain_items cat r o x.item is x.listed) x.fits in
        let none' : k' ≡ [] = no_picks k' _ (fixed.plain_items cat r o x'.item is there) x'.fits in
        let same_picks : k ≡ k' = none ∙ sym none' in
        let below = one d d' _ _ c.3 c'.3 same_cat from in
        let rest = all ps qs r r' cat c.1 c'.1 j j' is same h.1 below.1 c.4 c'.4 in
        (λ i. daughter (h.0 i) (same_picks i) (below.0 i) (rest.0 i), rest.1)

pub one_derivation : OneDerivation
one_derivation g s fixed d d' e e' h h' ec ef = one g s fixed d d' e e' h h' ec ef
