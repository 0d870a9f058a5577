-- Grammars that are the same as plain data fail the same checks, at the same rules.
use Rattle.std.proofs.Common.{◌≡◌, ℕ, zero, suc, Bool, true, false, cond, Some, List, [], ◌∷◌, map, slice_get, refl, sym, ap, ◌∙◌, subst, inl, inr}
use Rattle.std.specs.List.{find}
use Rattle.lfg_terms.specs.declared.grammar.Item.{Item}
use Rattle.lfg_terms.specs.declared.grammar.Rule.{Rule}
use Rattle.lfg_terms.specs.declared.grammar.Lex.{Lex}
use Rattle.lfg_terms.specs.declared.grammar.Grammar.{Grammar}
use Rattle.lfg_model.specs.Derive.{item_at}
use Rattle.lfg_model.specs.Firsts.{First, first, behind}
use Rattle.lfg_model.specs.Grounded.{IsEmptyItem, IsItemOf, AreEmptyItems, HasOnlyCategory, Unary, Chain, link, links}
use Rattle.lfg_model.specs.Links.{CanBeUnlinked}
use Rattle.lfg_model.specs.Lists.{In}
use Rattle.lfg_model.specs.Loads.{HasWords, IsUnaryCycle, IsUnlinked, FirstRule, AreLikeItems, AreLikeRules, AreLikeWords, AreAlike}
use Rattle.lfg_model.specs.Templates.{Each, end, and}
use Rattle.lfg_model.specs.TemplateRules.{NoneHas}
use Rattle.lfg_model.specs.Terms.{Name, same_name}
use Rattle.lfg_model.proofs.AssemblyLaws.{each_back, each_on}
use Rattle.lfg_model.proofs.FirstLaws.{one_first, none_first}
use Rattle.lfg_model.proofs.OneTree.{same_some}

-- ---- the first rule that fails

-- what is first in one list is first in a list that is related to it
pub like_first : {X Y : Type 0} {R : X → Y → Type 0} {P : X → Type 0} {Q : Y → Type 0} → ((x : X) (y : Y) → R x y → P x → Q y) → ((x : X) (y : Y) → R x y → Q y → P x)
    → {xs : List X} {ys : List Y} {x : X} → Each R xs ys → First P xs x → (y : Y) × First Q ys y × R x y
like_first there back end f = elim f [ ]
like_first there back (and r e) (first p) = (_, first (there _ _ r p), r)
like_first there back (and r e) (behind n f) = let h = like_first there back e f in (h.0, behind (λ q. n (back _ _ r q)) h.1, h.2)

pub like_none : {X Y : Type 0} {R : X → Y → Type 0} {P : X → Type 0} {Q : Y → Type 0} → ((x : X) (y : Y) → R x y → Q y → P x) → {xs : List X} {ys : List Y} → Each R xs ys → NoneHas P xs → NoneHas Q ys
like_none back e n = λ y i q. let h = each_back e i in n h.0 h.1 (back _ _ h.2 q)

module _ (g h : Grammar) (P : Rule → Type 0) (Q : Rule → Type 0) (rules : Each AreLikeRules g.rules h.rules)
    (there : (r q : Rule) → AreLikeRules r q → P r → Q q) (back : (r q : Rule) → AreLikeRules r q → Q q → P r) where
  pub like_first_rule : (cat : Name) → FirstRule P g cat → FirstRule Q h cat
  like_first_rule cat f = let k = like_first there back rules f.is_first in record { rule = k.0; is_first = k.1; named = sym k.2.cat ∙ f.named }

pub one_first_rule : (g : Grammar) (P : Rule → Type 0) (a b : Name) → FirstRule P g a → FirstRule P g b → a ≡ b
one_first_rule g P a b f k = sym f.named ∙ ap (λ (r : Rule). r.cat) (one_first f.is_first k.is_first) ∙ k.named

pub none_first_rule : (g : Grammar) (P : Rule → Type 0) (a : Name) → NoneHas P g.rules → FirstRule P g a → ⊥
none_first_rule g P a n f = none_first n f.is_first

-- ---- words

word_cats : {xs ys : List Lex} → Each AreLikeWords xs ys → map (λ (x : Lex). x.cat) xs ≡ map (λ (x : Lex). x.cat) ys
word_cats end = refl
word_cats (and w e) = let h = w.cat in let t = word_cats e in λ i. h i ∷ t i

pub like_words : (g h : Grammar) → Each AreLikeWords g.lexicon h.lexicon → (r q : Rule) → r.cat ≡ q.cat → HasWords g r → HasWords h q
like_words g h words r q e i = subst (λ (x : Name × List Name). In x.0 x.1) (λ t. (e t, word_cats words t)) i

-- ---- unary steps

item_found : {xs ys : List Item} → Each AreLikeItems xs ys → (k : ℕ) (i : Item) → slice_get xs k ≡ Some i → (j : Item) × (slice_get ys k ≡ Some j) × AreLikeItems i j
item_found end k i e = absurd (let no : ⊥ = cc in no)
item_found (and {y = y} r t) zero i e = (y, refl, subst (λ (x : Item). AreLikeItems x y) (same_some _ i e) r)
item_found (and r t) (suc k) i e = item_found t k i e

like_item_at : {xs ys : List Item} → Each AreLikeItems xs ys → (occ : ℕ) (i : Item) → item_at xs occ ≡ Some i → (j : Item) × (item_at ys occ ≡ Some j) × AreLikeItems i j
like_item_at items zero i e = absurd (let no : ⊥ = cc in no)
like_item_at items (suc k) i e = item_found items k i e

module _ (r q : Rule) (items : Each AreLikeItems r.items q.items) where
  like_empty : (occ : ℕ) → IsEmptyItem r occ → IsEmptyItem q occ
  like_empty occ h = let k = like_item_at items occ h.0 h.1 in (k.0, k.1, sym k.2.cat ∙ h.2)

  like_item_of : (occ : ℕ) (cat : Name) → IsItemOf r occ cat → IsItemOf q occ cat
  like_item_of occ cat h = let k = like_item_at items occ h.0 h.1 in (k.0, k.1, sym k.2.cat ∙ h.2)

  like_empties : (w : List ℕ) → AreEmptyItems r w → AreEmptyItems q w
  like_empties [] h = tt
  like_empties (occ ∷ rest) h = (like_empty occ h.0, like_empties rest h.1)

  like_only : (w : List ℕ) (cat : Name) → HasOnlyCategory r w cat → HasOnlyCategory q w cat
  like_only [] cat h = h
  like_only (occ ∷ rest) cat (inl a) = inl (like_empty occ a.0, like_only rest cat a.1)
  like_only (occ ∷ rest) cat (inr b) = inr (like_item_of occ cat b.0, like_empties rest b.1)

-- the rule that is found for a category
rule_found : (cat : Name) {rs qs : List Rule} (r : Rule) → Each AreLikeRules rs qs → find (λ x. same_name x.cat cat) rs ≡ Some r → (q : Rule) × (find (λ x. same_name x.cat cat) qs ≡ Some q) × AreLikeRules r q
rule_found cat r end e = absurd (let no : ⊥ = cc in no)
rule_found cat r (and {x = a} {y = b} {xs = rs} {ys = qs} l t) e = go (same_name a.cat cat) (ap (λ (c : Name). same_name c cat) (sym l.cat)) e (rule_found cat r t)
  where
    go : (o : Bool) → same_name b.cat cat ≡ o → cond o (Some a) (find (λ x. same_name x.cat cat) rs) ≡ Some r
        → (find (λ x. same_name x.cat cat) rs ≡ Some r → (q : Rule) × (find (λ x. same_name x.cat cat) qs ≡ Some q) × AreLikeRules r q)
        → (q : Rule) × (cond (same_name b.cat cat) (Some b) (find (λ x. same_name x.cat cat) qs) ≡ Some q) × AreLikeRules r q
    go true s f rest = (b, ap (λ (o : Bool). cond o (Some b) (find (λ x. same_name x.cat cat) qs)) s, subst (λ (x : Rule). AreLikeRules x b) (same_some a r f) l)
    go false s f rest = let k = rest f in (k.0, ap (λ (o : Bool). cond o (Some b) (find (λ x. same_name x.cat cat) qs)) s ∙ k.1, k.2)

module _ (g h : Grammar) (rules : Each AreLikeRules g.rules h.rules) where
  like_unary : (below above : Name) → Unary g below above → Unary h below above
  like_unary below above u =
      let k = rule_found above u.0 rules u.1 in
      (k.0, k.1, (u.2.0, (k.2.walks u.2.0).0 u.2.1, like_only u.0 k.0 k.2.items u.2.0 below u.2.2))

  like_chain : {x y : Name} → Chain (Unary g) x y → Chain (Unary h) x y
  like_chain (link u) = link (like_unary _ _ u)
  like_chain (links u c) = links (like_unary _ _ u) (like_chain c)

  pub like_cycle : (r q : Rule) → r.cat ≡ q.cat → IsUnaryCycle g r → IsUnaryCycle h q
  like_cycle r q e c = subst (λ (cat : Name). Chain (Unary h) cat cat) e (like_chain c)

-- ---- links

pub like_unlinked : (r q : Rule) → Each AreLikeItems r.items q.items → IsUnlinked r → IsUnlinked q
like_unlinked r q items u =
    let k = each_on items u.among in
    record { item = k.0; cat = u.cat; among = k.1; category = sym k.2.cat ∙ u.category; unlinked = subst CanBeUnlinked k.2.annotation u.unlinked }

-- ---- the other way

pub each_turned : {X : Type 0} {R : X → X → Type 0} → ((x y : X) → R x y → R y x) → {xs ys : List X} → Each R xs ys → Each R ys xs
each_turned f end = end
each_turned f (and r e) = and (f _ _ r) (each_turned f e)

items_turned : (i j : Item) → AreLikeItems i j → AreLikeItems j i
items_turned i j h = record { cat = sym h.cat; annotation = sym h.annotation }

pub rules_turned : (r q : Rule) → AreLikeRules r q → AreLikeRules q r
rules_turned r q h = record { cat = sym h.cat; items = each_turned items_turned h.items; walks = λ w. ((h.walks w).1, (h.walks w).0) }

pub words_turned : (x y : Lex) → AreLikeWords x y → AreLikeWords y x
words_turned x y h = record { form = sym h.form; cat = sym h.cat; annotation = sym h.annotation }

-- ---- the checks of a grammar

module _ (g h : Grammar) (a : AreAlike g h) where
  words_there : (r q : Rule) → AreLikeRules r q → HasWords g r → HasWords h q
  words_there r q l = like_words g h a.words r q l.cat

  words_back : (r q : Rule) → AreLikeRules r q → HasWords h q → HasWords g r
  words_back r q l = like_words h g (each_turned words_turned a.words) q r (sym l.cat)

  cycle_there : (r q : Rule) → AreLikeRules r q → IsUnaryCycle g r → IsUnaryCycle h q
  cycle_there r q l = like_cycle g h a.rules r q l.cat

  cycle_back : (r q : Rule) → AreLikeRules r q → IsUnaryCycle h q → IsUnaryCycle g r
  cycle_back r q l = like_cycle h g (each_turned rules_turned a.rules) q r (sym l.cat)

  unlinked_there : (r q : Rule) → AreLikeRules r q → IsUnlinked r → IsUnlinked q
  unlinked_there r q l = like_unlinked r q l.items

  unlinked_back : (r q : Rule) → AreLikeRules r q → IsUnlinked q → IsUnlinked r
  unlinked_back r q l = let t = rules_turned r q l in like_unlinked q r t.items

  pub apart_too : NoneHas (HasWords g) g.rules → NoneHas (HasWords h) h.rules
  apart_too = like_none words_back a.rules

  pub acyclic_too : NoneHas (IsUnaryCycle g) g.rules → NoneHas (IsUnaryCycle h) h.rules
  acyclic_too = like_none cycle_back a.rules

  pub linked_too : NoneHas IsUnlinked g.rules → NoneHas IsUnlinked h.rules
  linked_too = like_none unlinked_back a.rules

  pub first_both_too : (cat : Name) → FirstRule (HasWords g) g cat → FirstRule (HasWords h) h cat
  first_both_too = like_first_rule g h (HasWords g) (HasWords h) a.rules words_there words_back

  pub first_cycle_too : (cat : Name) → FirstRule (IsUnaryCycle g) g cat → FirstRule (IsUnaryCycle h) h cat
  first_cycle_too = like_first_rule g h (IsUnaryCycle g) (IsUnaryCycle h) a.rules cycle_there cycle_back

  pub first_unlinked_too : (cat : Name) → FirstRule IsUnlinked g cat → FirstRule IsUnlinked h cat
  first_unlinked_too = like_first_rule g h IsUnlinked IsUnlinked a.rules unlinked_there unlinked_back
