-- Categories are linked as the rules say, and ranks that fall leave no cycle.
use Rattle.std.proofs.Common.{◌≡◌, ℕ, zero, suc, ◌+◌, ◌<◌, ◌≤◌, Bool, true, false, cond, List, [], ◌∷◌, ◌++◌, length, map, take, get_or, Some, Vec, Global, Result, Ok, Err, refl, sym, ap, ◌∙◌, subst, arith, inl, inr, ◌⊎◌}
use Rattle.std.specs.Prelude.{◌↔◌, slice_get, find}
use Rattle.std.specs.List.Sorted.{IsSearchInRange, IsBinarySearchResult, IsStrictlySortedBy}
use Rattle.std.proofs.lemmas.Cmp.{nat_list_cmp_total}
use Rattle.std.proofs.lemmas.List.{take_more, take_all}
use Rattle.std.proofs.lemmas.Option.{slice_get-get_or, slice_get_within}
use Rattle.lfg_terms.specs.Order.{name_cmp}
use Rattle.lfg_terms.proofs.Ties.{name_ties}
use Rattle.lfg_terms.specs.declared.grammar.Item.{Item}
use Rattle.lfg_terms.specs.declared.grammar.Rule.{Rule}
use Rattle.lfg_terms.specs.declared.grammar.Grammar.{Grammar}
use Rattle.lfg_model.specs.Derive.{rule_of, item_at}
use Rattle.lfg_model.specs.Firsts.{First, first, behind}
use Rattle.lfg_model.specs.Grounded.{IsEmptyItem, IsItemOf, HasOnlyCategory, Unary, Chain}
use Rattle.lfg_model.specs.Grounded as grounded
use Rattle.lfg_model.specs.Lists.{In, here, later, Lists, Once, more}
use Rattle.lfg_model.specs.Loads.{IsCategoryOf, daughter, head, IsUnaryCycle}
use Rattle.lfg_model.specs.TemplateRules.{NoneHas}
use Rattle.lfg_model.specs.Terms.{Name, same_name}
use Rattle.lfg_model.proofs.ListLaws.{In-nil, In-append_left, In-push, In-push_cases, In-take_more, In-cons_cases, In-map}
use Rattle.lfg_model.proofs.ManWalksTree.{In_from_find}
use Rattle.lfg_model.proofs.OneTree.{same_some}
use Rattle.lfg_rulegraph.specs.Followers.{IsAt}
use Rattle.lfg_regpath.proofs.Places.{once_in, rises, not_there}
use Rattle.lfg_templates.proofs.SameNames.{same_from_equal, equal_from_same}
use Rattle.lfg_grammar.specs.declared.reach.Link.{Link}
use Rattle.lfg_grammar.proofs.Reaching.{in_turned}
use Rattle.lfg_grammar.specs.Reach.{link, turned, IsTableOf, IsReached, begin, go_on}
use Rattle.lfg_grammar.specs.OnlyDaughters.{IsOnlyDaughter}
use Rattle.lfg_grammar.specs.Cycles.{IsFirstAt, RuleLinks, SomeRuleLinks, AreRuleLinks, LeadsTo, at_once, further, rank_of, RanksBelow, RanksFall, RanksRise, TellsCycles}

-- ---- places of categories

pub place_found : (cats : List Name) (cat : Name) (r : Result ℕ ℕ) (place : ℕ) → r ≡ Ok place → IsSearchInRange r (length cats) → IsBinarySearchResult (λ y. name_cmp y cat) cats r → slice_get cats place ≡ Some cat
place_found cats cat (Ok i) place e b h =
    let same : i ≡ place = cc in
    subst (λ (x : ℕ). slice_get cats x ≡ Some cat) same (slice_get-get_or cats i cat b ∙ ap (λ (y : Name). Some y) (name_ties (get_or cats i cat) cat (h cat)))
place_found cats cat (Err i) place e b h = cc

pub place_missing : (cats : List Name) (cat : Name) (r : Result ℕ ℕ) (place : ℕ) → r ≡ Err place → IsStrictlySortedBy name_cmp cats → IsBinarySearchResult (λ y. name_cmp y cat) cats r → In cat cats → ⊥
place_missing cats cat (Ok i) place e s h j = cc
place_missing cats cat (Err i) place e s h j = not_there name_cmp nat_list_cmp_total name_ties cats cat i (h (rises name_cmp nat_list_cmp_total name_ties cats cat s)) j

place_in : {X : Type 0} (xs : List X) (i : ℕ) (x : X) → slice_get xs i ≡ Some x → In x xs
place_in [] i x e = cc
place_in (y ∷ xs) zero x e = let same : y ≡ x = same_some _ _ e in rw same here
place_in (y ∷ xs) (suc i) x e = later (place_in xs i x e)

one_place_in : {X : Type 0} (xs : List X) (i j : ℕ) (x : X) → Once xs → slice_get xs i ≡ Some x → slice_get xs j ≡ Some x → i ≡ j
one_place_in [] i j x o e f = cc
one_place_in (y ∷ xs) zero zero x o e f = refl
one_place_in (y ∷ xs) zero (suc j) x (more n o) e f = let same : y ≡ x = same_some _ _ e in absurd (n (rw same (place_in xs j x f)))
one_place_in (y ∷ xs) (suc i) zero x (more n o) e f = let same : y ≡ x = same_some _ _ f in absurd (n (rw same (place_in xs i x e)))
one_place_in (y ∷ xs) (suc i) (suc j) x (more n o) e f = ap suc (one_place_in xs i j x o e f)

-- a category stands at one place
pub one_place : (cats : List Name) (i j : ℕ) (cat : Name) → IsStrictlySortedBy name_cmp cats → slice_get cats i ≡ Some cat → slice_get cats j ≡ Some cat → i ≡ j
one_place cats i j cat s e f = one_place_in cats i j cat (once_in name_cmp nat_list_cmp_total cats s) e f

-- and each that is listed has one
in_place : {X : Type 0} {x : X} {xs : List X} → In x xs → (i : ℕ) × (slice_get xs i ≡ Some x)
in_place here = (0, refl)
in_place (later h) = let p = in_place h in (suc p.0, p.1)

-- ---- the links of one rule

-- a link from this place to that of one of the daughters
pub record LinksDown (cats : List Name) (from : ℕ) (daughters : List Name) (a b : ℕ) : Type 0 where
  pub above : a ≡ from
  pub daughter : Name
  pub below : slice_get cats b ≡ Some daughter
  pub among : In daughter daughters

module _ (cats : List Name) (sorted : IsStrictlySortedBy name_cmp cats) where
  pub down_none : (from : ℕ) (links : List Link) (a b : ℕ) → In (link a b) links ↔ (In (link a b) links ⊎ LinksDown cats from [] a b)
  down_none from links a b = ((λ i. inl i), (λ h. elim h [ inl i ↦ i | inr d ↦ In-nil d.among ]))

  pub down_more : (from place : ℕ) (old links : List Link) (names : List Name) (n : ℕ) (d : Name) → n < length names → slice_get cats place ≡ Some (get_or names n d)
      → ((a b : ℕ) → In (link a b) links ↔ (In (link a b) old ⊎ LinksDown cats from (take n names) a b))
      → (a b : ℕ) → In (link a b) (links ++ link from place ∷ []) ↔ (In (link a b) old ⊎ LinksDown cats from (take (n + 1) names) a b)
  down_more from place old links names n d l at h a b = (there, back)
    where
      c : Name
      c = get_or names n d

      whole : take (n + 1) names ≡ take n names ++ c ∷ []
      whole = take_more names n d l

      there : In (link a b) (links ++ link from place ∷ []) → In (link a b) old ⊎ LinksDown cats from (take (n + 1) names) a b
      there i = elim (In-push_cases links (link from place) i) [
        | inl j ↦ elim ((h a b).0 j) [
          | inl k ↦ inl k
          | inr k ↦ inr (record { above = k.above; daughter = k.daughter; below = k.below; among = subst (λ (xs : List Name). In k.daughter xs) (sym whole) (In-append_left (c ∷ []) k.among) })
        ]
        | inr e ↦ inr (record {
          above = ap (λ (x : Link). x.from) e;
          daughter = c;
          below = subst (λ (x : ℕ). slice_get cats x ≡ Some c) (sym (ap (λ (x : Link). x.to) e)) at;
          among = subst (λ (xs : List Name). In c xs) (sym whole) (In-push (take n names) c);
        })
      ]

      back : In (link a b) old ⊎ LinksDown cats from (take (n + 1) names) a b → In (link a b) (links ++ link from place ∷ [])
      back s = elim s [
        | inl k ↦ In-append_left (link from place ∷ []) ((h a b).1 (inl k))
        | inr k ↦ elim (In-push_cases (take n names) c (subst (λ (xs : List Name). In k.daughter xs) whole k.among)) [
          | inl j ↦ In-append_left (link from place ∷ []) ((h a b).1 (inr (record { above = k.above; daughter = k.daughter; below = k.below; among = j })))
          | inr e ↦
              let to : b ≡ place = one_place cats b place c sorted (k.below ∙ ap (λ (y : Name). Some y) e) at in
              let same : link from place ≡ link a b = λ x. link (sym k.above x) (sym to x) in
              subst (λ (y : Link). In y (links ++ link from place ∷ [])) same (In-push links (link from place))
        ]
      ]

  pub down_all : (rule : Rule) (from : ℕ) (old links : List Link) (names : List Name) (n : ℕ) → length names ≤ n → slice_get cats from ≡ Some rule.cat
      → ((cat : Name) → In cat names ↔ IsOnlyDaughter rule cat)
      → ((a b : ℕ) → In (link a b) links ↔ (In (link a b) old ⊎ LinksDown cats from (take n names) a b))
      → (a b : ℕ) → In (link a b) links ↔ (In (link a b) old ⊎ RuleLinks cats rule a b)
  down_all rule from old links names n l at only h a b = (there, back)
    where
      whole : take n names ≡ names
      whole = take_all n names l

      there : In (link a b) links → In (link a b) old ⊎ RuleLinks cats rule a b
      there i = elim ((h a b).0 i) [
        | inl k ↦ inl k
        | inr k ↦ inr (record {
          above = subst (λ (x : ℕ). slice_get cats x ≡ Some rule.cat) (sym k.above) at;
          daughter = k.daughter;
          below = k.below;
          only = (only k.daughter).0 (subst (λ (xs : List Name). In k.daughter xs) whole k.among);
        })
      ]

      back : In (link a b) old ⊎ RuleLinks cats rule a b → In (link a b) links
      back s = elim s [
        | inl k ↦ (h a b).1 (inl k)
        | inr k ↦ (h a b).1 (inr (record {
          above = one_place cats a from rule.cat sorted k.above at;
          daughter = k.daughter;
          below = k.below;
          among = subst (λ (xs : List Name). In k.daughter xs) (sym whole) ((only k.daughter).1 k.only);
        }))
      ]

-- ---- the links of all rules

pub rules_none : (cats : List Name) → AreRuleLinks cats [] []
rules_none cats = record { each = λ a b. ((λ i. In-nil i), (λ s. In-nil s.among)) }

pub rules_more : (cats : List Name) (rules : List Rule) (n : ℕ) (r : Rule) (old new : List Link) → n < length rules → r ≡ get_or rules n r → AreRuleLinks cats (take n rules) old
    → ((a b : ℕ) → In (link a b) new ↔ (In (link a b) old ⊎ RuleLinks cats r a b)) → AreRuleLinks cats (take (n + 1) rules) new
rules_more cats rules n r old new l e h p = record { each = λ a b. (there a b, back a b) }
  where
    whole : take (n + 1) rules ≡ take n rules ++ r ∷ []
    whole = take_more rules n r l ∙ ap (λ (x : Rule). take n rules ++ x ∷ []) (sym e)

    there : (a b : ℕ) → In (link a b) new → SomeRuleLinks cats (take (n + 1) rules) a b
    there a b i = elim ((p a b).0 i) [
      | inl j ↦ let s = (h.each a b).0 j in record { rule = s.rule; among = subst (λ (xs : List Rule). In s.rule xs) (sym whole) (In-append_left (r ∷ []) s.among); links = s.links }
      | inr k ↦ record { rule = r; among = subst (λ (xs : List Rule). In r xs) (sym whole) (In-push (take n rules) r); links = k }
    ]

    back : (a b : ℕ) → SomeRuleLinks cats (take (n + 1) rules) a b → In (link a b) new
    back a b s = elim (In-push_cases (take n rules) r (subst (λ (xs : List Rule). In s.rule xs) whole s.among)) [
      | inl j ↦ (p a b).1 (inl ((h.each a b).1 (record { rule = s.rule; among = j; links = s.links })))
      | inr f ↦ (p a b).1 (inr (subst (λ (x : Rule). RuleLinks cats x a b) f s.links))
    ]

pub link_within : (g : Grammar) (links : List Link) → AreRuleLinks g.cats g.rules links → (l : Link) → In l links → (l.from < length g.cats) × (l.to < length g.cats)
link_within g links are l i =
    let s = (are.each l.from l.to).0 i in
    (slice_get_within g.cats l.from s.rule.cat s.links.above, slice_get_within g.cats l.to s.links.daughter s.links.below)

pub turned_within : (g : Grammar) (links : List Link) → AreRuleLinks g.cats g.rules links → (l : Link) → In l (map turned links) → l.from < length g.cats
turned_within g links are l i = (link_within g links are (turned l) ((in_turned links l.from l.to).0 i)).1

-- ---- what a search says, and what ranks say

row_leads : (next : List (Vec ℕ Global)) (i : ℕ) (row : List ℕ) → ((j : ℕ) → IsAt next i j ↔ In j row) → {j : ℕ} → IsReached next row j → LeadsTo next i j
row_leads next i row is (begin {i = j} h) = at_once ((is j).1 h)
row_leads next i row is (go_on r a) = further (row_leads next i row is r) a

leads_row : (next : List (Vec ℕ Global)) (i : ℕ) (row : List ℕ) → ((j : ℕ) → IsAt next i j ↔ In j row) → {j : ℕ} → LeadsTo next i j → IsReached next row j
leads_row next i row is (at_once {j} a) = begin ((is j).0 a)
leads_row next i row is (further l a) = go_on (leads_row next i row is l) a

pub reached_leads : (next : List (Vec ℕ Global)) (i : ℕ) (row : List ℕ) → ((j : ℕ) → IsAt next i j ↔ In j row) → (j : ℕ) → IsReached next row j ↔ LeadsTo next i j
reached_leads next i row is j = ((λ r. row_leads next i row is r), (λ l. leads_row next i row is l))

falls : (next : List (Vec ℕ Global)) (ranks : List ℕ) → RanksFall next ranks → {i j : ℕ} → LeadsTo next i j → 0 < rank_of ranks i → RanksBelow ranks (rank_of ranks i) j
falls next ranks f (at_once {i} {j} a) l = f.each i j l a
falls next ranks f (further {i} {j} {k} w a) l =
    let p = falls next ranks f w l in
    let q = f.each j k p.0 a in
    (q.0, let x = p.1 in let y = q.1 in omega arith)

pub ranked_is_on_no_cycle : (next : List (Vec ℕ Global)) (ranks : List ℕ) (i : ℕ) → RanksFall next ranks → 0 < rank_of ranks i → ¬ LeadsTo next i i
ranked_is_on_no_cycle next ranks i f l w = let p = falls next ranks f w l in let q = p.1 in omega arith

rises_to : (next : List (Vec ℕ Global)) (ranks : List ℕ) → RanksRise next ranks → {i j : ℕ} → LeadsTo next i j → 0 < rank_of ranks j → RanksBelow ranks (rank_of ranks j) i
rises_to next ranks f (at_once {i} {j} a) l = f.each i j l a
rises_to next ranks f (further {i} {j} {k} w a) l =
    let p = f.each j k l a in
    let q = rises_to next ranks f w p.0 in
    (q.0, let x = p.1 in let y = q.1 in omega arith)

pub ranked_above_is_on_no_cycle : (next : List (Vec ℕ Global)) (ranks : List ℕ) (i : ℕ) → RanksRise next ranks → 0 < rank_of ranks i → ¬ LeadsTo next i i
ranked_above_is_on_no_cycle next ranks i f l w = let p = rises_to next ranks f w l in let q = p.1 in omega arith

-- ranks that fall along the links the other way rise along them
pub rise_from_fall : (links : List Link) (next back : List (Vec ℕ Global)) (ranks : List ℕ) → IsTableOf links next → IsTableOf (map turned links) back → RanksFall back ranks → RanksRise next ranks
rise_from_fall links next back ranks t u f = record {
  each = λ i j l a. f.each j i l ((u.each j i).1 ((in_turned links j i).1 ((t.each i j).0 a)));
}

-- ---- the rule of a category

rule_found : (rules : List Rule) (r : Rule) → Once (map (λ x. x.cat) rules) → In r rules → find (λ x. same_name x.cat r.cat) rules ≡ Some r
rule_found [] r o i = In-nil i
rule_found (x ∷ rules) r (more n o) i = elim (In-cons_cases i) [
  | inl e ↦
      let t : same_name x.cat r.cat ≡ true = same_from_equal x.cat r.cat (ap (λ (y : Rule). y.cat) (sym e)) in
      rw (t, e) refl
  | inr j ↦ go (same_name x.cat r.cat) refl j (rule_found rules r o j)
]
  where
    go : (b : Bool) → same_name x.cat r.cat ≡ b → In r rules → find (λ y. same_name y.cat r.cat) rules ≡ Some r → cond b (Some x) (find (λ y. same_name y.cat r.cat) rules) ≡ Some r
    go true e j f =
        let same : x.cat ≡ r.cat = equal_from_same x.cat r.cat e in
        absurd (n (subst (λ (c : Name). In c (map (λ y. y.cat) rules)) (sym same) (In-map (λ (y : Rule). y.cat) j)))
    go false e j f = f

-- an only daughter is the category of an item
item_in : (items : List Item) (p : ℕ) (i : Item) → item_at items p ≡ Some i → In i items
item_in items zero i e = cc
item_in items (suc k) i e = place_in items k i e

only_item : (rule : Rule) (w : List ℕ) (cat : Name) → HasOnlyCategory rule w cat → (i : Item) × In i rule.items × (i.cat ≡ Some cat)
only_item rule [] cat h = absurd h
only_item rule (p ∷ w) cat h = elim h [
  | inl a ↦ only_item rule w cat a.1
  | inr b ↦ (b.0.0, item_in rule.items p b.0.0 b.0.1, b.0.2)
]

module _ (g : Grammar) (listed : Lists name_cmp (IsCategoryOf g) g.cats) where
  pub rule_listed : (r : Rule) → In r g.rules → In r.cat g.cats
  rule_listed r i = (listed.exact r.cat).1 (head i refl)

  pub daughter_listed : (r : Rule) (cat : Name) → In r g.rules → IsOnlyDaughter r cat → In cat g.cats
  daughter_listed r cat i d = let o = only_item r d.0 cat d.2 in (listed.exact cat).1 (daughter i o.1 o.2)

  module _ (once : Once (map (λ r. r.cat) g.rules)) (links : List Link) (are : AreRuleLinks g.cats g.rules links) (next : List (Vec ℕ Global)) (table : IsTableOf links next) where
    step_of : (a b : ℕ) (x : Name) → slice_get g.cats a ≡ Some x → IsAt next a b → (y : Name) × (slice_get g.cats b ≡ Some y) × Unary g y x
    step_of a b x at h =
        let s = (are.each a b).0 ((table.each a b).0 h) in
        let same : s.rule.cat ≡ x = same_some _ _ (sym s.links.above ∙ at) in
        let own : rule_of g x ≡ Some s.rule = subst (λ (c : Name). rule_of g c ≡ Some s.rule) same (rule_found g.rules s.rule once s.among) in
        (s.links.daughter, s.links.below, (s.rule, own, s.links.only))

    rule_cat : (x : Name) (r : Rule) → rule_of g x ≡ Some r → In r g.rules × (r.cat ≡ x)
    rule_cat x r e = let f = In_from_find (λ z. same_name z.cat x) g.rules r e in (f.0, equal_from_same r.cat x f.1)

    of_step : (a : ℕ) (x y : Name) → slice_get g.cats a ≡ Some x → Unary g y x → (b : ℕ) × (slice_get g.cats b ≡ Some y) × IsAt next a b
    of_step a x y at u =
        let f = rule_cat x u.0 u.1 in
        let b = in_place (daughter_listed u.0 y f.0 u.2) in
        let links : RuleLinks g.cats u.0 a b.0 = record { above = at ∙ ap (λ (c : Name). Some c) (sym f.1); daughter = y; below = b.1; only = u.2 } in
        (b.0, b.1, (table.each a b.0).1 ((are.each a b.0).1 (record { rule = u.0; among = f.0; links = links })))

    chain_end : {z y x : Name} → Chain (Unary g) y x → Unary g z y → Chain (Unary g) z x
    chain_end (grounded.link r) s = grounded.links r (grounded.link s)
    chain_end (grounded.links r c) s = grounded.links r (chain_end c s)

    chain_of : (x : Name) {a b : ℕ} → slice_get g.cats a ≡ Some x → LeadsTo next a b → (y : Name) × (slice_get g.cats b ≡ Some y) × Chain (Unary g) y x
    chain_of x {a} {b} at (at_once h) = let s = step_of a b x at h in (s.0, s.1, grounded.link s.2)
    chain_of x {b = c} at (further {j = b} w h) =
        let r = chain_of x at w in
        let s = step_of b c r.0 r.1 h in
        (s.0, s.1, chain_end r.2 s.2)

    joined : {a b c : ℕ} → LeadsTo next a b → LeadsTo next b c → LeadsTo next a c
    joined w (at_once h) = further w h
    joined w (further v h) = further (joined w v) h

    of_chain : {y x : Name} (a : ℕ) → slice_get g.cats a ≡ Some x → Chain (Unary g) y x → (b : ℕ) × (slice_get g.cats b ≡ Some y) × LeadsTo next a b
    of_chain {y} {x} a at (grounded.link u) = let s = of_step a x y at u in (s.0, s.1, at_once s.2)
    of_chain {x = x} a at (grounded.links {y} u c) =
        let s = of_step a x y at u in
        let r = of_chain s.0 s.1 c in
        (r.0, r.1, joined (at_once s.2) r.2)

    -- a category is on a cycle just where its place leads to itself
    pub cycle_at : (r : Rule) (a : ℕ) → slice_get g.cats a ≡ Some r.cat → LeadsTo next a a ↔ IsUnaryCycle g r
    cycle_at r a at = (there, back)
      where
        there : LeadsTo next a a → IsUnaryCycle g r
        there w =
            let c = chain_of r.cat at w in
            let same : c.0 ≡ r.cat = same_some _ _ (sym c.1 ∙ at) in
            subst (λ (y : Name). Chain (Unary g) y r.cat) same c.2

        back : IsUnaryCycle g r → LeadsTo next a a
        back c =
            let w = of_chain a at c in
            let same : w.0 ≡ a = one_place g.cats w.0 a r.cat listed.ascends w.1 at in
            subst (λ (b : ℕ). LeadsTo next a b) same w.2

    pub tells_cycles : length next ≡ length g.cats → TellsCycles g next
    tells_cycles e = record { wide = e; each = cycle_at }

-- ---- the first

none_take : {X : Type 0} {P : X → Type 0} (xs : List X) (i : ℕ) (d : X) → i < length xs → NoneHas P (take i xs) → P (get_or xs i d) → First P xs (get_or xs i d)
none_take [] i d l n p = absurd (let no : ⊥ = omega arith in no)
none_take (x ∷ xs) zero d l n p = first p
none_take (x ∷ xs) (suc i) d l n p = behind (λ q. n x here q) (none_take xs i d (omega arith) (λ y j. n y (later j)) p)

pub first_at : {X : Type 0} {P : X → Type 0} (xs : List X) (i : ℕ) (d : X) → i < length xs → NoneHas P (take i xs) → P (get_or xs i d) → IsFirstAt P xs i
first_at xs i d l n p = record { within = l; first = get_or xs i d; at = slice_get-get_or xs i d l; is_first = none_take xs i d l n p }

pub none_more : {X : Type 0} {P : X → Type 0} (xs : List X) (i : ℕ) (x : X) → i < length xs → x ≡ get_or xs i x → NoneHas P (take i xs) → ¬ P x → NoneHas P (take (i + 1) xs)
none_more {P = P} xs i x l e n not = λ y j p. elim (In-take_more xs i x l j) [ inl a ↦ n y a p | inr b ↦ not (subst P (b ∙ sym e) p) ]

-- ---- the ranks of one more place, and of one more follower

pub below_more : (row ranks : List ℕ) (n rank : ℕ) → n < length row → 0 < rank_of ranks (get_or row n 0) → rank_of ranks (get_or row n 0) < rank → ((j : ℕ) → In j (take n row) → RanksBelow ranks rank j)
    → (j : ℕ) → In j (take (n + 1) row) → RanksBelow ranks rank j
below_more row ranks n rank l a b h j i = elim (In-take_more row n 0 l i) [
  | inl k ↦ h j k
  | inr e ↦ subst (λ (x : ℕ). RanksBelow ranks rank x) (sym e) (a, b)
]

pub ranks_more : (next : List (Vec ℕ Global)) (ranks : List ℕ) (place : ℕ) → ((i j : ℕ) → i < place → 0 < rank_of ranks i → IsAt next i j → RanksBelow ranks (rank_of ranks i) j)
    → ((j : ℕ) → 0 < rank_of ranks place → IsAt next place j → RanksBelow ranks (rank_of ranks place) j)
    → (i j : ℕ) → i < place + 1 → 0 < rank_of ranks i → IsAt next i j → RanksBelow ranks (rank_of ranks i) j
ranks_more next ranks place h own i j l r a = elim (last i place l) [
  | inl k ↦ h i j k r a
  | inr e ↦
      let P : ℕ → Type 0 = λ x. 0 < rank_of ranks x → IsAt next x j → RanksBelow ranks (rank_of ranks x) j in
      subst P (sym e) (own j) r a
]
  where
    last : (i place : ℕ) → i < place + 1 → (i < place) ⊎ (i ≡ place)
    last i place l = grind arith
