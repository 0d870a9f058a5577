-- The items and entries of a sentence are those of its steps and words.
use Rattle.std.proofs.Common.{◌≡◌, ◌↔◌, ℕ, ◌+◌, ◌<◌, ◌⊎◌, inl, inr, Some, List, [], ◌∷◌, ◌++◌, length, map, slice_get, refl, sym, ap, subst, ◌∙◌, arith}
use Rattle.std.specs.declared.cmp.Ordering.TheVariants.{Less}
use Rattle.std.specs.List.Sorted.{IsStrictlySortedBy}
use Rattle.std.proofs.lemmas.Option.{slice_get_within}
use Rattle.lfg_terms.specs.declared.node.Edge.{Edge}
use Rattle.lfg_terms.specs.declared.literal.Site.{Site}
use Rattle.lfg_terms.specs.declared.literal.Site.TheVariants as site
use Rattle.lfg_terms.specs.declared.grammar.Item.{Item}
use Rattle.lfg_terms.specs.declared.grammar.Rule.{Rule}
use Rattle.lfg_terms.specs.declared.grammar.Grammar.{Grammar}
use Rattle.lfg_terms.specs.declared.tree.TokenForms.{TokenForms}
use Rattle.lfg_model.specs.declared.point.Point.{Point}
use Rattle.lfg_model.specs.declared.point.Next.TheVariants as next
use Rattle.lfg_model.specs.Charts.{Fork, IsChart}
use Rattle.lfg_model.specs.Derive.{item_at}
use Rattle.lfg_model.specs.Kept.{KeptSpot, Crosses, by_none, by_edge, an_edge, a_word, a_step, an_end, item_pick, entry_pick, IsFillable}
use Rattle.lfg_model.specs.Lists.{In, here, later, Once, none, more, Lists}
use Rattle.lfg_model.specs.Loaded.{Loaded}
use Rattle.lfg_model.specs.Spots.{point, Spot, AnEdge, AStep, AWord, APick, Stands}
use Rattle.lfg_model.proofs.Ascending.{all_in, once_from_total}
use Rattle.lfg_model.proofs.ChartLaws.{kept_edge_stands, kept_edge_of, Lists-same}
use Rattle.lfg_model.proofs.ListLaws.{In-map, In_from_map}
use Rattle.lfg_model.proofs.Standing.{kept_is_standing}
use Rattle.lfg_packed.specs.declared.key.ChoiceKey.{ChoiceKey}
use Rattle.lfg_packed.specs.ChoicePoints.{key_cmp}
use Rattle.lfg_packed.specs.Choices.{IsSite}
use Rattle.lfg_packed.specs.KeyLaws.{key_cmp_total}
use Rattle.lfg_packed.proofs.Listing.{In_get, get_In, get_below}
use Rattle.lfg_packed.proofs.LoadedGives.{fillable}
use Rattle.lfg_instant.specs.Collects.{Collects}
use Rattle.lfg_instant.specs.declared.steps.Step.{Step}
use Rattle.lfg_instant.specs.declared.steps.Word.{Word}
use Rattle.lfg_instant.specs.Sites.{AreEntryLists, AreSiteKeys, IsKeyOf, IsWordKeyOf, entry_of, item_of, site_key, site_of_key}
use Rattle.lfg_instant.proofs.CollectLaws.{MadeBy, collected, collects_one, collects_trans, counted_more, made_one}
use Rattle.lfg_instant.specs.Steps.{IsStepOf, AreSteps, IsWordOf, AreWordsOf}

-- what a list of picks has besides, the step or the word, and back
abbrev HasWay : Grammar → List TokenForms → Spot → Type 0
HasWay g s (AnEdge e) = Unit {0}
HasWay g s (AStep p n) = Unit {0}
HasWay g s (AWord e k) = Unit {0}
HasWay g s (APick (site.Item e occ at to) picks) = (q : ℕ) × KeptSpot g s (AStep (point e q at) (next.Item occ to))
HasWay g s (APick (site.Entry e k) picks) = KeptSpot g s (AWord e k)

has_way : (g : Grammar) (s : List TokenForms) (x : Spot) → KeptSpot g s x → HasWay g s x
has_way g s x (an_edge k) = tt
has_way g s x (a_word k w) = tt
has_way g s x (a_step rule p k is reach follow crosses ends) = tt
has_way g s x (an_end rule k is reach end) = tt
has_way g s x (item_pick {e} {q} rule p item k is reach follow crosses ends listed fits) = (q, a_step rule p k is reach follow crosses ends)
has_way g s x (entry_pick lex k w listed fits) = a_word k w

abbrev HasPicks : Grammar → List TokenForms → Spot → Type 0
HasPicks g s (AnEdge e) = Unit {0}
HasPicks g s (AStep p next.End) = Unit {0}
HasPicks g s (AStep p (next.Item occ to)) = (picks : List ℕ) × KeptSpot g s (APick (site.Item p.edge occ p.at to) picks)
HasPicks g s (AWord e k) = (picks : List ℕ) × KeptSpot g s (APick (site.Entry e k) picks)
HasPicks g s (APick at picks) = Unit {0}

-- the item that is crossed
crossed : (g : Grammar) (s : List TokenForms) (rule : Rule) (occ at to : ℕ) → Crosses g s rule occ at to → (item : Item) × (item_at rule.items occ ≡ Some item)
crossed g s rule occ at to (by_none item listed c) = (item, listed)
crossed g s rule occ at to (by_edge item cat listed c d) = (item, listed)

has_picks : (g : Grammar) (s : List TokenForms) → IsFillable g → (x : Spot) → KeptSpot g s x → HasPicks g s x
has_picks g s fill x (an_edge k) = tt
has_picks g s fill x (a_word {e} {k} kept w) = let f = fill.entries k w.lex w.listed in (f.0, entry_pick w.lex kept w w.listed f.1)
has_picks g s fill x (a_step {e} {q} {at} {mid} rule p k is reach follow crosses ends) =
    let i = crossed g s rule p at mid crosses in
    let f = fill.items e.cat rule p i.0 is i.1 in
    (f.0, item_pick rule p i.0 k is reach follow crosses ends i.1 f.1)
has_picks g s fill x (an_end rule k is reach end) = tt
has_picks g s fill x (item_pick rule p item k is reach follow crosses ends listed fits) = tt
has_picks g s fill x (entry_pick lex k w listed fits) = tt

module _ (g : Grammar) (s : List TokenForms) (fill : IsFillable g) where
  -- an item of a whole derivation is that of a step
  pub item_is_step : (e : Edge) (occ at to : ℕ) → IsSite g s (site.Item e occ at to) ↔ ((q : ℕ) × Stands g s (AStep (point e q at) (next.Item occ to)))
  item_is_step e occ at to = (
    (λ h.
        let w = has_way g s (APick (site.Item e occ at to) h.0) ((kept_is_standing g s fill (APick (site.Item e occ at to) h.0)).1 h.1) in
        (w.0, (kept_is_standing g s fill (AStep (point e w.0 at) (next.Item occ to))).0 w.1)),
    (λ h.
        let p = has_picks g s fill (AStep (point e h.0 at) (next.Item occ to)) ((kept_is_standing g s fill (AStep (point e h.0 at) (next.Item occ to))).1 h.1) in
        (p.0, (kept_is_standing g s fill (APick (site.Item e occ at to) p.0)).0 p.1)),
  )

  -- and an entry is that of a word
  pub entry_is_word : (e : Edge) (k : ℕ) → IsSite g s (site.Entry e k) ↔ Stands g s (AWord e k)
  entry_is_word e k = (
    (λ h. (kept_is_standing g s fill (AWord e k)).0 (has_way g s (APick (site.Entry e k) h.0) ((kept_is_standing g s fill (APick (site.Entry e k) h.0)).1 h.1))),
    (λ h.
        let p = has_picks g s fill (AWord e k) ((kept_is_standing g s fill (AWord e k)).1 h) in
        (p.0, (kept_is_standing g s fill (APick (site.Entry e k) p.0)).0 p.1)),
  )

-- a chart's steps are those of whole derivations
module _ (g : Grammar) (s : List TokenForms) (edges : List Edge) (forks : List Fork) (chart : IsChart g s edges forks) where
  pub step_stands : (step : Step) → IsStepOf forks step → Stands g s (AStep step.point (next.Item step.occ step.to))
  step_stands step h =
      let all = chart.all_nexts (step.point, h.ways) (get_In forks step.place (step.point, h.ways) h.listed) in
      (all.exact (next.Item step.occ step.to)).0 (get_In h.ways step.number (next.Item step.occ step.to) h.taken)

  pub standing_step : (p : Point) (occ to : ℕ) → Stands g s (AStep p (next.Item occ to)) → (step : Step) × IsStepOf forks step × (step.point ≡ p) × (step.occ ≡ occ) × (step.to ≡ to)
  standing_step p occ to st =
      let there = In_from_map (λ (f : Fork). f.0) forks ((chart.all_points.exact p).1 (next.Item occ to, st)) in
      let fork = there.0 in
      let at = In_get there.1 in
      let stands : Stands g s (AStep fork.0 (next.Item occ to)) = subst (λ (z : Point). Stands g s (AStep z (next.Item occ to))) (sym there.2) st in
      let way = In_get ((((chart.all_nexts fork there.1)).exact (next.Item occ to)).1 stands) in (
        record { place = at.0; point = fork.0; number = way.0; of = length fork.1; occ = occ; to = to },
        record { ways = fork.1; listed = at.1; taken = way.1; many = refl },
        there.2,
        refl,
        refl,
      )

  -- and its words, where the entries of whole derivations stand beside its edges
  module _ (fill : IsFillable g) (lists : List (List ℕ)) (are : AreEntryLists g s edges lists) where
    pub word_stands : (word : Word) → IsWordOf edges lists word → Stands g s (AWord word.edge word.entry)
    word_stands word h = ((are.each word.place word.edge h.entries h.listed h.beside).exact word.entry).0 (get_In h.entries word.number word.entry h.taken)

    pub standing_word : (e : Edge) (k : ℕ) → Stands g s (AWord e k) → (word : Word) × IsWordOf edges lists word × (word.edge ≡ e) × (word.entry ≡ k)
    standing_word e k st =
        let kept = kept_edge_of g s (AWord e k) ((kept_is_standing g s fill (AWord e k)).1 st) in
        let at = In_get ((chart.all_edges.exact e).1 ((kept_edge_stands g s fill e).0 kept)) in
        let row = get_below lists at.0 (let w = slice_get_within edges at.0 e at.1 in omega (arith, w, are.beside)) in
        let way = In_get (((are.each at.0 e row.0 at.1 row.1).exact k).1 st) in (
          record { place = at.0; edge = e; number = way.0; of = length row.0; entry = k },
          record { entries = row.0; listed = at.1; beside = row.1; taken = way.1; many = refl },
          refl,
          refl,
        )

-- ---- the keys of steps and words are those of all items and entries

abbrev pub IsSiteKey : Grammar → List TokenForms → ChoiceKey → Type 0
IsSiteKey g s key = (at : Site) × IsSite g s at × (key ≡ site_key g s at)

pub keys_are : (g : Grammar) (s : List TokenForms) (edges : List Edge) (forks : List Fork) (lists : List (List ℕ)) (steps : List Step) (words : List Word)
    → Loaded g → IsChart g s edges forks → AreEntryLists g s edges lists → AreSteps forks steps → AreWordsOf edges lists words
    → (key : ChoiceKey) → (IsKeyOf g s steps key ⊎ IsWordKeyOf g s words key) ↔ IsSiteKey g s key
keys_are g s edges forks lists steps words loaded chart are of_steps of_words key = (
  (λ h. elim h [
    | inl i ↦ (item_of i.0, (item_is_step g s fill i.0.point.edge i.0.occ i.0.point.at i.0.to).1 (i.0.point.occ, step_stands g s edges forks chart i.0 ((of_steps.exact i.0).0 i.1)), i.2)
    | inr w ↦ (entry_of w.0, (entry_is_word g s fill w.0.edge w.0.entry).1 (word_stands g s edges forks chart fill lists are w.0 ((of_words.exact w.0).0 w.1)), w.2)
  ]),
  (λ h. from h.0 h.1 h.2),
)
  where
    fill : IsFillable g
    fill = fillable g loaded

    from : (at : Site) → IsSite g s at → key ≡ site_key g s at → IsKeyOf g s steps key ⊎ IsWordKeyOf g s words key
    from (site.Item e occ at to) is same =
        let q = (item_is_step g s fill e occ at to).0 is in
        let w = standing_step g s edges forks chart (point e q.0 at) occ to q.1 in
        let edge : w.0.point.edge ≡ e = ap (λ (p : Point). p.edge) w.2 in
        let start : w.0.point.at ≡ at = ap (λ (p : Point). p.at) w.2 in
        let one : site.Item e occ at to ≡ item_of w.0 = (λ i. site.Item (sym edge i) (sym w.3 i) (sym start i) (sym w.4 i)) in
        inl (w.0, (of_steps.exact w.0).1 w.1, same ∙ ap (site_key g s) one)
    from (site.Entry e k) is same =
        let w = standing_word g s edges forks chart fill lists are e k ((entry_is_word g s fill e k).0 is) in
        let one : site.Entry e k ≡ entry_of w.0 = (λ i. site.Entry (sym w.2 i) (sym w.3 i)) in
        inr (w.0, (of_words.exact w.0).1 w.1, same ∙ ap (site_key g s) one)

-- so they are listed where those of the steps and then those of the words were collected
pub keys_listed : (g : Grammar) (s : List TokenForms) (edges : List Edge) (forks : List Fork) (lists : List (List ℕ)) (steps : List Step) (words : List Word)
    → Loaded g → IsChart g s edges forks → AreEntryLists g s edges lists → AreSteps forks steps → AreWordsOf edges lists words
    → (mid all set : List ChoiceKey) → Collects [] mid (IsKeyOf g s steps) → Collects mid all (IsWordKeyOf g s words) → Lists key_cmp (λ k. In k all) set → AreSiteKeys g s set
keys_listed g s edges forks lists steps words loaded chart are of_steps of_words mid all set first second listed =
    let both : Collects [] all (λ k. IsKeyOf g s steps k ⊎ IsWordKeyOf g s words k) =
    collects_trans [] mid all (IsKeyOf g s steps) (IsWordKeyOf g s words) (λ k. IsKeyOf g s steps k ⊎ IsWordKeyOf g s words k) first second (λ k. ((λ h. h), (λ h. h))) in
    Lists-same (λ k. (
    let a = collected all (λ k. IsKeyOf g s steps k ⊎ IsWordKeyOf g s words k) both k in
    let b = keys_are g s edges forks lists steps words loaded chart are of_steps of_words k in
    ((λ h. b.0 (a.0 h)), (λ h. a.1 (b.1 h)))
    )) listed

-- one key more
pub one_key : {X : Type 0} (f : X → ChoiceKey) (xs : List X) (n : ℕ) (x : X) (key : ChoiceKey) (old keys new : List ChoiceKey)
    → slice_get xs n ≡ Some x → key ≡ f x → Collects old keys (λ k. (m : ℕ) × (m < n) × MadeBy f xs m k) → new ≡ keys ++ key ∷ []
    → Collects old new (λ k. (m : ℕ) × (m < n + 1) × MadeBy f xs m k)
one_key f xs n x key old keys new there is before grown =
    counted_more old keys new (MadeBy f xs) (λ k. k ≡ key) n before (collects_one keys new key grown)
    (λ k. (let o = made_one f xs n x there k in ((λ h. o.0 h ∙ sym is), (λ e. o.1 (e ∙ is)))))

-- ---- keys and the items and entries that they are of

pub site_of_its_key : (g : Grammar) (s : List TokenForms) (at : Site) → site_of_key (site_key g s at) ≡ at
site_of_its_key g s (site.Item e occ at to) = refl
site_of_its_key g s (site.Entry e k) = refl

-- no item or entry has two keys
once_keys : (g : Grammar) (s : List TokenForms) (keys : List ChoiceKey) → IsStrictlySortedBy key_cmp keys → ((key : ChoiceKey) → In key keys → key ≡ site_key g s (site_of_key key)) → Once (map site_of_key keys)
unfolding IsStrictlySortedBy
once_keys g s [] up of = none
once_keys g s (k ∷ keys) up of = more
    (λ i.
    let r = In_from_map site_of_key keys i in
    let same : r.0 ≡ k = of r.0 (later r.1) ∙ ap (site_key g s) r.2 ∙ sym (of k here) in
    let less : key_cmp k r.0 ≡ Less = all_in (λ x. key_cmp k x ≡ Less) up.0 r.1 in
    let self : key_cmp k k ≡ Less = subst (λ (x : ChoiceKey). key_cmp k x ≡ Less) same less in
    never k self)
    (once_keys g s keys up.1 (λ key i. of key (later i)))
  where
    never : (x : ChoiceKey) → key_cmp x x ≡ Less → ⊥
    never x h = once_from_total key_cmp_total x x h h

module _ (g : Grammar) (s : List TokenForms) (keys : List ChoiceKey) (are : AreSiteKeys g s keys) where
  -- each key is that of its item or entry, which some whole derivation has
  pub key_of_its_site : (key : ChoiceKey) → In key keys → key ≡ site_key g s (site_of_key key)
  key_of_its_site key i =
      let h = (are.exact key).0 i in
      h.2 ∙ ap (site_key g s) (sym (ap site_of_key h.2 ∙ site_of_its_key g s h.0))

  pub sites_once : Once (map site_of_key keys)
  sites_once = once_keys g s keys are.ascends key_of_its_site

  pub sites_are_all : (at : Site) → In at (map site_of_key keys) ↔ IsSite g s at
  sites_are_all at = (
    (λ i.
        let r = In_from_map site_of_key keys i in
        let h = (are.exact r.0).0 r.1 in
        let same : h.0 ≡ at = sym (ap site_of_key h.2 ∙ site_of_its_key g s h.0) ∙ r.2 in
        subst (λ (x : Site). IsSite g s x) same h.1),
    (λ is.
        let there : In (site_of_key (site_key g s at)) (map site_of_key keys) = In-map site_of_key ((are.exact (site_key g s at)).1 (at, is, refl)) in
        subst (λ (x : Site). In x (map site_of_key keys)) (site_of_its_key g s at) there),
  )
