-- A sentence has one chart at most, and a chart has all ways to go on. What is kept makes a chart.
use Rattle.std.proofs.Common.{◌≡◌, ◌↔◌, Bool, true, false, cond, List, [], ◌∷◌, refl, sym, ◌∙◌, ap, subst, ◌⊎◌, inl, inr}
use Rattle.std.specs.declared.cmp.Ordering.{Ordering}
use Rattle.std.specs.Ordering.{eq_by_cmp}
use Rattle.std.specs.List.Sorted.{IsStrictlySortedBy}
use Rattle.std.proofs.lemmas.Cmp.{eq_by_cmp_equiv}
use Rattle.std.proofs.lemmas.Bool.{false≢true}
use Rattle.lfg_terms.specs.Order.{edge_cmp}
use Rattle.lfg_terms.specs.OrderLaws.{edge_cmp_total}
use Rattle.lfg_terms.specs.declared.node.Edge.{Edge}
use Rattle.lfg_terms.specs.declared.grammar.Grammar.{Grammar}
use Rattle.lfg_terms.specs.declared.tree.TokenForms.{TokenForms}
use Rattle.lfg_model.specs.declared.point.Point.{Point}
use Rattle.lfg_model.specs.declared.point.Next.{Next}
use Rattle.lfg_model.specs.Lists.{In, here, later, Lists}
use Rattle.lfg_model.specs.Points.{point_cmp, next_cmp, point_cmp_total, next_cmp_total}
use Rattle.lfg_model.specs.Spots.{Spot, AnEdge, AStep, AWord, APick, Stands}
use Rattle.lfg_model.specs.Kept.{Kept, KeptSpot, an_edge, a_word, a_step, an_end, item_pick, entry_pick, IsFillable}
use Rattle.lfg_model.specs.Charts.{Fork, points_of, nexts_at, IsPoint, IsChart, OneChart, ChartHasAllNexts}
use Rattle.lfg_model.proofs.Ascending.{one_list, once_from_total, tied}
use Rattle.lfg_model.proofs.ListLaws.{In-nil, In-cons_cases}
use Rattle.lfg_model.proofs.OneTree.{same_cons, nil≢cons}
use Rattle.lfg_model.proofs.PointTies.{point_ties}
use Rattle.lfg_model.proofs.Standing.{kept_is_standing}

module _ (g : Grammar) (s : List TokenForms) where
  -- the ways to go on at the fork's point are those of the fork
  abbrev pub HasNexts : Fork → Type 0
  HasNexts fork = Lists next_cmp (λ n. Stands g s (AStep fork.0 n)) fork.1

  one_fork : (f h : Fork) → f.0 ≡ h.0 → HasNexts f → HasNexts h → f ≡ h
  one_fork f h same a b =
      let P : Point → Type 0 = λ p. Lists next_cmp (λ n. Stands g s (AStep p n)) f.1 in
      let nexts : f.1 ≡ h.1 = one_list next_cmp (once_from_total next_cmp_total) (λ n. Stands g s (AStep h.0 n)) f.1 h.1 (subst P same a) b in
      λ i. (same i, nexts i)

  one_row : (fs hs : List Fork) → points_of fs ≡ points_of hs → ((f : Fork) → In f fs → HasNexts f) → ((f : Fork) → In f hs → HasNexts f) → fs ≡ hs
  one_row [] [] same a b = refl
  one_row [] (h ∷ hs) same a b = absurd (nil≢cons _ _ same)
  one_row (f ∷ fs) [] same a b = absurd (nil≢cons _ _ (sym same))
  one_row (f ∷ fs) (h ∷ hs) same a b =
      let parts = same_cons _ _ _ _ same in
      let first = one_fork f h parts.0 (a f here) (b h here) in
      let rest = one_row fs hs parts.1 (λ x i. a x (later i)) (λ x i. b x (later i)) in
      λ i. first i ∷ rest i

  -- what is found at a point: the ways of a fork there, or none
  pub record IsFound (forks : List Fork) (p : Point) : Type 0 where
    pub fork : Fork
    pub there : In fork forks
    pub at : fork.0 ≡ p
    pub is : nexts_at forks p ≡ fork.1

  pub record IsMissing (forks : List Fork) (p : Point) : Type 0 where
    pub away : In p (points_of forks) → ⊥
    pub is : nexts_at forks p ≡ []

  pub found : (forks : List Fork) (p : Point) → IsFound forks p ⊎ IsMissing forks p
  found [] p = inr (record { away = λ i. In-nil i; is = refl })
  found (f ∷ fs) p = go (eq_by_cmp point_cmp f.0 p) refl (found fs p)
    where
      here_or : (b : Bool) → eq_by_cmp point_cmp f.0 p ≡ b → nexts_at (f ∷ fs) p ≡ cond b f.1 (nexts_at fs p)
      here_or b e = ap (λ c. cond c f.1 (nexts_at fs p)) e

      go : (b : Bool) → eq_by_cmp point_cmp f.0 p ≡ b → IsFound fs p ⊎ IsMissing fs p → IsFound (f ∷ fs) p ⊎ IsMissing (f ∷ fs) p
      go true e rest = inl (record { fork = f; there = here; at = tied point_cmp point_ties f.0 p e; is = here_or true e })
      go false e (inl r) = inl (record { fork = r.fork; there = later r.there; at = r.at; is = here_or false e ∙ r.is })
      go false e (inr r) = inr (record {
        away = λ i. elim (In-cons_cases i) [
          | inl same ↦ (let t : eq_by_cmp point_cmp f.0 p ≡ true = subst (λ (z : Point). eq_by_cmp point_cmp f.0 z ≡ true) (sym same) ((eq_by_cmp_equiv point_cmp_total).refl f.0) in false≢true (sym e ∙ t))
          | inr j ↦ r.away j
        ];
        is = here_or false e ∙ r.is;
      })

  all_nexts : (forks : List Fork) (p : Point) → ((q : Point) → IsPoint g s q → In q (points_of forks)) → ((f : Fork) → In f forks → HasNexts f)
      → Lists next_cmp (λ n. Stands g s (AStep p n)) (nexts_at forks p)
  unfolding IsStrictlySortedBy
  all_nexts forks p all each = elim (found forks p) [
    | inl r ↦ (let P : Point → List Next → Type 0 = λ q ns. Lists next_cmp (λ n. Stands g s (AStep q n)) ns in
        subst (λ (ns : List Next). P p ns) (sym r.is) (subst (λ (q : Point). P q r.fork.1) r.at (each r.fork r.there)))
    | inr r ↦ (let P : List Next → Type 0 = λ ns. Lists next_cmp (λ n. Stands g s (AStep p n)) ns in
        subst P (sym r.is) (record { ascends = tt; exact = λ n. (λ i. In-nil i, λ st. absurd (r.away (all p (n, st)))) }))
  ]

pub one_chart : OneChart
one_chart g s es es' fs fs' a b = (
  one_list edge_cmp (once_from_total edge_cmp_total) (λ e. Stands g s (AnEdge e)) es es' a.all_edges b.all_edges,
  one_row g s fs fs' (one_list point_cmp (once_from_total point_cmp_total) (IsPoint g s) (points_of fs) (points_of fs') a.all_points b.all_points) a.all_nexts b.all_nexts,
)

pub chart_has_all_nexts : ChartHasAllNexts
chart_has_all_nexts g s es fs c p = all_nexts g s fs p (λ q h. (c.all_points.exact q).1 h) c.all_nexts

-- ---- what is kept makes a chart

-- a set is one of all that is told the same way
pub Lists-same : {X : Type 0} {cmp : X → X → Ordering} {P Q : X → Type 0} {xs : List X} → ((x : X) → P x ↔ Q x) → Lists cmp P xs → Lists cmp Q xs
Lists-same same l = record { ascends = l.ascends; exact = λ x. (λ i. (same x).0 ((l.exact x).0 i), λ q. (l.exact x).1 ((same x).1 q)) }

-- the edge of a kept spot is kept
abbrev pub KeptEdge : Grammar → List TokenForms → Spot → Type 0
KeptEdge g s (AnEdge e) = Kept g s e
KeptEdge g s (AStep p n) = Kept g s p.edge
KeptEdge g s (AWord e k) = Kept g s e
KeptEdge g s (APick at picks) = Unit {0}

pub kept_edge_of : (g : Grammar) (s : List TokenForms) (x : Spot) → KeptSpot g s x → KeptEdge g s x
kept_edge_of g s x (an_edge k) = k
kept_edge_of g s x (a_word k w) = k
kept_edge_of g s x (a_step rule p k is reach follow crosses ends) = k
kept_edge_of g s x (an_end rule k is reach end) = k
kept_edge_of g s x (item_pick rule p item k is reach follow crosses ends listed fits) = tt
kept_edge_of g s x (entry_pick lex k w listed fits) = tt

module _ (g : Grammar) (s : List TokenForms) (fill : IsFillable g) where
  pub kept_edge_stands : (e : Edge) → Kept g s e ↔ Stands g s (AnEdge e)
  kept_edge_stands e = let k = kept_is_standing g s fill (AnEdge e) in (λ h. k.0 (an_edge h), λ st. kept_edge_of g s (AnEdge e) (k.1 st))

  pub chart_of_kept : (es : List Edge) (fs : List Fork) → Lists edge_cmp (Kept g s) es → Lists point_cmp (λ p. (n : Next) × KeptSpot g s (AStep p n)) (points_of fs)
      → ((f : Fork) → In f fs → Lists next_cmp (λ n. KeptSpot g s (AStep f.0 n)) f.1) → IsChart g s es fs
  chart_of_kept es fs a b c = record {
    all_edges = Lists-same kept_edge_stands a;
    all_points = Lists-same (λ p. (λ k. (k.0, (kept_is_standing g s fill (AStep p k.0)).0 k.1), λ st. (st.0, (kept_is_standing g s fill (AStep p st.0)).1 st.1))) b;
    all_nexts = λ f i. Lists-same (λ n. kept_is_standing g s fill (AStep f.0 n)) (c f i);
  }
