use Rattle.std.proofs.Common.{◌≡◌, ◌+◌, ℕ, Bool, true, Some, List, length, refl, sym, ap, subst, ◌∙◌, arith}
use Rattle.std.specs.Prelude.{◌↔◌, slice_get}
use Rattle.std.specs.Ordering.{nat_cmp}
use Rattle.lfg_model.specs.Lists.{In, Lists}
use Rattle.lfg_rulegraph.specs.Followers.{AreSets}
use Rattle.lfg_rulegraph.proofs.FollowerLaws.{has_table}
use Rattle.lfg_rulegraph.proofs.graphs.graph_of.Goals as goal

pub followers-requires : goal.followers-requires
followers-requires c = λ l i. let b = c.requires.before l.from l.to i in (omega (arith, b.behind), b.among)

pub returns : goal.returns
returns c =
    let first = subst (λ (ps : List ℕ). Lists nat_cmp (λ p. In p c.args.part.first.items) ps) (sym c.in_ok-new.ensures) c.in_ok-sorted_set.ensures in
    let next = subst (λ (sets : List (List ℕ)). AreSets c.in_ok-next.next.items sets) (sym c.in_ok-new-2.ensures) c.in_ok-sorted_sets.ensures in
    let size = ap (λ (marks : List Bool). length marks) c.in_ok-new-3.ensures ∙ c.in_ok-last.ensures.length in
    let listed = subst (λ (ps : List ℕ). (k : ℕ) → (slice_get c.in_ok-last.last.items k ≡ Some true) ↔ In (k + 1) ps) c.deref.ensures.value c.in_ok-last.ensures.exact in
    let last = subst (λ (marks : List Bool). (k : ℕ) → (slice_get marks k ≡ Some true) ↔ In (k + 1) c.args.part.last.items) (sym c.in_ok-new-3.ensures) listed in
    has_table _ _ c.in_ok-next.next.items _ c.requires refl first c.in_ok-next.ensures.length c.in_ok-next.ensures.exact next size last
