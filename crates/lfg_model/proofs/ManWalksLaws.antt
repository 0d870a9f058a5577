-- The readings of a small sentence.
use Rattle.std.proofs.Common.{◌≡◌, List, [], ◌∷◌, refl, subst}
use Rattle.std.specs.Prelude.{codes}
use Rattle.std.specs.List.Sorted.{IsStrictlySortedBy}
use Rattle.std.specs.Fmt.{digits}
use denote.Hole.Carrier.{out}
use Rattle.lfg_terms.specs.Order.{fact_cmp}
use Rattle.lfg_terms.specs.OrderLaws.{fact_cmp_total}
use Rattle.lfg_terms.specs.declared.node.Node.{out-Node}
use Rattle.lfg_terms.specs.declared.node.Arg.{out-Arg}
use Rattle.lfg_terms.specs.declared.grammar.Grammar.{Grammar}
use Rattle.lfg_terms.specs.declared.tree.TokenForms.{TokenForms}
use Rattle.lfg_terms.specs.declared.node.Fact.{Fact}
use Rattle.lfg_model.specs.declared.pair.Pair.{Pair}
use Rattle.lfg_model.specs.Lists.{In, here, later}
use Rattle.lfg_model.specs.Terms.{Tree}
use Rattle.lfg_model.specs.Trees.{tree_facts}
use Rattle.lfg_model.specs.PairTexts.{pair_text}
use Rattle.lfg_model.specs.Readings.{IsReading, IsReadings, IsPairOf, Assigned}
use Rattle.lfg_model.specs.ManWalks.{grammar, sentence, S, NP, VP, D, N, V, pair, text, TheManWalks}
use Rattle.lfg_model.proofs.ListLaws.{In-nil, In-one}
use Rattle.lfg_model.proofs.Ascending.{one_list, once_from_total}
use Rattle.lfg_model.proofs.TreeOrder.{under_before, word_before}
use Rattle.lfg_model.proofs.ManWalksTree.{tree, whole, only_tree}
use Rattle.lfg_model.proofs.ManWalksFacts.{plural_clashes, well_formed, fact_listed, listed_fact}

text_of_pair : pair_text pair ≡ text
unfolding out-Arg out-Node out digits
text_of_pair = refl

-- ---- the pair is that of the tree

tree_ascends : IsStrictlySortedBy fact_cmp pair.tree
unfolding IsStrictlySortedBy
tree_ascends = (
  (under_before NP S D NP refl, (under_before NP S N NP refl, (under_before NP S V VP refl, (under_before NP S VP S refl, (refl, (refl, (refl, tt))))))),
  (
    (under_before D NP N NP refl, (under_before D NP V VP refl, (under_before D NP VP S refl, (refl, (refl, (refl, tt)))))),
    (
      (under_before N NP V VP refl, (under_before N NP VP S refl, (refl, (refl, (refl, tt))))),
      (
        (under_before V VP VP S refl, (refl, (refl, (refl, tt)))),
        (
          (refl, (refl, (refl, tt))),
          (
            (word_before D N _ _ refl, (word_before D V _ _ refl, tt)),
            ((word_before N V _ _ refl, tt), (tt, tt)),
          ),
        ),
      ),
    ),
  ),
)

facts_ascend : IsStrictlySortedBy fact_cmp pair.facts
unfolding IsStrictlySortedBy
facts_ascend = ((refl, (refl, (refl, tt))), ((refl, (refl, tt)), ((refl, tt), (tt, tt))))

to_tree : (f : Fact) → In f (tree_facts sentence tree 0) → In f pair.tree
to_tree f here = here
to_tree f (later here) = later here
to_tree f (later (later here)) = later (later (later (later (later here))))
to_tree f (later (later (later here))) = later (later here)
to_tree f (later (later (later (later here)))) = later (later (later (later (later (later here)))))
to_tree f (later (later (later (later (later here))))) = later (later (later (later here)))
to_tree f (later (later (later (later (later (later here)))))) = later (later (later here))
to_tree f (later (later (later (later (later (later (later here))))))) = later (later (later (later (later (later (later here))))))
to_tree f (later (later (later (later (later (later (later (later i)))))))) = In-nil i

from_tree : (f : Fact) → In f pair.tree → In f (tree_facts sentence tree 0)
from_tree f here = here
from_tree f (later here) = later here
from_tree f (later (later here)) = later (later (later here))
from_tree f (later (later (later here))) = later (later (later (later (later (later here)))))
from_tree f (later (later (later (later here)))) = later (later (later (later (later here))))
from_tree f (later (later (later (later (later here))))) = later (later here)
from_tree f (later (later (later (later (later (later here)))))) = later (later (later (later here)))
from_tree f (later (later (later (later (later (later (later here))))))) = later (later (later (later (later (later (later here))))))
from_tree f (later (later (later (later (later (later (later (later i)))))))) = In-nil i

its_pair : IsPairOf (grammar (codes "sg")) sentence tree pair
its_pair = record {
  tree = record { ascends = tree_ascends; exact = λ f. (from_tree f, to_tree f) };
  facts = record { ascends = facts_ascend; exact = λ f. (listed_fact f, fact_listed f) };
}

-- ---- and no other pair is a reading

one_pair : (g : Grammar) (s : List TokenForms) (d : Tree) (p q : Pair) → IsPairOf g s d p → IsPairOf g s d q → p ≡ q
one_pair g s d p q a b =
    let once = once_from_total fact_cmp_total in
    let t : p.tree ≡ q.tree = one_list fact_cmp once _ p.tree q.tree a.tree b.tree in
    let f : p.facts ≡ q.facts = one_list fact_cmp once _ p.facts q.facts a.facts b.facts in
    λ i. record { tree = t i; facts = f i }

reading : IsReading (grammar (codes "sg")) sentence pair
reading = record { derivation = tree; assigned = record { whole = whole (codes "sg"); well_formed = well_formed }; pair = its_pair }

only_reading : (p : Pair) → IsReading (grammar (codes "sg")) sentence p → p ≡ pair
only_reading p r =
    let same : r.derivation ≡ tree = only_tree (codes "sg") r.derivation r.assigned.whole in
    one_pair (grammar (codes "sg")) sentence tree p pair (subst (λ (d : Tree). IsPairOf (grammar (codes "sg")) sentence d p) same r.pair) its_pair

no_plural : (p : Pair) → ¬ IsReading (grammar (codes "pl")) sentence p
no_plural p r =
    let same : r.derivation ≡ tree = only_tree (codes "pl") r.derivation r.assigned.whole in
    let a : Assigned (grammar (codes "pl")) sentence tree = subst (λ (d : Tree). Assigned (grammar (codes "pl")) sentence d) same r.assigned in
    a.well_formed.consistent plural_clashes

one : IsReadings (grammar (codes "sg")) sentence (pair ∷ [])
unfolding IsStrictlySortedBy
one = record { ascends = (tt, tt); exact = λ p. (λ i. rw (In-one i) reading, λ r. rw (only_reading p r) here) }

none : IsReadings (grammar (codes "pl")) sentence []
unfolding IsStrictlySortedBy
none = record { ascends = tt; exact = λ p. (λ i. In-nil i, λ r. absurd (no_plural p r)) }

pub the_man_walks : TheManWalks
the_man_walks = (one, text_of_pair, none)
