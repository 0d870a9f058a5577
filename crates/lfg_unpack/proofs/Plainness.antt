-- The facts at an assignment have no new nodes, where no fact of the store has one.
use Rattle.std.proofs.Common.{◌≡◌, List, subst, sym, ap, ◌∙◌}
use Rattle.lfg_terms.specs.declared.node.Fact.{Fact}
use Rattle.lfg_model.specs.declared.pair.Pair.{Pair}
use Rattle.lfg_model.specs.Lists.{In}
use Rattle.lfg_model.proofs.ListLaws.{In-at, In-map}
use Rattle.lfg_context.specs.Seen.{Set}
use Rattle.lfg_context.specs.Sets.{Assignment}
use Rattle.lfg_store.specs.Facts.{Entries, facts_at}
use Rattle.lfg_store.specs.Unpacking.{pair_of}
use Rattle.lfg_store.proofs.Held.{held_from}
use Rattle.lfg_unpack.specs.Plain.{IsPlain, ArePlain, HasPlainFacts}

plain_at : (es : Entries) (a : Assignment) → HasPlainFacts es → ArePlain (facts_at es a)
plain_at es a h = λ k d l.
    let s = held_from es a _ (In-at (facts_at es a) k d l) in
    subst IsPlain s.2 (h.each s.0.0 (In-map (λ (e : Fact × Set). e.0) s.1))

pub plain_pair : (tree facts : Entries) (a : Assignment) (pair : Pair) → HasPlainFacts facts → pair ≡ pair_of tree facts a → ArePlain pair.facts
plain_pair tree facts a pair h e = subst ArePlain (sym (ap (λ (p : Pair). p.facts) e)) (plain_at facts a h)
