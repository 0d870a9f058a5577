use Rattle.std.proofs.Common.{◌≡◌, ℕ, ◌+◌, ◌<◌, ◌⊎◌, inl, inr, true, false, List, length, get_or, take, subst, sym, refl, ◌∙◌, arith}
use Rattle.std.proofs.lemmas.Bool.{false≢true}
use Rattle.lfg_model.specs.Lists.{In}
use Rattle.lfg_model.specs.Terms.{Name}
use Rattle.lfg_model.proofs.ListLaws.{In-at, In-take_more}
use Rattle.lfg_wellformed.proofs.arcs.is_among.Goals as goal

among_found : (names : List Name) (i : ℕ) (d name : Name) → i < length names → d ≡ get_or names i d → d ≡ name → In name names
among_found names i d name h is e = let P : Name → Type 0 = λ v. In v names in subst P (sym is ∙ e) (In-at names i d h)

among_more : (names : List Name) (i : ℕ) (d name : Name) → i < length names → d ≡ get_or names i d → (d ≡ name → ⊥) → (In name (take i names) → ⊥) → In name (take (i + 1) names) → ⊥
among_more names i d name h is other before l = elim (In-take_more names i d h l) [ inl j ↦ before j | inr e ↦ other (is ∙ sym e) ]

pub returns-then-eq : goal.returns-then-eq
returns-then-eq c = (
  (λ t. among_found c.args.names.now c.loop-other.other-index c.other-item.result c.args.name.now (omega arith) c.other-item.is (c.if-eq.ensures.same.0 refl)),
  (λ t. refl),
)

pub loop-other-preserved : goal.loop-other-preserved
loop-other-preserved c =
    among_more c.args.names.now c.loop-other.other-index c.other-item.result c.args.name.now (omega arith) c.other-item.is (λ e. false≢true (c.if-eq.ensures.same.1 e)) c.loop-other.invariant
