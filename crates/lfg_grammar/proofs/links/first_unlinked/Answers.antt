use Rattle.std.proofs.Common.{◌≡◌, true, false, sym, ◌∙◌, subst, List}
use Rattle.lfg_terms.specs.declared.grammar.Rule.{Rule}
use Rattle.lfg_model.specs.Loads.{IsUnlinked}
use Rattle.lfg_model.specs.TemplateRules.{NoneHas}
use Rattle.lfg_grammar.specs.Found.{IsFirstAt}
use Rattle.lfg_grammar.proofs.FirstPlaces.{first_at, none_at_end, none_more}
use Rattle.lfg_grammar.proofs.links.first_unlinked.Goals as goal

pub returns-then-is_unlinked : goal.returns-then-is_unlinked
returns-then-is_unlinked c =
    subst (λ (rs : List Rule). IsFirstAt IsUnlinked rs c.loop-i.i) c.list-rules.ensures
    (first_at IsUnlinked c.list-rules.result.now c.loop-i.i c.index-rules-i.result c.loop-i-test.true c.index-rules-i.is c.loop-i.invariant (c.is_unlinked.ensures.0 c.if-is_unlinked.true))

pub loop-i-preserved : goal.loop-i-preserved
loop-i-preserved c =
    none_more IsUnlinked c.list-rules.result.now c.loop-i.i c.index-rules-i.result c.loop-i-test.true c.index-rules-i.is c.loop-i.invariant
    (λ u. let no : true ≡ false = sym (c.is_unlinked.ensures.1 u) ∙ c.if-is_unlinked.false in cc)

pub returns : goal.returns
returns c =
    subst (λ (rs : List Rule). NoneHas IsUnlinked rs) c.list-rules.ensures
    (none_at_end IsUnlinked c.list-rules.result.now c.loop-i.i c.loop-i-test.false c.loop-i.invariant)
