use Rattle.std.proofs.Common.{IsTrue, true, rules, subst}
use Rattle.std.proofs.lemmas.Bool.{false≢true}
use Rattle.lfg_model.specs.declared.lexeme.Lexeme.{Lexeme}
use Rattle.lfg_model.specs.Lists.{In}
use Rattle.lfg_model.specs.ThinText.{in_set}
use Rattle.xle_run.proofs.Places.{stands, none_more}
use Rattle.xle_run.proofs.thin.sections.has_in_set.Goals as goal

pub returns-then-is_in_set : goal.returns-then-is_in_set
returns-then-is_in_set c =
    let yes : IsTrue true = search rules in
    let is = c.if-is_in_set.ensures.0 yes in
    (λ _. subst (λ (x : Lexeme). In x c.args.lexemes.now) is (stands c.args.lexemes.now c.loop-lexeme.lexeme-index c.lexeme-item.result c.loop-lexeme-test.true c.lexeme-item.is), λ _. yes)

pub loop-lexeme-preserved : goal.loop-lexeme-preserved
loop-lexeme-preserved c =
    none_more in_set c.lexeme-item.result c.args.lexemes.now c.loop-lexeme.lexeme-index c.loop-lexeme-test.true c.lexeme-item.is (λ e. false≢true (c.if-is_in_set.ensures.1 e)) c.loop-lexeme.invariant
