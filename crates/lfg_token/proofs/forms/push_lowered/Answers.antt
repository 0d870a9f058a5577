use Rattle.std.proofs.Common.{rules, ◌≡◌, ◌++◌, ◌∷◌, [], true, List, ℕ, ap, sym, ◌∙◌}
use Rattle.std.specs.Char.{is_ascii_uppercase}
use Rattle.std.specs.Prelude.{encode_utf8}
use Rattle.std.specs.Str.{chars}
use Rattle.lfg_token.specs.Words.{lowered}
use Rattle.lfg_token.proofs.Lowering.{lowered_capital}
use Rattle.lfg_token.proofs.forms.push_lowered.Goals as goal

pub returns-in_ok-push : goal.returns-in_ok-push
returns-in_ok-push c =
    let is : c.args.text.now ≡ encode_utf8 c.in-Some.first ++ c.as_str.result.now = cc (c.in-Some.ensures.steps.0) in
    let capital : is_ascii_uppercase c.in-Some.first ≡ true = search rules in
    let e : lowered (chars c.args.text.now) ≡ c.in_ok-lowered.field-0 ∷ [] = lowered_capital c.args.text.now c.as_str.result.now c.in-Some.first c.utf8.text is capital ∙ ap (λ (x : List ℕ). x ∷ []) (sym c.in_ok-lowered.ensures) in
    rw e c.in_ok-push.ensures.items
