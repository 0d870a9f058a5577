use Rattle.std.proofs.Common.{arith, length, ap, ◌≡◌, ◌∙◌}
use Rattle.std.proofs.lemmas.Str.{encodes-chars}
use Rattle.lfg_model.specs.Tokens.{width}
use Rattle.std.specs.Str.{chars}
use Rattle.lfg_lexer.proofs.Exact.{accepted, refused}
use Rattle.lfg_lexer.proofs.lexer.tokens_of.Goals as goal

pub tokens_in-requires : goal.tokens_in-requires
tokens_in-requires c =
    let e : width c.deref.result.now ≡ length c.args.text.now = ap width (c.deref.ensures.value ∙ c.in_ok-chars.ensures) ∙ ap length (encodes-chars c.args.text.now c.utf8.text) in
    omega arith

pub returns-clause-accepted : goal.returns-clause-accepted
returns-clause-accepted c = accepted (chars c.args.text.now) c.deref.result.now c.tokens_in.result (c.deref.ensures.value ∙ c.in_ok-chars.ensures) c.tokens_in.ensures.stuck

pub returns-clause-refused : goal.returns-clause-refused
returns-clause-refused c = refused (λ v. v.items) (chars c.args.text.now) c.deref.result.now c.tokens_in.result (c.deref.ensures.value ∙ c.in_ok-chars.ensures) c.tokens_in.ensures.tokens
