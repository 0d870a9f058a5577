use Rattle.std.proofs.Common.{arith}
use Rattle.lfg_notation.proofs.FileLaws.{few}
use Rattle.lfg_notation.proofs.draft.file_read.Goals as goal

pub draft_of_tokens-requires : goal.draft_of_tokens-requires
draft_of_tokens-requires c =
    omega (arith, few c.args.bytes.now c.in-Ok.text.now c.in-Ok-tokens_of.tokens.items c.deref.result.now c.in-Ok.ensures.cases.0 c.in-Ok.ensures.cases.1 c.deref.ensures.value c.in-Ok-tokens_of.ensures.tokens)
