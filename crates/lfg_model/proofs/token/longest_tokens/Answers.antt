use Rattle.lfg_model.proofs.LongestTokens.{longest_token, token_begins}
use Rattle.lfg_model.proofs.token.longest_tokens.Goals as goal

pub returns : goal.returns
returns c = record { begins = token_begins; longest = longest_token }
