-- Steps of the row of tokens.
use Rattle.std.proofs.Common.{◌≡◌, ℕ, ◌<◌, ◌+◌, Some, None, List, [], ◌∷◌, ◌++◌, length, ap, sym, ◌∙◌, subst, arith, append-nil, append_assoc}
use Rattle.lfg_model.specs.declared.token.Token.{Token}
use Rattle.lfg_model.specs.Pieces.{piece_at, Piece, gap, token}
use Rattle.lfg_lexer.specs.Seen.{kept}
use Rattle.lfg_model.specs.Tokens.{width, Tokens, done, past_gap, past_token, Stuck, here, further}

pub stops : (at : ℕ) (cs : List ℕ) → 0 < length cs → piece_at cs ≡ None → Stuck at cs at
stops at [] l e = absurd (let no : ⊥ = omega arith in no)
stops at (c ∷ cs) l e = here e

pub further_on : (at to stop : ℕ) (cs ds : List ℕ) (p : Piece) → piece_at cs ≡ Some (p, ds) → at + width cs ≡ to + width ds → Stuck to ds stop → Stuck at cs stop
further_on at to stop cs ds p e w r = further e w r

pub one_more : (at to : ℕ) (cs ds : List ℕ) (p : Piece) (ts : List Token) → piece_at cs ≡ Some (p, ds) → at + width cs ≡ to + width ds → Tokens to ds ts → Tokens at cs (kept p at to ++ ts)
one_more at to cs ds gap ts e w r = past_gap e w r
one_more at to cs ds (token kind text) ts e w r = past_token e w r

pub grown : (at to : ℕ) (all cs ds : List ℕ) (p : Piece) (old new ts : List Token) → piece_at cs ≡ Some (p, ds) → at + width cs ≡ to + width ds → new ≡ old ++ kept p at to
    → ((us : List Token) → Tokens at cs us → Tokens 0 all (old ++ us)) → Tokens to ds ts → Tokens 0 all (new ++ ts)
grown at to all cs ds p old new ts e w n read r =
    subst (λ (us : List Token). Tokens 0 all us) (sym (ap (λ (us : List Token). us ++ ts) n ∙ append_assoc old (kept p at to) ts)) (read (kept p at to ++ ts) (one_more at to cs ds p ts e w r))

pub ends : (at : ℕ) (all cs : List ℕ) (old : List Token) → length cs ≡ 0 → ((us : List Token) → Tokens at cs us → Tokens 0 all (old ++ us)) → Tokens 0 all old
ends at all [] old l read = subst (λ (us : List Token). Tokens 0 all us) (append-nil old) (read [] done)
ends at all (c ∷ cs) old l read = absurd (let no : ⊥ = omega arith in no)
