-- A text has a reading: a row of tokens, or a place at which nothing begins.
use Rattle.std.proofs.Common.{◌≡◌, ℕ, zero, suc, ◌<◌, ◌+◌, ◌-◌, Option, Some, None, List, [], ◌∷◌, ◌⊎◌, inl, inr, length, refl, arith}
use Rattle.lfg_model.specs.declared.token.Token.{Token}
use Rattle.lfg_model.specs.Pieces.{piece_at, Piece, gap, token}
use Rattle.lfg_model.specs.Tokens.{width, Tokens, done, past_gap, past_token, Stuck, here, further}
use Rattle.lfg_model.proofs.PieceEnds.{piece_shorter, piece_width}

-- one of the two
abbrev pub HasReading : ℕ → List ℕ → Type 0
HasReading at cs = ((ts : List Token) × Tokens at cs ts) ⊎ ((stop : ℕ) × Stuck at cs stop)

-- the byte behind a piece
behind_at : ℕ → List ℕ → List ℕ → ℕ
behind_at at cs ds = at + (width cs - width ds)

place_behind : (at : ℕ) (cs ds : List ℕ) (p : Piece) → piece_at cs ≡ Some (p, ds) → at + width cs ≡ behind_at at cs ds + width ds
unfolding behind_at
place_behind at cs ds p e = let w = piece_width cs ds p e in omega arith

past_piece : (at to : ℕ) (cs ds : List ℕ) (p : Piece) → piece_at cs ≡ Some (p, ds) → at + width cs ≡ to + width ds → HasReading to ds → HasReading at cs
past_piece at to cs ds gap e w (inl r) = inl (r.0, past_gap e w r.1)
past_piece at to cs ds (token kind text) e w (inl r) = inl (record { kind = kind; text = text; at = at; to = to } ∷ r.0, past_token e w r.1)
past_piece at to cs ds p e w (inr s) = inr (s.0, further e w s.1)

reading_below : (n at : ℕ) (cs : List ℕ) → length cs < n → HasReading at cs
reading_below zero at cs h = absurd (omega arith)
reading_below (suc n) at [] h = inl ([], done)
reading_below (suc n) at (c ∷ cs) h = by_piece (piece_at (c ∷ cs)) refl (λ to ds k. reading_below n to ds (omega arith))
  where
    by_piece : (o : Option (Piece × List ℕ)) → piece_at (c ∷ cs) ≡ o → ((to : ℕ) (ds : List ℕ) → length ds < length (c ∷ cs) → HasReading to ds) → HasReading at (c ∷ cs)
    by_piece None e more = inr (at, here e)
    by_piece (Some x) e more = past_piece at (behind_at at (c ∷ cs) x.1) (c ∷ cs) x.1 x.0 e (place_behind at (c ∷ cs) x.1 x.0 e) (more (behind_at at (c ∷ cs) x.1) x.1 (piece_shorter (c ∷ cs) x.1 x.0 e))

pub some_reading : (cs : List ℕ) → HasReading 0 cs
some_reading cs = reading_below (length cs + 1) 0 cs (omega arith)
