-- A text has one reading at most.
use Rattle.std.proofs.Common.{◌≡◌, ℕ, ◌+◌, Some, List, [], refl, ap, sym, ◌∙◌, subst, arith}
use Rattle.lfg_model.specs.declared.token.Token.{Token}
use Rattle.lfg_model.specs.declared.token.TokenKind.{TokenKind}
use Rattle.lfg_model.specs.Pieces.{piece_at, Piece, gap, token}
use Rattle.lfg_model.specs.Tokens.{width, Tokens, done, past_gap, past_token, Stuck, here, further}

nothing_ends : {p : Piece} {ds : List ℕ} → piece_at [] ≡ Some (p, ds) → ⊥
unfolding piece_at
nothing_ends e = cc

same_some : {A : Type 0} {x y : A} → Some x ≡ Some y → x ≡ y
same_some e = cc

one_piece : {p q : Piece} (cs : List ℕ) {ds es : List ℕ} → piece_at cs ≡ Some (p, ds) → piece_at cs ≡ Some (q, es) → ◌≡◌ {A = Piece × List ℕ} (p, ds) (q, es)
one_piece cs e f = same_some (sym e ∙ f)

one_to : (at to two : ℕ) (cs ds es : List ℕ) → at + width cs ≡ to + width ds → at + width cs ≡ two + width es → ds ≡ es → to ≡ two
one_to at to two cs ds es e f h = let k : width ds ≡ width es = ap width h in omega arith

-- a row from one place and rest, moved to an equal place and rest
moved : {to two : ℕ} {ds es : List ℕ} {ts : List Token} → to ≡ two → ds ≡ es → Tokens two es ts → Tokens to ds ts
moved {to} {two} {ds} {es} {ts} e f r = subst (λ (n : ℕ). Tokens n ds ts) (sym e) (subst (λ (xs : List ℕ). Tokens two xs ts) (sym f) r)

moved_stuck : {to two stop : ℕ} {ds es : List ℕ} → to ≡ two → ds ≡ es → Stuck two es stop → Stuck to ds stop
moved_stuck {to} {two} {stop} {ds} {es} e f r = subst (λ (n : ℕ). Stuck n ds stop) (sym e) (subst (λ (xs : List ℕ). Stuck two xs stop) (sym f) r)

kinds_differ : {kind : TokenKind} {text ds es : List ℕ} → ◌≡◌ {A = Piece × List ℕ} (gap, ds) (token kind text, es) → ⊥
kinds_differ {kind} {text} e = let h : gap ≡ token kind text = ap (λ (x : Piece × List ℕ). x.0) e in let no : ⊥ = cc in no

pub one_row : {at : ℕ} {cs : List ℕ} {ts us : List Token} → Tokens at cs ts → Tokens at cs us → ts ≡ us
one_row done done = refl
one_row done (past_gap e w r) = absurd (nothing_ends e)
one_row done (past_token e w r) = absurd (nothing_ends e)
one_row (past_gap e w r) done = absurd (nothing_ends e)
one_row (past_token e w r) done = absurd (nothing_ends e)
one_row (past_gap {at} {to} {cs} {ds} e w r) (past_gap {to = two} {ds = es} f v s) =
    let h : ds ≡ es = ap (λ (x : Piece × List ℕ). x.1) (one_piece cs e f) in
    one_row r (moved (one_to at to two cs ds es w v h) h s)
one_row (past_gap {at} {to} {cs} e w r) (past_token f v s) = absurd (kinds_differ (one_piece cs e f))
one_row (past_token {at} {to} {cs} e w r) (past_gap f v s) = absurd (kinds_differ (sym (one_piece cs e f)))
one_row (past_token {at} {to} {cs} {ds} {text} {kind} {ts} e w r) (past_token {to = two} {ds = es} {text = more} {kind = sort} {ts = us} f v s) =
    let p : ◌≡◌ {A = Piece × List ℕ} (token kind text, ds) (token sort more, es) = one_piece cs e f in
    let h : ds ≡ es = ap (λ (x : Piece × List ℕ). x.1) p in
    let k : token kind text ≡ token sort more = ap (λ (x : Piece × List ℕ). x.0) p in
    let t : to ≡ two = one_to at to two cs ds es w v h in
    let rows : ts ≡ us = one_row r (moved t h s) in
    let kinds : kind ≡ sort = cc in
    let texts : text ≡ more = cc in
    cc

pub not_both : {at stop : ℕ} {cs : List ℕ} {ts : List Token} → Tokens at cs ts → Stuck at cs stop → ⊥
not_both done (further e w s) = nothing_ends e
not_both (past_gap e w r) (here n) = let no : ⊥ = cc in no
not_both (past_token e w r) (here n) = let no : ⊥ = cc in no
not_both (past_gap {at} {to} {cs} {ds} e w r) (further {to = two} {ds = es} f v s) =
    let h : ds ≡ es = ap (λ (x : Piece × List ℕ). x.1) (one_piece cs e f) in
    not_both r (moved_stuck (one_to at to two cs ds es w v h) h s)
not_both (past_token {at} {to} {cs} {ds} e w r) (further {to = two} {ds = es} f v s) =
    let h : ds ≡ es = ap (λ (x : Piece × List ℕ). x.1) (one_piece cs e f) in
    not_both r (moved_stuck (one_to at to two cs ds es w v h) h s)

pub one_place : {at stop other : ℕ} {cs : List ℕ} → Stuck at cs stop → Stuck at cs other → stop ≡ other
one_place (here n) (here m) = refl
one_place (here n) (further e w s) = let no : ⊥ = cc in absurd no
one_place (further e w s) (here n) = let no : ⊥ = cc in absurd no
one_place (further {at} {to} {stop} {cs} {ds} e w r) (further {to = two} {ds = es} f v s) =
    let h : ds ≡ es = ap (λ (x : Piece × List ℕ). x.1) (one_piece cs e f) in
    one_place r (moved_stuck (one_to at to two cs ds es w v h) h s)
