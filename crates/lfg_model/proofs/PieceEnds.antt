-- What stands behind a piece is an end of what it was read from.
use Rattle.std.proofs.Common.{◌≡◌, ℕ, ◌<◌, ◌≤◌, ◌+◌, ◌-◌, Bool, true, false, cond, Option, Some, None, List, [], ◌∷◌, ◌++◌, length, take, refl, ap, sym, ◌∙◌, subst, arith, rules, append_assoc, length-append}
use Rattle.std.proofs.Common.{◌==◌}
use Rattle.std.specs.Char.{is_whitespace}
use Rattle.std.specs.Str.{encode_utf8_all}
use Rattle.std.proofs.lemmas.Str.{encodes-append, length-le-encodes}
use Rattle.lfg_model.specs.Pieces.{is_plain, char_at, quoted_at, joined_at, name_on, quoted_on, joined_on, joined_quoted_on, comment_at, behind, goes_on, symbols, symbol_in, read_as, or_else, alone, equal_c_at, symbol_at, piece_at, Piece, gap, name_from, symbol_from}
use Rattle.std.proofs.lemmas.List.{take_at}
use Rattle.lfg_model.specs.Tokens.{width}

pub record Upto (cs ds : List ℕ) : Type 0 where
  pub front : List ℕ
  pub is : cs ≡ front ++ ds

self : (cs : List ℕ) → Upto cs cs
self cs = record { front = []; is = refl }

more : (c : ℕ) {cs ds : List ℕ} → Upto cs ds → Upto (c ∷ cs) ds
more c u = record { front = c ∷ u.front; is = ap (λ (xs : List ℕ). c ∷ xs) u.is }

-- a piece that was read takes at least one character
pub record Behind (cs ds : List ℕ) : Type 0 where
  pub first : ℕ
  pub front : List ℕ
  pub is : cs ≡ first ∷ front ++ ds

then : (c : ℕ) {cs ds : List ℕ} → Upto cs ds → Behind (c ∷ cs) ds
then c u = record { first = c; front = u.front; is = ap (λ (xs : List ℕ). c ∷ xs) u.is }

pick : {A : Type 0} (P : A → Type 0) (b : Bool) (x y : A) → P x → P y → P (cond b x y)
pick P true x y p q = p
pick P false x y p q = q

mutual
  pub name_upto : (cs : List ℕ) → Upto cs (name_on cs).1
  name_upto [] = self []
  name_upto (c ∷ cs) = pick (λ (r : List ℕ × List ℕ). Upto (c ∷ cs) r.1) (is_plain c) _ _ (more c (name_upto cs))
      (pick (λ (r : List ℕ × List ℕ). Upto (c ∷ cs) r.1) (c == 96) _ _ (quoted_upto c cs)
      (pick (λ (r : List ℕ × List ℕ). Upto (c ∷ cs) r.1) (c == 45) _ _ (joined_upto c cs) (self (c ∷ cs))))

  quoted_upto : (q : ℕ) (cs : List ℕ) → Upto (q ∷ cs) (quoted_on q cs).1
  quoted_upto q [] = self (q ∷ [])
  quoted_upto q (c ∷ cs) = pick (λ (r : List ℕ × List ℕ). Upto (q ∷ c ∷ cs) r.1) (c == 10) _ _ (self (q ∷ c ∷ cs)) (more q (more c (name_upto cs)))

  joined_upto : (h : ℕ) (cs : List ℕ) → Upto (h ∷ cs) (joined_on h cs).1
  joined_upto h [] = self (h ∷ [])
  joined_upto h (c ∷ cs) = pick (λ (r : List ℕ × List ℕ). Upto (h ∷ c ∷ cs) r.1) (is_plain c) _ _ (more h (more c (name_upto cs)))
      (pick (λ (r : List ℕ × List ℕ). Upto (h ∷ c ∷ cs) r.1) (c == 96) _ _ (joined_quoted_upto h c cs) (self (h ∷ c ∷ cs)))

  joined_quoted_upto : (h q : ℕ) (cs : List ℕ) → Upto (h ∷ q ∷ cs) (joined_quoted_on h q cs).1
  joined_quoted_upto h q [] = self (h ∷ q ∷ [])
  joined_quoted_upto h q (c ∷ cs) = pick (λ (r : List ℕ × List ℕ). Upto (h ∷ q ∷ c ∷ cs) r.1) (c == 10) _ _ (self (h ∷ q ∷ c ∷ cs)) (more h (more q (more c (name_upto cs))))

-- an answer, where there is one, leaves an end
abbrev Leaves : {A : Type 0} → List ℕ → Option (A × List ℕ) → Type 0
Leaves cs None = Unit {0}
Leaves cs (Some x) = Behind cs x.1

abbrev LeavesUpto : List ℕ → Option (List ℕ) → Type 0
LeavesUpto cs None = Unit {0}
LeavesUpto cs (Some ds) = Upto cs ds

comment_upto : (cs : List ℕ) → LeavesUpto cs (comment_at cs)
comment_upto [] = tt
comment_upto (c ∷ cs) = pick (λ (o : Option (List ℕ)). LeavesUpto (c ∷ cs) o) (c == 34) _ _ (more c (self cs)) (upto_more c cs (comment_at cs) (comment_upto cs))
  where
    upto_more : (c : ℕ) (cs : List ℕ) (o : Option (List ℕ)) → LeavesUpto cs o → LeavesUpto (c ∷ cs) o
    upto_more c cs None u = tt
    upto_more c cs (Some ds) u = more c u

char_behind : (cs : List ℕ) → Leaves cs (char_at cs)
char_behind [] = tt
char_behind (c ∷ cs) = pick (λ (o : Option (ℕ × List ℕ)). Leaves (c ∷ cs) o) (is_plain c) _ _ (then c (self cs)) (pick (λ (o : Option (ℕ × List ℕ)). Leaves (c ∷ cs) o) (c == 96) _ _ (quoted_behind c cs) tt)
  where
    quoted_behind : (q : ℕ) (cs : List ℕ) → Leaves (q ∷ cs) (quoted_at cs)
    quoted_behind q [] = tt
    quoted_behind q (c ∷ cs) = pick (λ (o : Option (ℕ × List ℕ)). Leaves (q ∷ c ∷ cs) o) (c == 10) _ _ tt (then q (more c (self cs)))

joined : {cs ds es : List ℕ} → Behind cs ds → Upto ds es → Behind cs es
joined {cs} {ds} {es} b u = record { first = b.first; front = b.front ++ u.front; is = b.is ∙ ap (λ (xs : List ℕ). b.first ∷ xs) (ap (λ (xs : List ℕ). b.front ++ xs) u.is ∙ sym (append_assoc b.front u.front es)) }

prefix_upto : (s cs : List ℕ) → LeavesUpto cs (behind s cs)
prefix_upto [] cs = self cs
prefix_upto (p ∷ ps) [] = tt
prefix_upto (p ∷ ps) (c ∷ cs) = pick (λ (o : Option (List ℕ)). LeavesUpto (c ∷ cs) o) (p == c) _ _ (upto_more c cs (behind ps cs) (prefix_upto ps cs)) tt
  where
    upto_more : (c : ℕ) (cs : List ℕ) (o : Option (List ℕ)) → LeavesUpto cs o → LeavesUpto (c ∷ cs) o
    upto_more c cs None u = tt
    upto_more c cs (Some ds) u = more c u

-- read off from what was left
behind_some : {A : Type 0} (cs ds : List ℕ) (a : A) (o : Option (A × List ℕ)) → Leaves cs o → o ≡ Some (a, ds) → Behind cs ds
behind_some cs ds a None u e = absurd (let no : ⊥ = cc in no)
behind_some cs ds a (Some x) u e = subst (λ (ys : List ℕ). Behind cs ys) (let e2 : x.1 ≡ ds = cc in e2) u

shorter : {cs ds : List ℕ} → Behind cs ds → length ds < length cs
shorter {cs} {ds} b = omega (arith, ap length b.is, length-append b.front ds)

pub char_shorter : (cs ds : List ℕ) (c : ℕ) → char_at cs ≡ Some (c, ds) → length ds < length cs
char_shorter cs ds c e = shorter (behind_some cs ds c (char_at cs) (char_behind cs) e)

joined_leaves : (cs : List ℕ) → Leaves cs (joined_at cs)
joined_leaves [] = tt
joined_leaves (c ∷ cs) = pick (λ (o : Option (ℕ × List ℕ)). Leaves (c ∷ cs) o) (c == 45) _ _ (one_more c cs (char_at cs) (char_behind cs)) tt
  where
    one_more : (c : ℕ) (cs : List ℕ) (o : Option (ℕ × List ℕ)) → Leaves cs o → Leaves (c ∷ cs) o
    one_more c cs None u = tt
    one_more c cs (Some x) u = record { first = c; front = u.first ∷ u.front; is = ap (λ (xs : List ℕ). c ∷ xs) u.is }

pub joined_shorter : (cs ds : List ℕ) (c : ℕ) → joined_at cs ≡ Some (c, ds) → length ds < length cs
joined_shorter cs ds c e = shorter (behind_some cs ds c (joined_at cs) (joined_leaves cs) e)

-- and so of a piece
or_leaves : {A : Type 0} (cs : List ℕ) (o p : Option (A × List ℕ)) → Leaves cs o → Leaves cs p → Leaves cs (or_else o p)
or_leaves cs None p u v = v
or_leaves cs (Some x) p u v = u

read_leaves : {A : Type 0} (c : ℕ) (cs : List ℕ) (a : A) (o : Option (List ℕ)) → LeavesUpto cs o → Leaves (c ∷ cs) (read_as a o)
read_leaves c cs a None u = tt
read_leaves c cs a (Some ds) u = then c u

-- a sign that isn't empty
abbrev IsSign : List ℕ → Type 0
IsSign [] = ⊥
IsSign (p ∷ ps) = Unit {0}

abbrev AreSigns : List (List ℕ) → Type 0
AreSigns [] = Unit {0}
AreSigns (s ∷ ss) = IsSign s × AreSigns ss

sign_leaves : (s : List ℕ) (c : ℕ) (cs : List ℕ) → IsSign s → Leaves (c ∷ cs) (read_as s (behind s (c ∷ cs)))
sign_leaves [] c cs h = absurd h
sign_leaves (p ∷ ps) c cs h = pick (λ (o : Option (List ℕ)). Leaves (c ∷ cs) (read_as (p ∷ ps) o)) (p == c) _ _ (read_leaves c cs (p ∷ ps) (behind ps cs) (prefix_upto ps cs)) tt

symbol_leaves : (ss : List (List ℕ)) (c : ℕ) (cs : List ℕ) → AreSigns ss → Leaves (c ∷ cs) (symbol_in ss (c ∷ cs))
symbol_leaves [] c cs h = tt
symbol_leaves (s ∷ ss) c cs h = or_leaves (c ∷ cs) (read_as s (behind s (c ∷ cs))) (symbol_in ss (c ∷ cs)) (sign_leaves s c cs h.0) (symbol_leaves ss c cs h.1)

alone_upto : (cs : List ℕ) (o : Option (List ℕ)) → LeavesUpto cs o → LeavesUpto cs (alone o)
alone_upto cs None u = tt
alone_upto cs (Some ds) u = pick (λ (o : Option (List ℕ)). LeavesUpto cs o) (goes_on ds) _ _ tt u

symbols_are_signs : AreSigns symbols
unfolding symbols
symbols_are_signs = search rules

equal_c_leaves : (c : ℕ) (cs : List ℕ) → Leaves {A = List ℕ} (c ∷ cs) (read_as (61 ∷ 99 ∷ []) (equal_c_at (c ∷ cs)))
equal_c_leaves c cs = pick (λ (o : Option (List ℕ)). Leaves {A = List ℕ} (c ∷ cs) (read_as (61 ∷ 99 ∷ []) (alone o))) (61 == c) _ _ (read_leaves c cs (61 ∷ 99 ∷ []) (alone (behind (99 ∷ []) cs)) (alone_upto cs (behind (99 ∷ []) cs) (prefix_upto (99 ∷ []) cs))) tt

name_leaves : (cs : List ℕ) (o : Option (ℕ × List ℕ)) → Leaves cs o → Leaves cs (name_from o)
name_leaves cs None u = tt
name_leaves cs (Some x) u = joined u (name_upto x.1)

sign_piece : (cs : List ℕ) (o : Option (List ℕ × List ℕ)) → Leaves cs o → Leaves cs (symbol_from o)
sign_piece cs None u = tt
sign_piece cs (Some x) u = u

piece_leaves : (cs : List ℕ) → Leaves cs (piece_at cs)
unfolding piece_at
piece_leaves [] = tt
piece_leaves (c ∷ cs) = pick (λ (o : Option (Piece × List ℕ)). Leaves (c ∷ cs) o) (is_whitespace c) _ _ (then c (self cs))
    (pick (λ (o : Option (Piece × List ℕ)). Leaves (c ∷ cs) o) (c == 34) _ _ (read_leaves c cs gap (comment_at cs) (comment_upto cs))
    (or_leaves (c ∷ cs) (name_from (char_at (c ∷ cs))) (symbol_from (symbol_at (c ∷ cs))) (name_leaves (c ∷ cs) (char_at (c ∷ cs)) (char_behind (c ∷ cs)))
    (sign_piece (c ∷ cs) (symbol_at (c ∷ cs)) (or_leaves (c ∷ cs) (read_as (61 ∷ 99 ∷ []) (equal_c_at (c ∷ cs))) (symbol_in symbols (c ∷ cs)) (equal_c_leaves c cs) (symbol_leaves symbols c cs symbols_are_signs)))))

pub piece_behind : (cs ds : List ℕ) (p : Piece) → piece_at cs ≡ Some (p, ds) → Behind cs ds
piece_behind cs ds p e = behind_some cs ds p (piece_at cs) (piece_leaves cs) e

pub piece_shorter : (cs ds : List ℕ) (p : Piece) → piece_at cs ≡ Some (p, ds) → length ds < length cs
piece_shorter cs ds p e = shorter (piece_behind cs ds p e)

width-append : (xs ys : List ℕ) → width (xs ++ ys) ≡ width xs + width ys
width-append xs ys = ap length (encodes-append xs ys) ∙ length-append (encode_utf8_all xs) (encode_utf8_all ys)

front_width : (cs front ds : List ℕ) → cs ≡ front ++ ds → width (take (length cs - length ds) cs) + width ds ≡ width cs
front_width cs front ds e =
    let n : length front ≡ length cs - length ds = omega (arith, ap length e, length-append front ds) in
    let t : take (length cs - length ds) cs ≡ front = ap (take (length cs - length ds)) e ∙ take_at front ds (length cs - length ds) n in
    ap (λ (xs : List ℕ). width xs + width ds) t ∙ sym (width-append front ds) ∙ ap width (sym e)

pub piece_width : (cs ds : List ℕ) (p : Piece) → piece_at cs ≡ Some (p, ds) → width (take (length cs - length ds) cs) + width ds ≡ width cs
piece_width cs ds p e = let b = piece_behind cs ds p e in front_width cs (b.first ∷ b.front) ds b.is

pub width_len : (cs : List ℕ) → length cs ≤ width cs
width_len cs = length-le-encodes cs
